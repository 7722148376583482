-- Writes of registers.
use Rattle.std.proofs.Common.{◌≡◌, ◌≢◌, ◌<◌, ◌^◌, ℕ, List, length, set, get_or, Bool, true, false, cond, eqb, refl}
use Rattle.std.proofs.Common.{sym, subst, ◌∙◌, ⊎_elim, arith, eqb-true, eq-eqb}
use Rattle.std.proofs.lemmas.Bool.{cases_eq, cond_both}
use Rattle.std.proofs.lemmas.List.{length-set, set_comm, set-set, get_or-set_same, get_or-set_other}
use Rattle.alpha_words.specs.Regs.{IsFile, put, reg}

-- a write leaves as many registers as there were
pub length-put : (l : List ℕ) (i a : ℕ) → length (put l i a) ≡ length l
unfolding put
length-put l i a = cond_both (eqb i 31) l (set l i a) (λ k. length k ≡ length l) (λ e. refl) (λ e. length-set l i a)

-- writes of two registers
put_comm_by : (l : List ℕ) (i j a b : ℕ) (p q : Bool) → i ≢ j
    → cond q (cond p l (set l i a)) (set (cond p l (set l i a)) j b)
    ≡ cond p (cond q l (set l j b)) (set (cond q l (set l j b)) i a)
put_comm_by l i j a b true true ne = refl
put_comm_by l i j a b true false ne = refl
put_comm_by l i j a b false true ne = refl
put_comm_by l i j a b false false ne = set_comm l i j a b ne

pub put_comm : (l : List ℕ) (i j a b : ℕ) → i ≢ j → put (put l i a) j b ≡ put (put l j b) i a
unfolding put
put_comm l i j a b ne = put_comm_by l i j a b (eqb i 31) (eqb j 31) ne

-- two writes of one register
put-put_by : (l : List ℕ) (i a b : ℕ) (p : Bool)
    → cond p (cond p l (set l i a)) (set (cond p l (set l i a)) i b) ≡ cond p l (set l i b)
put-put_by l i a b true = refl
put-put_by l i a b false = set-set l i a b

pub put-put : (l : List ℕ) (i a b : ℕ) → put (put l i a) i b ≡ put l i b
unfolding put
put-put l i a b = put-put_by l i a b (eqb i 31)

-- a write of one register leaves the others
other_by : (file : List ℕ) (r x v : ℕ) (b : Bool) → x ≢ r → get_or (cond b file (set file r v)) x 0 ≡ get_or file x 0
other_by file r x v true apart = refl
other_by file r x v false apart = get_or-set_other file r x v 0 apart

pub reg-put_other : (file : List ℕ) (r x v : ℕ) → x ≢ r → reg (put file r v) x ≡ reg file x
unfolding reg put
reg-put_other file r x v apart = other_by file r x v (eqb r 31) apart

-- a register below 31 is written
same_by : (file : List ℕ) (r v : ℕ) (b : Bool) → eqb r 31 ≡ b → r < 31 → length file ≡ 32
    → get_or (cond b file (set file r v)) r 0 ≡ v
same_by file r v true e small size = let same = eqb-true r 31 e in absurd (omega arith)
same_by file r v false e small size = get_or-set_same file r v 0 (omega arith)

pub reg-put_same : (file : List ℕ) (r v : ℕ) → r < 31 → length file ≡ 32 → reg (put file r v) r ≡ v
unfolding reg put
reg-put_same file r v small size = same_by file r v (eqb r 31) refl small size

-- a write to R31 changes nothing
pub put_zero : (file : List ℕ) (v : ℕ) → put file 31 v ≡ file
unfolding put
put_zero file v = refl

-- a write of 64 bits leaves a file

bound_by : (file : List ℕ) (r v x : ℕ) (b : Bool) → IsFile file → r < 32 → v < 2 ^ 64
    → get_or (cond b file (set file r v)) x 0 < 2 ^ 64
unfolding reg
bound_by file r v x true f small fits = f.bounds x
bound_by file r v x false f small fits = ⊎_elim
    (λ (same : x ≡ r). subst (λ k. get_or (set file r v) k 0 < 2 ^ 64) (sym same)
    (subst (λ n. n < 2 ^ 64) (sym (get_or-set_same file r v 0 (omega (arith, f.size)))) fits))
    (λ (apart : x ≡ r → ⊥). subst (λ n. n < 2 ^ 64) (sym (get_or-set_other file r x v 0 apart)) (f.bounds x))
    (cases_eq x r)

zero_by : (file : List ℕ) (r v : ℕ) (b : Bool) → eqb r 31 ≡ b → IsFile file
    → get_or (cond b file (set file r v)) 31 0 ≡ 0
unfolding reg
zero_by file r v true e f = f.zero
zero_by file r v false e f =
    get_or-set_other file r 31 v 0 (λ (same : 31 ≡ r). let own = eq-eqb r 31 (sym same) in cc) ∙ f.zero

pub IsFile-put : (file : List ℕ) (r v : ℕ) → IsFile file → r < 32 → v < 2 ^ 64 → IsFile (put file r v)
unfolding put reg
IsFile-put file r v f small fits = record {
  size = length-put file r v ∙ f.size;
  zero = zero_by file r v (eqb r 31) refl f;
  bounds = λ x. bound_by file r v x (eqb r 31) f small fits;
}
