-- Writes of registers, one register at a time.
use Rattle.std.proofs.Common.{◌≡◌, ◌≢◌, ◌<◌, ◌≤◌, ◌⊎◌, ℕ, Bool, true, false, cond, eqb, List, length, set, get_or}
use Rattle.std.proofs.Common.{Option, Some, None, refl, sym, ap, ◌∙◌, ⊎_elim, inl, inr, arith}
use Rattle.std.proofs.lemmas.Bool.{cases_eq, cases_lt, eqb-true}
use Rattle.std.proofs.lemmas.List.{length-set, get_or-set_same, get_or-set_other, ext_get_or, get_or_past}
use Rattle.alpha_words.specs.Regs.{reg, put}
use Rattle.alpha_table.specs.Uses.{but_zero}

-- whether an option has a number is decided
pub option-equal_or_not : (o : Option ℕ) (r : ℕ) → (o ≡ Some r) ⊎ (o ≢ Some r)
option-equal_or_not None r = inr (λ e. cc)
option-equal_or_not (Some x) r =
    ⊎_elim (λ (e : x ≡ r). inl (ap Some e)) (λ (n : x ≡ r → ⊥). inr (λ e. n cc)) (cases_eq x r)

-- what a word sets is what its write changes
unset_by : (file : List ℕ) (r x v : ℕ) (b : Bool) → cond b None (Some r) ≢ Some x
    → get_or (cond b file (set file r v)) x 0 ≡ get_or file x 0
unset_by file r x v true n = refl
unset_by file r x v false n = get_or-set_other file r x v 0 (λ (e : x ≡ r). n (ap Some (sym e)))

pub reg-put_unset : (file : List ℕ) (r x v : ℕ) → but_zero (Some r) ≢ Some x → reg (put file r v) x ≡ reg file x
unfolding reg put
reg-put_unset file r x v n = unset_by file r x v (eqb r 31) n

-- one value written to one register of two files
set_by : (file other : List ℕ) (r x v : ℕ) (b : Bool) → cond b None (Some r) ≡ Some x → length file ≡ 32
    → length other ≡ 32
    → get_or (cond b file (set file r v)) x 0 ≡ get_or (cond b other (set other r v)) x 0
set_by file other r x v true e size also = cc
set_by file other r x v false e size also =
    let same : r ≡ x = cc in
    ⊎_elim
    (λ (low : r < 32). ap (λ k. get_or (set file r v) k 0) (sym same) ∙ (get_or-set_same file r v 0 (omega arith)
    ∙ (sym (get_or-set_same other r v 0 (omega arith)) ∙ ap (λ k. get_or (set other r v) k 0) same)))
    (λ (high : 32 ≤ r). past file other r x v size also (omega arith))
    (cases_lt r 32)
  where
    past : (file other : List ℕ) (r x v : ℕ) → length file ≡ 32 → length other ≡ 32 → 32 ≤ x
        → get_or (set file r v) x 0 ≡ get_or (set other r v) x 0
    past file other r x v size also far =
        get_or_past (set file r v) x 0 (omega (arith, length-set {A = ℕ}))
        ∙ sym (get_or_past (set other r v) x 0 (omega (arith, length-set {A = ℕ})))

pub reg-put_both : (file other : List ℕ) (r x v : ℕ) → but_zero (Some r) ≡ Some x → length file ≡ 32 → length other ≡ 32
    → reg (put file r v) x ≡ reg (put other r v) x
unfolding reg put
reg-put_both file other r x v e size also = set_by file other r x v (eqb r 31) e size also

-- no register is set that is not below 31 or past the file
pub but_zero-not_31 : (r : ℕ) → but_zero (Some r) ≢ Some 31
but_zero-not_31 r e = by (eqb r 31) refl e
  where
    by : (b : Bool) → eqb r 31 ≡ b → cond b None (Some r) ≡ Some 31 → ⊥
    by true t f = cc
    by false t f = let same : r ≡ 31 = cc in let u = ap (λ k. eqb k 31) same in cc

pub but_zero-below_31 : (r : ℕ) → r < 31 → but_zero (Some r) ≡ Some r
but_zero-below_31 r small = by (eqb r 31) refl
  where
    by : (b : Bool) → eqb r 31 ≡ b → cond b None (Some r) ≡ Some r
    by true t = let same = eqb-true r 31 t in absurd (omega arith)
    by false t = refl

-- past the file all registers read the same
pub reg-past : (file other : List ℕ) (x : ℕ) → length file ≡ 32 → length other ≡ 32 → 32 ≤ x → reg file x ≡ reg other x
unfolding reg
reg-past file other x size also far = get_or_past file x 0 (omega arith) ∙ sym (get_or_past other x 0 (omega arith))

-- files of the same registers are the same
pub reg-extensional : (file other : List ℕ) → length file ≡ length other → ((x : ℕ) → reg file x ≡ reg other x)
    → file ≡ other
unfolding reg
reg-extensional file other size same = ext_get_or 0 file other size (λ x h. same x)
