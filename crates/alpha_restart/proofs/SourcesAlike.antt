-- What the words ahead read is the same in both machines.
use Rattle.std.proofs.Common.{◌≡◌, ◌≢◌, ◌<◌, ◌≤◌, ◌⊎◌, ◌==◌, ℕ, Bool, true, false, cond, List, ◌∷◌, Option, Some, None}
use Rattle.std.proofs.Common.{eqb, ltb, refl, ap, ◌∙◌, ⊎_elim, inl, inr, arith}
use Rattle.std.specs.List.{list_any}
use Rattle.std.proofs.lemmas.Bool.{cases_eq, cases_lt, lt-ltb, eq-eqb, and_from, or_left, or_right}
use Rattle.alpha_words.specs.declared.Level.{Level}
use Rattle.alpha_words.specs.Regs.{reg}
use Rattle.alpha_table.specs.declared.op.Op.{Op}
use Rattle.alpha_table.specs.declared.op.Op.TheVariants as ops
use Rattle.alpha_table.specs.declared.form.Src.{Src}
use Rattle.alpha_table.specs.declared.form.Src.TheVariants.{Reg, Lit}
use Rattle.alpha_table.specs.Class.{Class}
use Rattle.alpha_table.specs.Code.{class_at}
use Rattle.alpha_table.specs.Uses.{source_registers, is_move, written_register, but_zero, counts, sets, uses}
use Rattle.alpha_values.specs.Op.{result_of}
use Rattle.alpha_values.specs.Source.{source_value}
use Rattle.alpha_restart.specs.Match.{Dead, Alike}
use Rattle.alpha_restart.proofs.Registers.{reg-past, but_zero-not_31}

-- ---- registers that count

pub counts_first : (x : ℕ) (rest : List ℕ) → x < 31 → counts (x ∷ rest) x ≡ true
counts_first x rest small = and_from (ltb x 31) _ (lt-ltb x 31 small) (or_left (eqb x x) _ (eq-eqb x x refl))

pub counts_second : (y x : ℕ) (rest : List ℕ) → x < 31 → counts (y ∷ x ∷ rest) x ≡ true
counts_second y x rest small =
    and_from (ltb x 31) _ (lt-ltb x 31 small) (or_right (eqb y x) _ (or_left (eqb x x) _ (eq-eqb x x refl)))

-- the old value of a conditional move's destination
pub counts_moved : (move : Bool) (ra rc : ℕ) (others : List ℕ) → move ≡ true → rc < 31
    → counts (ra ∷ cond move (rc ∷ others) others) rc ≡ true
counts_moved move ra rc others e small =
    ap (λ (b : Bool). counts (ra ∷ cond b (rc ∷ others) others) rc) e ∙ counts_second ra rc others small

-- a second source of an operate instruction
pub counts_source : (move : Bool) (ra rc x : ℕ) (others : List ℕ) → x < 31 → list_any (λ s. s == x) others ≡ true
    → counts (ra ∷ cond move (rc ∷ others) others) x ≡ true
counts_source move ra rc x others small e = and_from (ltb x 31) _ (lt-ltb x 31 small) (or_right (eqb ra x) _ (by move))
  where
    by : (b : Bool) → list_any (λ s. s == x) (cond b (rc ∷ others) others) ≡ true
    by true = or_right (eqb rc x) _ e
    by false = e

-- a register that is the second source
pub source_used : (x : ℕ) (src : Src) → src ≡ Reg x → list_any (λ s. s == x) (source_registers src) ≡ true
source_used x src is =
    ap (λ (o : Src). list_any (λ s. s == x) (source_registers o)) is ∙ or_left (eqb x x) false (eq-eqb x x refl)

-- ---- what a word reads

-- R31 is never set
pub set_not_31 : (o : Option Class) → sets o ≢ Some 31
set_not_31 None e = cc
set_not_31 (Some class) e = by (written_register class) e
  where
    by : (o : Option ℕ) → but_zero o ≢ Some 31
    by None e = cc
    by (Some r) e = but_zero-not_31 r e

pub Alike-read_register : (code : List ℕ) (q e x : ℕ) (s a : List ℕ) → Alike code q e s a
    → (x < 31 → uses (class_at code q) x ≡ true) → reg a x ≡ reg s x
Alike-read_register code q e x s a h used = by (h.registers x)
  where
    by : (reg a x ≡ reg s x) ⊎ Dead code q e x → reg a x ≡ reg s x
    by (inl same) = same
    by (inr d) = ⊎_elim
        (λ (low : x < 31). let u = used low in let n = d.unused q (omega arith) d.above in absurd cc)
        (λ (high : 31 ≤ x). ⊎_elim
        (λ (is : x ≡ 31). absurd (set_not_31 (class_at code d.at) (d.written ∙ ap Some is)))
        (λ (past : x ≡ 31 → ⊥). reg-past a s x h.size_too h.size (omega arith))
        (cases_eq x 31))
        (cases_lt x 31)

pub source_value-Alike : (code : List ℕ) (q e : ℕ) (src : Src) (s a : List ℕ) → Alike code q e s a
    → ((x : ℕ) → src ≡ Reg x → x < 31 → uses (class_at code q) x ≡ true) → source_value a src ≡ source_value s src
source_value-Alike code q e (Reg x) s a h used = Alike-read_register code q e x s a h (λ low. used x refl low)
source_value-Alike code q e (Lit n) s a h used = refl

-- only a conditional move's result depends on what its destination had
pub result_of-old_unused : (level : Level) (op : Op) (a b old new : ℕ) → (is_move op ≡ true → old ≡ new)
    → result_of level op a b old ≡ result_of level op a b new
unfolding result_of
result_of-old_unused level ops.Cmovlbs a b old new h = ap (λ o. result_of level ops.Cmovlbs a b o) (h refl)
result_of-old_unused level ops.Cmovlbc a b old new h = ap (λ o. result_of level ops.Cmovlbc a b o) (h refl)
result_of-old_unused level ops.Cmoveq a b old new h = ap (λ o. result_of level ops.Cmoveq a b o) (h refl)
result_of-old_unused level ops.Cmovne a b old new h = ap (λ o. result_of level ops.Cmovne a b o) (h refl)
result_of-old_unused level ops.Cmovlt a b old new h = ap (λ o. result_of level ops.Cmovlt a b o) (h refl)
result_of-old_unused level ops.Cmovle a b old new h = ap (λ o. result_of level ops.Cmovle a b o) (h refl)
result_of-old_unused level ops.Cmovge a b old new h = ap (λ o. result_of level ops.Cmovge a b o) (h refl)
result_of-old_unused level ops.Cmovgt a b old new h = ap (λ o. result_of level ops.Cmovgt a b o) (h refl)
result_of-old_unused level _ a b old new h = refl
