-- The program of a trial is accepted: a TRAPB ends the shadows of each block, and no condition holds in them.
use Rattle.std.proofs.Common.{◌≡◌, ◌≢◌, ◌⊎◌, ◌<◌, ◌≤◌, ◌+◌, ◌++◌, ℕ, zero, suc, pos, true, false, List, [], ◌∷◌, length}
use Rattle.std.proofs.Common.{Option, None, Some, refl, sym, ap, ◌∙◌, inl, inr, ⊎_elim, arith}
use Rattle.std.proofs.lemmas.Bool.{cases_lt}
use Rattle.rand_pcg.specs.Lcg.{Lcg}
use Rattle.rand_pcg.specs.Pcg.{pcg32}
use Rattle.alpha_table.specs.declared.op.TrapOp.TheVariants.{AddlV, MullV}
use Rattle.alpha_table.specs.declared.rows.MemOp.TheVariants.{Lda}
use Rattle.alpha_table.specs.declared.columns.InsnKind.{InsnKind}
use Rattle.alpha_table.specs.declared.columns.InsnKind.TheVariants as kinds
use Rattle.alpha_table.specs.declared.form.Src.TheVariants.{Reg}
use Rattle.alpha_table.specs.Class.{Class, trigger, address, barrier}
use Rattle.alpha_table.specs.Code.{class_at, kind, trap_rc, Straight}
use Rattle.alpha_table.specs.Uses.{sets, uses, access}
use Rattle.alpha_table.specs.Words.{class_in}
use Rattle.alpha_shadow.specs.declared.broken.Condition.{Condition}
use Rattle.alpha_shadow.specs.declared.broken.Condition.TheVariants.{ZeroDestination, SourceLost, SameDestination}
use Rattle.alpha_shadow.specs.declared.broken.Condition.TheVariants.{WildBase, LoadThenStore, Locked, Turn, Open, Long}
use Rattle.alpha_shadow.specs.Code.{kind_at}
use Rattle.alpha_shadow.specs.Broken.{Holds, IsAccepted}
use Rattle.alpha_trial.specs.Program.{seeded}
use Rattle.alpha_trial.specs.Words.{block_words, blocks_words, ending_words, program_words}
use Rattle.alpha_trial.proofs.DecodedProgram.{class_first, class_second}

-- ---- the shadows of a block

abbrev first_trigger : Class
first_trigger = trigger AddlV 1 (Reg 2) 3

abbrev sum_and_one : Class
sum_and_one = address Lda 4 3 (pos 1)

abbrev second_trigger : Class
second_trigger = trigger MullV 1 (Reg 2) 5

-- a block begins at a place: from its third word on the two triggers, a word between them, and the barrier
record Block (code : List ℕ) (q : ℕ) : Type 0 where
  two : class_at code (q + 2) ≡ Some first_trigger
  three : class_at code (q + 3) ≡ Some sum_and_one
  four : class_at code (q + 4) ≡ Some second_trigger
  five : class_at code (q + 5) ≡ Some (barrier None)

-- the words of a block's shadows, by their classes
data In (code : List ℕ) (q at : ℕ) : Type 0 where
  at_two : at ≡ q + 2 → class_at code at ≡ Some first_trigger → In code q at
  at_three : at ≡ q + 3 → class_at code at ≡ Some sum_and_one → In code q at
  at_four : at ≡ q + 4 → class_at code at ≡ Some second_trigger → In code q at
  at_five : at ≡ q + 5 → class_at code at ≡ Some (barrier None) → In code q at

In-behind_trigger : (code : List ℕ) (q at : ℕ) → Block code q → q + 2 ≤ at → at ≤ q + 5 → In code q at
In-behind_trigger code q at b low high =
    ⊎_elim (λ (l : at < q + 3). let e : at ≡ q + 2 = omega arith in at_two e (ap (class_at code) e ∙ b.two))
    (λ (l : q + 3 ≤ at).
    ⊎_elim (λ (m : at < q + 4). let e : at ≡ q + 3 = omega arith in at_three e (ap (class_at code) e ∙ b.three))
    (λ (m : q + 4 ≤ at).
    ⊎_elim (λ (n : at < q + 5). let e : at ≡ q + 4 = omega arith in at_four e (ap (class_at code) e ∙ b.four))
    (λ (n : q + 5 ≤ at). let e : at ≡ q + 5 = omega arith in at_five e (ap (class_at code) e ∙ b.five))
    (cases_lt at (q + 5)))
    (cases_lt at (q + 4)))
    (cases_lt at (q + 3))

-- a shadow ends at the barrier
Straight-within_block : (code : List ℕ) (q t at : ℕ) → Block code q → t ≤ q + 5 → Straight code t at → at ≤ q + 5
Straight-within_block code q t at b low straight =
    ⊎_elim (λ (past : q + 5 < at). absurd ((straight (q + 5) low past).0 (ap kind b.five))) (λ (h : at ≤ q + 5). h)
    (cases_lt (q + 5) at)

-- no word of the shadows is locked, turns, stores or makes an access
record Plain (o : Option Class) : Type 0 where
  locked : kind o ≢ Some kinds.Locked
  turn : kind o ≢ Some kinds.Turn
  store : kind o ≢ Some kinds.Store
  access : access o ≡ None
  there : o ≢ None

plain_class : (o : Option Class) (c : Class) → o ≡ Some c → kind (Some c) ≢ Some kinds.Locked
    → kind (Some c) ≢ Some kinds.Turn → kind (Some c) ≢ Some kinds.Store
    → access (Some c) ≡ None → Plain o
plain_class o c e locked turn store none = record {
  locked = λ h. locked (ap kind (sym e) ∙ h);
  turn = λ h. turn (ap kind (sym e) ∙ h);
  store = λ h. store (ap kind (sym e) ∙ h);
  access = ap access e ∙ none;
  there = λ h. let f : Some c ≡ None = sym e ∙ h in cc;
}

plain_in : (code : List ℕ) (q at : ℕ) → In code q at → Plain (class_at code at)
plain_in code q at (at_two e c) = plain_class (class_at code at) first_trigger c (λ h. cc) (λ h. cc) (λ h. cc) refl
plain_in code q at (at_three e c) = plain_class (class_at code at) sum_and_one c (λ h. cc) (λ h. cc) (λ h. cc) refl
plain_in code q at (at_four e c) = plain_class (class_at code at) second_trigger c (λ h. cc) (λ h. cc) (λ h. cc) refl
plain_in code q at (at_five e c) = plain_class (class_at code at) (barrier None) c (λ h. cc) (λ h. cc) (λ h. cc) refl

class_at-length : (code : List ℕ) → class_at code (length code) ≡ None
unfolding class_at
class_at-length [] = refl
class_at-length (w ∷ code) = class_at-length code

-- ---- sources

false_true : false ≡ true → ⊥
false_true e = cc

-- no word of a shadow uses R4 or R5, and none after the first trigger sets R3
uses-not_result : (code : List ℕ) (q p r : ℕ) → In code q p → (r ≡ 4) ⊎ (r ≡ 5) → uses (class_at code p) r ≡ false
uses-not_result code q p r (at_two e c) (inl f) = ap (λ o. uses o r) c ∙ ap (λ n. uses (Some first_trigger) n) f
uses-not_result code q p r (at_two e c) (inr f) = ap (λ o. uses o r) c ∙ ap (λ n. uses (Some first_trigger) n) f
uses-not_result code q p r (at_three e c) (inl f) = ap (λ o. uses o r) c ∙ ap (λ n. uses (Some sum_and_one) n) f
uses-not_result code q p r (at_three e c) (inr f) = ap (λ o. uses o r) c ∙ ap (λ n. uses (Some sum_and_one) n) f
uses-not_result code q p r (at_four e c) (inl f) = ap (λ o. uses o r) c ∙ ap (λ n. uses (Some second_trigger) n) f
uses-not_result code q p r (at_four e c) (inr f) = ap (λ o. uses o r) c ∙ ap (λ n. uses (Some second_trigger) n) f
uses-not_result code q p r (at_five e c) (inl f) = ap (λ o. uses o r) c ∙ ap (λ n. uses (Some (barrier None)) n) f
uses-not_result code q p r (at_five e c) (inr f) = ap (λ o. uses o r) c ∙ ap (λ n. uses (Some (barrier None)) n) f

same_some : (a b : ℕ) → Some a ≡ Some b → b ≡ a
same_some a b e = cc

source_stays : (code : List ℕ) (q t at : ℕ) → Block code q → q + 2 ≤ t → t ≤ at → at ≤ q + 5 → In code q at
    → Holds code t at SourceLost → ⊥
source_stays code q t at b low order high (at_two e c) h =
    let r : h.0 ≡ 3 = same_some 3 h.0 (ap sets (sym c) ∙ h.1) in
    let here : h.2.place ≡ at = (let above = h.2.above in let below = h.2.below in omega arith) in
    let used : uses (class_at code h.2.place) h.0 ≡ false =
    ap (λ k. uses (class_at code k) h.0) here ∙ (ap (λ o. uses o h.0) c ∙ ap (λ n. uses (Some first_trigger) n) r) in
    false_true (sym used ∙ h.2.uses)
source_stays code q t at b low order high (at_three e c) h =
    let above = h.2.above in
    let below = h.2.below in
    false_true
    (sym (uses-not_result code q h.2.place h.0 (In-behind_trigger code q h.2.place b (omega arith) (omega arith))
    (inl (same_some 4 h.0 (ap sets (sym c) ∙ h.1)))) ∙ h.2.uses)
source_stays code q t at b low order high (at_four e c) h =
    let above = h.2.above in
    let below = h.2.below in
    false_true
    (sym (uses-not_result code q h.2.place h.0 (In-behind_trigger code q h.2.place b (omega arith) (omega arith))
    (inr (same_some 5 h.0 (ap sets (sym c) ∙ h.1)))) ∙ h.2.uses)
source_stays code q t at b low order high (at_five e c) h = let none : None ≡ Some h.0 = ap sets (sym c) ∙ h.1 in cc

-- ---- destinations

-- a trigger of the block has the destination 3 or 5
data IsTrigger (code : List ℕ) (q t : ℕ) : Type 0 where
  is_first : t ≡ q + 2 → trap_rc (class_at code t) ≡ Some 3 → IsTrigger code q t
  is_second : t ≡ q + 4 → trap_rc (class_at code t) ≡ Some 5 → IsTrigger code q t

trigger_in : (code : List ℕ) (q t : ℕ) → In code q t → kind_at code t ≡ Some kinds.Trigger → IsTrigger code q t
trigger_in code q t (at_two e c) h = is_first e (ap trap_rc c)
trigger_in code q t (at_three e c) h = let f : Some kinds.Plain ≡ Some kinds.Trigger = ap kind (sym c) ∙ h in absurd cc
trigger_in code q t (at_four e c) h = is_second e (ap trap_rc c)
trigger_in code q t (at_five e c) h = let f : Some kinds.Barrier ≡ Some kinds.Trigger = ap kind (sym c) ∙ h in absurd cc

Some-differ : (a b : ℕ) → Some a ≡ Some b → a ≢ b → ⊥
Some-differ a b e differ = differ (same_some b a (sym e))

not_zero : (code : List ℕ) (q t : ℕ) → IsTrigger code q t → trap_rc (class_at code t) ≡ Some 31 → ⊥
not_zero code q t (is_first e c) h = Some-differ 3 31 (sym c ∙ h) (λ e. cc)
not_zero code q t (is_second e c) h = Some-differ 5 31 (sym c ∙ h) (λ e. cc)

trap_rc-differ : (code : List ℕ) (q t at : ℕ) → IsTrigger code q t → IsTrigger code q at → t < at
    → trap_rc (class_at code at) ≡ trap_rc (class_at code t) → ⊥
trap_rc-differ code q t at (is_first e c) (is_first f d) order h = omega arith
trap_rc-differ code q t at (is_first e c) (is_second f d) order h = Some-differ 5 3 (sym d ∙ (h ∙ c)) (λ e. cc)
trap_rc-differ code q t at (is_second e c) (is_first f d) order h = omega arith
trap_rc-differ code q t at (is_second e c) (is_second f d) order h = omega arith

-- ---- no place is broken

module _ (code : List ℕ) (q t at : ℕ) (b : Block code q) (low : q + 2 ≤ t) (order : t ≤ at) (high : at ≤ q + 5)
    (trigger_kind : kind_at code t ≡ Some kinds.Trigger) where
  here : In code q at
  here = In-behind_trigger code q at b (omega arith) high

  is_trigger : IsTrigger code q t
  is_trigger = trigger_in code q t (In-behind_trigger code q t b low (omega arith)) trigger_kind

  plain : Plain (class_at code at)
  plain = plain_in code q at here

  fails : (c : Condition) → Holds code t at c → ⊥
  fails ZeroDestination h = not_zero code q t is_trigger h.1
  fails SourceLost h = source_stays code q t at b low order high here h
  fails SameDestination h = trap_rc-differ code q t at is_trigger (trigger_in code q at here h.1) h.0 h.2
  fails WildBase h = let base = h.1 in let f : None ≡ Some base.0 = sym plain.access ∙ base.1 in cc
  fails LoadThenStore h = plain.store h.3.1.1.2
  fails Locked h = plain.locked h
  fails Turn h = plain.turn h
  fails Open h = plain.there (ap (class_at code) h ∙ class_at-length code)
  fails Long h = let far = h.0 in omega arith

-- ---- where the triggers stand

record Found (code : List ℕ) (t : ℕ) : Type 0 where
  q : ℕ
  block : Block code q
  low : q + 2 ≤ t
  high : t ≤ q + 4

-- words behind a block
class_at-behind_block : (x y k : ℕ) (rest : List ℕ)
    → class_at (block_words x y ++ rest) (suc (suc (suc (suc (suc (suc (suc (suc (suc k))))))))) ≡ class_at rest k
unfolding class_at
class_at-behind_block x y k rest = refl

pub class_at-past_block : (x y k n : ℕ) (rest : List ℕ) → n ≡ k + 9
    → class_at (block_words x y ++ rest) n ≡ class_at rest k
class_at-past_block x y k n rest e =
    let nine : n ≡ suc (suc (suc (suc (suc (suc (suc (suc (suc k)))))))) = omega arith in
    ap (class_at (block_words x y ++ rest)) nine ∙ class_at-behind_block x y k rest

found_behind : (x y k t : ℕ) (rest : List ℕ) → t ≡ k + 9 → Found rest k → Found (block_words x y ++ rest) t
found_behind x y k t rest e f = record {
  q = f.q + 9;
  block = record {
    two = class_at-past_block x y (f.q + 2) (f.q + 9 + 2) rest (omega arith) ∙ f.block.two;
    three = class_at-past_block x y (f.q + 3) (f.q + 9 + 3) rest (omega arith) ∙ f.block.three;
    four = class_at-past_block x y (f.q + 4) (f.q + 9 + 4) rest (omega arith) ∙ f.block.four;
    five = class_at-past_block x y (f.q + 5) (f.q + 9 + 5) rest (omega arith) ∙ f.block.five;
  };
  low = (let l = f.low in omega arith);
  high = (let h = f.high in omega arith);
}

first_block : (x y : ℕ) (rest : List ℕ) → Block (block_words x y ++ rest) 0
unfolding class_at class_in
first_block x y rest = record { two = refl; three = refl; four = refl; five = refl }

-- the words of a block that are no triggers
first_plain : (x y : ℕ) (rest : List ℕ) → kind_at (block_words x y ++ rest) 0 ≡ Some kinds.Plain
unfolding class_at
first_plain x y rest = ap kind (class_first x)

second_plain : (x y : ℕ) (rest : List ℕ) → kind_at (block_words x y ++ rest) 1 ≡ Some kinds.Plain
unfolding class_at
second_plain x y rest = ap kind (class_second y)

others_plain : (x y : ℕ) (rest : List ℕ)
    → (kind_at (block_words x y ++ rest) 6 ≡ Some kinds.Plain)
    × (kind_at (block_words x y ++ rest) 7 ≡ Some kinds.Plain)
    × (kind_at (block_words x y ++ rest) 8 ≡ Some kinds.Plain)
unfolding class_at class_in
others_plain x y rest = (refl, refl, refl)

no_trigger : {X : Type 0} (o : Option InsnKind) → o ≡ Some kinds.Plain → o ≡ Some kinds.Trigger → X
no_trigger o e h = let f : Some kinds.Plain ≡ Some kinds.Trigger = sym e ∙ h in absurd cc

found_in : (x y t : ℕ) (rest : List ℕ) → ((k : ℕ) → kind_at rest k ≡ Some kinds.Trigger → Found rest k)
    → kind_at (block_words x y ++ rest) t ≡ Some kinds.Trigger → Found (block_words x y ++ rest) t
found_in x y zero rest later h = no_trigger _ (first_plain x y rest) h
found_in x y (suc zero) rest later h = no_trigger _ (second_plain x y rest) h
found_in x y (suc (suc zero)) rest later h =
    record { q = 0; block = first_block x y rest; low = omega arith; high = omega arith }
found_in x y (suc (suc (suc zero))) rest later h =
    record { q = 0; block = first_block x y rest; low = omega arith; high = omega arith }
found_in x y (suc (suc (suc (suc zero)))) rest later h =
    record { q = 0; block = first_block x y rest; low = omega arith; high = omega arith }
found_in x y (suc (suc (suc (suc (suc zero))))) rest later h =
    let f : Some kinds.Barrier ≡ Some kinds.Trigger = ap kind (sym (first_block x y rest).five) ∙ h in absurd cc
found_in x y (suc (suc (suc (suc (suc (suc zero)))))) rest later h = no_trigger _ (others_plain x y rest).0 h
found_in x y (suc (suc (suc (suc (suc (suc (suc zero))))))) rest later h = no_trigger _ (others_plain x y rest).1 h
found_in x y (suc (suc (suc (suc (suc (suc (suc (suc zero)))))))) rest later h =
    no_trigger _ (others_plain x y rest).2 h
found_in x y (suc (suc (suc (suc (suc (suc (suc (suc (suc k))))))))) rest later h =
    found_behind x y k _ rest (omega arith) (later k (ap kind (sym (class_at-behind_block x y k rest)) ∙ h))

-- the ending has none
ending_plain : (t : ℕ) → kind_at ending_words t ≡ Some kinds.Trigger → ⊥
unfolding class_at class_in
ending_plain (suc (suc (suc (suc (suc (suc (suc (suc (suc (suc t)))))))))) h = cc
ending_plain t h = cc

Found-trigger : (n : ℕ) (g : Lcg) (t : ℕ) → kind_at (blocks_words n g ++ ending_words) t ≡ Some kinds.Trigger
    → Found (blocks_words n g ++ ending_words) t
Found-trigger zero g t h = absurd (ending_plain t h)
Found-trigger (suc n) g t h =
    let x = pcg32 g in
    let y = pcg32 x.1 in
    found_in x.0 y.0 t (blocks_words n y.1 ++ ending_words) (Found-trigger n y.1) h

pub program_accepted : (n : ℕ) → IsAccepted (program_words n)
unfolding program_words
program_accepted n t at c h =
    let code = blocks_words n (seeded n) ++ ending_words in
    let f = Found-trigger n (seeded n) t h.trigger_kind in
    let top = f.high in
    fails code f.q t at f.block f.low h.order
    (Straight-within_block code f.q t at f.block (omega arith) h.straight) h.trigger_kind c h.holds
