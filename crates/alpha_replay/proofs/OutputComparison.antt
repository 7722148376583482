-- Outputs that are compared while they grow.
use Rattle.std.proofs.Common.{◌≡◌, ◌≢◌, ◌<◌, ◌≤◌, ◌+◌, ℕ, Bool, true, false, cond, eqb, List, [], ◌∷◌, ◌++◌, length}
use Rattle.std.proofs.Common.{drop, Option, Some, None, refl, sym, ap, subst, ◌∙◌, append_assoc, append-nil, arith}
use Rattle.std.proofs.lemmas.List.{drop-drop, drop_more}
use Rattle.std.proofs.lemmas.Bool.{eq-eqb}
use Rattle.std.proofs.lemmas.Bool.Decides.{eqb_tells}
use Rattle.std.proofs.Math.ListN.{get_or, drop_of_length-le}
use Rattle.std.proofs.Common.{⊎_elim}
use Rattle.alpha_replay.specs.declared.compare.Compared.{Compared}
use Rattle.alpha_replay.specs.Compared.{first_difference, Sees}

abbrev compared_of : ℕ → Bool → Compared
compared_of at differs = record { at = at; differs = differs }

pub sees_none : (expected : List ℕ) (s : Compared) (output bytes : List ℕ) → bytes ≡ [] → Sees expected s output
    → Sees expected s (output ++ bytes)
sees_none expected s output bytes none before =
    subst (λ (l : List ℕ). Sees expected s l)
    (sym (append-nil output) ∙ ap (λ (l : List ℕ). output ++ l) (sym none)) before

-- bytes more, behind a difference
pub sees_behind : (expected : List ℕ) (s : Compared) (output bytes : List ℕ) → s.differs ≡ true → Sees expected s output
    → Sees expected s (output ++ bytes)
sees_behind expected s output bytes differs before = λ more.
    ap (λ (l : List ℕ). first_difference 0 l expected) (append_assoc output bytes more)
    ∙ (before (bytes ++ more)
    ∙ (ap (λ (b : Bool). cond b (Some s.at) (first_difference s.at (bytes ++ more) (drop s.at expected))) differs
    ∙ ap (λ (b : Bool). cond b (Some s.at) (first_difference s.at more (drop s.at expected))) (sym differs)))

-- so many of the bytes are as expected
pub record SamePrefix (bytes expected : List ℕ) (n : ℕ) : Type 0 where
  pub is : (k : ℕ) (more : List ℕ)
      → first_difference k (bytes ++ more) expected ≡ first_difference (k + n) (drop n bytes ++ more) (drop n expected)

abbrev difference_from : (expected : List ℕ) (at : ℕ) (b : Bool) (l : List ℕ) → Option ℕ
difference_from expected at b l = cond b (Some at) (first_difference at l (drop at expected))

pub sees_prefix : (expected : List ℕ) (s : Compared) (output bytes : List ℕ) (n : ℕ) (b : Bool) → s.differs ≡ false
    → ((k : ℕ) (more : List ℕ)
    → first_difference k (bytes ++ more) (drop s.at expected)
    ≡ first_difference (k + n) (drop n bytes ++ more) (drop n (drop s.at expected)))
    → n ≤ length bytes
    → (n < length bytes → (k : ℕ) (more : List ℕ)
    → first_difference k (drop n bytes ++ more) (drop n (drop s.at expected)) ≡ Some k)
    → (b ≡ true → n < length bytes) → (b ≡ false → length bytes ≤ n)
    → Sees expected s output → Sees expected (compared_of (s.at + n) b) (output ++ bytes)
sees_prefix expected s output bytes n b same front most other shorter whole before = λ more.
    ap (λ (l : List ℕ). first_difference 0 l expected) (append_assoc output bytes more)
    ∙ (before (bytes ++ more)
    ∙ (ap (λ (d : Bool). difference_from expected s.at d (bytes ++ more)) same
    ∙ (front s.at more ∙ by b refl more)))
  where
    by : (d : Bool) → b ≡ d → (more : List ℕ)
        → first_difference (s.at + n) (drop n bytes ++ more) (drop n (drop s.at expected))
        ≡ difference_from expected (s.at + n) d more
    by true e more = other (shorter e) (s.at + n) more
    by false e more =
        ap (λ (l : List ℕ). first_difference (s.at + n) (l ++ more) (drop n (drop s.at expected)))
        (drop_of_length-le bytes (whole e))
        ∙ ap (λ (l : List ℕ). first_difference (s.at + n) more l) (drop-drop n s.at expected)

-- ---- where an output differs that has ended

first_difference-too_short : (at : ℕ) (rest : List ℕ) → 0 < length rest → first_difference at [] rest ≡ Some at
first_difference-too_short at [] some = absurd (omega arith)
first_difference-too_short at (y ∷ ys) some = refl

pub first_difference-differs : (expected : List ℕ) (s : Compared) (output : List ℕ) → s.differs ≡ true
    → Sees expected s output
    → first_difference 0 output expected ≡ Some s.at
first_difference-differs expected s output differs before =
    ap (λ (l : List ℕ). first_difference 0 l expected) (sym (append-nil output))
    ∙ (before [] ∙ ap (λ (b : Bool). difference_from expected s.at b []) differs)

pub first_difference-output_short : (expected : List ℕ) (s : Compared) (output : List ℕ) → s.differs ≡ false
    → 0 < length (drop s.at expected) → Sees expected s output
    → first_difference 0 output expected ≡ Some s.at
first_difference-output_short expected s output differs some before =
    ap (λ (l : List ℕ). first_difference 0 l expected) (sym (append-nil output))
    ∙ (before []
    ∙ (ap (λ (b : Bool). difference_from expected s.at b []) differs
    ∙ first_difference-too_short s.at (drop s.at expected) some))

pub difference_none : (expected : List ℕ) (s : Compared) (output : List ℕ) → s.differs ≡ false → length expected ≤ s.at
    → Sees expected s output
    → first_difference 0 output expected ≡ None
difference_none expected s output differs all before =
    ap (λ (l : List ℕ). first_difference 0 l expected) (sym (append-nil output))
    ∙ (before []
    ∙ (ap (λ (b : Bool). difference_from expected s.at b []) differs
    ∙ ap (λ (l : List ℕ). first_difference s.at [] l) (drop_of_length-le expected all)))

-- ---- the loop

abbrev pub ComparedPrefix : List ℕ → List ℕ → ℕ → Type 0
ComparedPrefix bytes expected n =
    (k : ℕ) (more : List ℕ)
    → first_difference k (bytes ++ more) expected ≡ first_difference (k + n) (drop n bytes ++ more) (drop n expected)

pub ComparedPrefix-zero : (bytes expected : List ℕ) → ComparedPrefix bytes expected 0
ComparedPrefix-zero bytes expected = λ k more. ap (λ (i : ℕ). first_difference i (bytes ++ more) expected) (omega arith)

same_heads : (k x y : ℕ) (xs ys : List ℕ) → x ≡ y
    → first_difference k (x ∷ xs) (y ∷ ys) ≡ first_difference (k + 1) xs ys
same_heads k x y xs ys e = ap (λ (b : Bool). cond b (first_difference (k + 1) xs ys) (Some k)) (eq-eqb x y e)

other_heads : (k x y : ℕ) (xs ys : List ℕ) → (x ≡ y → ⊥) → first_difference k (x ∷ xs) (y ∷ ys) ≡ Some k
other_heads k x y xs ys apart =
    ⊎_elim
    (λ (t : (eqb x y ≡ true) × (x ≡ y)). absurd (apart t.1))
    (λ (t : (eqb x y ≡ false) × (x ≢ y)). ap (λ (b : Bool). cond b (first_difference (k + 1) xs ys) (Some k)) t.0)
    (eqb_tells x y)

pub ComparedPrefix-next : (bytes expected : List ℕ) (n : ℕ) → n < length bytes → n < length expected
    → get_or bytes n 0 ≡ get_or expected n 0
    → ComparedPrefix bytes expected n → ComparedPrefix bytes expected (n + 1)
ComparedPrefix-next bytes expected n in_bytes in_expected same before = λ k more.
    before k more
    ∙ (ap (λ (l : List ℕ). first_difference (k + n) (l ++ more) (drop n expected)) (drop_more bytes n 0 in_bytes)
    ∙ (ap (λ (l : List ℕ). first_difference (k + n) (get_or bytes n 0 ∷ (drop (n + 1) bytes ++ more)) l)
    (drop_more expected n 0 in_expected)
    ∙ (same_heads (k + n) (get_or bytes n 0) (get_or expected n 0) (drop (n + 1) bytes ++ more)
    (drop (n + 1) expected) same
    ∙ ap (λ (i : ℕ). first_difference i (drop (n + 1) bytes ++ more) (drop (n + 1) expected)) (omega arith))))

-- another byte, or none that is expected
pub first_difference-other_byte : (bytes expected : List ℕ) (n : ℕ) → n < length bytes → n < length expected
    → (get_or bytes n 0 ≡ get_or expected n 0 → ⊥)
    → (k : ℕ) (more : List ℕ) → first_difference k (drop n bytes ++ more) (drop n expected) ≡ Some k
first_difference-other_byte bytes expected n in_bytes in_expected apart k more =
    ap (λ (l : List ℕ). first_difference k (l ++ more) (drop n expected)) (drop_more bytes n 0 in_bytes)
    ∙ (ap (λ (l : List ℕ). first_difference k (get_or bytes n 0 ∷ (drop (n + 1) bytes ++ more)) l)
    (drop_more expected n 0 in_expected)
    ∙ other_heads k (get_or bytes n 0) (get_or expected n 0) (drop (n + 1) bytes ++ more) (drop (n + 1) expected) apart)

pub first_difference-too_many_bytes : (bytes expected : List ℕ) (n : ℕ) → n < length bytes → length expected ≤ n
    → (k : ℕ) (more : List ℕ) → first_difference k (drop n bytes ++ more) (drop n expected) ≡ Some k
first_difference-too_many_bytes bytes expected n in_bytes all k more =
    ap (λ (l : List ℕ). first_difference k (l ++ more) (drop n expected)) (drop_more bytes n 0 in_bytes)
    ∙ ap (λ (l : List ℕ). first_difference k (get_or bytes n 0 ∷ (drop (n + 1) bytes ++ more)) l)
    (drop_of_length-le expected all)
