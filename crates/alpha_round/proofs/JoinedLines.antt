-- Lines that are joined, each with its line feed, are cut into these lines.
use Rattle.std.proofs.Common.{◌≡◌, ℕ, ◌-◌, ◌<◌, List, [], ◌∷◌, ◌++◌, length, get_or, All, Bool, true, false, eqb}
use Rattle.std.proofs.Common.{nat_lt, refl, ◌∙◌, ap, append_assoc, arith}
use Rattle.std.specs.List.{list_all, slice_split, AllByRecursion}
use Rattle.std.specs.Str.Lines.{lines, lines_of_parts, strip_carriage_return}
use Rattle.std.proofs.lemmas.Bool.Decides.{nat_tests}
use Rattle.std.proofs.lemmas.List.Folds.{list_all-append}
use Rattle.std.proofs.lemmas.List.Splits.{slice_split_at, length-slice_split}
use Rattle.std.proofs.lemmas.List.Sums.{AllPass-from_list_all}
use Rattle.alpha_dis.specs.Listing.{text}

-- a byte that stays in its line: no line feed and no carriage return
abbrev pub is_inside : ℕ → Bool
is_inside b = nat_lt 13 b

abbrev pub AreInside : List ℕ → Type 0
AreInside l = list_all is_inside l ≡ true

pub inside-append : (a b : List ℕ) → AreInside a → AreInside b → AreInside (a ++ b)
inside-append a b h k = list_all-append is_inside a b ∙ rw (h, k) refl

no_feed : (l : List ℕ) → AreInside l → All (λ b. eqb b 10 ≡ false) l
no_feed l h i d n =
    let x : nat_lt 13 (get_or l i d) ≡ true = AllPass-from_list_all is_inside l h i d n in
    grind (arith, nat_tests)

-- a line that doesn't end with a carriage return stays whole
strip_carriage_return-inside : (l : List ℕ) → AreInside l → strip_carriage_return l ≡ l
strip_carriage_return-inside [] h = refl
strip_carriage_return-inside (b ∷ l) h =
    let x : nat_lt 13 (get_or (b ∷ l) (length (b ∷ l) - 1) 0) ≡ true =
    AllPass-from_list_all is_inside (b ∷ l) h (length (b ∷ l) - 1) 0 (omega arith) in
    let other : eqb (get_or (b ∷ l) (length (b ∷ l) - 1) 0) 13 ≡ false = grind (arith, nat_tests) in
    rw other refl

lines_of_parts-cons : (x : List ℕ) (parts : List (List ℕ)) → 0 < length parts
    → lines_of_parts (x ∷ parts) ≡ strip_carriage_return x ∷ lines_of_parts parts
lines_of_parts-cons x [] h = absurd (omega arith)
lines_of_parts-cons x (y ∷ parts) h = refl

first_line : (l s : List ℕ) → AreInside l → lines (l ++ (10 ∷ s)) ≡ l ∷ lines s
first_line l s h =
    ap lines_of_parts (slice_split_at (λ b. eqb b 10) l 10 s (no_feed l h) refl)
    ∙ (lines_of_parts-cons l (slice_split (λ b. eqb b 10) s) (omega (arith, length-slice_split (λ b. eqb b 10) s))
    ∙ ap (λ x. x ∷ lines s) (strip_carriage_return-inside l h))

pub lines-text : (ls : List (List ℕ)) → AllByRecursion AreInside ls → lines (text ls) ≡ ls
lines-text [] h = refl
lines-text (l ∷ ls) (a, b) =
    ap lines (append_assoc l (10 ∷ []) (text ls)) ∙ (first_line l (text ls) a ∙ ap (λ x. l ∷ x) (lines-text ls b))
