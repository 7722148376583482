-- The laws of a stage for each of a list.
use Rattle.std.proofs.Common.{◌≡◌, ◌<◌, ◌+◌, ◌∙◌, ℕ, suc, add-one, append_assoc, List, [], ◌∷◌, ◌++◌, length, drop, map}
use Rattle.std.proofs.Common.{get_or, sym, ap, subst, inl, inr}
use Rattle.std.proofs.Math.Seq.{drop-cons}
use Rattle.std.proofs.lemmas.List.{append-nil}
use Rattle.std.specs.List.{AllByRecursion}
use Rattle.alpha_cmd.specs.declared.status.Status.{Status}
use Rattle.alpha_cmd.specs.Outcome.{Outcome, continues, stops, Each}
use Rattle.alpha_cmd.proofs.Lawful.{Lawful, Then-lawful, Gives-lawful}

pub Each-lawful : {X Y : Type 0} {told whole there : Type 0} (R : List Y → X → Outcome Y → Type 0) (before : List Y)
    (xs : List X)
    → AllByRecursion (λ x. (before : List Y) → Lawful told whole there (R before x)) xs
    → Lawful told whole there (Each R before xs)
Each-lawful R before [] all = Gives-lawful before
Each-lawful {Y = Y} R before (x ∷ xs) all =
    Then-lawful {R = R before x} {S = λ y. Each R (before ++ y ∷ []) xs} (all.0 before)
    (λ y found. Each-lawful R (before ++ y ∷ []) xs all.1)

-- the elements of two lists stand in a relation, one by one
abbrev pub AreRelatedEach : {X Y : Type 0} → (X → Y → Type 0) → List X → List Y → Type 0
AreRelatedEach P [] [] = Unit {0}
AreRelatedEach P [] (y ∷ ys) = ⊥
AreRelatedEach P (x ∷ xs) [] = ⊥
AreRelatedEach P (x ∷ xs) (y ∷ ys) = P x y × AreRelatedEach P xs ys

-- what the stages find, each by its own
each_found : {X Y : Type 0} (R : List Y → X → Outcome Y → Type 0) (P : X → Y → Type 0)
    → ((before : List Y) (x : X) (y : Y) → R before x (continues y) → P x y)
    → (before : List Y) (xs : List X) (out : List Y) → Each R before xs (continues out)
    → (ys : List Y) × (out ≡ before ++ ys) × AreRelatedEach P xs ys
each_found R P finds before [] out h = ([], h ∙ sym (append-nil before), tt)
each_found R P finds before (x ∷ xs) out (y, found, rest) =
    let (ys, is, all) = each_found R P finds (before ++ y ∷ []) xs out rest in
    (y ∷ ys, is ∙ append_assoc before (y ∷ []) ys, (finds before x y found, all))

pub Each-zip : {X Y : Type 0} (R : List Y → X → Outcome Y → Type 0) (P : X → Y → Type 0)
    → ((before : List Y) (x : X) (y : Y) → R before x (continues y) → P x y)
    → (xs : List X) (out : List Y) → Each R [] xs (continues out) → AreRelatedEach P xs out
Each-zip R P finds xs out h =
    let (ys, is, all) = each_found R P finds [] xs out h in
    subst (AreRelatedEach P xs) (sym is) all

-- a loop that goes on: what holds of the rest of the list, behind what was found, holds of all of it
pub Each-next : {X Y : Type 0} (R : List Y → X → Outcome Y → Type 0)
    (before : List Y) (x : X) (y : Y) (xs : List X) (o : Outcome (List Y))
    → R before x (continues y)
    → Each R (before ++ y ∷ []) xs o → Each R before (x ∷ xs) o
Each-next R before x y xs (continues out) found h = (y, found, h)
Each-next R before x y xs (stops s line) found h = inr (y, found, h)

-- ---- loops

-- a list from a place within it on
pub drop_at : {A : Type 0} (xs : List A) (i : ℕ) (a : A) → i < length xs → a ≡ get_or xs i a
    → drop i xs ≡ a ∷ drop (suc i) xs
drop_at xs i a h is = drop-cons xs i a h ∙ ap (λ x. x ∷ drop (suc i) xs) (sym is)

-- a loop over a list by an index: what holds of the rest of the list, behind what was found, holds of all of it
module _ {A X Y : Type 0} (R : List Y → X → Outcome Y → Type 0) (f : A → X) (xs : List A)
    (W : Outcome (List Y) → Type 0) where
  abbrev pub RestOfReads : List Y → ℕ → Type 0
  RestOfReads before i = (o : Outcome (List Y)) → Each R before (map f (drop i xs)) o → W o

  pub rest_next : (before after : List Y) (i : ℕ) (a : A) (y : Y) → drop i xs ≡ a ∷ drop (suc i) xs
      → R before (f a) (continues y) → after ≡ before ++ y ∷ [] → RestOfReads before i → RestOfReads after (i + 1)
  rest_next before after i a y cut found is rest o h =
      let next : Each R (before ++ y ∷ []) (map f (drop (suc i) xs)) o =
      subst (λ (b : List Y). Each R b (map f (drop (suc i) xs)) o) is
      (subst (λ (n : ℕ). Each R after (map f (drop n xs)) o) (add-one i) h) in
      rest o
      (subst (λ (l : List A). Each R before (map f l) o) (sym cut)
      (Each-next R before (f a) y (map f (drop (suc i) xs)) o found next))

  pub rest_stops : (before : List Y) (i : ℕ) (a : A) (s : Status) (line : List ℕ) → drop i xs ≡ a ∷ drop (suc i) xs
      → R before (f a) (stops s line) → RestOfReads before i → W (stops s line)
  rest_stops before i a s line cut stopped rest =
      rest (stops s line) (subst (λ (l : List A). Each R before (map f l) (stops s line)) (sym cut) (inl stopped))
