-- The symbols of rising names are good, each behind those before it.
use Rattle.std.proofs.Common.{◌≡◌, ℕ, ◌+◌, ◌-◌, ◌*◌, ◌%◌, ◌≤◌, Bool, true, false, ◌||◌, nat_le, List, [], ◌∷◌, ◌++◌}
use Rattle.std.proofs.Common.{length, map, Option, None, Some, Bor, refl, sym, ap, subst, ◌∙◌, length-append, arith}
use Rattle.std.specs.Prelude.{⊤, IfSome, slice_get, ◌==◌}
use Rattle.std.specs.Option.{option_map_or}
use Rattle.std.specs.List.{AllByRecursion, list_any}
use Rattle.std.specs.Ordering.{nat_cmp, is_lt}
use Rattle.std.specs.Cmp.Lexicographic.{slice_cmp}
use Rattle.std.specs.Str.{bytes_eq}
use Rattle.std.proofs.lemmas.Bool.Decides.{nat_tests}
use Rattle.std.proofs.lemmas.Map.Keys.{sorted_head, sorted_tail}
use Rattle.std.proofs.lemmas.Slice.Eq.{bytes_eq-Decides}
use Rattle.alpha_token.specs.Bytes.{is_label}
use Rattle.alpha_text.specs.References.{IsLabel}
use Rattle.alpha_asm.specs.declared.place.LabelLocation.{LabelLocation}
use Rattle.alpha_asm.specs.declared.place.LabelLocation.TheVariants as spots
use Rattle.alpha_link.specs.declared.header.Sizes.{Sizes}
use Rattle.alpha_link.specs.Symbols.{Named, offset_fits, comes_behind, symbol_fits, IsSymbol}
use Rattle.alpha_link.specs.Parts.{AreGood}
use Rattle.alpha_link.specs.Made.{symbol_at_location}
use Rattle.alpha_link.specs.SortedNames.{Rise}

pub slice_get-last : {A : Type 0} (xs : List A) (x : A) → slice_get (xs ++ x ∷ []) (length (xs ++ x ∷ []) - 1) ≡ Some x
slice_get-last {A} xs x =
    let there : length (xs ++ x ∷ []) - 1 ≡ length xs = omega (arith, length-append xs (x ∷ [])) in
    ap (slice_get (xs ++ x ∷ [])) there ∙ seam xs
  where
    seam : (ys : List A) → slice_get (ys ++ x ∷ []) (length ys) ≡ Some x
    seam [] = refl
    seam (y ∷ ys) = seam ys

-- a spot is within the sizes of a module, which are small
abbrev pub IsLocationIn : Sizes → LabelLocation → Type 0
IsLocationIn z (spots.Code words) = words ≤ z.words
IsLocationIn z (spots.Data segment offset) = offset ≤ z.filled + z.zeroed

fits_so : (z : Sizes) (before : List Named) (s : Named) → length s.name ≤ 1024 → is_label s.name ≡ true
    → offset_fits z s.section s.offset ≡ true → comes_behind before s.name ≡ true → symbol_fits z before s ≡ true
unfolding symbol_fits
fits_so z before s short label offset behind =
    let size : nat_le (length s.name) 1024 ≡ true = grind (arith, nat_tests) in
    rw (size, label, offset, behind) refl

symbol_good : (z : Sizes) (before : List Named) (name : List ℕ) (o : Option LabelLocation) → z.words ≤ 262144
    → z.filled + z.zeroed ≤ 16777216 → IsLabel 1024 name → IfSome o (IsLocationIn z) → comes_behind before name ≡ true
    → IsSymbol z before (symbol_at_location name o)
symbol_good z before name None few small (whole, short) at behind =
    record { fits = fits_so z before (symbol_at_location name None) short whole refl behind; offset = omega arith }
symbol_good z before name (Some (spots.Code words)) few small (whole, short) at behind =
    let aligned : 4 * words % 4 ≡ 0 = omega arith in
    let test : (4 * words % 4 == 0) ≡ true = rw aligned refl in
    let low : nat_le (4 * words) (4 * z.words) ≡ true = grind (arith, nat_tests) in
    record {
      fits =
          fits_so z before (symbol_at_location name (Some (spots.Code words))) short whole (rw (test, low) refl) behind;
      offset = omega arith;
    }
symbol_good z before name (Some (spots.Data segment offset)) few small (whole, short) at behind =
    let low : nat_le offset (z.filled + z.zeroed) ≡ true = grind (arith, nat_tests) in
    record {
      fits = fits_so z before (symbol_at_location name (Some (spots.Data segment offset))) short whole low behind;
      offset = omega arith;
    }

name_so : (name : List ℕ) (o : Option LabelLocation) → (symbol_at_location name o).name ≡ name
name_so name None = refl
name_so name (Some (spots.Code words)) = refl
name_so name (Some (spots.Data segment offset)) = refl

-- the first of the names is above that of the last symbol
abbrev pub FirstIsAbove : List Named → List (Bor (List ℕ)) → Type 0
FirstIsAbove before [] = ⊤
FirstIsAbove before (n ∷ ns) = comes_behind before n.now ≡ true

next_above : (before : List Named) (s : Named) (n : Bor (List ℕ)) (ns : List (Bor (List ℕ))) → s.name ≡ n.now
    → Rise (n ∷ ns) → FirstIsAbove (before ++ s ∷ []) ns
next_above before s n [] e rise = tt
next_above before s n (m ∷ ns) e rise =
    let (less, all) = sorted_head (λ a b. slice_cmp nat_cmp a.now b.now) n (m ∷ ns) rise in
    ap (λ (o : Option Named). option_map_or (λ s. is_lt (slice_cmp nat_cmp s.name m.now)) o true)
    (slice_get-last before s)
    ∙ (ap (λ (name : List ℕ). is_lt (slice_cmp nat_cmp name m.now)) e ∙ ap is_lt less)

pub symbols_good : (z : Sizes) (known : List ℕ → Option LabelLocation) (before : List Named) (ns : List (Bor (List ℕ)))
    → z.words ≤ 262144 → z.filled + z.zeroed ≤ 16777216 → Rise ns → FirstIsAbove before ns
    → AllByRecursion (λ n. IsLabel 1024 n.now) ns → ((name : List ℕ) → IfSome (known name) (IsLocationIn z))
    → AreGood (IsSymbol z) before (map (λ n. symbol_at_location n.now (known n.now)) ns)
symbols_good z known before [] few small rise above labels within = tt
symbols_good z known before (n ∷ ns) few small rise above (label, labels) within =
    let s : Named = symbol_at_location n.now (known n.now) in (
      symbol_good z before n.now (known n.now) few small label (within n.now) above,
      symbols_good z known (before ++ s ∷ []) ns few small
          (sorted_tail (λ a b. slice_cmp nat_cmp a.now b.now) n ns rise)
          (next_above before s n ns (name_so n.now (known n.now)) rise) labels within,
    )

pub FirstIsAbove-nil : (ns : List (Bor (List ℕ))) → FirstIsAbove [] ns
FirstIsAbove-nil [] = tt
FirstIsAbove-nil (n ∷ ns) = refl

-- what holds for all of some names holds for names that are among them
among_all : (P : List ℕ → Type 0) (q : List ℕ) (xs : List (List ℕ)) → AllByRecursion P xs
    → list_any (bytes_eq q) xs ≡ true → P q
among_all P q [] all h = absurd cc
among_all P q (x ∷ xs) (a, all) h = by (bytes_eq q x) refl h (among_all P q xs all)
  where
    by : (b : Bool) → bytes_eq q x ≡ b → (b || list_any (bytes_eq q) xs) ≡ true
        → (list_any (bytes_eq q) xs ≡ true → P q) → P q
    by true e h rest = subst P (sym ((bytes_eq-Decides q x).0 e)) a
    by false e h rest = rest h

pub names_all : (P : List ℕ → Type 0) (xs : List (List ℕ)) (ns : List (Bor (List ℕ))) → AllByRecursion P xs
    → ((q : List ℕ) → list_any (λ n. bytes_eq q n.now) ns ≡ true → list_any (bytes_eq q) xs ≡ true)
    → AllByRecursion (λ n. P n.now) ns
names_all P xs [] all same = tt
names_all P xs (n ∷ ns) all same =
    let itself : bytes_eq n.now n.now ≡ true = (bytes_eq-Decides n.now n.now).1 refl in (
      among_all P n.now xs all (same n.now (rw itself refl)),
      names_all P xs ns all (λ q h. same q (rw h (or_true (bytes_eq q n.now)))),
    )
  where
    or_true : (b : Bool) → (b || true) ≡ true
    or_true true = refl
    or_true false = refl
