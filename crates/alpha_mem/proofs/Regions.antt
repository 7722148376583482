-- The one region of a memory that holds a range.
use Rattle.std.proofs.Common.{◌≡◌, ℕ, suc, ◌<◌, Bool, true, false, ◌||◌, List, [], ◌∷◌, length, get_or, Option, Some}
use Rattle.std.proofs.Common.{None, is_some, refl, sym, ap, ◌∙◌, arith, position}
use Rattle.std.specs.List.{list_any}
use Rattle.std.proofs.lemmas.Bool.{and_from, and_parts}
use Rattle.std.proofs.lemmas.List.Folds.{list_any_at}
use Rattle.std.proofs.lemmas.List.Quantifiers.{position-Some}
use Rattle.alpha_mem.specs.Block.{Block, shapes}
use Rattle.alpha_mem.specs.Memory.{IsLayout}
use Rattle.alpha_mem.proofs.Blocks.{list_any-weaker, all_units}
use Rattle.alpha_mem.proofs.BlockPlaces.{place-spans, is_some-position}
use Rattle.alpha_mem.proofs.Writable.{writable-takes, position-found_at, position-writable_takes}

none_any : (p : Block → Bool) (xs : List Block) → ((k : ℕ) (d : Block) → k < length xs → p (get_or xs k d) ≡ false)
    → list_any p xs ≡ false
none_any p [] none = refl
none_any p (x ∷ xs) none =
    ap (λ b. b || list_any p xs) (none 0 x (omega arith)) ∙ none_any p xs (λ k d less. none (suc k) d (omega arith))

no_place : (o : Option ℕ) → is_some o ≡ false → None ≡ o
no_place None e = refl
no_place (Some i) e = absurd cc

-- a region that holds the range is the first that does
pub region_found : (m : List Block) (a n i : ℕ) (d : Block) → IsLayout (shapes m) → 0 < n → i < length m
    → place-spans a n (get_or m i d) ≡ true
    → Some i ≡ position (place-spans a n) m
region_found m a n i d layout some inside h =
    sym (position-found_at m a n i (position (place-spans a n) m) layout some inside d h refl
    (is_some-position (place-spans a n) m ∙ list_any_at (place-spans a n) m i d inside h))

-- where no region holds it, there is no first
pub region_missing : (m : List Block) (a n : ℕ)
    → ((k : ℕ) (d : Block) → k < length m → place-spans a n (get_or m k d) ≡ false)
    → None ≡ position (place-spans a n) m
region_missing m a n none =
    no_place (position (place-spans a n) m) (is_some-position (place-spans a n) m ∙ none_any (place-spans a n) m none)

-- ---- one that is writable

-- the region that holds the range, where it is writable
pub writable_found : (m : List Block) (a n i : ℕ) (d : Block) → IsLayout (shapes m) → 0 < n
    → Some i ≡ position (place-spans a n) m → (get_or m i d).writable ≡ true
    → Some i ≡ position (writable-takes a n) m
writable_found m a n i d layout some found writes = by (position (writable-takes a n) m) refl
  where
    there : is_some (position (writable-takes a n) m) ≡ true
    there =
        let p = position-Some (place-spans a n) m i d (sym found) in
        is_some-position (writable-takes a n) m
        ∙ list_any_at (writable-takes a n) m i d p.0
        (and_from (get_or m i d).writable (place-spans a n (get_or m i d)) writes p.1)

    by : (o : Option ℕ) → position (writable-takes a n) m ≡ o → Some i ≡ o
    by None e = absurd (let no : false ≡ true = sym (ap is_some e) ∙ there in cc)
    by (Some j) e = found ∙ position-writable_takes m a n j d layout some e

-- no region takes the range that holds it and isn't writable
pub writable_refused : (m : List Block) (a n i : ℕ) (d : Block) → IsLayout (shapes m) → 0 < n
    → Some i ≡ position (place-spans a n) m → (get_or m i d).writable ≡ false
    → None ≡ position (writable-takes a n) m
writable_refused m a n i d layout some found fixed = by (position (writable-takes a n) m) refl
  where
    by : (o : Option ℕ) → position (writable-takes a n) m ≡ o → None ≡ o
    by None e = refl
    by (Some j) e =
        let same : Some i ≡ Some j = found ∙ position-writable_takes m a n j d layout some e in
        let one : i ≡ j = cc in
        let writes : (get_or m j d).writable ≡ true = (and_parts (get_or m j d).writable
        (place-spans a n (get_or m j d)) (position-Some (writable-takes a n) m j d e).1).0 in
        absurd (let no : true ≡ false = sym writes ∙ (ap (λ k. (get_or m k d).writable) (sym one) ∙ fixed) in cc)

-- nor one where none holds it
pub writable_missing : (m : List Block) (a n : ℕ) → None ≡ position (place-spans a n) m
    → None ≡ position (writable-takes a n) m
writable_missing m a n missing = by (list_any (writable-takes a n) m) refl
  where
    by : (b : Bool) → list_any (writable-takes a n) m ≡ b → None ≡ position (writable-takes a n) m
    by true e =
        let some : list_any (place-spans a n) m ≡ true =
        list_any-weaker (λ (b : Block). Unit {0}) (writable-takes a n) (place-spans a n) m (all_units m)
        (λ b u h. (and_parts b.writable (place-spans a n b) h).1) e in
        absurd (let no : false ≡ true = ap is_some missing ∙ (is_some-position (place-spans a n) m ∙ some) in cc)
    by false e = no_place (position (writable-takes a n) m) (is_some-position (writable-takes a n) m ∙ e)
