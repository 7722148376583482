-- The labels that the items of a source define and name, as the pass has them.
use Rattle.std.proofs.Common.{◌≡◌, ℕ, Bool, true, false, cond, ◌||◌, ◌&&◌, List, [], ◌∷◌, ◌++◌, map, Option, None, Some}
use Rattle.std.proofs.Common.{Bor, is_some, refl, sym, ap, ◌∙◌}
use Rattle.std.specs.Prelude.{is_none}
use Rattle.std.specs.Option.{option_or}
use Rattle.std.specs.List.{list_any, flat_map, cons_option}
use Rattle.std.specs.List.Sorted.{IsSorted}
use Rattle.std.specs.Ordering.{nat_cmp}
use Rattle.std.specs.Cmp.Lexicographic.{slice_cmp, on_texts, texts_ties}
use Rattle.std.specs.Str.{bytes_eq}
use Rattle.std.proofs.lemmas.List.Kept.{IsStrictlySortedBy-dedup}
use Rattle.std.proofs.lemmas.List.Folds.{list_any-append}
use Rattle.std.proofs.lemmas.Slice.Eq.{bytes_eq-Decides}
use Rattle.alpha_text.specs.Reading.{LineStmt}
use Rattle.alpha_asm.specs.declared.patch.Patch.{Patch}
use Rattle.alpha_asm.specs.declared.place.LabelLocation.{LabelLocation}
use Rattle.alpha_asm.specs.declared.unlinked.Unlinked.{Unlinked}
use Rattle.alpha_asm.specs.Layout.{Placed, layout, location, location_of, has_label}
use Rattle.alpha_asm.specs.Program.{Name, names_in}
use Rattle.alpha_asm.specs.Patches.{Fix, fix_of, fixes}
use Rattle.alpha_asm.specs.Labels.{location_named, are_among}
use Rattle.alpha_asm.specs.Unlinked.{IsUnlinkedOf}
use Rattle.alpha_asm.proofs.FinishedProgram.{names-all}
use Rattle.alpha_link.specs.declared.keyed.KeyedName.{KeyedName}
use Rattle.alpha_link.specs.SortedNames.{Rise}
use Rattle.alpha_link.specs.Made.{labels_in, references_in, all_names}
use Rattle.alpha_link.proofs.DistinctNames.{distinct_names}
use Rattle.alpha_link.proofs.SortedNames.{rising-same_members, any_of-distinct_names}

same_way : (a b : List ℕ) → bytes_eq a b ≡ bytes_eq b a
same_way a b = by (bytes_eq a b) refl (bytes_eq b a) refl
  where
    by : (x : Bool) → bytes_eq a b ≡ x → (y : Bool) → bytes_eq b a ≡ y → x ≡ y
    by true e true f = refl
    by false e false f = refl
    by true e false f =
        let one : a ≡ b = (bytes_eq-Decides a b).0 e in
        let other : bytes_eq b a ≡ true = (bytes_eq-Decides b a).1 (sym one) in
        cc
    by false e true f =
        let one : b ≡ a = (bytes_eq-Decides b a).0 f in
        let other : bytes_eq a b ≡ true = (bytes_eq-Decides a b).1 (sym one) in
        cc

-- a label that items define is among those
defined-list_any : (q : List ℕ) (l : Option (List ℕ)) (s : LabelLocation) (rest : Option LabelLocation)
    (more : List (List ℕ))
    → is_some rest ≡ list_any (bytes_eq q) more
    → is_some (option_or (cond (has_label q l) (Some s) None) rest) ≡ list_any (bytes_eq q) (cons_option l more)
defined-list_any q None s rest more e = e
defined-list_any q (Some l) s rest more e =
    by (bytes_eq l q) refl ∙ ap (λ b. b || list_any (bytes_eq q) more) (same_way l q)
  where
    by : (b : Bool) → bytes_eq l q ≡ b
        → is_some (option_or (cond b (Some s) None) rest) ≡ (b || list_any (bytes_eq q) more)
    by true t = refl
    by false t = e

defined_any : (q : List ℕ) (xs : List Placed) → is_some (location_of xs q) ≡ list_any (bytes_eq q) (labels_in xs)
defined_any q [] = refl
defined_any q (x ∷ xs) =
    defined-list_any q x.item.label (location x.place) (location_of xs q) (labels_in xs) (defined_any q xs)

pub list_any-map_names : {A B : Type 0} (p : B → Bool) (f : A → B) (xs : List A)
    → list_any p (map f xs) ≡ list_any (λ x. p (f x)) xs
list_any-map_names p f [] = refl
list_any-map_names p f (x ∷ xs) = ap (λ b. p (f x) || b) (list_any-map_names p f xs)

named_any : (q : List ℕ) (is : List LineStmt) (ps : List Patch) → map fix_of ps ≡ fixes 0 (layout is)
    → list_any (λ p. bytes_eq q p.to.label.now) ps ≡ list_any (bytes_eq q) (references_in (layout is))
named_any q is ps e =
    let f : Fix → Bool = λ x. bytes_eq q x.name.reference.label in
    let g : Name → Bool = λ x. bytes_eq q x.reference.label in
    sym (list_any-map_names f fix_of ps) ∙ ap (list_any f) e
    ∙ sym (list_any-map_names g (λ (x : Fix). x.name) (fixes 0 (layout is)))
    ∙ ap (list_any g) (names-all 0 (layout is))
    ∙ sym (list_any-map_names (bytes_eq q) (λ (n : Name). n.reference.label) (flat_map names_in (layout is)))

-- beside the labels that are defined, those without a definition are all that are named
undefined_any : (known : List ℕ → Option LabelLocation) (q : List ℕ) (ps : List Patch)
    → (is_some (known q) || list_any (λ p. is_none (known p.to.label.now) && bytes_eq q p.to.label.now) ps)
    ≡ (is_some (known q) || list_any (λ p. bytes_eq q p.to.label.now) ps)
undefined_any known q ps = by (is_some (known q)) refl
  where
    none_here : (o : Option LabelLocation) → is_some o ≡ false → is_none o ≡ true
    none_here None h = refl
    none_here (Some x) h = cc

    one : is_some (known q) ≡ false → (x : List ℕ) (b : Bool) → bytes_eq q x ≡ b → (is_none (known x) && b) ≡ b
    one h x false e = no (is_none (known x))
      where
        no : (a : Bool) → (a && false) ≡ false
        no true = refl
        no false = refl
    one h x true e =
        let same : q ≡ x = (bytes_eq-Decides q x).0 e in
        let none : is_none (known x) ≡ true = none_here (known x) (rw (← same) h) in
        rw none refl

    all : is_some (known q) ≡ false → (xs : List Patch)
        → list_any (λ p. is_none (known p.to.label.now) && bytes_eq q p.to.label.now) xs
        ≡ list_any (λ p. bytes_eq q p.to.label.now) xs
    all h [] = refl
    all h (x ∷ xs) =
        ap (λ b. b || list_any (λ p. is_none (known p.to.label.now) && bytes_eq q p.to.label.now) xs)
        (one h x.to.label.now (bytes_eq q x.to.label.now) refl)
        ∙ ap (λ b. bytes_eq q x.to.label.now || b) (all h xs)

    by : (b : Bool) → is_some (known q) ≡ b
        → (b || list_any (λ p. is_none (known p.to.label.now) && bytes_eq q p.to.label.now) ps)
        ≡ (b || list_any (λ p. bytes_eq q p.to.label.now) ps)
    by true e = refl
    by false e = all e ps

-- the names that were sorted are those that the items define or name
pub names_among : (is : List LineStmt) (u : Unlinked) (numbered sorted : List (Bor (List ℕ))) → IsUnlinkedOf is u
    → ((q : List ℕ) → are_among numbered q ≡ (is_some (location_named u.labels q)
    || list_any (λ p. is_none (location_named u.labels p.to.label.now) && bytes_eq q p.to.label.now) u.patches.items))
    → ((q : List ℕ) → are_among sorted q ≡ are_among numbered q) → (q : List ℕ)
    → are_among sorted q ≡ list_any (bytes_eq q) (labels_in (layout is) ++ references_in (layout is))
names_among is u numbered sorted makes all same q =
    same q ∙ all q
    ∙ undefined_any (location_named u.labels) q u.patches.items
    ∙ ap (λ b. b || list_any (λ p. bytes_eq q p.to.label.now) u.patches.items)
    (ap is_some (makes.labels q) ∙ defined_any q (layout is))
    ∙ ap (λ b. list_any (bytes_eq q) (labels_in (layout is)) || b) (named_any q is u.patches.items makes.patches)
    ∙ sym (list_any-append (bytes_eq q) (labels_in (layout is)) (references_in (layout is)))

pub names_are : (is : List LineStmt) (new : List (Bor (List ℕ))) → Rise new
    → ((q : List ℕ) → are_among new q ≡ list_any (bytes_eq q) (labels_in (layout is) ++ references_in (layout is)))
    → map (λ n. n.now) new ≡ all_names is
unfolding all_names
names_are is new rise among = rising-same_members new (labels_in (layout is) ++ references_in (layout is)) rise among

-- sorted names rise without their repetitions
pub sorted_rise : (ks : List KeyedName) → IsSorted (λ a b. slice_cmp nat_cmp a.now b.now) (map (λ k. k.name) ks)
    → Rise (distinct_names (map (λ k. k.name) ks))
sorted_rise ks sorted = IsStrictlySortedBy-dedup (on_texts (λ x. x.now)) (λ x y. texts_ties x.now y.now) _ sorted

-- and have the same members
pub sorted_among : (ks : List KeyedName) (names : List (Bor (List ℕ)))
    → ((q : List ℕ) → list_any (λ k. bytes_eq q k.name.now) ks ≡ are_among names q) → (q : List ℕ)
    → are_among (distinct_names (map (λ k. k.name) ks)) q ≡ are_among names q
sorted_among ks names same q =
    any_of-distinct_names q (map (λ (k : KeyedName). k.name) ks)
    ∙ (list_any-map_names (λ (n : Bor (List ℕ)). bytes_eq q n.now) (λ (k : KeyedName). k.name) ks ∙ same q)
