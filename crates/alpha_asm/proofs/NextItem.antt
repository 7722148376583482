-- One item more: the layout, and the state of the pass.
use Rattle.std.proofs.Common.{◌≡◌, ℕ, ◌+◌, ◌-◌, List, [], ◌∷◌, ◌++◌, length, replicate, sum_by, Bool, true, false, cond}
use Rattle.std.proofs.Common.{Option, None, Some, is_some, refl, sym, ◌∙◌, ap, append_assoc, length-append, arith}
use Rattle.std.specs.Option.{option_or}
use Rattle.std.specs.List.{flat_map}
use Rattle.std.specs.Str.{bytes_eq}
use Rattle.std.proofs.lemmas.List.{append-nil, length-replicate}
use Rattle.std.proofs.lemmas.List.Sums.{sum_by-cons}
use Rattle.std.proofs.lemmas.Slice.Eq.{bytes_eq-Decides}
use Rattle.alpha_text.specs.Reading.{LineStmt}
use Rattle.alpha_asm.specs.declared.place.LabelLocation.{LabelLocation}
use Rattle.alpha_asm.specs.declared.pass.Pass.{Pass}
use Rattle.alpha_asm.specs.Statement.{Cell, cell_size, cells, data_size}
use Rattle.alpha_asm.specs.Layout.{Place, Placed, fields, placed, layout, start, place_after, behind_all, end, location}
use Rattle.alpha_asm.specs.Layout.{location_of, defined_at, has_label, first, filled_pad, with_fields, is_misplaced}
use Rattle.alpha_asm.specs.Layout.{repeats_label}
use Rattle.alpha_asm.specs.Patches.{raw_insns, raw_cell, raw_cells, raw_bytes, fixes, fixes_in}
use Rattle.alpha_asm.specs.Pass.{place_of, location_at, with_label, here, AddsItem, PassSimulates}
use Rattle.alpha_asm.proofs.DataValues.{length-raw_cell}
use Rattle.alpha_asm.proofs.SoundPlaces.{sound-place_after}
use Rattle.alpha_asm.proofs.Levels.{leveled-place_after}

abbrev pub item_behind : List LineStmt → LineStmt → Placed
item_behind is i = record { place = end is; line = length is + 1; item = i }

behind_all-snoc : (p : Place) (is : List LineStmt) (i : LineStmt)
    → behind_all p (is ++ i ∷ []) ≡ place_after (behind_all p is) i.statement
behind_all-snoc p [] i = refl
behind_all-snoc p (j ∷ is) i = behind_all-snoc (place_after p j.statement) is i

placed-snoc : (p : Place) (n m : ℕ) (is : List LineStmt) (i : LineStmt) → m ≡ n + length is
    → placed p n (is ++ i ∷ []) ≡ placed p n is ++ record { place = behind_all p is; line = m; item = i } ∷ []
placed-snoc p n m [] i e =
    let k : n ≡ m = omega arith in
    ap (λ (l : ℕ). record { place = p; line = l; item = i } ∷ []) k
placed-snoc p n m (j ∷ is) i e =
    ap (λ xs. record { place = p; line = n; item = j } ∷ xs)
    (placed-snoc (place_after p j.statement) (n + 1) m is i (omega arith))

pub end-snoc : (is : List LineStmt) (i : LineStmt) → end (is ++ i ∷ []) ≡ place_after (end is) i.statement
unfolding end
end-snoc is i = behind_all-snoc start is i

pub layout-snoc : (is : List LineStmt) (i : LineStmt) → layout (is ++ i ∷ []) ≡ layout is ++ item_behind is i ∷ []
unfolding layout end
layout-snoc is i = placed-snoc start 1 (length is + 1) is i (omega arith)

pub flat_map-snoc : {A B : Type 0} (f : A → List B) (xs : List A) (x : A)
    → flat_map f (xs ++ x ∷ []) ≡ flat_map f xs ++ f x
flat_map-snoc f [] x = append-nil (f x)
flat_map-snoc f (y ∷ xs) x = ap (λ l. f y ++ l) (flat_map-snoc f xs x) ∙ sym (append_assoc (f y) (flat_map f xs) (f x))

option_or-assoc : {A : Type 0} (o p q : Option A) → option_or o (option_or p q) ≡ option_or (option_or o p) q
option_or-assoc None p q = refl
option_or-assoc (Some x) p q = refl

pub or_none-identity : {A : Type 0} (o : Option A) → option_or o None ≡ o
or_none-identity None = refl
or_none-identity (Some x) = refl

pub first-snoc : {A B : Type 0} (f : A → Option B) (xs : List A) (x : A)
    → first f (xs ++ x ∷ []) ≡ option_or (first f xs) (f x)
first-snoc f [] x = or_none-identity (f x)
first-snoc f (y ∷ xs) x = ap (option_or (f y)) (first-snoc f xs x) ∙ option_or-assoc (f y) (first f xs) (f x)

length-raw_cells : (cs : List Cell) → length (raw_cells cs) ≡ sum_by cell_size cs
length-raw_cells [] = refl
length-raw_cells (c ∷ cs) =
    length-append (raw_cell c) (raw_cells cs)
    ∙ (ap (λ n. n + length (raw_cells cs)) (length-raw_cell c)
    ∙ (ap (λ n. cell_size c + n) (length-raw_cells cs) ∙ sym (sum_by-cons cell_size c cs)))

pub length-raw_bytes : (x : Placed)
    → length (raw_bytes x) ≡ data_size x.item.statement + filled_pad x.place x.item.statement
length-raw_bytes x =
    let cs : List Cell = cells x.item.statement in
    let n : ℕ = filled_pad x.place x.item.statement in
    let zeros : List ℕ = replicate n 0 in
    length-append (raw_cells cs) zeros
    ∙ (ap (λ m. m + length zeros) (length-raw_cells cs)
    ∙ ap (λ m. sum_by cell_size cs + m) (length-replicate {A = ℕ} n 0))

pub fixes-snoc : (at : ℕ) (xs : List Placed) (x : Placed)
    → fixes at (xs ++ x ∷ []) ≡ fixes at xs ++ fixes_in (at + length (flat_map raw_bytes xs)) x
fixes-snoc at [] x = let z : at ≡ at + 0 = omega arith in append-nil (fixes_in at x) ∙ ap (λ n. fixes_in n x) z
fixes-snoc at (y ∷ xs) x =
    let next : ℕ = at + (data_size y.item.statement + filled_pad y.place y.item.statement) in
    let size : next + length (flat_map raw_bytes xs) ≡ at + length (raw_bytes y ++ flat_map raw_bytes xs) =
    omega (arith, length-append (raw_bytes y) (flat_map raw_bytes xs), length-raw_bytes y) in
    ap (λ l. fixes_in at y ++ l) (fixes-snoc next xs x ∙ ap (λ n. fixes next xs ++ fixes_in n x) size)
    ∙ sym
    (append_assoc (fixes_in at y) (fixes next xs) (fixes_in (at + length (raw_bytes y ++ flat_map raw_bytes xs)) x))

fields-snoc : (xs : List Placed) (x : Placed) → fields (xs ++ x ∷ []) ≡ with_fields (fields xs) x.item.statement
fields-snoc xs x = simp first-snoc

is_none-from : {A : Type 0} (o : Option A) → is_some o ≡ false → o ≡ None
is_none-from None h = refl
is_none-from (Some x) h = cc

-- a label that is new
labels-snoc : (spots : List ℕ → Option LabelLocation) (xs : List Placed)
    (l : Option (List ℕ)) (here : LabelLocation) (name : List ℕ)
    → ((n : List ℕ) → spots n ≡ location_of xs n) → repeats_label spots l ≡ false
    → with_label spots l here name ≡ option_or (location_of xs name) (cond (has_label name l) (Some here) None)
labels-snoc spots xs None here name same new = same name ∙ sym (or_none-identity (location_of xs name))
labels-snoc spots xs (Some label) here name same new = by (bytes_eq label name) refl
  where
    by : (t : Bool) → bytes_eq label name ≡ t
        → cond t (Some here) (spots name) ≡ option_or (location_of xs name) (cond t (Some here) None)
    by true e =
        let n : label ≡ name = (bytes_eq-Decides label name).0 e in
        let none : location_of xs name ≡ None = sym (same name) ∙ (ap spots (sym n) ∙ is_none-from (spots label) new) in
        rw none refl
    by false e = same name ∙ sym (or_none-identity (location_of xs name))

-- the item as it stands here is the next one of the layout
same_item : (is : List LineStmt) (i : LineStmt) (p : Pass) → PassSimulates is p → here p i ≡ item_behind is i
same_item is i p s =
    ap (λ q. record { place = q; line = p.line + 1; item = i }) s.place
    ∙ ap (λ (n : ℕ). record { place = end is; line = n + 1; item = i }) s.line

pub PassSimulates-item : (is : List LineStmt) (i : LineStmt) (old new : Pass) → PassSimulates is old
    → is_misplaced (place_of old) i.statement ≡ false → repeats_label (location_at old) i.label ≡ false
    → AddsItem i old new
    → PassSimulates (is ++ i ∷ []) new
PassSimulates-item is i old new s placed_so fresh a = record {
  line = a.statement.line ∙ omega (arith, s.line, length-append is (i ∷ []));
  place = a.statement.place ∙ (ap (λ p. place_after p i.statement) s.place ∙ sym (end-snoc is i));
  code =
      a.statement.code
      ∙ (ap (λ c. c ++ raw_insns i.statement) s.code
      ∙ sym (ap (flat_map (λ x. raw_insns x.item.statement)) (layout-snoc is i)
      ∙ flat_map-snoc (λ x. raw_insns x.item.statement) (layout is) (item_behind is i)));
  bytes =
      a.statement.bytes
      ∙ (ap (λ b. b ++ raw_bytes (here old i)) s.bytes
      ∙ (ap (λ x. flat_map raw_bytes (layout is) ++ raw_bytes x) (same_item is i old s)
      ∙ sym (ap (flat_map raw_bytes) (layout-snoc is i) ∙ flat_map-snoc raw_bytes (layout is) (item_behind is i))));
  patches = a.statement.patches ∙ (ap (λ f. f ++ fixes_in (length old.output.bytes.items) (here old i)) s.patches
      ∙ (ap (λ x. fixes 0 (layout is) ++ fixes_in (length old.output.bytes.items) x) (same_item is i old s)
      ∙ (ap (λ b. fixes 0 (layout is) ++ fixes_in (length b) (item_behind is i)) s.bytes
      ∙ sym (ap (fixes 0) (layout-snoc is i) ∙ (fixes-snoc 0 (layout is) (item_behind is i)
      ∙ ap (λ n. fixes 0 (layout is) ++ fixes_in n (item_behind is i)) (omega arith))))));
  labels =
      λ name. a.labels name
      ∙ (labels-snoc (location_at old) (layout is) i.label (location (place_of old)) name s.labels fresh
      ∙ (ap (λ p. option_or (location_of (layout is) name) (cond (has_label name i.label) (Some (location p)) None))
      s.place
      ∙ sym
      (ap (λ xs. location_of xs name) (layout-snoc is i)
      ∙ first-snoc (defined_at name) (layout is) (item_behind is i))));
  sound =
      let size : length new.output.bytes.items
      ≡ length old.output.bytes.items + (data_size i.statement + filled_pad (place_of old) i.statement) =
      ap length a.statement.bytes ∙ (length-append old.output.bytes.items (raw_bytes (here old i))
      ∙ ap (λ n. length old.output.bytes.items + n) (length-raw_bytes (here old i))) in
      rw (a.statement.place, size)
      (sound-place_after (place_of old) (length old.output.bytes.items) i.statement placed_so s.sound);
  leveled =
      rw (a.statement.place, a.statement.code)
      (leveled-place_after (place_of old) old.output.code.items i.statement placed_so s.leveled);
  fields =
      a.statement.fields
      ∙ (ap (λ f. with_fields f i.statement) s.fields
      ∙ sym (ap fields (layout-snoc is i) ∙ fields-snoc (layout is) (item_behind is i)));
}

-- how many data bytes were added
pub raw_cells-added_length : (old middle new : List ℕ) (cs : List Cell) (n m a b : ℕ) → middle ≡ old ++ raw_cells cs
    → new ≡ middle ++ replicate n 0 → a ≡ length new → b ≡ length old → n ≡ m → a - b ≡ sum_by cell_size cs + m
raw_cells-added_length old middle new cs n m a b e f g h k =
    let x : length middle ≡ length old + sum_by cell_size cs =
    ap length e ∙ (length-append old (raw_cells cs) ∙ ap (λ l. length old + l) (length-raw_cells cs)) in
    let zeros : List ℕ = replicate n 0 in
    let y : length new ≡ length middle + n =
    ap length f ∙ (length-append middle zeros ∙ ap (λ l. length middle + l) (length-replicate {A = ℕ} n 0)) in
    omega arith
