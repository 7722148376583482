-- What a place knows beside how many words stand before it: a barrier leaves it.
use Rattle.std.proofs.Common.{◌≡◌, ℕ, ◌+◌, List, [], ◌∷◌, ◌++◌, Bool, true, false, cond, ◌&&◌, ◌||◌, nat_eq, Option}
use Rattle.std.proofs.Common.{Some, None, refl, sym, ◌∙◌, ap, arith}
use Rattle.std.specs.Option.{option_map, option_or, unwrap_or}
use Rattle.std.proofs.Math.Bool.{or-false}
use Rattle.alpha_text.specs.Statements.{Stmt}
use Rattle.alpha_text.specs.Reading.{LineStmt}
use Rattle.alpha_image.specs.declared.segment.Segment.{Segment}
use Rattle.alpha_asm.specs.declared.place.Section.{Section}
use Rattle.alpha_asm.specs.declared.place.Section.TheVariants as sections
use Rattle.alpha_asm.specs.declared.place.LabelLocation.{LabelLocation}
use Rattle.alpha_asm.specs.declared.place.LabelLocation.TheVariants.{Code, Data}
use Rattle.alpha_asm.specs.Statement.{cells, code_base_in, data_base_in}
use Rattle.alpha_asm.specs.Layout.{Place, Placed, start, place_after, behind_all, placed, layout, end, first}
use Rattle.alpha_asm.specs.Layout.{location_in}
use Rattle.alpha_asm.specs.Layout.{location, defined_at, has_label, location_of, field, fields}
use Rattle.alpha_asm.specs.Program.{segments_of, based, code_base_of}
use Rattle.alpha_fix.specs.FixedSource.{has_insn, bar_if}
use Rattle.alpha_fix.proofs.FixedItems.{trapb_stmt, trapb_item, fixed_items}

abbrev pub place_core : Place → Place
place_core p = record p { words = 0; begun = false }

pub place_core-place_after : (p q : Place) (s : Stmt) → place_core p ≡ place_core q
    → place_core (place_after p s) ≡ place_core (place_after q s)
place_core-place_after p q s e = ap (λ (c : Place). place_core (place_after c s)) e

-- the segment in hand of a place behind a barrier
same_segment : (s : Segment) (padded : Bool)
    → (let t : Segment =
    record { base = s.base; filled = s.filled + (0 + cond padded 0 0); zeroed = s.zeroed + (0 + cond padded 0 0) } in t)
    ≡ s
same_segment s true =
    let f : s.filled + 0 ≡ s.filled = omega arith in
    let z : s.zeroed + 0 ≡ s.zeroed = omega arith in
    ap (λ (n : ℕ). record s { filled = n; zeroed = s.zeroed + 0 }) f ∙ ap (λ (n : ℕ). record s { zeroed = n }) z
same_segment s false =
    let f : s.filled + 0 ≡ s.filled = omega arith in
    let z : s.zeroed + 0 ≡ s.zeroed = omega arith in
    ap (λ (n : ℕ). record s { filled = n; zeroed = s.zeroed + 0 }) f ∙ ap (λ (n : ℕ). record s { zeroed = n }) z

pub place_core-barrier : (p : Place) → place_core (place_after p trapb_stmt) ≡ place_core p
unfolding cells
place_core-barrier p =
    ap (λ (s : Segment). record (place_core p) { last = s; has_zero = p.has_zero || false })
    (same_segment p.last p.has_zero)
    ∙ ap (λ (z : Bool). record (place_core p) { has_zero = z }) (or-false p.has_zero)

abbrev pub placed_item : Place → ℕ → LineStmt → Placed
placed_item p line i = record { place = p; line = line; item = i }

-- a search of what reads no more of places than their cores, and finds nothing in a barrier
module _ {B : Type 0} (f : Placed → Option B)
    (reads : (p q : Place) (m l : ℕ) (i : LineStmt) → place_core p ≡ place_core q
    → f (placed_item p m i) ≡ f (placed_item q l i))
    (bars : (p : Place) (m : ℕ) → f (placed_item p m trapb_item) ≡ None) where
  skip : (x : Option B) (b : Bool) (is : List LineStmt) (q : Place) (l : ℕ)
      → ((r : Place) (m : ℕ) → place_core r ≡ place_core q → x ≡ first f (placed r m is))
      → x ≡ first f (placed q l (bar_if b trapb_item ++ is))
  skip x false is q l h = h q l refl
  skip x true is q l h =
      h (place_after q trapb_stmt) (l + 1) (place_core-barrier q)
      ∙ sym (ap (λ o. option_or o (first f (placed (place_after q trapb_stmt) (l + 1) is))) (bars q l))

  first_step : (h c m : Bool) (i : LineStmt) (is r1 r2 : List LineStmt) (p q : Place) (n l : ℕ)
      → place_core p ≡ place_core q
      → ((s : Place) (k : ℕ) → place_core (place_after p i.statement) ≡ place_core s
      → first f (placed (place_after p i.statement) (n + 1) is) ≡ first f (placed s k r1))
      → ((s : Place) (k : ℕ) → place_core (place_after p i.statement) ≡ place_core s
      → first f (placed (place_after p i.statement) (n + 1) is) ≡ first f (placed s k r2))
      → first f (placed p n (i ∷ is))
      ≡ first f (placed q l (cond h (bar_if c trapb_item ++ (i ∷ (bar_if m trapb_item ++ r1))) (i ∷ r2)))
  first_step false c m i is r1 r2 p q n l e g h =
      ap (λ o. option_or o (first f (placed (place_after p i.statement) (n + 1) is))) (reads p q n l i e)
      ∙ ap (option_or (f (placed_item q l i)))
      (h (place_after q i.statement) (l + 1) (place_core-place_after p q i.statement e))
  first_step true c m i is r1 r2 p q n l e g h =
      skip (first f (placed p n (i ∷ is))) c (i ∷ (bar_if m trapb_item ++ r1)) q l (λ r k d.
      ap (λ o. option_or o (first f (placed (place_after p i.statement) (n + 1) is))) (reads p r n k i (e ∙ sym d))
      ∙ ap (option_or (f (placed_item r k i)))
      (skip (first f (placed (place_after p i.statement) (n + 1) is)) m r1 (place_after r i.statement) (k + 1)
      (λ s j b. g s j (place_core-place_after p r i.statement (e ∙ sym d) ∙ sym b))))

  pub first_same : (cut : ℕ → Bool) (words k : ℕ) (is : List LineStmt) (p q : Place) (n l : ℕ)
      → place_core p ≡ place_core q
      → first f (placed p n is) ≡ first f (placed q l (fixed_items cut words k is))
  first_same cut words k [] p q n l e = refl
  first_same cut words k (i ∷ is) p q n l e =
      first_step (has_insn i) (cut k) (nat_eq (k + 1) words && cut words) i is (fixed_items cut words (k + 1) is)
      (fixed_items cut words k is) p q n l e
      (λ s j d. first_same cut words (k + 1) is (place_after p i.statement) s (n + 1) j d)
      (λ s j d. first_same cut words k is (place_after p i.statement) s (n + 1) j d)

-- the place behind the last item

skip_end : (x : Place) (b : Bool) (is : List LineStmt) (q : Place)
    → ((r : Place) → place_core r ≡ place_core q → x ≡ place_core (behind_all r is))
    → x ≡ place_core (behind_all q (bar_if b trapb_item ++ is))
skip_end x false is q h = h q refl
skip_end x true is q h = h (place_after q trapb_stmt) (place_core-barrier q)

end_step : (h c m : Bool) (i : LineStmt) (is r1 r2 : List LineStmt) (p q : Place) → place_core p ≡ place_core q
    → ((s : Place) → place_core (place_after p i.statement) ≡ place_core s
    → place_core (behind_all (place_after p i.statement) is) ≡ place_core (behind_all s r1))
    → ((s : Place) → place_core (place_after p i.statement) ≡ place_core s
    → place_core (behind_all (place_after p i.statement) is) ≡ place_core (behind_all s r2))
    → place_core (behind_all p (i ∷ is))
    ≡ place_core (behind_all q (cond h (bar_if c trapb_item ++ (i ∷ (bar_if m trapb_item ++ r1))) (i ∷ r2)))
end_step false c m i is r1 r2 p q e g h = h (place_after q i.statement) (place_core-place_after p q i.statement e)
end_step true c m i is r1 r2 p q e g h =
    skip_end (place_core (behind_all (place_after p i.statement) is)) c (i ∷ (bar_if m trapb_item ++ r1)) q (λ r d.
    skip_end (place_core (behind_all (place_after p i.statement) is)) m r1 (place_after r i.statement)
    (λ s b. g s (place_core-place_after p r i.statement (e ∙ sym d) ∙ sym b)))

end_same : (cut : ℕ → Bool) (words k : ℕ) (is : List LineStmt) (p q : Place) → place_core p ≡ place_core q
    → place_core (behind_all p is) ≡ place_core (behind_all q (fixed_items cut words k is))
end_same cut words k [] p q e = e
end_same cut words k (i ∷ is) p q e =
    end_step (has_insn i) (cut k) (nat_eq (k + 1) words && cut words) i is (fixed_items cut words (k + 1) is)
    (fixed_items cut words k is) p q e
    (λ s d. end_same cut words (k + 1) is (place_after p i.statement) s d)
    (λ s d. end_same cut words k is (place_after p i.statement) s d)

-- where labels are defined, but for how many words stand before them

abbrev pub blur_location : LabelLocation → LabelLocation
blur_location (Code n) = Code 0
blur_location (Data segment offset) = Data segment offset

abbrev pub blurred_location : Option LabelLocation → Option LabelLocation
blurred_location o = option_map blur_location o

location-place_core : (s : Section) (p : Place)
    → blur_location (location_in s p) ≡ blur_location (location_in s (place_core p))
location-place_core sections.Code p = refl
location-place_core sections.Data p = refl

location-same : (p q : Place) → place_core p ≡ place_core q → blur_location (location p) ≡ blur_location (location q)
location-same p q e =
    location-place_core p.section p
    ∙ (ap (λ (c : Place). blur_location (location_in c.section c)) e ∙ sym (location-place_core q.section q))

abbrev blurred_definition : List ℕ → Placed → Option LabelLocation
blurred_definition name x = blurred_location (defined_at name x)

blurred_definition-reads : (name : List ℕ) (p q : Place) (m l : ℕ) (i : LineStmt) → place_core p ≡ place_core q
    → blurred_definition name (placed_item p m i) ≡ blurred_definition name (placed_item q l i)
blurred_definition-reads name p q m l i e = by (has_label name i.label)
  where
    by : (b : Bool)
        → blurred_location (cond b (Some (location p)) None) ≡ blurred_location (cond b (Some (location q)) None)
    by true = ap (λ s. Some s) (location-same p q e)
    by false = refl

blurred_location-or : (a b : Option LabelLocation)
    → blurred_location (option_or a b) ≡ option_or (blurred_location a) (blurred_location b)
blurred_location-or None b = refl
blurred_location-or (Some x) b = refl

blurred_location-first : (f : Placed → Option LabelLocation) (xs : List Placed)
    → blurred_location (first f xs) ≡ first (λ x. blurred_location (f x)) xs
blurred_location-first f [] = refl
blurred_location-first f (x ∷ xs) =
    blurred_location-or (f x) (first f xs) ∙ ap (option_or (blurred_location (f x))) (blurred_location-first f xs)

pub location_of-fixed_items : (cut : ℕ → Bool) (words : ℕ) (is : List LineStmt) (name : List ℕ)
    → blurred_location (location_of (layout is) name)
    ≡ blurred_location (location_of (layout (fixed_items cut words 0 is)) name)
unfolding layout
location_of-fixed_items cut words is name =
    blurred_location-first (defined_at name) (placed start 1 is)
    ∙ (first_same (blurred_definition name) (blurred_definition-reads name)
    (λ p m. refl) cut words 0 is start start 1 1 refl
    ∙ sym (blurred_location-first (defined_at name) (placed start 1 (fixed_items cut words 0 is))))

-- the fields

field_same : {A : Type 0} (value_in : Stmt → Option A) → value_in trapb_stmt ≡ None
    → (cut : ℕ → Bool) (words : ℕ) (is : List LineStmt)
    → field value_in (layout is) ≡ field value_in (layout (fixed_items cut words 0 is))
unfolding layout
field_same value_in none cut words is =
    first_same (λ x. value_in x.item.statement) (λ p q m l i e. refl) (λ p m. none) cut words 0 is start start 1 1 refl

pub code_base_same : (cut : ℕ → Bool) (words : ℕ) (is : List LineStmt)
    → code_base_of (fields (layout is)) ≡ code_base_of (fields (layout (fixed_items cut words 0 is)))
code_base_same cut words is = ap (λ (o : Option ℕ). unwrap_or o 0x10000) (field_same code_base_in refl cut words is)

pub segments_of-fixed_items : (cut : ℕ → Bool) (words : ℕ) (is : List LineStmt)
    → segments_of is ≡ segments_of (fixed_items cut words 0 is)
unfolding segments_of end
segments_of-fixed_items cut words is =
    let e = end_same cut words 0 is start start refl in
    let d = field_same data_base_in refl cut words is in
    ap (λ (o : Option ℕ).
    based (unwrap_or o 0x10000000) ((behind_all start is).earlier ++ (behind_all start is).last ∷ []))
    d
    ∙ ap (λ (p : Place).
    based (unwrap_or (field data_base_in (layout (fixed_items cut words 0 is))) 0x10000000) (p.earlier ++ p.last ∷ []))
    e
