-- Rows of items: their bytes give them again, and passes over them.
use Rattle.std.proofs.Common.{◌≡◌, ℕ, zero, suc, ◌+◌, ◌-◌, ◌<◌, ◌≤◌, Bool, false, List, [], ◌∷◌, ◌++◌, length, drop}
use Rattle.std.proofs.Common.{Option, Some, None, Result, Ok, Err, refl, sym, ap, ◌∙◌, append_assoc, arith}
use Rattle.std.specs.Prelude.{All}
use Rattle.std.specs.List.{flat_map}
use Rattle.std.proofs.lemmas.List.{append-nil, drop_at, drop-drop, length-drop}
use Rattle.std.proofs.lemmas.List.Elements.{All-head, All-tail, All-nil, All-cons}
use Rattle.alpha_image.proofs.LittleEndianNumbers.{IsBytes, IsBytes-drop}
use Rattle.alpha_replay.specs.declared.item.Item.{Item}
use Rattle.alpha_replay.specs.Items.{item_bytes, item_size, is_units, FitsItem, AreMerged, item_in, Parsed, onto}
use Rattle.alpha_replay.specs.Items.{parsed_then, parsed}
use Rattle.alpha_replay.proofs.ItemBytes.{length-item_bytes, item_in-size, item_in-IsReadItem, item_in-item_bytes}

abbrev parsed_items : List Item → List ℕ → Parsed
parsed_items items rest = record { items = items; rest = rest }

-- the bytes of good items give them again
pub parsed-items : (items : List Item) (rest : List ℕ) (n : ℕ) (behind : Bool)
    → All FitsItem items → AreMerged behind items
    → parsed (length items) n behind (flat_map item_bytes items ++ rest) ≡ Ok (record { items = items; rest = rest })
parsed-items [] rest n behind fits merged = refl
parsed-items (i ∷ items) rest n behind fits merged =
    let more = flat_map item_bytes items ++ rest in
    let at : flat_map item_bytes (i ∷ items) ++ rest ≡ item_bytes i ++ more =
    append_assoc (item_bytes i) (flat_map item_bytes items) rest in
    let next : Item → Result Parsed ℕ =
    λ j. parsed (length items) (n + 1) (is_units j) (drop (item_size j) (item_bytes i ++ more)) in
    ap (λ (t : List ℕ). parsed (suc (length items)) n behind t) at
    ∙ (ap (λ (o : Option Item). parsed_then n next o)
    (item_in-item_bytes behind i more (All-head FitsItem i items fits) merged.0)
    ∙ (ap (λ (t : List ℕ). onto i (parsed (length items) (n + 1) (is_units i) t))
    (drop_at (item_bytes i) more (item_size i) (length-item_bytes i))
    ∙ ap (onto i) (parsed-items items rest (n + 1) (is_units i) (All-tail FitsItem i items fits) merged.1)))

-- what is known of items that bytes give
pub record AreRead (count : ℕ) (behind : Bool) (bytes : List ℕ) (p : Parsed) : Type 0 where
  pub is : bytes ≡ flat_map item_bytes p.items ++ p.rest
  pub fits : All FitsItem p.items
  pub merged : AreMerged behind p.items
  pub all : length p.items ≡ count

-- the first of the items, and the others
record Taken (i : Item) (r : Result Parsed ℕ) (p : Parsed) : Type 0 where
  others : Parsed
  are : r ≡ Ok others
  whole : p ≡ record others { items = i ∷ others.items }

onto-Ok : (i : Item) (r : Result Parsed ℕ) (p : Parsed) → onto i r ≡ Ok p → Taken i r p
onto-Ok i (Ok q) p e = record { others = q; are = refl; whole = cc }
onto-Ok i (Err n) p e = absurd cc

then-Ok : (n : ℕ) (rest : Item → Result Parsed ℕ) (o : Option Item) (p : Parsed) → parsed_then n rest o ≡ Ok p
    → (i : Item) × (o ≡ Some i) × Taken i (rest i) p
then-Ok n rest None p e = absurd cc
then-Ok n rest (Some i) p e = (i, refl, onto-Ok i (rest i) p e)

pub parsed-AreRead : (count n : ℕ) (behind : Bool) (bytes : List ℕ) (p : Parsed) → IsBytes bytes
    → parsed count n behind bytes ≡ Ok p → AreRead count behind bytes p
parsed-AreRead zero n behind bytes p fits e =
    let same : p ≡ parsed_items [] bytes = cc in
    rw same record { is = refl; fits = All-nil FitsItem; merged = tt; all = refl }
parsed-AreRead (suc count) n behind bytes p fits e =
    let t = then-Ok n _ (item_in behind bytes) p e in
    let i = t.0 in
    let q = t.2.others in
    let one = item_in-IsReadItem behind bytes i fits t.1 in
    let later = drop (item_size i) bytes in
    let ih = parsed-AreRead count (n + 1) (is_units i) later q (IsBytes-drop (item_size i) bytes fits) t.2.are in
    rw t.2.whole record {
      is =
          one.is
          ∙ (ap (λ (t : List ℕ). item_bytes i ++ t) ih.is
          ∙ sym (append_assoc (item_bytes i) (flat_map item_bytes q.items) q.rest));
      fits = All-cons FitsItem i q.items one.fits ih.fits;
      merged = (one.merged, ih.merged);
      all = ap suc ih.all;
    }

-- ---- passes

-- items before those of an answer
pub onto_all : List Item → Result Parsed ℕ → Result Parsed ℕ
onto_all items (Ok p) = Ok (record p { items = items ++ p.items })
onto_all items (Err n) = Err n

onto_all-push : (items : List Item) (i : Item) (r : Result Parsed ℕ)
    → onto_all items (onto i r) ≡ onto_all (items ++ i ∷ []) r
unfolding onto_all
onto_all-push items i (Ok p) =
    ap (λ (t : List Item). Ok (parsed_items t p.rest)) (sym (append_assoc items (i ∷ []) p.items))
onto_all-push items i (Err n) = refl

-- a pass that stands behind k of the items
pub record Reading (count : ℕ) (bytes : List ℕ) (k at : ℕ) (behind : Bool) (items : List Item) : Type 0 where
  pub is : parsed count 0 false bytes ≡ onto_all items (parsed (count - k) k behind (drop at bytes))
  pub within : at ≤ length bytes

onto_all-none : (r : Result Parsed ℕ) → r ≡ onto_all [] r
unfolding onto_all
onto_all-none (Ok p) = refl
onto_all-none (Err n) = refl

pub reading_none : (count : ℕ) (bytes : List ℕ) → Reading count bytes 0 0 false []
reading_none count bytes =
    let all : count - 0 ≡ count = omega arith in
    record {
      is = onto_all-none (parsed count 0 false bytes) ∙ ap (λ (m : ℕ). onto_all [] (parsed m 0 false bytes)) (sym all);
      within = omega arith;
    }

-- what is next of a pass
parsed-next : (count : ℕ) (bytes : List ℕ) (k at : ℕ) (behind : Bool) (items : List Item) → k < count
    → Reading count bytes k at behind items
    → parsed count 0 false bytes
    ≡ onto_all items
    (parsed_then k (λ i. parsed (count - (k + 1)) (k + 1) (is_units i) (drop (item_size i) (drop at bytes)))
    (item_in behind (drop at bytes)))
parsed-next count bytes k at behind items lt r =
    let left : count - k ≡ suc (count - (k + 1)) = omega arith in
    r.is ∙ ap (λ (m : ℕ). onto_all items (parsed m k behind (drop at bytes))) left

pub reading_more : (count : ℕ) (bytes : List ℕ) (k at : ℕ) (behind : Bool) (items : List Item) (i : Item)
    → k < count → Reading count bytes k at behind items → item_in behind (drop at bytes) ≡ Some i
    → Reading count bytes (k + 1) (at + item_size i) (is_units i) (items ++ i ∷ [])
reading_more count bytes k at behind items i lt r found =
    let rest : Item → Result Parsed ℕ =
    λ j. parsed (count - (k + 1)) (k + 1) (is_units j) (drop (item_size j) (drop at bytes)) in
    record {
      is = parsed-next count bytes k at behind items lt r
          ∙ (ap (λ (o : Option Item). onto_all items (parsed_then k rest o)) found
          ∙ (ap (λ (t : List ℕ). onto_all items (onto i (parsed (count - (k + 1)) (k + 1) (is_units i) t)))
          (drop-drop (item_size i) at bytes)
          ∙ onto_all-push items i (parsed (count - (k + 1)) (k + 1) (is_units i) (drop (at + item_size i) bytes))));
      within =
          let r_within = r.within in
          omega (arith, item_in-size behind (drop at bytes) i found, length-drop at bytes);
    }

pub reading_stop : (count : ℕ) (bytes : List ℕ) (k at : ℕ) (behind : Bool) (items : List Item) → k < count
    → Reading count bytes k at behind items → item_in behind (drop at bytes) ≡ None → parsed count 0 false bytes ≡ Err k
unfolding onto_all
reading_stop count bytes k at behind items lt r none =
    let rest : Item → Result Parsed ℕ =
    λ j. parsed (count - (k + 1)) (k + 1) (is_units j) (drop (item_size j) (drop at bytes)) in
    parsed-next count bytes k at behind items lt r
    ∙ ap (λ (o : Option Item). onto_all items (parsed_then k rest o)) none

pub reading_all : (count : ℕ) (bytes : List ℕ) (k at : ℕ) (behind : Bool) (items : List Item)
    → count ≤ k → Reading count bytes k at behind items
    → parsed count 0 false bytes ≡ Ok (record { items = items; rest = drop at bytes })
unfolding onto_all
reading_all count bytes k at behind items le r =
    let left : count - k ≡ 0 = omega arith in
    r.is ∙ (ap (λ (m : ℕ). onto_all items (parsed m k behind (drop at bytes))) left
    ∙ ap (λ (t : List Item). Ok (parsed_items t (drop at bytes))) (append-nil items))
