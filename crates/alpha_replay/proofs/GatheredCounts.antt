-- What is gathered of a run, counted.
use Rattle.std.proofs.Common.{◌≡◌, ◌<◌, ◌+◌, ℕ, zero, suc, Bool, false, ◌^◌, List, [], ◌∷◌, ◌++◌, length, All, sym, ◌∙◌}
use Rattle.std.proofs.Common.{arith}
use Rattle.std.proofs.lemmas.List.{length-append}
use Rattle.std.proofs.lemmas.List.Sums.{sum_by-append}
use Rattle.std.proofs.lemmas.List.Elements.{All-append}
use Rattle.alpha_replay.specs.declared.item.Item.{Item}
use Rattle.alpha_replay.specs.declared.item.Item.TheVariants.{Units}
use Rattle.alpha_replay.specs.Items.{item_units, units_of, is_units, FitsItem, AreMerged}
use Rattle.alpha_replay.specs.GatheredItems.{closed_by}

-- the units of items in a row
pub item_units-append : (xs ys : List Item) → units_of (xs ++ ys) ≡ units_of xs + units_of ys
item_units-append xs ys = sum_by-append item_units xs ys

pub units-closed : (items : List Item) (ones : ℕ) → units_of (closed_by items ones) ≡ units_of items + ones
units-closed items zero = omega arith
units-closed items (suc n) = let both = item_units-append items (Units (suc n) ∷ []) in omega (arith, both)

pub length-closed : (items : List Item) (n : ℕ) → 0 < n → length (closed_by items n) ≡ length items + 1
length-closed items zero some = absurd (omega arith)
length-closed items (suc n) some = length-append items (Units (suc n) ∷ [])

-- the items are merged whatever number the last Units has
pub merged_any : (b : Bool) (items : List Item) (n : ℕ) → AreMerged b (items ++ Units 1 ∷ [])
    → AreMerged b (items ++ Units n ∷ [])
merged_any b [] n h = h
merged_any b (i ∷ items) n h = (h.0, merged_any (is_units i) items n h.1)

-- without the last Units too
pub merged_front : (b : Bool) (items : List Item) → AreMerged b (items ++ Units 1 ∷ []) → AreMerged b items
merged_front b [] h = tt
merged_front b (i ∷ items) h = (h.0, merged_front (is_units i) items h.1)

-- an item that is no Units in between
pub merged_item : (b : Bool) (items : List Item) (i : Item) → is_units i ≡ false → AreMerged b items
    → AreMerged b ((items ++ i ∷ []) ++ Units 1 ∷ [])
merged_item b [] i other h = (λ behind. other, (λ behind. (let e = sym other ∙ behind in cc), tt))
merged_item b (j ∷ items) i other h = (h.0, merged_item (is_units j) items i other h.1)

pub merged_closed : (b : Bool) (items : List Item) (ones : ℕ) → AreMerged b (items ++ Units 1 ∷ [])
    → AreMerged b (closed_by items ones)
merged_closed b items zero h = merged_front b items h
merged_closed b items (suc n) h = merged_any b items (suc n) h

one_item : (i : Item) → FitsItem i → All FitsItem (i ∷ [])
one_item i h zero d below = h
one_item i h (suc n) d below = absurd (omega arith)

pub FitsItem-closed_by : (items : List Item) (ones : ℕ) → ones < 2 ^ 32 → All FitsItem items
    → All FitsItem (closed_by items ones)
FitsItem-closed_by items zero low h = h
FitsItem-closed_by items (suc n) low h =
    All-append FitsItem items (Units (suc n) ∷ []) h (one_item (Units (suc n)) (omega arith, low))

pub FitsItem-closed_by_push : (items : List Item) (ones : ℕ) (i : Item) → ones < 2 ^ 32 → All FitsItem items
    → FitsItem i
    → All FitsItem (closed_by items ones ++ i ∷ [])
FitsItem-closed_by_push items ones i low h fits =
    All-append FitsItem (closed_by items ones) (i ∷ []) (FitsItem-closed_by items ones low h) (one_item i fits)
