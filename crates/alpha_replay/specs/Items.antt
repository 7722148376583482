-- The items of a journal, and their bytes.
use Rattle.std.specs.Prelude.{◌≡◌, ⊤, ℕ, zero, suc, ◌+◌, ◌<◌, ◌^◌, ◌==◌, Bool, true, false, not, ◌&&◌, nat_le}
use Rattle.std.specs.Prelude.{if◌then◌else◌, List, [], ◌∷◌, length, drop, slice_index, sum_by, Option, Some, None}
use Rattle.std.specs.Prelude.{Result, Ok, Err}
use Rattle.alpha_image.specs.Layout.{quadword, longword}
use Rattle.alpha_image.specs.Reading.{quadword_at, longword_at}
use Rattle.alpha_replay.specs.declared.item.Item.{Item}
use Rattle.alpha_replay.specs.declared.item.Item.TheVariants.{Units, Trigger, Wait, Report}

-- the flag of a Wait
abbrev pub flag : Bool → ℕ
flag false = 0
flag true = 1

-- a kind, and the numbers of the item
abbrev pub item_bytes : Item → List ℕ
item_bytes (Units n) = 0 ∷ longword n
item_bytes (Trigger value) = 1 ∷ quadword value
item_bytes (Wait adds value) = 2 ∷ flag adds ∷ quadword value
item_bytes Report = 3 ∷ []

-- how many bytes that are
abbrev pub item_size : Item → ℕ
item_size (Units n) = 5
item_size (Trigger value) = 9
item_size (Wait adds value) = 10
item_size Report = 1

-- how many units it uses: a trigger is one
abbrev pub item_units : Item → ℕ
item_units (Units n) = n
item_units (Trigger value) = 1
item_units (Wait adds value) = 0
item_units Report = 0

abbrev pub units_of : List Item → ℕ
units_of items = sum_by item_units items

abbrev pub is_units : Item → Bool
is_units (Units n) = true
is_units (Trigger value) = false
is_units (Wait adds value) = false
is_units Report = false

-- a Units stands for at least one step; values are of 64 bits
abbrev pub FitsItem : Item → Type 0
FitsItem (Units n) = (0 < n) × (n < 2 ^ 32)
FitsItem (Trigger value) = value < 2 ^ 64
FitsItem (Wait adds value) = value < 2 ^ 64
FitsItem Report = ⊤

-- No Units follows a Units. The test says whether these items stand behind one.
abbrev pub AreMerged : Bool → List Item → Type 0
AreMerged behind [] = ⊤
AreMerged behind (i ∷ items) = (behind ≡ true → is_units i ≡ false) × AreMerged (is_units i) items

-- The item that bytes begin with, none where it isn't whole or is bad. The test says whether it stands behind a Units.
abbrev pub item_in : Bool → List ℕ → Option Item
item_in behind bytes =
    if length bytes == 0 then None
    else if slice_index bytes 0 == 0 then
    (if not behind && nat_le 5 (length bytes) && not (longword_at 1 bytes == 0) then Some (Units (longword_at 1 bytes))
    else None)
    else if slice_index bytes 0 == 1 then
    (if nat_le 9 (length bytes) then Some (Trigger (quadword_at 1 bytes)) else None)
    else if slice_index bytes 0 == 2 then
    (if nat_le 10 (length bytes) && nat_le (slice_index bytes 1) 1
    then Some (Wait (slice_index bytes 1 == 1) (quadword_at 2 bytes)) else None)
    else if slice_index bytes 0 == 3 then Some Report
    else None

-- items, and the bytes behind them
pub record Parsed : Type 0 where
  pub items : List Item
  pub rest : List ℕ

-- an item before those of an answer
abbrev pub onto : Item → Result Parsed ℕ → Result Parsed ℕ
onto i (Ok p) = Ok (record p { items = i ∷ p.items })
onto i (Err n) = Err n

-- what follows an item, if it is there: it has number n
abbrev pub parsed_then : ℕ → (Item → Result Parsed ℕ) → Option Item → Result Parsed ℕ
parsed_then n rest None = Err n
parsed_then n rest (Some i) = onto i (rest i)

-- So many items from the n-th on, or the number of the first that isn't there. The test says whether they stand behind
-- a Units.
abbrev pub parsed : ℕ → ℕ → Bool → List ℕ → Result Parsed ℕ
parsed zero n behind bytes = Ok (record { items = []; rest = bytes })
parsed (suc count) n behind bytes =
    parsed_then n (λ i. parsed count (n + 1) (is_units i) (drop (item_size i) bytes)) (item_in behind bytes)
