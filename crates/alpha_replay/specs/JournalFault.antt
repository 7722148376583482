-- The first fault of bytes that spell no journal.
use Rattle.std.specs.Prelude.{◌≡◌, ℕ, ◌-◌, ◌==◌, nat_eq, nat_le, nat_lt, List, [], ◌∷◌, length, Option, Some, None}
use Rattle.std.specs.Prelude.{Result, Ok, Err}
use Rattle.std.specs.List.{starts_with}
use Rattle.std.specs.Option.{option_map}
use Rattle.alpha_image.specs.FirstOf.{unless, first_of}
use Rattle.alpha_replay.specs.declared.fault.JournalFault.{JournalFault}
use Rattle.alpha_replay.specs.declared.fault.JournalFault.TheVariants.{Short, Magic, Field, Item, Units, Rest, NoMemory}
use Rattle.alpha_replay.specs.Endings.{unused_are_zero}
use Rattle.alpha_replay.specs.Items.{units_of, Parsed}
use Rattle.alpha_replay.specs.Journal.{Numbers, magic, most_bytes, most_items, most_units}
use Rattle.alpha_replay.specs.Reading.{numbers_in, items_at, items_in}

-- the least number of a bad field
abbrev pub bad_field : Numbers → Option ℕ
bad_field n =
    first_of
    (unless (nat_lt n.completion 3) 1
    ∷ unless (nat_lt n.kind 8) 2
    ∷ unless (unused_are_zero n.kind n.first n.second) 3
    ∷ unless (nat_le n.input most_bytes) 4
    ∷ unless (nat_le n.output most_bytes) 5
    ∷ unless (nat_le n.items most_items) 6
    ∷ [])

-- the fault before the items: too few bytes, another magic, a bad field, or input and output that aren't whole
unfoldable pub header_fault : List ℕ → Option JournalFault
header_fault bytes =
    first_of
    (unless (nat_le 38 (length bytes)) (Short (length bytes))
    ∷ unless (starts_with nat_eq bytes magic) Magic
    ∷ option_map Field (bad_field (numbers_in bytes))
    ∷ unless (nat_le (items_at (numbers_in bytes)) (length bytes)) (Short (length bytes))
    ∷ [])

-- the fault of the items of so many bytes: the first bad one, too many units, or bytes behind them
abbrev pub items_fault : ℕ → Result Parsed ℕ → Option JournalFault
items_fault size (Err n) = Some (Item n)
items_fault size (Ok p) =
    first_of
    (unless (nat_le (units_of p.items) most_units) Units
    ∷ unless (length p.rest == 0) (Rest (size - length p.rest))
    ∷ [])

-- the first fault of bytes
unfoldable pub first_fault : List ℕ → Option JournalFault
first_fault bytes = first_of (header_fault bytes ∷ items_fault (length bytes) (items_in bytes) ∷ [])

-- A refusal is the fault. Memory runs out only where there is no fault.
abbrev pub Refuses : JournalFault → Option JournalFault → Type 0
Refuses NoMemory fault = fault ≡ None
Refuses e fault = fault ≡ Some e

-- there is no fault where the result is `Ok`, and else it is refused for that fault
abbrev pub Tells : {X : Type 0} → Result X JournalFault → Option JournalFault → Type 0
Tells (Ok x) fault = fault ≡ None
Tells (Err e) fault = Refuses e fault
