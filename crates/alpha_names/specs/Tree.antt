-- What a search in a tree of slots finds. A tree is a slot at each place, most of which are free.
use Rattle.std.specs.Prelude.{◌≡◌, ℕ, zero, suc, ◌+◌, ◌-◌, ◌*◌, ◌/◌, ◌%◌, ◌^◌, ◌<◌, List, slice_index_or, nat_eq, false}
use Rattle.std.specs.Prelude.{if◌then◌else◌}
use Rattle.alpha_names.specs.declared.tree.Entry.{Entry}
use Rattle.alpha_names.specs.declared.tree.Slot.{Slot}
use Rattle.alpha_names.specs.declared.tree.Tree.{Tree}
use Rattle.alpha_names.specs.declared.tree.Look.{Look}
use Rattle.alpha_names.specs.declared.tree.Look.TheVariants.{Free, Taken, Deep}

abbrev pub free : Slot
free = record { mark = 0; number = 0; below = 0 }

abbrev pub none : Entry
none = record { mark = 0; next = 0 }

-- The slot that an entry stands for, which holds one more than the number: the slots below it have their places by the
-- number.
abbrev pub slot_of : Entry → Slot
slot_of entry =
    if nat_eq entry.next 0 then free
    else record { mark = entry.mark; number = entry.next - 1; below = 4096 + 2 * (entry.next - 1) }

abbrev pub slot_at : List Entry → ℕ → Slot
slot_at entries place = slot_of (slice_index_or entries place none)

abbrev pub slot_in : Tree → ℕ → Slot
slot_in tree place = slot_at tree.entries.items place

-- what is found at a slot, or else further down
abbrev pub met : Slot → ℕ → ℕ → Look → Look
met slot mark place further =
    if nat_eq slot.below 0 then Free place else (if nat_eq slot.mark mark then Taken slot.number else further)

-- what is found at the slot at a place and below it, in so many levels
unfoldable pub seek : (ℕ → Slot) → ℕ → ℕ → ℕ → ℕ → Look
seek slot mark zero path place = Deep
seek slot mark (suc levels) path place =
    met (slot place) mark place (seek slot mark levels (path / 2) ((slot place).below + path % 2))

unfoldable pub seek_in : (ℕ → Slot) → ℕ → Look
seek_in slot hash = seek slot (hash % 2 ^ 32) 20 (hash / 2 ^ 32) (hash / 2 ^ 52)

-- the place that was found is one of a list
abbrev pub IsNear : Look → Type 0
IsNear (Free place) = place < 2 ^ 63
IsNear (Taken number) = Unit {0}
IsNear Deep = Unit {0}

-- a slot has the mark of a hash and a number, and isn't free
abbrev pub HasNumber : Slot → ℕ → ℕ → Type 0
HasNumber slot hash number = (slot.mark ≡ hash % 2 ^ 32) × (slot.number ≡ number) × (0 < slot.below)

-- the slot at a place has become that of a number, and no other one has changed
abbrev pub Fills : ℕ → ℕ → ℕ → (ℕ → Slot) → (ℕ → Slot) → Type 0
Fills place hash number old new =
    HasNumber (new place) hash number × ((other : ℕ) → nat_eq other place ≡ false → new other ≡ old other)
