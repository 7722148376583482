-- What is gathered of a run so far, and what a step adds to it.
use Rattle.std.specs.Prelude.{◌≡◌, ℕ, ◌+◌, ◌-◌, ◌==◌, ◌≤◌, ◌&&◌, Bool, false, nat_le, if◌then◌else◌, List, [], ◌∷◌}
use Rattle.std.specs.Prelude.{◌++◌, length, vec_capacity, All}
use Rattle.alpha_image.specs.Parts.{IsByte}
use Rattle.alpha_seq.specs.declared.machine.Machine.{Machine}
use Rattle.alpha_seq.specs.declared.event.Event.{Event}
use Rattle.alpha_replay.specs.declared.item.Item.TheVariants.{Units}
use Rattle.alpha_replay.specs.declared.journal_builder.JournalBuilder.TheInside.{Inside}
use Rattle.alpha_replay.specs.Items.{units_of, FitsItem, AreMerged}
use Rattle.alpha_replay.specs.Journal.{most_bytes, most_items, most_units}
use Rattle.alpha_replay.specs.Events.{move_by, took_by, put_by}
use Rattle.alpha_replay.specs.GatheredItems.{GatheredItems, closed, gathered_by}

-- the bytes taken, the bytes put, and the moves
pub record BuilderState : Type 0 where
  pub taken : List ℕ
  pub put : List ℕ
  pub gathered : GatheredItems

abbrev pub builder_state : List ℕ → List ℕ → GatheredItems → BuilderState
builder_state taken put gathered = record { taken = taken; put = put; gathered = gathered }

-- whether moves have no more items and units than a journal may have
abbrev pub has_room : GatheredItems → Bool
has_room k = nat_le (length (closed k)) most_items && nat_le (units_of (closed k)) most_units

-- whether all is no more than a journal may have
abbrev pub builder_fits : BuilderState → Bool
builder_fits t = nat_le (length t.taken) most_bytes && nat_le (length t.put) most_bytes && has_room t.gathered

-- ---- one step more

-- with what a step took, what it put and its move
abbrev pub built_by : BuilderState → Event → Machine → BuilderState
built_by t event m =
    builder_state (t.taken ++ took_by event m.memory) (t.put ++ put_by event m.memory)
    (gathered_by t.gathered (move_by event))

-- bytes more, where they are no more than a journal may have
abbrev pub bytes_kept : List ℕ → List ℕ → List ℕ
bytes_kept l more = if nat_le (length (l ++ more)) most_bytes then l ++ more else l

-- and moves
abbrev pub kept : GatheredItems → GatheredItems → GatheredItems
kept k more = if has_room more then more else k

-- the same, but for what doesn't fit
abbrev pub builder_after : BuilderState → Event → Machine → BuilderState
builder_after t event m =
    builder_state (bytes_kept t.taken (took_by event m.memory)) (bytes_kept t.put (put_by event m.memory))
    (kept t.gathered (gathered_by t.gathered (move_by event)))

-- so many more steps with nothing pending that don't overflow
abbrev pub with_ones : GatheredItems → ℕ → GatheredItems
with_ones k n = record k { ones = k.ones + n }

abbrev pub builder_ones : BuilderState → ℕ → BuilderState
builder_ones t n = record t { gathered = with_ones t.gathered n }

-- how many more there may be
abbrev pub room_of : BuilderState → ℕ
room_of t =
    if t.gathered.ones == 0 && length t.gathered.items == most_items then 0
    else most_units - units_of (closed t.gathered)

-- ---- in the code

abbrev pub builder_in : Inside → BuilderState
builder_in t = builder_state t.input.items t.output.items (record { items = t.items.items; ones = t.ones })

-- Within the limits, and with room for what they allow.
pub record IsBuilder (t : Inside) : Type 0 where
  pub input : length t.input.items ≤ most_bytes
  pub output : length t.output.items ≤ most_bytes
  pub items : length (closed (builder_in t).gathered) ≤ most_items
  pub few : t.units ≤ most_units
  pub units : t.units ≡ units_of (closed (builder_in t).gathered)
  pub taken : All IsByte t.input.items
  pub written : All IsByte t.output.items
  pub takes : most_bytes ≤ vec_capacity t.input
  pub puts : most_bytes ≤ vec_capacity t.output
  pub holds : most_items ≤ vec_capacity t.items
  pub fits : All FitsItem t.items.items
  pub merged : AreMerged false (t.items.items ++ Units 1 ∷ [])
