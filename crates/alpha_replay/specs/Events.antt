-- What a journal has of a step: by the definition, and by how the code says that it went and by the memory behind it,
-- in which the bytes stand that it took and put.
use Rattle.std.specs.Prelude.{ℕ, if◌then◌else◌, List, []}
use Rattle.alpha_mem.specs.Block.{Block, shapes, within}
use Rattle.alpha_mem.specs.Intent.{Load}
use Rattle.alpha_mem.specs.Memory.{bytes_at}
use Rattle.alpha_pal.specs.declared.pal_end.Passed.TheVariants.{Took, Put}
use Rattle.alpha_seq.specs.declared.end.End.TheVariants as ends
use Rattle.alpha_seq.specs.declared.event.Event.{Event}
use Rattle.alpha_seq.specs.declared.event.Event.TheVariants as events
use Rattle.alpha_seq.specs.State.{Ends}
use Rattle.alpha_imprecise.specs.StepResult.{ImpreciseEvent, Precisely, Triggered, Waited, Reported, Lost}
use Rattle.alpha_replay.specs.declared.moves.Move.{Move}
use Rattle.alpha_replay.specs.declared.moves.Move.TheVariants.{One, Trips, Waits, Reports}

-- the move that a step was; only a report stops the program at an overflow
abbrev pub move_of : ImpreciseEvent → Move
move_of (Precisely (Ends (ends.Overflow at))) = Reports
move_of (Precisely event) = One
move_of (Triggered value) = Trips value
move_of (Waited adds value bytes) = Waits adds value
move_of (Reported at) = Reports
move_of (Lost pc mask) = Reports

-- by how the code says that it went
abbrev pub move_by : Event → Move
move_by events.Went = One
move_by (events.Barrier passed) = One
move_by (events.Overflowed at) = One
move_by (events.Triggered value) = Trips value
move_by (events.Waited w) = Waits w.adds w.value
move_by (events.Reported at) = Reports
move_by (events.Ended (ends.Overflow at)) = Reports
move_by (events.Ended end) = One
move_by (events.Lost pc mask) = Reports

-- the bytes of a range, none where it doesn't lie within one region
abbrev pub bytes_in : List Block → ℕ → ℕ → List ℕ
bytes_in mem addr len = if within (shapes mem) Load addr len then bytes_at mem addr len else []

-- what it took
abbrev pub took_by : Event → List Block → List ℕ
took_by (events.Barrier (Took addr len)) mem = bytes_in mem addr len
took_by _ mem = []

-- what it put
abbrev pub put_by : Event → List Block → List ℕ
put_by (events.Barrier (Put addr len)) mem = bytes_in mem addr len
put_by _ mem = []
