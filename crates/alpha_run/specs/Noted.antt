-- The lines that are written of a step.
use Rattle.std.specs.Prelude.{ℕ, ◌-◌, ◌^◌, Bool, false, not, List, [], if◌then◌else◌}
use Rattle.alpha_seq.specs.declared.machine.Machine.{Machine}
use Rattle.alpha_seq.specs.Notes.{overflow_line, barrier_lines}
use Rattle.alpha_seq.specs.declared.event.Event.{Event}
use Rattle.alpha_seq.specs.declared.event.Event.TheVariants as events
use Rattle.alpha_run.specs.declared.notes.Notes.{Notes}

-- the line of an overflow that was logged, and those of a barrier that is watched
abbrev pub noted : Bool → Event → Machine → List ℕ
noted watch events.Went m = []
noted watch (events.Barrier passed) m = if watch then barrier_lines m.pc m.regs else []
noted watch (events.Overflowed at) m = overflow_line at
noted watch (events.Triggered value) m = []
noted watch (events.Waited wait) m = []
noted watch (events.Reported at) m = overflow_line at
noted watch (events.Ended end) m = []
noted watch (events.Lost pc mask) m = []

-- the observer that writes them
abbrev pub lines_of : Notes → Event → Machine → List ℕ
lines_of o event m = noted o.watch event m

abbrev pub stays : Notes → Event → Machine → Notes
stays o event m = o

abbrev pub never : Notes → Event → Machine → Bool
never o event m = false

-- a step that only goes on has no line, so that as many as there may be are passed over
abbrev pub endless : Notes → ℕ
endless o = 2 ^ 64 - 1

-- nor has a barrier that isn't watched
abbrev pub passes_unwatched : Notes → Bool
passes_unwatched o = not o.watch
