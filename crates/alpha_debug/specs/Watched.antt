-- What a watcher makes of each step of a walk.
use Rattle.std.specs.Prelude.{ℕ, ◌-◌, ◌^◌, ◌==◌, ◌||◌, Bool, true, false, if◌then◌else◌, List, [], length, Option}
use Rattle.std.specs.Prelude.{Some, None}
use Rattle.alpha_mem.specs.Block.{Block, shapes, within}
use Rattle.alpha_mem.specs.Intent.{Load}
use Rattle.alpha_mem.specs.Memory.{bytes_at}
use Rattle.alpha_pal.specs.declared.pal_end.Passed.TheVariants.{Put}
use Rattle.alpha_seq.specs.declared.machine.Machine.{Machine}
use Rattle.alpha_seq.specs.declared.event.Event.{Event as SeenEvent}
use Rattle.alpha_seq.specs.declared.event.Event.TheVariants as events
use Rattle.alpha_seq.specs.declared.end.End.{End}
use Rattle.alpha_run.specs.RunEffect.{Watching, watching}
use Rattle.alpha_debug.specs.declared.watcher.Until.{Until}
use Rattle.alpha_debug.specs.declared.watcher.Until.TheVariants as until
use Rattle.alpha_debug.specs.declared.watcher.Watcher.{Watcher}
use Rattle.alpha_debug.specs.OutputChange.{put_for, waits_for}
use Rattle.alpha_debug.specs.Session.{is_reached}

-- ---- a step

-- whether it was a barrier, by how the machine says that it went
abbrev pub was_barrier : SeenEvent → Bool
was_barrier (events.Barrier passed) = true
was_barrier event = false

-- whether it put something
abbrev pub was_put : SeenEvent → Bool
was_put (events.Barrier (Put addr len)) = true
was_put event = false

-- how the program ended, by the last step
abbrev pub end_by : Option SeenEvent → Option End
end_by None = None
end_by (Some (events.Ended end)) = Some end
end_by (Some _) = None

-- What is put behind a step, where what the step put doesn't fit behind what waits. It stands in memory behind the
-- step.
abbrev pub put_behind : List ℕ → SeenEvent → List Block → List ℕ
put_behind waits (events.Barrier (Put addr len)) mem =
    if within (shapes mem) Load addr len then put_for waits (bytes_at mem addr len) else []
put_behind waits event mem = []

-- what waits then
abbrev pub waits_behind : List ℕ → SeenEvent → List Block → List ℕ
waits_behind waits (events.Barrier (Put addr len)) mem =
    if within (shapes mem) Load addr len then waits_for waits (bytes_at mem addr len) else waits
waits_behind waits event mem = waits

-- ---- the watcher

abbrev pub watched_lines : Watcher → SeenEvent → Machine → List ℕ
watched_lines w event m = put_behind w.block event m.memory

abbrev pub watched_after : Watcher → SeenEvent → Machine → Watcher
watched_after w event m =
    record w { block = waits_behind w.block event m.memory; has_put = was_put event || w.has_put }

-- whether the step is the one that is wanted
abbrev pub watched_stops : Watcher → SeenEvent → Machine → Bool
watched_stops w event m = is_reached w.until w.points.items (was_barrier event) m.pc

abbrev pub all_steps : ℕ
all_steps = 2 ^ 64 - 1

-- a step that only goes on is passed over, unless there is a breakpoint that it may lead to
abbrev pub room_for : Until → List ℕ → ℕ
room_for until.Spent points = all_steps
room_for until.Breakpoint points = if length points == 0 then all_steps else 0
room_for until.Barrier points = all_steps

abbrev pub watched_room : Watcher → ℕ
watched_room w = room_for w.until w.points.items

-- it is shown each barrier
abbrev pub no_barriers : Watcher → Bool
no_barriers w = false

abbrev pub watches : Watching Watcher
watches = watching watched_after watched_lines watched_stops
