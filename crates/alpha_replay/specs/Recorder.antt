-- What looks at the steps of a run, and notes them on a tape.
use Rattle.std.specs.Prelude.{ℕ, Bool, true, false, not, ◌||◌, if◌then◌else◌, List, Option, Some, None}
use Rattle.alpha_words.specs.declared.Completion.{Completion}
use Rattle.alpha_seq.specs.declared.machine.Machine.{Machine}
use Rattle.alpha_seq.specs.declared.event.Event.{Event}
use Rattle.alpha_run.specs.Noted.{noted}
use Rattle.alpha_run.specs.RunEffect.{Watching, watching}
use Rattle.alpha_replay.specs.declared.ending.Ending.{Ending}
use Rattle.alpha_replay.specs.declared.ending.Ending.TheVariants.{Spent}
use Rattle.alpha_replay.specs.declared.journal_end.JournalEnd.{JournalEnd}
use Rattle.alpha_replay.specs.declared.journal_end.JournalEnd.TheVariants as made
use Rattle.alpha_replay.specs.declared.recorder.Recorder.{Recorder}
use Rattle.alpha_replay.specs.GatheredItems.{closed}
use Rattle.alpha_replay.specs.Journal.{parts}
use Rattle.alpha_replay.specs.Replay.{ending_seen}
use Rattle.alpha_replay.specs.BuilderState.{built_by, builder_fits, builder_after, room_of}

-- the lines of overflows alone
abbrev pub lines_recorded : Recorder → Event → Machine → List ℕ
lines_recorded r event m = noted false event m

-- a step that doesn't fit stops the run
abbrev pub is_past : Recorder → Event → Machine → Bool
is_past r event m = not (builder_fits (built_by r.builder event m))

abbrev pub recorded_after : Recorder → Event → Machine → Recorder
recorded_after r event m = record { builder = builder_after r.builder event m; full = r.full || is_past r event m }

abbrev pub room_left : Recorder → ℕ
room_left r = room_of r.builder

-- a barrier that takes and puts nothing is a unit as each step that only goes on
abbrev pub all_barriers : Recorder → Bool
all_barriers r = true

abbrev pub recording : Watching Recorder
recording = watching recorded_after lines_recorded is_past

-- ---- what was made

-- the ending that a journal has of a run with this last step
abbrev pub last_ending : Option Event → Ending
last_ending None = Spent
last_ending (Some event) = ending_seen event

-- what was made of a run, by its last step
abbrev pub outcome : Option Event → Completion → Recorder → JournalEnd
outcome last completion r =
    if r.full then made.Full
    else made.Made last (parts completion (last_ending last) r.builder.taken r.builder.put (closed r.builder.gathered))
