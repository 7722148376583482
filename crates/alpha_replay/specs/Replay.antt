-- What the replay of a journal answers.
use Rattle.std.specs.Prelude.{◌≡◌, ⊤, ℕ, ◌==◌, Bool, false, ◌&&◌, ◌||◌, List, [], ◌∷◌, length, sum_by, Option, Some}
use Rattle.std.specs.Prelude.{None, is_none, Result, Ok, Err}
use Rattle.std.specs.Option.{option_map}
use Rattle.alpha_image.specs.Parts.{Parts as Image}
use Rattle.alpha_image.specs.FirstOf.{unless, first_of}
use Rattle.alpha_seq.specs.declared.end.End.{End}
use Rattle.alpha_seq.specs.declared.end.End.TheVariants as ends
use Rattle.alpha_seq.specs.State.{Program, Ends}
use Rattle.alpha_seq.specs.Start.{start}
use Rattle.alpha_seq.specs.declared.event.Event.{Event as SeenEvent}
use Rattle.alpha_seq.specs.declared.event.Event.TheVariants as events
use Rattle.alpha_seq.specs.StepLabel.{is_over}
use Rattle.alpha_seq.specs.Run.{output, sequential}
use Rattle.alpha_imprecise.specs.StepResult.{ImpreciseEvent, Precisely, Lost}
use Rattle.alpha_imprecise.specs.Run.{seen, finished, ImpreciseRun, RunsOver}
use Rattle.alpha_imprecise.specs.Used.{HasUsed}
use Rattle.alpha_replay.specs.declared.ending.Ending.{Ending}
use Rattle.alpha_replay.specs.declared.ending.Ending.TheVariants as endings
use Rattle.alpha_replay.specs.declared.item.Item.{Item}
use Rattle.alpha_replay.specs.declared.item.Item.TheVariants as items
use Rattle.alpha_replay.specs.declared.replay_fault.ReplayFault.{ReplayFault}
use Rattle.alpha_replay.specs.declared.replay_fault.ReplayFault.TheVariants as faults
use Rattle.alpha_replay.specs.declared.replaying.Replayed.{Replayed}
use Rattle.alpha_replay.specs.Compared.{first_difference}
use Rattle.alpha_replay.specs.Endings.{ending_kind, ending_first, ending_second}
use Rattle.alpha_replay.specs.Journal.{Parts}
use Rattle.alpha_replay.specs.Listed.{Played, listed}

-- ---- how a run ends

abbrev pub ending_by : End → Ending
ending_by (ends.Exit value) = endings.Exit value
ending_by (ends.Signal code pc) = endings.Signal code pc
ending_by (ends.Fetch pc) = endings.Fetch pc
ending_by (ends.Access pc addr) = endings.Access pc addr
ending_by (ends.Align pc addr) = endings.Align pc addr
ending_by (ends.Overflow pc) = endings.Overflow pc

-- by how the last step went
abbrev pub ending_of : ImpreciseEvent → Ending
ending_of (Precisely (Ends end)) = ending_by end
ending_of (Lost pc mask) = endings.Lost pc mask
ending_of happened = endings.Spent

-- by how the code says that it went
abbrev pub ending_seen : SeenEvent → Ending
ending_seen (events.Ended end) = ending_by end
ending_seen (events.Lost pc mask) = endings.Lost pc mask
ending_seen event = endings.Spent

abbrev pub same_ending : Ending → Ending → Bool
same_ending a b =
    ending_kind a == ending_kind b && ending_first a == ending_first b && ending_second a == ending_second b

-- The run ends so. One that doesn't end has nothing pending.
abbrev pub ends_as : Ending → ImpreciseRun → Bool
ends_as e w = same_ending e (ending_of w.at.last_event) && (finished w.at.last_event || is_none w.at.pending)

-- by how the code says that the last step went, and whether nothing is pending
abbrev pub ends_seen : Ending → SeenEvent → Bool → Bool
ends_seen e event calm = same_ending e (ending_seen event) && (is_over event || calm)

-- ---- the answer

-- how many reports items list
abbrev pub item_reports : Item → ℕ
item_reports (items.Units n) = 0
item_reports (items.Trigger value) = 0
item_reports (items.Wait adds value) = 0
item_reports items.Report = 1

abbrev pub reports_of : List Item → ℕ
reports_of all = sum_by item_reports all

-- the program of a journal on an image
abbrev pub program_by : Image → Parts → Program
program_by image p = record { image = image; completion = p.completion }

-- The first fault of a journal whose items lead to this run: another output, another end, or input that wasn't taken.
abbrev pub run_fault : Parts → ImpreciseRun → Option ReplayFault
run_fault p w =
    first_of
    (option_map faults.Output (first_difference 0 (output (seen w.steps)) p.output)
    ∷ unless (ends_as p.ending w) faults.End
    ∷ unless (length w.left == 0) (faults.Input (length w.left))
    ∷ [])

abbrev pub answer_by : Option ReplayFault → Replayed → Result Replayed ReplayFault
answer_by None r = Ok r
answer_by (Some fault) r = Err fault

abbrev pub answered : Parts → Result Played ℕ → Result Replayed ReplayFault
answered p (Err n) = Err (faults.Item n)
answered p (Ok q) = answer_by (run_fault p q.run) (record { units = q.run.units; reports = reports_of p.items })

-- what the replay of a journal on an image answers
abbrev pub replayed : Image → Parts → Result Replayed ReplayFault
replayed image p = answered p (listed (program_by image p) p.input p.items)

-- that is answered, unless memory ran out
abbrev pub Replays : Result Replayed ReplayFault → Result Replayed ReplayFault → Type 0
Replays (Err faults.NoMemory) answer = ⊤
Replays result answer = result ≡ answer

-- ---- what such an answer means

-- A row of imprecise steps of the image from the start, over the journal's input, that takes all of it, puts its
-- output, ends as it says, and uses so many units. Where it doesn't end nothing is pending.
pub record IsRun (image : Image) (p : Parts) (units : ℕ) : Type 0 where
  pub run : ImpreciseRun
  pub over : RunsOver (program_by image p) (start (program_by image p)) p.input run
  pub ends : ending_of run.at.last_event ≡ p.ending
  pub used : HasUsed units run.units run.at
  pub units_are : run.units ≡ units
  pub puts : output (seen run.steps) ≡ p.output
  pub left : run.left ≡ []

-- how a sequential run ends
abbrev pub ending_at : Option End → Ending
ending_at None = endings.Spent
ending_at (Some end) = ending_by end

-- The sequential run of so many steps over the journal's input takes all of it, puts its output and ends as it says.
pub record IsSequential (image : Image) (p : Parts) (units : ℕ) : Type 0 where
  pub ends : ending_at (sequential (program_by image p) p.input units false).end ≡ p.ending
  pub steps : (sequential (program_by image p) p.input units false).steps ≡ units
  pub output : (sequential (program_by image p) p.input units false).output ≡ p.output
  pub left : (sequential (program_by image p) p.input units false).left ≡ []
