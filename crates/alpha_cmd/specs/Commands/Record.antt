-- `record FILE OUT`: the run of `run --imprecise FILE`, whose journal is kept as OUT.
use Rattle.std.specs.Prelude.{◌≡◌, ◌⊎◌, ⊤, ℕ, ◌≤◌, ◌%◌, ◌^◌, Bool, false, true, List, [], ◌++◌, length, Option, Some}
use Rattle.std.specs.Prelude.{None, option_map, IfSome, Result}
use Rattle.alpha_io.specs.declared.Failed.{Failed}
use Rattle.alpha_io.specs.Files.{Files, HasFile}
use Rattle.alpha_io.specs.ShelfChange.{ShelfChange}
use Rattle.alpha_io.specs.SinkChange.{SinkChange, Puts}
use Rattle.alpha_request.specs.declared.options.RunOptions.{RunOptions}
use Rattle.alpha_request.specs.Command.{Command, record_run}
use Rattle.alpha_request.specs.Origin.{Origin}
use Rattle.alpha_seq.specs.declared.end.End.{End}
use Rattle.alpha_seq.specs.Run.{output, notes}
use Rattle.alpha_imprecise.specs.StepResult.{ImpreciseEvent, StepResult}
use Rattle.alpha_imprecise.specs.Run.{seen, RunsImprecisely, units}
use Rattle.alpha_imprecise.specs.Chosen.{Draws}
use Rattle.alpha_imprecise.specs.ChosenRun.{ChosenRun, first_words, end_of_imprecise_event, lost_trap, LostTrap}
use Rattle.alpha_imprecise.specs.ChosenRun.{ShownImprecise}
use Rattle.alpha_replay.specs.Journal.{Parts, IsJournal, spelling}
use Rattle.alpha_replay.specs.JournalEnd.{IsRecorded, IsPast}
use Rattle.alpha_replay.specs.Journaled.{journal_of, is_within, stops_at, GoesOver}
use Rattle.alpha_cmd.specs.declared.decision.Decision.{Decision}
use Rattle.alpha_cmd.specs.declared.record.Recorded.{Recorded as Ran}
use Rattle.alpha_cmd.specs.declared.record.Recorded.TheVariants as ends
use Rattle.alpha_cmd.specs.declared.status.Status.{Status}
use Rattle.alpha_cmd.specs.declared.status.Status.TheVariants.{ShelfFault, InputFault, SinkFault, NoMemory, JournalFull}
use Rattle.alpha_cmd.specs.Answer.{Answer}
use Rattle.alpha_cmd.specs.AnswerBy.{World, status_answer}
use Rattle.alpha_cmd.specs.Commands.Imprecise.{Plan, Planned, begins_plan, MayShowImprecise, imprecise_status}
use Rattle.alpha_cmd.specs.Commands.Imprecise.{imprecise_line}
use Rattle.alpha_cmd.specs.Commands.Imprecise.{answer_imprecise, HasChoices}
use Rattle.alpha_cmd.specs.Commands.Imprecise as wilds
use Rattle.alpha_cmd.specs.RunAnswer.{program_by}
use Rattle.alpha_cmd.specs.Decision.{answer_in, SaysAlone}
use Rattle.alpha_cmd.specs.Form.{Form, Kind, IsThere, needs_files_and_input, records}
use Rattle.alpha_cmd.specs.Keeping.{Untaken}
use Rattle.alpha_cmd.specs.Kept.{nothing, spoilt, HasKept}
use Rattle.alpha_cmd.specs.Kept as kinds
use Rattle.alpha_cmd.specs.Outcome.{Outcome, continues, Either, Never, Then}
use Rattle.alpha_cmd.specs.Status.{status_line}

-- barriers are not noted
abbrev pub unwatched : RunOptions → RunOptions
unwatched options = record options { watch = false }

-- ---- the run

-- A run from the start by the words of a plan, whatever each read was given, as one that gets a journal: it goes on
-- before each of these steps, and has stopped behind them. It has used no more units than were asked for, and draws so
-- many words, whatever comes behind them.
pub record RecordedByReads (options : RunOptions) (plan : Plan) : Type 0 where
  pub steps : List ImpreciseEvent
  pub at : StepResult
  pub drawn : ℕ
  pub runs : RunsImprecisely (program_by options plan.image) (begins_plan options plan) steps at
  pub draws : (coming : List ℕ)
      → Draws (program_by options plan.image) (begins_plan options plan) 0
      (first_words drawn plan.ahead ++ coming) steps coming
  pub goes_over : GoesOver options.steps (program_by options plan.image) 0 [] (begins_plan options plan) steps
  pub stopped : stops_at options.steps options.complete
      (units (program_by options plan.image) (begins_plan options plan) steps) steps at
      ≡ true
  pub most : units (program_by options plan.image) (begins_plan options plan) steps ≤ options.steps

-- within the limits of journals, and this is its journal
pub record HasRecorded (options : RunOptions) (plan : Plan) (p : Parts)
    (r : RecordedByReads options plan) : Type 0 where
  pub within : is_within p ≡ true
  pub is : p ≡ journal_of options.complete r.at.last_event r.steps

-- The journal that a plan's run has: over an input that is told, that of the place where the run by the plan's words
-- stops. Over another, that of such a run, whatever its reads were given.
abbrev pub HasJournal : RunOptions → Option (List ℕ) → Plan → Parts → Type 0
HasJournal options None plan p = (r : RecordedByReads options plan) × HasRecorded options plan p r
HasJournal options (Some input) plan p = IsRecorded options.steps (program_by options plan.image) input plan.ahead p

-- what is shown is what this run shows
pub record ShowsRecorded (options : RunOptions) (plan : Plan) (s : ShownImprecise)
    (r : RecordedByReads options plan) : Type 0 where
  pub end : s.end ≡ end_of_imprecise_event r.at.last_event
  pub lost : s.lost ≡ lost_trap r.at.last_event
  pub output : s.output ≡ output (seen r.steps)
  pub notes : s.notes ≡ notes false (seen r.steps)
  pub drawn : s.drawn ≡ r.drawn

-- the journal of the run that is shown
abbrev pub HasItsJournal : RunOptions → Option (List ℕ) → Plan → ShownImprecise → Parts → Type 0
HasItsJournal options None plan s p =
    (r : RecordedByReads options plan) × HasRecorded options plan p r × ShowsRecorded options plan s r
HasItsJournal options (Some input) plan s p = HasJournal options (Some input) plan p

-- The run was stopped behind these steps: directly behind its first step past a limit of a journal. This is left of an
-- input that is told.
abbrev pub IsStopped : RunOptions → Option (List ℕ) → Plan → List ImpreciseEvent → List ℕ → Type 0
IsStopped options None plan steps left =
    (r : RecordedByReads options plan) × (is_within (journal_of options.complete r.at.last_event r.steps) ≡ false)
    × (steps ≡ r.steps)
IsStopped options (Some input) plan steps left =
    (k : ChosenRun) × IsPast options.steps (program_by options plan.image) input plan.ahead k
    × (steps ≡ k.run.steps) × (left ≡ k.run.left)

-- ---- the keep

-- the answer of a run, and what is answered by the keep of these bytes behind it
abbrev pub KeepsBehind : World → List ℕ → List ℕ → Answer → Answer → Type 0
KeepsBehind w out bytes a b =
    (¬ Untaken w out bytes × (b ≡ record a { kept = kinds.file out bytes }))
    ⊎ (Untaken w out bytes × (b ≡ record a { status = ShelfFault; line = status_line ShelfFault }))

-- ---- the stage

-- the run has a journal, which is kept
pub record IsKeptRun (options : RunOptions) (force : Bool) (out : List ℕ) (w : World) (plan : Plan)
    (a : Answer) : Type 0 where
  pub shown : ShownImprecise
  pub may : MayShowImprecise (unwatched options) force w.input plan shown
  pub journal : Parts
  pub has : HasItsJournal options w.input plan shown journal
  pub keeps : KeepsBehind w out (spelling journal) (answer_imprecise w.input shown) a

-- what a run that was stopped behind these steps has put and noted
abbrev pub full_answer : Option (List ℕ) → List ImpreciseEvent → List ℕ → Answer
full_answer input steps left = record {
  status = JournalFull;
  output = output (seen steps);
  trace = notes false (seen steps);
  line = status_line JournalFull;
  left = option_map (λ bytes. left) input;
  kept = nothing;
}

-- or it is stopped
pub record IsFullRun (options : RunOptions) (w : World) (plan : Plan) (a : Answer) : Type 0 where
  pub steps : List ImpreciseEvent
  pub left : List ℕ
  pub stopped : IsStopped options w.input plan steps left
  pub is : a ≡ full_answer w.input steps left

abbrev pub Records : RunOptions → Bool → List ℕ → World → Plan → Outcome Answer → Type 0
Records options force out w plan = Either (λ a. IsKeptRun options force out w plan a ⊎ IsFullRun options w plan a) Never

-- ---- the command

abbrev pub steps : RunOptions → Origin → Bool → List ℕ → List ℕ → World → Outcome Answer → Type 0
steps options choices force file out w = Then (Planned choices force file w.files) (Records options force out w)

-- the statuses of a run's end, of one that was stopped, and of a shelf that doesn't take the journal
abbrev pub IsEndStatus : Bool → Status → Type 0
IsEndStatus force status = wilds.IsEndStatus force status ⊎ ((status ≡ JournalFull) ⊎ (status ≡ ShelfFault))

abbrev pub kind : Bool → List ℕ → Kind
kind force out = records (IsEndStatus force) out

-- of a plan that was made, and of a named file
abbrev pub on : RunOptions → Bool → List ℕ → Plan → Form
on options force out plan =
    record { steps = λ w. Records options force out w plan; needs = needs_files_and_input; kind = kind force out }

abbrev pub form : RunOptions → Origin → Bool → List ℕ → List ℕ → Form
form options choices force file out =
    record { steps = steps options choices force file out; needs = needs_files_and_input; kind = kind force out }

-- the files that are read are there, and the journal is taken
abbrev pub there : RunOptions → Origin → Bool → List ℕ → List ℕ → World → Type 0
there options choices force file out w =
    IsThere file w × HasChoices choices w
    × ((plan : Plan) (p : Parts) → Planned choices force file w.files (continues plan)
    → HasJournal options w.input plan p
    → w.takes out (length (spelling p)) ≡ true)

-- what is kept of a call: the spelling of a good journal, which is that of the run
abbrev pub KeepsRun : RunOptions → Origin → Bool → List ℕ → List ℕ → World → Files → Type 0
KeepsRun options choices force file out w new =
    (plan : Plan) × Planned choices force file w.files (continues plan)
    × ((p : Parts) × IsJournal p × HasJournal options w.input plan p × HasFile new out (spelling p))

-- That is so of each call that asks for it, under the status of a run's end.
abbrev pub KeepsUnder : (Command → Type 0) → Status → World → Files → Type 0
KeepsUnder IsAsked status w new = (options : RunOptions) (choices : Origin) (force : Bool) (file out : List ℕ)
    (end : Option End) (lost : Option LostTrap) (n : ℕ)
    → IsAsked (record_run options choices force file out) → status ≡ imprecise_status end lost n
    → KeepsRun options choices force file out w new

-- ---- what the code does

-- What a run did that was made: what it shows was written, but for the line of its end, which the decision has; and
-- this is its journal.
pub record RunsOn (options : RunOptions) (force : Bool) (input : Option (List ℕ)) (plan : Plan) (p : Parts)
    (d : Decision)
    (left : Option (List ℕ)) (out notes : SinkChange) : Type 0 where
  pub shown : ShownImprecise
  pub may : MayShowImprecise (unwatched options) force input plan shown
  pub has : HasItsJournal options input plan shown p
  pub says : answer_in left d
      ≡ status_answer left (imprecise_status shown.end shown.lost (shown.drawn % 2 ^ 64))
      (imprecise_line shown.end shown.lost)
  pub put : Puts out shown.output
  pub noted : Puts notes shown.notes
  pub left_is : IfSome (option_map (λ bytes. shown.left) input) (λ rest. left ≡ Some rest)

-- by whether a run was made
abbrev pub WhenMade : Ran → (Decision → Parts → Type 0) → Type 0
WhenMade (ends.Made d journal) P = P d journal
WhenMade (ends.Over r) P = ⊤

abbrev pub WhenOver : Ran → (Result Decision Failed → Type 0) → Type 0
WhenOver (ends.Made d journal) P = ⊤
WhenOver (ends.Over r) P = P r

-- the status of a run that wasn't
abbrev pub IsOver : Status → Type 0
IsOver status = (status ≡ JournalFull) ⊎ ((status ≡ InputFault) ⊎ ((status ≡ SinkFault) ⊎ (status ≡ NoMemory)))

-- What becomes of a decision by the keep of these bytes behind it: it stands; the shelf refuses them; it doesn't, and
-- failed; or memory ran out before. The first two facts are that told files refuse them, and that the shelf failed.
pub data KeptBehind (refuses shelf : Type 0) (out bytes : List ℕ) (s : ShelfChange) (d r : Decision) : Type 0 where
  stands : (refuses → ⊥) → r ≡ d → HasKept (kinds.file out bytes) s → KeptBehind refuses shelf out bytes s d r
  untaken : refuses → SaysAlone ShelfFault r → HasKept nothing s → KeptBehind refuses shelf out bytes s d r
  lost : (refuses → ⊥) → shelf → SaysAlone ShelfFault r → HasKept (spoilt out) s
      → KeptBehind refuses shelf out bytes s d r
  spent : SaysAlone NoMemory r → HasKept nothing s → KeptBehind refuses shelf out bytes s d r
