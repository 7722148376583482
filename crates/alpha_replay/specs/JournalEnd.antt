-- What was made of a run and its journal, by the answer.
use Rattle.std.specs.Prelude.{◌≡◌, ⊤, ℕ, ◌≤◌, ◌||◌, true, false, is_none, List, [], ◌∷◌, ◌++◌, Option, Some, None}
use Rattle.alpha_io.specs.SinkChange.{SinkChange, Puts}
use Rattle.alpha_pal.specs.declared.fault.Fault.{Fault}
use Rattle.alpha_seq.specs.declared.event.Event.{Event}
use Rattle.alpha_seq.specs.Run.{output, notes}
use Rattle.alpha_seq.specs.Machine.{program_of}
use Rattle.alpha_seq.specs.State.{Program}
use Rattle.alpha_seq.specs.Start.{start}
use Rattle.alpha_seq.specs.Devices.{Drawn, Rests, Idles}
use Rattle.alpha_imprecise.specs.ChosenRun.{ChosenRun, begun, shown_chosen_run, first_words, most_words}
use Rattle.alpha_imprecise.specs.StepResult.{ImpreciseEvent}
use Rattle.alpha_imprecise.specs.Run.{seen, finished}
use Rattle.alpha_imprecise.specs.Oracle.{Oracle}
use Rattle.alpha_imprecise.specs.ImpreciseState.{ImpreciseState, trap_in, step_result_of, begun_at}
use Rattle.alpha_run.specs.Shows.{LosesNone, ShowsImprecisePart}
use Rattle.alpha_run.specs.ImpreciseRan.{moment_at, ImpreciseRan, ended_as, ImprecisePrefixRun}
use Rattle.alpha_replay.specs.declared.journal_end.JournalEnd.{JournalEnd}
use Rattle.alpha_replay.specs.declared.journal_end.JournalEnd.TheVariants as made
use Rattle.alpha_replay.specs.Journal.{Parts}
use Rattle.alpha_replay.specs.Journaled.{journal_of, journal_at, is_within, stops_at, GoesOver, IsJournaled}

-- the run over this input, by these words, stops there
abbrev pub IsJournaledAt : ℕ → ImpreciseState → List ℕ → List ℕ → ChosenRun → Type 0
IsJournaledAt n w bytes words k = IsJournaled n (program_of w.machine) (begun_at w bytes words) k

-- Where the run of so many units stopped: it went on before each of its steps, by the words that the chooser went on
-- by, whatever comes behind them.
pub record JournalStops (n : ℕ) (last : ImpreciseEvent) (old new : ImpreciseState) (before after : Oracle)
    (input : Drawn) (out sink : SinkChange) : Type 0 where
  pub units : ℕ
  pub most : units ≤ n
  pub ran : ImpreciseRan last units false old new before after input out sink
  pub goes_over : GoesOver n (program_of old.machine) 0 [] (moment_at old) ran.steps
  pub stopped : stops_at n old.machine.completion units ran.steps (step_result_of new last) ≡ true

-- within the limits: behind its last step, or with all its units used; and this is its journal
pub record Records (n : ℕ) (last : Option Event) (journal : Parts) (old new : ImpreciseState) (before after : Oracle)
    (input : Drawn) (out sink : SinkChange) : Type 0 where
  pub last_event : ImpreciseEvent
  pub stops : JournalStops n last_event old new before after input out sink
  pub last_is : last ≡ ended_as last_event
  pub settled : (finished last_event || is_none (trap_in new.pending)) ≡ true
  pub full : finished last_event ≡ false → stops.units ≡ n
  pub within : is_within journal ≡ true
  pub is : journal ≡ journal_of old.machine.completion last_event stops.ran.steps

-- past a limit, at the first step that brings it there
pub record IsFull (n : ℕ) (old new : ImpreciseState) (before after : Oracle) (input : Drawn)
    (out sink : SinkChange) : Type 0 where
  pub last_event : ImpreciseEvent
  pub stops : JournalStops n last_event old new before after input out sink
  pub past : is_within (journal_of old.machine.completion last_event stops.ran.steps) ≡ false

-- A device's fault cut the run short within a step: it went on before that step too. Where the input is told, fronts
-- were written of what the run shows wherever it would have stopped.
pub record IsShort (n : ℕ) (fault : Fault) (old new : ImpreciseState) (before after : Oracle) (input : Drawn)
    (out sink : SinkChange) : Type 0 where
  pub unused : ℕ
  pub cut : ImprecisePrefixRun fault n unused false old new before after input out sink
  pub goes_over : GoesOver n (program_of old.machine) 0 [] (moment_at old) (cut.steps ++ cut.step.step.last_event ∷ [])
  pub fronts : (bytes coming : List ℕ) (k : ChosenRun) → input.old.left ≡ Some bytes
      → IsJournaledAt n old bytes ((cut.words ++ cut.label.words) ++ coming) k
      → ShowsImprecisePart (shown_chosen_run false k) out sink

-- nothing was done
pub record IsUnbegun (old new : ImpreciseState) (before after : Oracle) (input : Drawn)
    (out notes : SinkChange) : Type 0 where
  pub machine : new ≡ old
  pub words : after ≡ before
  pub source : Rests input
  pub sink : Idles out
  pub lines : Idles notes

-- by the answer, over any source
abbrev pub MakesJournal : JournalEnd → ℕ → ImpreciseState → ImpreciseState → Oracle → Oracle → Drawn → SinkChange
    → SinkChange → Type 0
MakesJournal (made.Made last journal) n old new before after input out sink =
    Records n last journal old new before after input out sink
MakesJournal (made.Failed fault) n old new before after input out sink =
    IsShort n fault old new before after input out sink
MakesJournal made.Full n old new before after input out sink = IsFull n old new before after input out sink
MakesJournal made.NoMemory n old new before after input out sink = IsUnbegun old new before after input out sink

-- ---- from a fresh machine, by told words over a told input

-- the place where the run by these words stops
abbrev pub StopsAt : ℕ → Program → List ℕ → (ℕ → ℕ) → ChosenRun → Type 0
StopsAt n g bytes ahead k = IsJournaled n g (begun (start g) bytes None 0 (first_words (most_words n) ahead)) k

-- The run stops within the limits of its journal, and this is it.
pub record IsRecorded (n : ℕ) (g : Program) (bytes : List ℕ) (ahead : ℕ → ℕ) (journal : Parts) : Type 0 where
  pub place : ChosenRun
  pub stops : StopsAt n g bytes ahead place
  pub within : is_within (journal_at g.completion place) ≡ true
  pub is : journal ≡ journal_at g.completion place

-- The run stops past a limit, and there it is.
pub record IsPast (n : ℕ) (g : Program) (bytes : List ℕ) (ahead : ℕ → ℕ) (making : ChosenRun) : Type 0 where
  pub stops : StopsAt n g bytes ahead making
  pub past : is_within (journal_at g.completion making) ≡ false

-- what a run shows was written, and the rest of the input is left
pub record Shows (k : ChosenRun) (input : Drawn) (out sink : SinkChange) : Type 0 where
  pub bytes : Puts out (output (seen k.run.steps))
  pub lines : Puts sink (notes false (seen k.run.steps))
  pub left : input.new.left ≡ Some k.run.left

-- by the answer
abbrev pub JournalTold : JournalEnd → ℕ → List ℕ → (ℕ → ℕ) → Program → Drawn → SinkChange → SinkChange → Type 0
JournalTold (made.Made last journal) n bytes ahead g input out sink = IsRecorded n g bytes ahead journal
JournalTold (made.Failed fault) n bytes ahead g input out sink =
    (k : ChosenRun) → StopsAt n g bytes ahead k → ShowsImprecisePart (shown_chosen_run false k) out sink
JournalTold made.Full n bytes ahead g input out sink =
    (k : ChosenRun) × IsPast n g bytes ahead k × Shows k input out sink
JournalTold made.NoMemory n bytes ahead g input out sink = ⊤

-- ---- the run that was made, if any was, didn't lose a trap

abbrev pub JournalLosesNone : JournalEnd → Type 0
JournalLosesNone (made.Made last journal) = LosesNone last
JournalLosesNone _ = ⊤
