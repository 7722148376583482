-- A run of the imprecise machine is a list of how its steps went, which ends where the program does or a trap is lost.
use Rattle.std.specs.Prelude.{◌≡◌, ℕ, ◌+◌, Bool, true, false, List, [], ◌∷◌, Option, Some, None}
use Rattle.std.specs.List.{flat_map}
use Rattle.alpha_seq.specs.State.{Program, State, Event, Went, Overflowed}
use Rattle.alpha_seq.specs.Run.{is_over, given, Fed}
use Rattle.alpha_imprecise.specs.StepResult.{Trap, Choice, ImpreciseEvent, Precisely, Triggered, Waited, Reported, Lost}
use Rattle.alpha_imprecise.specs.StepResult.{StepResult, step_result}
use Rattle.alpha_imprecise.specs.Step.{imprecise_step}

-- what is seen of a step: the event of a precise one, and an overflow where its trap is reported
abbrev pub seen_of : ImpreciseEvent → List Event
seen_of (Precisely event) = event ∷ []
seen_of (Reported at) = Overflowed at ∷ []
seen_of last_event = []

abbrev pub seen : List ImpreciseEvent → List Event
seen steps = flat_map seen_of steps

-- whether the program has ended, or a trap is lost
abbrev pub finished : ImpreciseEvent → Bool
finished (Precisely event) = is_over event
finished (Lost pc mask) = true
finished last_event = false

-- what was chosen in a step
abbrev pub choice_of : ImpreciseEvent → Choice
choice_of (Triggered value) = record { report = false; value = value; bytes = value; adds = false }
choice_of (Waited adds value bytes) = record { report = false; value = value; bytes = bytes; adds = adds }
choice_of last_event = record { report = true; value = 0; bytes = 0; adds = false }

-- and what it was given
abbrev pub given_to : ImpreciseEvent → List ℕ
given_to (Precisely event) = given event
given_to last_event = []

-- no step was made yet
abbrev pub imprecise_start : State → StepResult
imprecise_start s = step_result s None (Precisely Went)

-- the step that chose and was given as this one
abbrev pub next_step_result : Program → StepResult → ImpreciseEvent → StepResult
next_step_result g a h = imprecise_step g a.state a.pending (choice_of h) (given_to h)

-- From one moment to another by steps that went so. None follows the end.
abbrev pub RunsImprecisely : Program → StepResult → List ImpreciseEvent → StepResult → Type 0
RunsImprecisely g a [] b = a ≡ b
RunsImprecisely g a (h ∷ hs) b =
    (finished a.last_event ≡ false) × ((next_step_result g a h).last_event ≡ h)
    × RunsImprecisely g (next_step_result g a h) hs b

-- ---- units

-- the units that a step uses: it is one with nothing pending
abbrev pub unit_of : Option Trap → ℕ
unit_of None = 1
unit_of (Some t) = 0

-- and those that steps use
abbrev pub units : Program → StepResult → List ImpreciseEvent → ℕ
units g a [] = 0
units g a (h ∷ hs) = unit_of a.pending + units g (next_step_result g a h) hs

-- ---- over an input

-- where a run over an input stands, how its steps went, what is left of the input, and how many units they used
pub record ImpreciseRun : Type 0 where
  pub at : StepResult
  pub steps : List ImpreciseEvent
  pub left : List ℕ
  pub units : ℕ

-- it is a run from this state, whose steps this input fed
pub record RunsOver (g : Program) (s : State) (input : List ℕ) (w : ImpreciseRun) : Type 0 where
  pub runs : RunsImprecisely g (imprecise_start s) w.steps w.at
  pub fed : Fed input (seen w.steps) w.left
  pub used : units g (imprecise_start s) w.steps ≡ w.units
