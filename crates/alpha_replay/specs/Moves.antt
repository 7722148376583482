-- The moves of a journal: what each is, and where it is possible.
use Rattle.std.specs.Prelude.{ℕ, Bool, true, false, not, ◌&&◌, Option, Some, None}
use Rattle.alpha_table.specs.Class.{Class}
use Rattle.alpha_seq.specs.State.{State}
use Rattle.alpha_imprecise.specs.StepResult.{Trap, Choice}
use Rattle.alpha_imprecise.specs.Step.{triggers, adds_here}
use Rattle.alpha_imprecise.specs.Chosen.{must_report, reporting, triggering}
use Rattle.alpha_replay.specs.declared.moves.Move.{Move}
use Rattle.alpha_replay.specs.declared.moves.Move.TheVariants.{One, Trips, Waits, Reports}

-- what the machine chooses at a move
abbrev pub choice_of : Move → Choice
choice_of One = (reporting 0).choice
choice_of (Trips value) = (triggering value).choice
choice_of (Waits adds value) = record { report = false; value = value; bytes = value; adds = adds }
choice_of Reports = (reporting 0).choice

-- a move that adds stands only at such a word
abbrev pub may_add : Option Class → Move → Bool
may_add o One = true
may_add o (Trips value) = true
may_add o (Waits false value) = true
may_add o (Waits true value) = adds_here o
may_add o Reports = true

-- Whether the step at this word is of the move's kind. With nothing pending the word overflows or it doesn't. While a
-- trap is pending it can be reported at each word, and a word is executed where no report is forced, which it is where
-- so many words were executed since the trigger.
abbrev pub fits : Option Class → State → Option Trap → ℕ → Move → Bool
fits o s None waited One = not (triggers o s)
fits o s None waited (Trips value) = triggers o s
fits o s None waited (Waits adds value) = false
fits o s None waited Reports = false
fits o s (Some t) waited One = false
fits o s (Some t) waited (Trips value) = false
fits o s (Some t) waited (Waits adds value) = not (must_report o s waited)
fits o s (Some t) waited Reports = true

-- whether the move is possible
abbrev pub move_applies : Option Class → State → Option Trap → ℕ → Move → Bool
move_applies o s pending waited m = may_add o m && fits o s pending waited m
