-- The imprecise steps that a journal lists, or its first item that is impossible.
use Rattle.std.specs.Prelude.{ℕ, zero, suc, ◌+◌, not, ◌&&◌, if◌then◌else◌, List, [], ◌∷◌, Option, Some, None, Result}
use Rattle.std.specs.Prelude.{Ok, Err}
use Rattle.std.specs.Option.{option_and_then}
use Rattle.alpha_seq.specs.State.{Program, State}
use Rattle.alpha_seq.specs.Start.{start}
use Rattle.alpha_seq.specs.Step.{next_class}
use Rattle.alpha_imprecise.specs.StepResult.{StepResult}
use Rattle.alpha_imprecise.specs.Step.{imprecise_step}
use Rattle.alpha_imprecise.specs.Run.{ImpreciseRun, finished, imprecise_start}
use Rattle.alpha_imprecise.specs.Chosen.{waited_after}
use Rattle.alpha_imprecise.specs.ChosenRun.{extended_imprecise_run}
use Rattle.alpha_replay.specs.declared.item.Item.{Item}
use Rattle.alpha_replay.specs.declared.item.Item.TheVariants.{Units, Trigger, Wait, Report}
use Rattle.alpha_replay.specs.declared.moves.Move.{Move}
use Rattle.alpha_replay.specs.declared.moves.Move.TheVariants.{One, Trips, Waits, Reports}
use Rattle.alpha_replay.specs.Moves.{choice_of, move_applies}

-- a run, and how many words were executed since the trigger of its pending trap
pub record Played : Type 0 where
  pub run : ImpreciseRun
  pub waited : ℕ

-- one step more
abbrev pub played_by : Played → StepResult → Played
played_by p m = record { run = extended_imprecise_run p.run m; waited = waited_after m.last_event p.waited }

-- One move: none where the run is over, or where the step isn't of this kind.
abbrev pub move : Program → Played → Move → Option Played
move g p m =
    if not (finished p.run.at.last_event)
    && move_applies (next_class g p.run.at.state.pc) p.run.at.state p.run.at.pending p.waited m
    then Some (played_by p (imprecise_step g p.run.at.state p.run.at.pending (choice_of m) p.run.left))
    else None

-- so many steps with nothing pending that don't overflow
abbrev pub units : Program → ℕ → Played → Option Played
units g zero p = Some p
units g (suc n) p = option_and_then (λ q. move g q One) (units g n p)

-- the moves of an item
abbrev pub item : Program → Item → Played → Option Played
item g (Units n) p = units g n p
item g (Trigger value) p = move g p (Trips value)
item g (Wait adds value) p = move g p (Waits adds value)
item g Report p = move g p Reports

-- what follows an item, if it is possible: it has number n
abbrev pub listed_then : ℕ → (Played → Result Played ℕ) → Option Played → Result Played ℕ
listed_then n rest None = Err n
listed_then n rest (Some p) = rest p

-- where items lead from a run, the first of them with number n, or the number of the first that is impossible
abbrev pub listed_from : Program → ℕ → List Item → Played → Result Played ℕ
listed_from g n [] p = Ok p
listed_from g n (i ∷ items) p = listed_then n (λ q. listed_from g (n + 1) items q) (item g i p)

-- the same over another input
abbrev pub played_over : List ℕ → Played → Played
played_over input p = record p { run = record p.run { left = input } }

-- no step was made
abbrev pub unplayed : State → List ℕ → Played
unplayed s input = record { run = record { at = imprecise_start s; steps = []; left = input; units = 0 }; waited = 0 }

-- where items lead from the start, over an input, or the number of the first that is impossible
abbrev pub listed : Program → List ℕ → List Item → Result Played ℕ
listed g input items = listed_from g 0 items (unplayed (start g) input)
