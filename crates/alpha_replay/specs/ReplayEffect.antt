-- What the code did that plays items, against the definition.
use Rattle.std.specs.Prelude.{◌≡◌, ◌≤◌, ℕ, ◌+◌, false, List, ◌++◌, length, drop, Option, Some, None, Err}
use Rattle.alpha_seq.specs.declared.event.Event.{Event}
use Rattle.alpha_seq.specs.declared.event.Event.TheVariants.{Went}
use Rattle.alpha_seq.specs.State.{Program}
use Rattle.alpha_seq.specs.Run.{output, Fed}
use Rattle.alpha_seq.specs.Machine.{program_of}
use Rattle.alpha_seq.specs.StepLabel.{StepLabel, is_over}
use Rattle.alpha_imprecise.specs.StepResult.{ImpreciseEvent}
use Rattle.alpha_imprecise.specs.Run.{seen, finished}
use Rattle.alpha_imprecise.specs.ChoiceSource.{asked}
use Rattle.alpha_imprecise.specs.ImpreciseState.{ImpreciseState, waited_in, step_result_of, IsFresh}
use Rattle.alpha_imprecise.specs.ImpreciseStepEffect.{ImpreciseStepBy}
use Rattle.alpha_replay.specs.declared.item.Item.{Item}
use Rattle.alpha_replay.specs.declared.moves.Move.{Move}
use Rattle.alpha_replay.specs.declared.play.Cursor.{Cursor}
use Rattle.alpha_replay.specs.Compared.{Sees}
use Rattle.alpha_replay.specs.FixedChoice.{given_choice}
use Rattle.alpha_replay.specs.Listed.{Played, listed_from}
use Rattle.alpha_replay.specs.Replay.{ending_of, ending_seen}

-- before the first step
abbrev pub first_cursor : Cursor
first_cursor = record { last = Went; seen = record { at = 0; differs = false } }

-- a machine at the start of a program
pub record Begins (g : Program) (w : ImpreciseState) : Type 0 where
  pub fresh : IsFresh w
  pub program : program_of w.machine ≡ g

-- where the code stands: the machine, the input left, how the last step went and what was seen of the output
pub record Place : Type 0 where
  pub wild : ImpreciseState
  pub input : List ℕ
  pub cursor : Cursor

abbrev pub place : ImpreciseState → List ℕ → Cursor → Place
place wild input cursor = record { wild = wild; input = input; cursor = cursor }

abbrev pub program_at : Place → Program
program_at a = program_of a.wild.machine

-- how the last step went, as the code says it
pub record IsLast (event : Event) (h : ImpreciseEvent) : Type 0 where
  pub over : is_over event ≡ finished h
  pub ending : ending_seen event ≡ ending_of h

-- the run of the definition that stands there, with these steps and units so far, the last of which went so
abbrev pub played_at : Place → ImpreciseEvent → List ImpreciseEvent → ℕ → Played
played_at a h steps units = record {
  run = record { at = step_result_of a.wild h; steps = steps; left = a.input; units = units };
  waited = waited_in a.wild.pending;
}

-- The code made this part of the definition's run, whatever steps there were before, and saw what it put.
pub record ReplayEffect (expected : List ℕ) (part : Program → Played → Option Played) (old new : Place) : Type 0 where
  pub used : ℕ
  pub steps : List ImpreciseEvent
  pub program : program_at new ≡ program_at old
  pub fewer : length new.input ≤ length old.input
  pub is : (h : ImpreciseEvent) → IsLast old.cursor.last h → (before : List ImpreciseEvent) (units : ℕ)
      → (last : ImpreciseEvent) × IsLast new.cursor.last last
      × (part (program_at old) (played_at old h before units)
      ≡ Some (played_at new last (before ++ steps) (units + used)))
  pub sees : (put : List ℕ) → Sees expected old.cursor.seen put
      → Sees expected new.cursor.seen (put ++ output (seen steps))

-- this part of the definition's run is impossible
abbrev pub Fails : (Program → Played → Option Played) → Place → Type 0
Fails part old = (h : ImpreciseEvent) → IsLast old.cursor.last h → (before : List ImpreciseEvent) (units : ℕ)
    → part (program_at old) (played_at old h before units) ≡ None

-- the first items were played, so many
pub record Plays (expected : List ℕ) (items : List Item) (count : ℕ) (old new : Place) : Type 0 where
  pub used : ℕ
  pub steps : List ImpreciseEvent
  pub program : program_at new ≡ program_at old
  pub fewer : length new.input ≤ length old.input
  pub is : (h : ImpreciseEvent) → IsLast old.cursor.last h → (before : List ImpreciseEvent) (units : ℕ)
      → (last : ImpreciseEvent) × IsLast new.cursor.last last
      × (listed_from (program_at old) 0 items (played_at old h before units)
      ≡ listed_from (program_at old) count (drop count items) (played_at new last (before ++ steps) (units + used)))
  pub sees : (put : List ℕ) → Sees expected old.cursor.seen put
      → Sees expected new.cursor.seen (put ++ output (seen steps))

-- the item with this number is the first that is impossible
abbrev pub StopsAt : List Item → ℕ → Place → Type 0
StopsAt items n old = (h : ImpreciseEvent) → IsLast old.cursor.last h → (before : List ImpreciseEvent) (units : ℕ)
    → listed_from (program_at old) 0 items (played_at old h before units) ≡ Err n

-- ---- one step

-- the step that was made where this move was asked for, over an input of which this was left
pub record Moved (m : Move) (event : Event) (old new : ImpreciseState) (input left : List ℕ) : Type 0 where
  pub label : StepLabel
  pub is : ImpreciseStepBy (given_choice m (asked old)) old label new
  pub event_is : label.event ≡ event
  pub fed : Fed input label.seen left
