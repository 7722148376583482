-- Who chooses as a move says.
use Rattle.std.specs.Prelude.{◌≡◌, ℕ, Some, None}
use Rattle.alpha_imprecise.specs.StepResult.{Choice}
use Rattle.alpha_imprecise.specs.Chosen.{reporting, triggering}
use Rattle.alpha_imprecise.specs.ChoiceSource.{Pick, Asked, Unasked, ValueAsked, PickAsked, choice_by}
use Rattle.alpha_replay.specs.declared.fixed_choice.FixedChoice.{FixedChoice}
use Rattle.alpha_replay.specs.declared.moves.Move.{Move}
use Rattle.alpha_replay.specs.declared.moves.Move.TheVariants.{One, Trips, Waits, Reports}

-- how a word is executed while a trap is pending, a report where the move is another
abbrev pub pick_of : Move → Pick
pick_of One = None
pick_of (Trips value) = None
pick_of (Waits adds value) = Some (record { adds = adds; value = value })
pick_of Reports = None

-- the value of a trigger's destination, 0 where the move is another
abbrev pub value_of : Move → ℕ
value_of One = 0
value_of (Trips value) = value
value_of (Waits adds value) = 0
value_of Reports = 0

abbrev pub gives_pick : FixedChoice → Pick → FixedChoice → Type 0
gives_pick old pick new = (pick ≡ pick_of old.step) × (new ≡ old)

abbrev pub gives_value : FixedChoice → ℕ → FixedChoice → Type 0
gives_value old value new = (value ≡ value_of old.step) × (new ≡ old)

-- the choice that a step makes by it
abbrev pub given_choice : Move → Asked → Choice
given_choice m Unasked = (reporting 0).choice
given_choice m ValueAsked = (triggering (value_of m)).choice
given_choice m PickAsked = choice_by (pick_of m)
