-- The registers of both machines while a trap is pending.
use Rattle.std.specs.Prelude.{◌≡◌, ◌≢◌, ◌<◌, ◌≤◌, ◌+◌, ℕ, ◌⊎◌, List, length}
use Rattle.alpha_words.specs.declared.Completion.{Completion}
use Rattle.alpha_words.specs.Regs.{reg}
use Rattle.alpha_table.specs.Code.{class_at}
use Rattle.alpha_restart.specs.Safe.{Steady}
use Rattle.alpha_restart.specs.Match.{Dead}
use Rattle.alpha_restart.specs.Trigger.{Trigger, trigger_word, trigger_value}

-- The trigger at a place has overflowed, and the imprecise machine has come to `at`. The precise registers are those
-- right behind the trigger. But for its destination each actual register is the same, or is written again up to `to`
-- before it is read; and the trigger's sources still give the value that the destination has in the precise machine.
pub record Shadow (code : List ℕ) (completion : Completion) (place at to : ℕ) (t : Trigger)
    (precise actual : List ℕ) : Type 0 where
  pub order : at ≤ to
  pub above : place < at
  pub word : class_at code place ≡ trigger_word t
  pub counted : t.rc < 31
  pub size : length precise ≡ 32
  pub size_too : length actual ≡ 32
  pub registers : (r : ℕ) → r ≢ t.rc → (reg actual r ≡ reg precise r) ⊎ Dead code (place + 1) to r
  pub steady : Steady code place to
  pub value : trigger_value completion t actual ≡ reg precise t.rc
