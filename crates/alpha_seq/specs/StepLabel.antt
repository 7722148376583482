-- What a step of a machine was.
use Rattle.std.specs.Prelude.{◌≡◌, ℕ, Bool, true, false, List, []}
use Rattle.alpha_mem.specs.Block.{Block}
use Rattle.alpha_pal.specs.Passed.{IsPassed}
use Rattle.alpha_seq.specs.declared.machine.Machine.{Machine}
use Rattle.alpha_seq.specs.declared.event.Event.{Event as SeenEvent}
use Rattle.alpha_seq.specs.declared.event.Event.TheVariants as events
use Rattle.alpha_seq.specs.State.{Event}

-- What one step of a machine was: the units that it used, the words that it drew, what was seen of it, how the code
-- says it, and the registers, memory and PC behind it.
pub record StepLabel : Type 0 where
  pub units : ℕ
  pub words : List ℕ
  pub seen : List Event
  pub event : SeenEvent
  pub core : Machine

-- the program has ended, or a trap is lost
abbrev pub is_over : SeenEvent → Bool
is_over events.Went = false
is_over (events.Barrier passed) = false
is_over (events.Overflowed at) = false
is_over (events.Triggered value) = false
is_over (events.Waited wait) = false
is_over (events.Reported at) = false
is_over (events.Ended end) = true
is_over (events.Lost pc mask) = true

-- a barrier took and put what it says, which stands in memory behind it, and every other step nothing
abbrev pub HasPassed : SeenEvent → List Block → List ℕ → List ℕ → Type 0
HasPassed (events.Barrier passed) mem taken bytes = IsPassed passed mem taken bytes
HasPassed event mem taken bytes = (taken ≡ []) × (bytes ≡ [])
