-- What the imprecise machine is at a moment, and what it is free to choose at a step.
use Rattle.std.specs.Prelude.{◌^◌, ◌==◌, ℕ, Bool, bit_or, if◌then◌else◌, Option}
use Rattle.alpha_seq.specs.State.{State, Event}

-- A trap that is pending: the place of its trigger, and the registers that may be spoilt. Places are numbers of code
-- words from 0. Bit n of a mask, n from 0 to 30, stands for Rn.
pub record Trap : Type 0 where
  pub place : ℕ
  pub mask : ℕ

-- the mask and one register more, which is never R31
abbrev pub with_register : ℕ → ℕ → ℕ
with_register mask r = if r == 31 then mask else bit_or mask (2 ^ r)

-- What the machine chooses at a step: whether a pending trap is reported, the value that a destination gets, the bytes
-- that a store puts, the lowest first, and whether a word that may trap adds its destination to the mask.
pub record Choice : Type 0 where
  pub report : Bool
  pub value : ℕ
  pub bytes : ℕ
  pub adds : Bool

-- How a step went. With nothing pending it is a precise step with its event, or it triggered a trap, and its
-- destination got this value. While a trap is pending its word was executed and the trap waited: whether it added to
-- the mask, the value of its destination and the bytes that it stored; or the trap was reported, and the trigger's
-- address logged; or it was lost, with the PC and the mask of its report. A report that stops the program is the end of
-- the program.
pub data ImpreciseEvent : Type 0 where
  Precisely : (event : Event) → ImpreciseEvent
  Triggered : (value : ℕ) → ImpreciseEvent
  Waited : (adds : Bool) (value bytes : ℕ) → ImpreciseEvent
  Reported : (at : ℕ) → ImpreciseEvent
  Lost : (pc mask : ℕ) → ImpreciseEvent

-- the state, the trap that is pending, and how the last step went
pub record StepResult : Type 0 where
  pub state : State
  pub pending : Option Trap
  pub last_event : ImpreciseEvent

abbrev pub step_result : State → Option Trap → ImpreciseEvent → StepResult
step_result state pending last_event = record { state = state; pending = pending; last_event = last_event }
