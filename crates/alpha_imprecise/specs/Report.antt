-- What a report left, by how it went.
use Rattle.std.specs.Prelude.{◌≡◌, ℕ, ◌+◌, ◌-◌, ◌%◌, ◌^◌, Bool, true, false, Option, None}
use Rattle.alpha_seq.specs.declared.end.End.TheVariants as ends
use Rattle.alpha_seq.specs.declared.event.Event.{Event}
use Rattle.alpha_seq.specs.declared.event.Event.TheVariants as events
use Rattle.alpha_seq.specs.declared.machine.Machine.{Machine}
use Rattle.alpha_seq.specs.State.{Ends}
use Rattle.alpha_seq.specs.Machine.{program_of, state_of}
use Rattle.alpha_trap.specs.declared.handler.Lost as handler
use Rattle.alpha_imprecise.specs.StepResult.{Trap, ImpreciseEvent, Precisely, Reported, step_result}
use Rattle.alpha_imprecise.specs.Step.{report}
use Rattle.alpha_imprecise.specs.ImpreciseState.{returned_kernel}

-- how a report went at which the handler answered a PC, by whether it stops the program: as the definition and as the
-- code says it
abbrev pub landing_at : Bool → ℕ → ImpreciseEvent
landing_at true pc = Precisely (Ends (ends.Overflow pc))
landing_at false pc = Reported (pc - 4)

abbrev pub answer_at : Bool → ℕ → Event
answer_at true pc = events.Ended (ends.Overflow pc)
answer_at false pc = events.Reported (pc - 4)

-- the machine that the handler left, at that PC
abbrev pub machine_at : Bool → Machine → ℕ → Machine
machine_at true m pc = record m { pc = pc }
machine_at false m pc = record m { pc = pc; lock = None; overflows = (m.overflows + 1) % 2 ^ 64; last = pc - 4 }

-- The report of the definition; the frame is that of the state as it is then.
pub record Reports (last_event : ImpreciseEvent) (left : Option Trap) (trap : Trap) (old new : Machine) : Type 0 where
  pub is : report (program_of old) (state_of old) trap ≡ step_result (state_of new) left last_event
  pub program : program_of new ≡ program_of old
  pub memory : new.memory ≡ old.memory
  pub kernel : new.kernel ≡ returned_kernel new.pc new.regs

-- the trap of a report at an address, with a mask, as the handler has it
abbrev pub handler_trap : ℕ → ℕ → handler.Lost
handler_trap pc mask = record { trap_pc = pc; mask = mask }
