-- The lines of a step are those of what was seen of it: a barrier says the PC and the registers behind it.
use Rattle.std.specs.Prelude.{⊤}
use Rattle.std.proofs.Common.{◌≡◌, ℕ, Bool, true, false, cond, not, ◌||◌, List, Option, Some, None, refl, ap, ◌∙◌}
use Rattle.std.proofs.Common.{append-nil}
use Rattle.alpha_words.specs.declared.Completion.{Completion}
use Rattle.alpha_words.specs.declared.Completion.TheVariants.{Wrap, Saturate, Stop}
use Rattle.alpha_words.specs.declared.PalCall.{PalCall}
use Rattle.alpha_table.specs.declared.columns.MemAccess.{MemAccess}
use Rattle.alpha_table.specs.Class.{Class, operate, trigger, address, load, store, load_locked, store_conditional}
use Rattle.alpha_table.specs.Class.{branch, jump, barrier, idle}
use Rattle.alpha_values.specs.Source.{source_value}
use Rattle.alpha_values.specs.TrapOp.{overflow_of, completed_of, stops}
use Rattle.alpha_words.specs.Regs.{reg}
use Rattle.alpha_mem.specs.declared.access.MemFault.{MemFault}
use Rattle.alpha_mem.specs.Intent.{Intent, Load, Store}
use Rattle.alpha_mem.specs.Block.{shapes}
use Rattle.alpha_mem.specs.Fault.{fault_of}
use Rattle.alpha_pal.specs.declared.pal_end.Passed.{Passed}
use Rattle.alpha_pal.specs.Call.{Called, continues, exits, signals, call}
use Rattle.alpha_seq.specs.declared.end.End.TheVariants as ends
use Rattle.alpha_seq.specs.declared.machine.Machine.{Machine}
use Rattle.alpha_seq.specs.State.{Program, State, Event, Went, Barriered, Overflowed, Ends, Stepped}
use Rattle.alpha_seq.specs.Step.{onward, setting, accessed, loaded, written_memory, lock_block, matches, overflowed}
use Rattle.alpha_seq.specs.Step.{unless, conditional, returned, went, step}
use Rattle.alpha_seq.specs.Run.{lines_of, notes}
use Rattle.alpha_seq.specs.Notes.{barrier_lines}
use Rattle.alpha_seq.specs.Machine.{state_of}
use Rattle.alpha_seq.specs.Sequential.{seen_as}
use Rattle.alpha_trap.specs.Scan.{scan}
use Rattle.alpha_imprecise.specs.StepResult.{Trap, Choice, ImpreciseEvent, Precisely, Triggered, Waited, Reported, Lost}
use Rattle.alpha_imprecise.specs.StepResult.{StepResult, step_result}
use Rattle.alpha_imprecise.specs.Step.{triggers, triggered, precisely, address_at, completed, report, can_wait, waited}
use Rattle.alpha_imprecise.specs.Step.{imprecise_step_at}
use Rattle.alpha_imprecise.specs.Run.{seen_of}
use Rattle.alpha_imprecise.specs.ImpreciseStepEffect.{shown_as}
use Rattle.alpha_imprecise.proofs.ReportLandings.{report_at}
use Rattle.alpha_run.specs.Noted.{noted}

-- ---- the sequential machine

abbrev pub IsSaid : Event → State → Type 0
IsSaid (Barriered traffic pc regs) s = (pc ≡ s.pc) × (regs ≡ s.regs)
IsSaid event s = ⊤

abbrev pub IsSaidOf : Stepped → Type 0
IsSaidOf t = IsSaid t.event t.state

IsSaidOf-cond : (b : Bool) (t u : Stepped) → IsSaidOf t → IsSaidOf u → IsSaidOf (cond b t u)
IsSaidOf-cond true t u p q = p
IsSaidOf-cond false t u p q = q

IsSaidOf-overflowed : (completion : Completion) (s : State) (rc v : ℕ) → IsSaidOf (overflowed completion s rc v)
IsSaidOf-overflowed Wrap s rc v = tt
IsSaidOf-overflowed Saturate s rc v = tt
IsSaidOf-overflowed Stop s rc v = tt

IsSaidOf-unless : (fault : Option MemFault) (addr : ℕ) (s t : State) → IsSaidOf (unless fault addr s t)
IsSaidOf-unless None addr s t = tt
IsSaidOf-unless (Some fault) addr s t = tt

abbrev fault_at : Intent → MemAccess → State → Option MemFault
fault_at intent at s = fault_of (shapes s.mem) intent (accessed at s) at.bytes

returned_says : (function : PalCall) (c : Called) (s : State) → IsSaidOf (returned function c s)
returned_says function (continues regs mem unique traffic) s = (refl, refl)
returned_says function (exits v) s = tt
returned_says function (signals code) s = tt

pub step_says : (g : Program) (class : Option Class) (s : State) (input : List ℕ) → IsSaidOf (step g class s input)
step_says g None s input = tt
step_says g (Some (operate op ra src rc)) s input = tt
step_says g (Some (trigger op ra src rc)) s input =
    let v = completed_of op (reg s.regs ra) (source_value s.regs src) g.completion in
    IsSaidOf-cond (overflow_of op (reg s.regs ra) (source_value s.regs src)) (overflowed g.completion s rc v)
    (went (setting s rc v)) (IsSaidOf-overflowed g.completion s rc v) tt
step_says g (Some (address op ra rb disp)) s input = tt
step_says g (Some (load extension at ra)) s input =
    IsSaidOf-unless (fault_at Load at s) (accessed at s) s (setting s ra (loaded extension at s))
step_says g (Some (store at ra)) s input =
    IsSaidOf-unless (fault_at Store at s) (accessed at s) s (record (onward s) { mem = written_memory at ra s })
step_says g (Some (load_locked extension at ra)) s input =
    IsSaidOf-unless (fault_at Load at s) (accessed at s) s
    (record (setting s ra (loaded extension at s)) { lock = Some (lock_block at s) })
step_says g (Some (store_conditional at ra)) s input =
    IsSaidOf-unless (fault_at Store at s) (accessed at s) s (conditional (matches s.lock (lock_block at s)) at ra s)
step_says g (Some (branch condition ra disp)) s input = tt
step_says g (Some (jump ra rb)) s input = tt
step_says g (Some (barrier None)) s input = (refl, refl)
step_says g (Some (barrier (Some function))) s input =
    returned_says function (call function s.regs s.mem s.unique input) s
step_says g (Some idle) s input = tt

pub said_lines : (watch : Bool) (event : Event) (passed : Passed) (m : Machine) → IsSaid event (state_of m)
    → lines_of watch event ≡ noted watch (seen_as event passed) m
said_lines watch Went passed m said = refl
said_lines true (Barriered traffic pc regs) passed m said =
    ap (λ n. barrier_lines n regs) said.0 ∙ ap (barrier_lines m.pc) said.1
said_lines false (Barriered traffic pc regs) passed m said = refl
said_lines watch (Overflowed at) passed m said = refl
said_lines watch (Ends end) passed m said = refl

-- ---- the imprecise machine

abbrev pub IsLineOfImprecise : ImpreciseEvent → State → Type 0
IsLineOfImprecise (Precisely event) s = IsSaid event s
IsLineOfImprecise h s = ⊤

abbrev pub SaysImprecise : StepResult → Type 0
SaysImprecise m = IsLineOfImprecise m.last_event m.state

either_imprecise : (b : Bool) (m n : StepResult) → SaysImprecise m → SaysImprecise n → SaysImprecise (cond b m n)
either_imprecise true m n p q = p
either_imprecise false m n p q = q

found_says : (g : Program) (s : State) (t : Trap) (found : Option ℕ) → SaysImprecise (report_at g s t found)
found_says g s t None = tt
found_says g s t (Some at) =
    either_imprecise (stops g.completion)
    (step_result (record s { pc = address_at g.image at }) None
    (Precisely (Ends (ends.Overflow (address_at g.image at)))))
    (step_result (completed g s at) None (Reported (address_at g.image at))) tt tt

pub imprecise_says : (g : Program) (o : Option Class) (s : State) (p : Option Trap) (c : Choice) (input : List ℕ)
    → SaysImprecise (imprecise_step_at g o s p c input)
imprecise_says g o s None c input =
    either_imprecise (triggers o s) (triggered g o s c) (precisely (step g o s input)) tt (step_says g o s input)
imprecise_says g o s (Some t) c input =
    either_imprecise (c.report || not (can_wait o s)) (report g s t) (waited o s t c)
    (found_says g s t (scan g.image s.pc t.mask)) tt

pub imprecise_lines : (watch : Bool) (passed : Passed) (h : ImpreciseEvent) (m : Machine)
    → IsLineOfImprecise h (state_of m)
    → notes watch (seen_of h) ≡ noted watch (shown_as passed h) m
imprecise_lines watch passed (Precisely event) m said =
    append-nil (lines_of watch event) ∙ said_lines watch event passed m said
imprecise_lines watch passed (Triggered value) m said = refl
imprecise_lines watch passed (Waited adds value bytes) m said = refl
imprecise_lines watch passed (Reported at) m said = append-nil _
imprecise_lines watch passed (Lost pc mask) m said = refl
