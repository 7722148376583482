-- What the execution of a word does, class by class.
use Rattle.std.proofs.Common.{◌≡◌, ◌≢◌, ℕ, ◌+◌, ◌%◌, ◌^◌, Bool, true, false, cond, List, [], Option, None, Some, Result}
use Rattle.std.proofs.Common.{Ok, Err, refl, sym, ap, subst, ◌∙◌}
use Rattle.std.specs.Prelude.{slice_get, is_ok, IfErr}
use Rattle.std.specs.Option.{option_map, option_and_then}
use Rattle.alpha_io.specs.Supply.{Supply}
use Rattle.alpha_io.specs.SinkChange.{SinkChange, Puts}
use Rattle.alpha_io.proofs.Sinks.{Puts-none}
use Rattle.alpha_words.specs.Regs.{reg}
use Rattle.alpha_words.specs.declared.Completion.{Completion}
use Rattle.alpha_words.specs.declared.PalCall.{PalCall}
use Rattle.alpha_words.specs.declared.PalCall.TheVariants.{Callsys}
use Rattle.alpha_pal.specs.declared.pal_end.Passed.TheVariants.{Nothing}
use Rattle.alpha_pal.specs.Kernel.{KernelState}
use Rattle.alpha_pal.specs.Call.{Traffic, Silent, given_in, put_in, Called, continues, exits, signals, call}
use Rattle.alpha_pal.specs.CallEffect.{Reads, kernel_after}
use Rattle.alpha_pal.proofs.SystemCalls.{Reads-silent}
use Rattle.alpha_table.specs.declared.columns.InsnKind.TheVariants as kinds
use Rattle.alpha_table.specs.declared.columns.MemAccess.{MemAccess}
use Rattle.alpha_table.specs.declared.op.Op.{Op}
use Rattle.alpha_table.specs.declared.op.OpRole.{OpRole}
use Rattle.alpha_table.specs.declared.op.TrapOp.{TrapOp}
use Rattle.alpha_table.specs.declared.op.OpRole.TheVariants.{Plain, Move, Trap}
use Rattle.alpha_table.specs.declared.form.Src.{Src}
use Rattle.alpha_table.specs.declared.form.Form.{Form}
use Rattle.alpha_table.specs.declared.form.Form.TheVariants.{Operate, Misc}
use Rattle.alpha_table.specs.declared.rows.MiscOp.{MiscOp}
use Rattle.alpha_table.specs.Rows.{misc_row}
use Rattle.alpha_table.specs.Op.{role_trap, trap_of, op_row}
use Rattle.alpha_table.specs.Class.{Class, operate, trigger, barrier, idle}
use Rattle.alpha_table.specs.ClassOf.{operate_class, class_of}
use Rattle.alpha_table.specs.Columns.{kind_of}
use Rattle.alpha_table.specs.Code.{class_kind, class_at}
use Rattle.alpha_table.specs.Decoded.{decoded}
use Rattle.alpha_table.proofs.Classes.{class_at-decoded}
use Rattle.alpha_mem.specs.Block.{Block, shapes}
use Rattle.alpha_mem.specs.declared.access.MemFault.{MemFault}
use Rattle.alpha_values.specs.Source.{source_value}
use Rattle.alpha_values.specs.TrapOp.{overflow_of, completed_of, stops}
use Rattle.alpha_image.specs.Parts.{place_of}
use Rattle.alpha_seq.specs.declared.end.End.TheVariants as ends
use Rattle.alpha_seq.specs.declared.event.Event.{Event as SeenEvent}
use Rattle.alpha_seq.specs.declared.event.Event.TheVariants as events
use Rattle.alpha_seq.specs.declared.machine.Machine.{Machine}
use Rattle.alpha_seq.specs.State.{State, Event, Went, Barriered, Overflowed, Ends, Stepped, stepped}
use Rattle.alpha_seq.specs.Step.{next_pc, setting, fault_end, accessed, ended, went, logging, overflowed, returned}
use Rattle.alpha_seq.specs.Step.{step}
use Rattle.alpha_seq.specs.Run.{traffic_of, given}
use Rattle.alpha_seq.specs.Next.{next_insn}
use Rattle.alpha_seq.specs.Machine.{program_of, state_of, class_here, kernel_left}
use Rattle.alpha_seq.specs.Devices.{Drawn}
use Rattle.alpha_seq.specs.StepLabel.{HasPassed}
use Rattle.alpha_seq.specs.Sequential.{seen_as, SeqStepEffect}
use Rattle.alpha_seq.proofs.StepsMade.{MakesStep, MakesStep-effect}
use Rattle.alpha_seq.specs.Executed.{ExecutesWord, ExecuteEffect, Retires, FaultEffect}
use Rattle.alpha_seq.proofs.SingleSteps.{StepLeaves-step}

-- the class of a place's word is that of its instruction
class_by_place : (words : List ℕ) (place : Option ℕ)
    → option_and_then (class_at words) place
    ≡ option_map class_of (option_and_then (λ k. option_and_then decoded (slice_get words k)) place)
class_by_place words None = refl
class_by_place words (Some k) = class_at-decoded words k

pub class_here-insn : (m : Machine) (insn : Option Form) → insn ≡ next_insn (program_of m) m.pc
    → class_here m ≡ option_map class_of insn
class_here-insn m insn e = class_by_place m.image.words (place_of m.image m.pc) ∙ ap (option_map class_of) (sym e)

-- a word that is executed leaves where the blocks lie
pub ExecutesWord-shapes : (event : Event) (class : Class) (old new : Machine) → ExecutesWord event class old new
    → shapes new.memory ≡ shapes old.memory
ExecutesWord-shapes event class old new does =
    sym (ap (λ (t : Stepped). shapes t.state.mem) (does.is []))
    ∙ (StepLeaves-step (program_of old) (Some class) (state_of old) []).blocks

-- and the kernel
pub ExecutesWord-kernel : (event : Event) (class : Class) (old new : Machine)
    → class_here old ≡ Some class → ExecutesWord event class old new
    → new.kernel ≡ kernel_left (class_here old) (next_pc (state_of old)) old.regs old.kernel
ExecutesWord-kernel event class old new here does =
    does.kernel ∙ ap (λ (c : Option Class). kernel_left c (next_pc (state_of old)) old.regs old.kernel) (sym here)

kernel-user : (class : Option Class) (next : ℕ) (regs : List ℕ) (k : KernelState) → k.user ≡ true
    → (kernel_left class next regs k).user ≡ true
kernel-user (Some (barrier (Some Callsys))) next regs k user = refl
kernel-user _ next regs k user = user

-- which stays in user mode
pub ExecutesWord-user : (event : Event) (class : Class) (old new : Machine) → old.kernel.user ≡ true
    → ExecutesWord event class old new
    → new.kernel.user ≡ true
ExecutesWord-user event class old new user does =
    ap (λ (k : KernelState). k.user) does.kernel
    ∙ kernel-user (Some class) (next_pc (state_of old)) old.regs old.kernel user

-- what passes in a step that takes and puts nothing
passes_nothing : (event : Event) (mem : List Block) → HasPassed (seen_as event Nothing) mem [] []
passes_nothing Went mem = (refl, refl)
passes_nothing (Barriered traffic pc regs) mem = (refl, refl)
passes_nothing (Overflowed at) mem = (refl, refl)
passes_nothing (Ends end) mem = (refl, refl)

-- a step that leaves its devices alone
pub MakesStep-quiet : (event : Event) (class : Option Class) (old new : Machine)
    (left : Supply) (written : Option (List ℕ)) (faults count : ℕ)
    → traffic_of event ≡ Silent → class_here old ≡ class
    → ((input : List ℕ) → step (program_of old) class (state_of old) input ≡ stepped (state_of new) event)
    → MakesStep event Nothing old new (record { old = left; new = left; before = faults; now = faults })
    (record { old = written; new = written; before = count; now = count })
MakesStep-quiet event class old new left written faults count quiet here does = record {
  is = ap (λ c. step (program_of old) c (state_of old) (given event)) here ∙ does (given event);
  fed = subst (λ t. Reads left t left) (sym quiet) (Reads-silent left);
  same = refl;
  wrote =
      subst (λ (t : Traffic). Puts (record { old = written; new = written; before = count; now = count }) (put_in t))
      (sym quiet) (Puts-none written count);
  passes =
      subst (λ (t : Traffic). HasPassed (seen_as event Nothing) new.memory (given_in t) (put_in t)) (sym quiet)
      (passes_nothing event new.memory);
}

-- a step that only went on leaves the kernel, and where the blocks lie
pub Retires-kernel : (old new : Machine) → Retires old new
    → new.kernel ≡ kernel_left (class_here old) (next_pc (state_of old)) old.regs old.kernel
Retires-kernel old new h = ExecutesWord-kernel Went h.class old new h.here h.does

pub Retires-shapes : (old new : Machine) → Retires old new → shapes new.memory ≡ shapes old.memory
Retires-shapes old new h = ExecutesWord-shapes Went h.class old new h.does

-- an instruction that never traps
plain_class : (role : OpRole) (op : Op) (ra : ℕ) (src : Src) (rc : ℕ) → role_trap role ≡ None
    → operate_class role op ra src rc ≡ operate op ra src rc
plain_class Plain op ra src rc e = refl
plain_class Move op ra src rc e = refl
plain_class (Trap trap) op ra src rc e = cc

pub ExecutesWord-plain : (op : Op) (ra : ℕ) (src : Src) (rc : ℕ) (i : Form) (old new : Machine) → trap_of op ≡ None
    → Operate op ra src rc ≡ i
    → ExecutesWord Went (operate op ra src rc) old new → ExecutesWord Went (class_of i) old new
ExecutesWord-plain op ra src rc i old new never is does =
    subst (λ (class : Class). ExecutesWord Went class old new)
    (sym (plain_class (op_row op).role op ra src rc never) ∙ ap class_of is) does

-- a barrier that is no PAL call, and the words beside it
misc_barrier : (op : MiscOp) → kind_of (Misc op) ≡ kinds.Barrier → class_of (Misc op) ≡ barrier None
misc_barrier op e = by (misc_row op).reports e
  where
    by : (b : Bool) → class_kind (cond b (barrier None) idle) ≡ kinds.Barrier
        → cond b (barrier None) idle ≡ barrier None
    by true e = refl
    by false e = cc

misc_idle : (op : MiscOp) → kind_of (Misc op) ≢ kinds.Barrier → class_of (Misc op) ≡ idle
misc_idle op e = by (misc_row op).reports e
  where
    by : (b : Bool) → class_kind (cond b (barrier None) idle) ≢ kinds.Barrier → cond b (barrier None) idle ≡ idle
    by true e = absurd (e refl)
    by false e = refl

pub ExecutesWord-barrier : (op : MiscOp) (i : Form) (old new : Machine) → Misc op ≡ i → kind_of i ≡ kinds.Barrier
    → new ≡ record old { pc = (old.pc + 4) % 2 ^ 64 }
    → ExecutesWord (Barriered Silent new.pc new.regs) (class_of i) old new
ExecutesWord-barrier op i old new is kind moved =
    let passed : ExecutesWord (Barriered Silent ((old.pc + 4) % 2 ^ 64) old.regs) (barrier None) old
    (record old { pc = (old.pc + 4) % 2 ^ 64 }) =
    record { is = λ input. refl; program = refl; kernel = refl } in
    subst (λ (class : Class). ExecutesWord (Barriered Silent new.pc new.regs) class old new)
    (sym (misc_barrier op (ap kind_of is ∙ kind)) ∙ ap class_of is)
    (subst (λ (n : Machine). ExecutesWord (Barriered Silent n.pc n.regs) (barrier None) old n) (sym moved) passed)

pub ExecutesWord-idle : (op : MiscOp) (i : Form) (old new : Machine) → Misc op ≡ i → kind_of i ≢ kinds.Barrier
    → ExecutesWord Went idle old new → ExecutesWord Went (class_of i) old new
ExecutesWord-idle op i old new is kind does =
    subst (λ (class : Class). ExecutesWord Went class old new)
    (sym (misc_idle op (λ e. kind (sym (ap kind_of is) ∙ e))) ∙ ap class_of is) does

-- the kernel after a PAL call, which is made from the state as it was
pub called-kernel : (function : PalCall) (old mid : Machine) (kernel : KernelState)
    → class_here old ≡ Some (barrier (Some function)) → mid ≡ old
    → kernel ≡ kernel_after function (next_pc (state_of mid)) mid.regs mid.kernel
    → kernel ≡ kernel_left (class_here old) (next_pc (state_of old)) old.regs old.kernel
called-kernel function old mid kernel here same e =
    e
    ∙ (ap (λ (m : Machine). kernel_after function (next_pc (state_of m)) m.regs m.kernel) same
    ∙ ap (λ (c : Option Class). kernel_left c (next_pc (state_of old)) old.regs old.kernel) (sym here))

-- what the execution of a word that is no PAL call did, as the step of the definition
pub record Executes (event : SeenEvent) (class : Class) (old new : Machine) : Type 0 where
  pub last_event : Event
  pub seen : event ≡ seen_as last_event Nothing
  pub quiet : traffic_of last_event ≡ Silent
  pub does : ExecutesWord last_event class old new

pub ExecuteEffect-executes : (event : SeenEvent) (class : Class) (old new : Machine) → ExecuteEffect event class old new
    → Executes event class old new
ExecuteEffect-executes events.Went class old new did =
    record { last_event = Went; seen = refl; quiet = refl; does = did }
ExecuteEffect-executes (events.Barrier passed) class old new did =
    record { last_event = Barriered Silent new.pc new.regs; seen = ap events.Barrier did.0; quiet = refl; does = did.1 }
ExecuteEffect-executes (events.Overflowed at) class old new did =
    record { last_event = Overflowed at; seen = refl; quiet = refl; does = did }
ExecuteEffect-executes (events.Triggered value) class old new did = absurd did
ExecuteEffect-executes (events.Waited wait) class old new did = absurd did
ExecuteEffect-executes (events.Reported at) class old new did = absurd did
ExecuteEffect-executes (events.Ended end) class old new did =
    record { last_event = Ends end; seen = refl; quiet = refl; does = did }
ExecuteEffect-executes (events.Lost pc mask) class old new did = absurd did

pub executes-makes : (event : SeenEvent) (class : Class) (old new : Machine) (left : Supply) (written : Option (List ℕ))
    (faults count : ℕ) → class_here old ≡ Some class
    → ExecuteEffect event class old new
    → SeqStepEffect event old new (record { old = left; new = left; before = faults; now = faults })
    (record { old = written; new = written; before = count; now = count })
executes-makes event class old new left written faults count here did =
    let input : Drawn = record { old = left; new = left; before = faults; now = faults } in
    let out : SinkChange = record { old = written; new = written; before = count; now = count } in
    let x = ExecuteEffect-executes event class old new did in
    subst (λ (e : SeenEvent). SeqStepEffect e old new input out) (sym x.seen)
    (MakesStep-effect x.last_event Nothing old new input out
    (MakesStep-quiet x.last_event (Some class) old new left written faults count x.quiet here x.does.is)
    (ExecutesWord-kernel x.last_event class old new here x.does) x.does.program)
