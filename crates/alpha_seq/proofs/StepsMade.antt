-- What the machine's step did, as the step of a run.
use Rattle.std.proofs.Common.{◌≡◌, ◌≤◌, ℕ, true, List, [], ◌∷◌, ◌++◌, length, take, Option, None, Some, refl, sym, ap}
use Rattle.std.proofs.Common.{subst, ◌∙◌, arith, append-nil, length-take}
use Rattle.alpha_words.specs.declared.PalCall.TheVariants.{Callsys}
use Rattle.alpha_words.specs.Regs.{reg, put as put_reg}
use Rattle.alpha_io.specs.Faults.{Faulted}
use Rattle.alpha_io.specs.Supply.{Supply}
use Rattle.alpha_io.specs.SinkChange.{SinkChange, Puts, HasFailed}
use Rattle.alpha_io.specs.Written.{WritesPrefix}
use Rattle.alpha_table.specs.Class.{barrier}
use Rattle.alpha_mem.specs.Intent.{Load, Store}
use Rattle.alpha_mem.specs.Block.{Block, shapes, within}
use Rattle.alpha_mem.specs.Memory.{bytes_at, write_bytes}
use Rattle.alpha_pal.specs.declared.fault.Fault.TheVariants as faults
use Rattle.alpha_pal.specs.declared.pal_end.Passed.{Passed}
use Rattle.alpha_pal.specs.declared.pal_end.Passed.TheVariants.{Took, Put}
use Rattle.alpha_pal.specs.Kernel.{KernelState}
use Rattle.alpha_pal.specs.Call.{Traffic, Read, Wrote, call}
use Rattle.alpha_pal.specs.Serve.{system_call_of}
use Rattle.alpha_pal.specs.CallEffect.{Takes, ReadsTold, Reads, TakesPart, PutsPart}
use Rattle.alpha_pal.proofs.InputTaken.{StandsAt-write_bytes}
use Rattle.alpha_pal.proofs.InputRequests.{take-again}
use Rattle.alpha_seq.specs.declared.event.Event.{Event as SeenEvent}
use Rattle.alpha_seq.specs.declared.machine.Machine.{Machine}
use Rattle.alpha_seq.specs.State.{Event, Barriered, stepped}
use Rattle.alpha_seq.specs.Step.{next_class, next_pc, step_from}
use Rattle.alpha_seq.specs.Run.{traffic_of, given, put, taken, output, left_by}
use Rattle.alpha_seq.specs.Machine.{program_of, state_of, class_here, kernel_left}
use Rattle.alpha_seq.specs.Devices.{Drawn, Rests, Idles}
use Rattle.alpha_seq.specs.StepLabel.{HasPassed}
use Rattle.alpha_seq.specs.Sequential.{seen_as, SeqStepEffect, FaultedSeqStep}
use Rattle.alpha_seq.proofs.RunSteps.{idle-part}

-- what was taken and is left of an input that is told
Takes-told : (old new : Option (List ℕ)) (taken rest left : List ℕ) → old ≡ Some left → Takes old new taken rest
    → (left ≡ taken ++ rest) × (new ≡ Some rest)
Takes-told old new taken rest left is took = subst (λ (o : Option (List ℕ)). Takes o new taken rest) is took

-- The step of the definition, where what its event was given is there to be read. What passed went through the devices,
-- and stands in memory where a barrier says so.
pub record MakesStep (event : Event) (passed : Passed) (old new : Machine) (input : Drawn)
    (out : SinkChange) : Type 0 where
  pub is : step_from (program_of old) (state_of old) (given event) ≡ stepped (state_of new) event
  pub fed : Reads input.old (traffic_of event) input.new
  pub same : input.now ≡ input.before
  pub wrote : Puts out (put event)
  pub passes : HasPassed (seen_as event passed) new.memory (given event) (put event)

-- the kernel after a step from here
abbrev pub kernel_here : Machine → Machine → Type 0
kernel_here old new = new.kernel ≡ kernel_left (class_here old) (next_pc (state_of old)) old.regs old.kernel

-- what passed in a single step
passed-one : (event : Event) (seen : SeenEvent) (mem : List Block) → HasPassed seen mem (given event) (put event)
    → HasPassed seen mem (taken (event ∷ [])) (output (event ∷ []))
passed-one event seen mem h =
    subst (λ l. HasPassed seen mem l (output (event ∷ []))) (sym (append-nil (given event)))
    (subst (λ l. HasPassed seen mem (given event) l) (sym (append-nil (put event))) h)

pub MakesStep-effect : (event : Event) (passed : Passed) (old new : Machine) (input : Drawn) (out : SinkChange)
    → MakesStep event passed old new input out → kernel_here old new
    → program_of new ≡ program_of old → SeqStepEffect (seen_as event passed) old new input out
MakesStep-effect event passed old new input out did kernel program = record {
  label = record { units = 1; words = []; seen = event ∷ []; event = seen_as event passed; core = new };
  is = record {
    last_event = event;
    passed = passed;
    seen = refl;
    event = refl;
    units = refl;
    words = refl;
    core = refl;
    is = did.is;
    passes = passed-one event (seen_as event passed) new.memory did.passes;
    kernel = kernel;
    program = program;
  };
  units = refl;
  event_is = refl;
  core_is = refl;
  drew = refl;
  fed = record {
    told = λ bytes tells.
        let reads = subst (λ (l : Option (List ℕ)). ReadsTold l (traffic_of event) input.new.left) tells did.fed.told in
        (left_by event bytes, (reads.0, refl), reads.1);
    answers = (input.new.replies, did.fed.answers, refl);
  };
  same = did.same;
  wrote = subst (Puts out) (sym (append-nil (put event))) did.wrote;
}

-- ---- a step that a fault cuts short

take_at-most : (n : ℕ) (xs : List ℕ) → length (take n xs) ≤ n
take_at-most n xs = omega (arith, length-take n xs)

-- the machine after a system call with this value
abbrev pub served_machine : Machine → ℕ → Machine
served_machine m value = record m {
  regs = put_reg (put_reg m.regs 0 value) 19 0;
  pc = next_pc (state_of m);
  lock = None;
  kernel = kernel_left (Some (barrier (Some Callsys))) (next_pc (state_of m)) m.regs m.kernel;
}

-- the machine after a read that is given these bytes
abbrev pub read_machine : Machine → List ℕ → Machine
read_machine m bytes = record (served_machine m (length bytes)) { memory = write_bytes m.memory (reg m.regs 17) bytes }

-- such a barrier
abbrev pub barrier_event : Machine → Traffic → Event
barrier_event m traffic = Barriered traffic m.pc m.regs

pub step-reads_all : (m : Machine) (input : List ℕ) → next_class (program_of m) m.pc ≡ Some (barrier (Some Callsys))
    → reg m.regs 0 ≡ 3 → reg m.regs 16 ≡ 0 → within (shapes m.memory) Store (reg m.regs 17) (reg m.regs 18) ≡ true
    → let n = read_machine m (take (reg m.regs 18) input) in
    step_from (program_of m) (state_of m) input
    ≡ stepped (state_of n) (barrier_event n (Read (reg m.regs 18) (take (reg m.regs 18) input)))
unfolding call
step-reads_all m input class number descriptor range = rw (class, number, descriptor, range) refl

pub writes_all : (m : Machine) (input : List ℕ) → next_class (program_of m) m.pc ≡ Some (barrier (Some Callsys))
    → reg m.regs 0 ≡ 4 → reg m.regs 16 ≡ 1 → within (shapes m.memory) Load (reg m.regs 17) (reg m.regs 18) ≡ true
    → let n = served_machine m (reg m.regs 18) in
    step_from (program_of m) (state_of m) input
    ≡ stepped (state_of n) (barrier_event n (Wrote (bytes_at m.memory (reg m.regs 17) (reg m.regs 18))))
unfolding call
writes_all m input class number descriptor range = rw (class, number, descriptor, range) refl

-- a read whose source failed: the step to the machine after a read that takes all it asks for, of which some was taken
pub FaultedSeqStep-input_fails : (old new : Machine) (input : Drawn) (out : SinkChange)
    → class_here old ≡ Some (barrier (Some Callsys))
    → TakesPart (system_call_of old.regs) old.memory new.memory input.old input.new
    → new ≡ record old { memory = new.memory; kernel = new.kernel }
    → kernel_here old new → input.before ≤ input.now → Faulted input.before input.now → Idles out
    → FaultedSeqStep faults.Input old new input out
FaultedSeqStep-input_fails old new input out class part stays kernel later cause idle =
    let at = reg old.regs 17 in
    let n = reg old.regs 18 in
    let bytes = take n (part.taken ++ part.rest) in
    let passed = Took at (length bytes) in
    let would = read_machine old bytes in
    let event = barrier_event would (Read n bytes) in
    let there =
    StandsAt-write_bytes old.memory at n bytes part.layout part.range (take_at-most n (part.taken ++ part.rest)) in
    record {
      intended = would;
      label = record { units = 1; words = []; seen = event ∷ []; event = seen_as event passed; core = would };
      is = record {
        last_event = event;
        passed = passed;
        seen = refl;
        event = refl;
        units = refl;
        words = refl;
        core = refl;
        is = step-reads_all old bytes class part.number part.descriptor part.range
            ∙ ap (λ (l : List ℕ). let m = read_machine old l in stepped (state_of m) (barrier_event m (Read n l)))
            (take-again n (part.taken ++ part.rest));
        passes = passed-one event (seen_as event passed) would.memory (there.0, there.1, refl);
        kernel = ap (λ class. kernel_left class (next_pc (state_of old)) old.regs old.kernel) (sym class);
        program = refl;
      };
      units = refl;
      core_is = refl;
      drew = refl;
      fed = λ left is. (
        left_by event left,
        (ap (take n) (sym (Takes-told input.old.left input.new.left part.taken part.rest left is part.took).0), refl),
      );
      left = λ left is.
          let told = Takes-told input.old.left input.new.left part.taken part.rest left is part.took in
          (part.taken, part.rest, told.0, told.1);
      wrote = idle-part out [] idle;
      after_fault = record {
        class = class;
        part = part;
        same = stays ∙ ap (λ (k : KernelState). record old { memory = new.memory; kernel = k }) kernel;
        idle = idle;
      };
      cause = λ lines same. record { later = later; source = cause; sink = idle.same; lines = same };
    }

-- a write whose sink failed: the step to the machine after a write, of whose bytes a front was put
pub FaultedSeqStep-output_fails : (old new : Machine) (input : Drawn) (out : SinkChange)
    → class_here old ≡ Some (barrier (Some Callsys))
    → PutsPart (system_call_of old.regs) old.memory out.old out.new → new ≡ record old { kernel = new.kernel }
    → kernel_here old new → out.before ≤ out.now → HasFailed out → Rests input
    → FaultedSeqStep faults.Output old new input out
FaultedSeqStep-output_fails old new input out class part unmade kernel later cause rests =
    let bytes = bytes_at old.memory (reg old.regs 17) (reg old.regs 18) in
    let passed = Put (reg old.regs 17) (reg old.regs 18) in
    let would = served_machine old (reg old.regs 18) in
    let event = barrier_event would (Wrote bytes) in
    record {
      intended = would;
      label = record { units = 1; words = []; seen = event ∷ []; event = seen_as event passed; core = would };
      is = record {
        last_event = event;
        passed = passed;
        seen = refl;
        event = refl;
        units = refl;
        words = refl;
        core = refl;
        is = writes_all old [] class part.number part.descriptor part.range;
        passes = passed-one event (seen_as event passed) would.memory (part.range, refl, refl);
        kernel = ap (λ class. kernel_left class (next_pc (state_of old)) old.regs old.kernel) (sym class);
        program = refl;
      };
      units = refl;
      core_is = refl;
      drew = refl;
      fed = λ left is. (left, (refl, refl));
      left = λ left is. ([], left, refl, ap (λ (s : Supply). s.left) rests.left ∙ is);
      wrote = subst (WritesPrefix out.old out.new) (sym (append-nil bytes)) part.prefix;
      after_fault = record {
        class = class;
        part = part;
        same = unmade ∙ ap (λ (k : KernelState). record old { kernel = k }) kernel;
        rests = rests;
      };
      cause = λ lines same. record { source = rests.same; later = later; sink = cause; lines = same };
    }
