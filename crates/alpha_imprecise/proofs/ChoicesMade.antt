-- Steps by a choice, by what the code of a step did.
use Rattle.std.specs.Prelude.{◌==◌, ◌&&◌, bit_or, unwrap_or}
use Rattle.std.proofs.Common.{◌≡◌, ◌+◌, ◌%◌, ◌^◌, not, ℕ, Bool, true, false, cond, List, [], Option, None, Some, refl}
use Rattle.std.proofs.Common.{sym, ap, ◌∙◌, arith, zero-add}
use Rattle.alpha_words.specs.declared.PalCall.{PalCall}
use Rattle.alpha_table.specs.Class.{Class, operate, trigger, address, load, store, load_locked, store_conditional}
use Rattle.alpha_table.specs.Class.{branch, jump, barrier, idle}
use Rattle.alpha_words.specs.Regs.{reg, put}
use Rattle.alpha_values.specs.Source.{source_value}
use Rattle.alpha_values.specs.TrapOp.{completed_of, stops}
use Rattle.alpha_mem.specs.declared.access.MemFault.{MemFault}
use Rattle.alpha_mem.specs.declared.access.MemFault.TheVariants as faults
use Rattle.alpha_pal.specs.declared.fault.Fault.{Fault}
use Rattle.alpha_pal.specs.Call.{Called, continues, exits, signals}
use Rattle.alpha_pal.specs.Kernel.{KernelState}
use Rattle.alpha_io.specs.SinkChange.{SinkChange}
use Rattle.alpha_image.specs.Parts.{place_of}
use Rattle.alpha_seq.specs.declared.machine.Machine.{Machine}
use Rattle.alpha_seq.specs.declared.event.Event.{Event as SeenEvent}
use Rattle.alpha_seq.specs.declared.event.Wait.{Wait}
use Rattle.alpha_seq.specs.declared.end.End.TheVariants.{Exit, Signal, Fetch, Access, Align, Overflow}
use Rattle.alpha_seq.specs.State.{Program, State, Event, Went, Barriered, Overflowed, Ends, Stepped, stepped}
use Rattle.alpha_seq.specs.Step.{next_pc, step, unless, returned, went, ended, setting, logging, overflowed}
use Rattle.alpha_seq.specs.Run.{given}
use Rattle.alpha_seq.specs.Machine.{program_of, state_of, class_here, kernel_left}
use Rattle.alpha_seq.specs.Devices.{Drawn}
use Rattle.alpha_seq.specs.StepLabel.{StepLabel}
use Rattle.alpha_seq.specs.StepEffect.{StepEffect, FaultedStepEffect}
use Rattle.alpha_seq.specs.Sequential.{SeqStep, SeqStepEffect, FaultedSeqStep, no_words}
use Rattle.alpha_seq.specs.Executed.{Retires}
use Rattle.alpha_seq.proofs.ExecutedInsns.{Retires-kernel}
use Rattle.alpha_imprecise.specs.declared.pending.Pending.{Pending}
use Rattle.alpha_imprecise.specs.StepResult.{Trap, with_register, ImpreciseEvent, Precisely, Triggered, Waited}
use Rattle.alpha_imprecise.specs.StepResult.{step_result}
use Rattle.alpha_imprecise.specs.Step.{triggers, triggered, trap_destination, adds_here, precisely, report, waited}
use Rattle.alpha_imprecise.specs.Step.{imprecise_step_at}
use Rattle.alpha_imprecise.specs.ImpreciseState.{mask_after, imprecise_state, trap_of, trap_in, waited_in, OverflowsAt}
use Rattle.alpha_imprecise.specs.ImpreciseState.{WaitsAt, ExecutesUnpredictable}
use Rattle.alpha_imprecise.specs.Chosen.{reporting, triggering, waited_after}
use Rattle.alpha_imprecise.specs.Oracle.{Oracle, ConsumesWords, CountsWords, OracleDraws}
use Rattle.alpha_imprecise.specs.Report.{Reports}
use Rattle.alpha_imprecise.specs.ChoiceSource.{choice_by}
use Rattle.alpha_imprecise.specs.ImpreciseStepEffect.{IsKernelBy, ImpreciseStepBy, imprecise_units, imprecise_core}
use Rattle.alpha_imprecise.specs.ImpreciseStepEffect.{ImpreciseStateAfterFault, StepsBy, ImpreciseRetires}

-- ---- a chooser that stays

goes_not : (ahead : Option (ℕ → ℕ)) → ConsumesWords ahead ahead []
goes_not None = tt
goes_not (Some ahead) = (λ k below. absurd (omega arith), λ k. ap ahead (sym (zero-add k)))

counts_not : (count : Option ℕ) → CountsWords count count 0
counts_not None = tt
counts_not (Some n) = ap (λ k. k % 2 ^ 64) (omega arith)

pub OracleDraws-none : (t : Oracle) → OracleDraws t t []
OracleDraws-none t =
    record { fit = λ k d below. absurd (omega arith); went = goes_not t.ahead; counted = counts_not t.count }

-- ---- a precise step

-- no overflow, nor the end at one
abbrev pub is_quiet : Event → Bool
is_quiet Went = true
is_quiet (Barriered traffic pc regs) = true
is_quiet (Overflowed at) = false
is_quiet (Ends (Overflow pc)) = false
is_quiet (Ends (Exit value)) = true
is_quiet (Ends (Signal code pc)) = true
is_quiet (Ends (Fetch pc)) = true
is_quiet (Ends (Access pc addr)) = true
is_quiet (Ends (Align pc addr)) = true

quiet-unless : (fault : Option MemFault) (addr : ℕ) (s after : State)
    → is_quiet (unless fault addr s after).event ≡ true
quiet-unless None addr s after = refl
quiet-unless (Some faults.Align) addr s after = refl
quiet-unless (Some faults.Region) addr s after = refl

quiet-returned : (function : PalCall) (c : Called) (s : State) → is_quiet (returned function c s).event ≡ true
quiet-returned function (continues regs mem unique traffic) s = refl
quiet-returned function (exits v) s = refl
quiet-returned function (signals code) s = refl

-- a word that doesn't overflow is not said to
pub step-is_quiet : (g : Program) (o : Option Class) (s : State) (input : List ℕ) → triggers o s ≡ false
    → is_quiet (step g o s input).event ≡ true
step-is_quiet g None s input e = refl
step-is_quiet g (Some (operate op ra src rc)) s input e = refl
step-is_quiet g (Some (trigger op ra src rc)) s input e = rw e refl
step-is_quiet g (Some (address op ra rb disp)) s input e = refl
step-is_quiet g (Some (load extension at ra)) s input e = quiet-unless _ _ s _
step-is_quiet g (Some (store at ra)) s input e = quiet-unless _ _ s _
step-is_quiet g (Some (load_locked extension at ra)) s input e = quiet-unless _ _ s _
step-is_quiet g (Some (store_conditional at ra)) s input e = quiet-unless _ _ s _
step-is_quiet g (Some (branch condition ra disp)) s input e = refl
step-is_quiet g (Some (jump ra rb)) s input e = refl
step-is_quiet g (Some (barrier None)) s input e = refl
step-is_quiet g (Some (barrier (Some function))) s input e = quiet-returned function _ s
step-is_quiet g (Some idle) s input e = refl

-- a word that overflows doesn't only go on
abbrev goes_so : Event → Bool
goes_so Went = true
goes_so (Barriered traffic pc regs) = false
goes_so (Overflowed at) = false
goes_so (Ends end) = false

step-triggers : (g : Program) (o : Option Class) (s : State) (input : List ℕ) → triggers o s ≡ true
    → goes_so (step g o s input).event ≡ false
step-triggers g None s input e = cc
step-triggers g (Some (operate op ra src rc)) s input e = cc
step-triggers g (Some (trigger op ra src rc)) s input e =
    let value = completed_of op (reg s.regs ra) (source_value s.regs src) g.completion in
    ap (λ (b : Bool). goes_so (cond b (overflowed g.completion s rc value) (went (setting s rc value))).event) e
    ∙ by (stops g.completion)
  where
    by : (b : Bool) → goes_so (cond b (ended s (Overflow s.pc)) (stepped (logging s rc
        (completed_of op (reg s.regs ra) (source_value s.regs src) g.completion)) (Overflowed s.pc))).event ≡ false
    by true = refl
    by false = refl
step-triggers g (Some (address op ra rb disp)) s input e = cc
step-triggers g o s input e = cc

pub goes_exact : (old new : Machine) → Retires old new → triggers (class_here old) (state_of old) ≡ false
goes_exact old new h = by (triggers (class_here old) (state_of old)) refl
  where
    by : (b : Bool) → triggers (class_here old) (state_of old) ≡ b → b ≡ false
    by false e = refl
    by true e =
        let no = step-triggers (program_of old) (class_here old) (state_of old) [] e in
        let yes : goes_so (step (program_of old) (class_here old) (state_of old) []).event ≡ true =
        ap (λ (o : Option Class). goes_so (step (program_of old) o (state_of old) []).event) h.here
        ∙ ap (λ (t : Stepped). goes_so t.event) (h.does.is []) in
        absurd cc

-- the step of the sequential machine at a word that doesn't overflow is the one at which nothing is chosen
precise-continues : (old new : Machine) (p : StepLabel) → triggers (class_here old) (state_of old) ≡ false
    → SeqStep old p new
    → ImpreciseStepBy (reporting 0).choice (imprecise_state old None) p (imprecise_state new None)
precise-continues old new p exact did =
    let g = program_of old in
    let o = class_here old in
    record {
      last_event = Precisely did.last_event;
      passed = did.passed;
      seen = did.seen;
      event = did.event;
      units = did.units;
      core = did.core;
      is =
          ap (λ (b : Bool). cond b (triggered g o (state_of old) (reporting 0).choice)
          (precisely (step g o (state_of old) (given did.last_event))))
          exact
          ∙ ap precisely did.is;
      passes = did.passes;
      waited = refl;
      kernel = did.kernel;
      program = did.program;
    }

pub precise-makes : (event : SeenEvent) (old new : Machine) (input : Drawn) (out : SinkChange)
    → triggers (class_here old) (state_of old) ≡ false
    → SeqStepEffect event old new input out
    → StepEffect (ImpreciseStepBy (reporting 0).choice) imprecise_units imprecise_core no_words event
    (imprecise_state old None) (imprecise_state new None) input out
precise-makes event old new input out exact made = record {
  label = made.label;
  is = precise-continues old new made.label exact made.is;
  units = made.units;
  event_is = made.event_is;
  core_is = made.core_is;
  drew = made.drew;
  fed = made.fed;
  same = made.same;
  wrote = made.wrote;
}

pub precise-breaks : (fault : Fault) (old new : Machine) (input : Drawn) (out : SinkChange)
    → triggers (class_here old) (state_of old) ≡ false
    → FaultedSeqStep fault old new input out
    → FaultedStepEffect (ImpreciseStepBy (reporting 0).choice) imprecise_units imprecise_core ImpreciseStateAfterFault
    no_words fault (imprecise_state old None) (imprecise_state new None) input out
precise-breaks fault old new input out exact breaks = record {
  intended = imprecise_state breaks.intended None;
  label = breaks.label;
  is = precise-continues old breaks.intended breaks.label exact breaks.is;
  units = breaks.units;
  core_is = breaks.core_is;
  drew = breaks.drew;
  fed = breaks.fed;
  left = breaks.left;
  wrote = breaks.wrote;
  after_fault = record { nothing_pending = refl; still = refl; machine = breaks.after_fault };
  cause = breaks.cause;
}

-- a step that only goes on, with nothing pending
pub ImpreciseRetires-Retires : (old new : Machine) → Retires old new
    → ImpreciseRetires (imprecise_state old None) (imprecise_state new None)
ImpreciseRetires-Retires old new h =
    let g = program_of old in
    let o = class_here old in
    let exact = goes_exact old new h in
    record {
      nothing_pending = refl;
      exact = exact;
      step = record {
        is =
            ap (λ (b : Bool).
            cond b (triggered g o (state_of old) (reporting 0).choice) (precisely (step g o (state_of old) [])))
            exact
            ∙ ap precisely (ap (λ (p : Option Class). step g p (state_of old) []) h.here ∙ h.does.is []);
        waited = refl;
        kernel = Retires-kernel old new h;
        program = h.does.program;
      };
    }

-- ---- a trigger

-- a word that overflows is no PAL call
pub kernel-triggers : (o : Option Class) (s : State) (next : ℕ) (regs : List ℕ) (k : KernelState) → triggers o s ≡ true
    → kernel_left o next regs k ≡ k
kernel-triggers None s next regs k e = refl
kernel-triggers (Some (operate op ra src rc)) s next regs k e = refl
kernel-triggers (Some (trigger op ra src rc)) s next regs k e = refl
kernel-triggers (Some (address op ra rb disp)) s next regs k e = refl
kernel-triggers (Some (load extension at ra)) s next regs k e = refl
kernel-triggers (Some (store at ra)) s next regs k e = refl
kernel-triggers (Some (load_locked extension at ra)) s next regs k e = refl
kernel-triggers (Some (store_conditional at ra)) s next regs k e = refl
kernel-triggers (Some (branch condition ra disp)) s next regs k e = refl
kernel-triggers (Some (jump ra rb)) s next regs k e = refl
kernel-triggers (Some (barrier call)) s next regs k e = absurd cc
kernel-triggers (Some idle) s next regs k e = refl

-- the machine after an overflow whose destination got a value
abbrev triggered_machine : Machine → ℕ → ℕ → Machine
triggered_machine m rc value = record m { regs = put m.regs rc value; pc = (m.pc + 4) % 2 ^ 64 }

pub trigger-steps : (m new : Machine) (place rc value mask : ℕ) → OverflowsAt m place rc
    → new ≡ triggered_machine m rc value → mask ≡ with_register 0 rc
    → StepsBy (Triggered value) (triggering value).choice (imprecise_state m None)
    (imprecise_state new (Some (record { trigger = place; mask = mask; waited = 0 })))
trigger-steps m new place rc value mask here is_new is_mask =
    let g = program_of m in
    let o = class_here m in
    let there : Option Trap = Some (record { place = place; mask = with_register 0 rc }) in
    record {
      is =
          let s = state_of m in
          let c = (triggering value).choice in
          ap (λ (b : Bool). cond b (triggered g o s c) (precisely (step g o s []))) here.overflows
          ∙ (ap (λ (d : ℕ). step_result (setting s d value)
          (Some (record { place = unwrap_or (place_of m.image m.pc) 0; mask = with_register 0 d })) (Triggered value))
          here.into
          ∙ (ap (λ (p : Option ℕ). step_result (setting s rc value)
          (Some (record { place = unwrap_or p 0; mask = with_register 0 rc })) (Triggered value))
          here.at
          ∙ (ap (λ (x : Machine). step_result (state_of x) there (Triggered value)) (sym is_new)
          ∙ ap (λ (n : ℕ). step_result (state_of new) (Some (record { place = place; mask = n })) (Triggered value))
          (sym is_mask))));
      waited = refl;
      kernel =
          ap (λ (x : Machine). x.kernel) is_new
          ∙ sym (kernel-triggers o (state_of m) (next_pc (state_of m)) m.regs m.kernel here.overflows);
      program = ap program_of is_new;
    }

-- ---- a word that is executed while a trap waits

-- it adds to the mask only where it may
pub mask-added : (o : Option Class) (mask : ℕ) (adds : Bool)
    → mask_after o mask (adds && adds_here o) ≡ mask_after o mask adds
mask-added o mask false = refl
mask-added o mask true = by (trap_destination o == 31) refl
  where
    by : (b : Bool) → (trap_destination o == 31) ≡ b
        → cond (not b) (with_register mask (trap_destination o)) mask ≡ with_register mask (trap_destination o)
    by true e = sym (ap (λ (t : Bool). cond t mask (bit_or mask (2 ^ trap_destination o))) e)
    by false e = refl

pub wait-steps : (m new : Machine) (trap : Pending) (class : Class) (w : Wait) (mask waited' : ℕ) → WaitsAt m class
    → ExecutesUnpredictable class w.value m new
    → mask ≡ mask_after (Some class) trap.mask (w.adds && adds_here (Some class)) → waited' ≡ trap.waited + 1
    → StepsBy (Waited (w.adds && adds_here (Some class)) w.value w.value)
    (choice_by (Some w)) (imprecise_state m (Some trap))
    (imprecise_state new (Some (record { trigger = trap.trigger; mask = mask; waited = waited' })))
wait-steps m new trap class w mask waited' here spoils is_mask is_waited =
    let g = program_of m in
    let t = trap_of trap in
    let c = choice_by (Some w) in
    record {
      is =
          let s = state_of m in
          let h = Waited (w.adds && adds_here (Some class)) w.value w.value in
          ap (λ (x : Option Class). imprecise_step_at g x s (Some t) c []) here.here
          ∙ (ap (λ (b : Bool). cond (not b) (report g s t) (waited (Some class) s t c)) here.waits
          ∙ (ap (λ (x : State). step_result x (Some (record t { mask = mask_after (Some class) trap.mask w.adds })) h)
          (spoils.is c refl refl)
          ∙ ap (λ (n : ℕ). step_result (state_of new) (Some (record { place = trap.trigger; mask = n })) h)
          (sym (is_mask ∙ mask-added (Some class) trap.mask w.adds))));
      waited = is_waited;
      kernel = spoils.kernel;
      program = spoils.program;
    }

-- ---- a report

pub report-steps : (event : ImpreciseEvent) (m new : Machine) (trap : Pending) (left : Option Pending)
    → Reports event (trap_in left) (trap_of trap) m new → waited_in left ≡ waited_after event trap.waited
    → IsKernelBy event (imprecise_state m (Some trap)) (imprecise_state new left)
    → StepsBy event (reporting 0).choice (imprecise_state m (Some trap)) (imprecise_state new left)
report-steps event m new trap left reports counted kernel = record {
  is = reports.is;
  waited = counted;
  kernel = kernel;
  program = reports.program;
}
