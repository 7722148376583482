-- The step of a PAL call, by its end.
use Rattle.std.proofs.Common.{◌≡◌, ℕ, List, [], Option, Some, Ok, Err, refl, sym, ap, subst, ◌∙◌}
use Rattle.std.specs.Io.KnownBytes.{Appends}
use Rattle.std.proofs.KnownBytes.{Appends-nil}
use Rattle.alpha_io.specs.SinkChange.{SinkChange}
use Rattle.alpha_io.specs.Supply.{Supply}
use Rattle.alpha_words.specs.declared.PalCall.{PalCall}
use Rattle.alpha_mem.specs.Block.{Block}
use Rattle.alpha_table.specs.Class.{barrier}
use Rattle.alpha_pal.specs.declared.fault.Fault.{Fault}
use Rattle.alpha_pal.specs.declared.fault.Fault.TheVariants as broken
use Rattle.alpha_pal.specs.declared.pal_end.PalEnd.{PalEnd}
use Rattle.alpha_pal.specs.declared.pal_end.PalEnd.TheVariants as pals
use Rattle.alpha_pal.specs.declared.pal_end.Passed.{Passed}
use Rattle.alpha_pal.specs.declared.pal_end.Passed.TheVariants.{Nothing}
use Rattle.alpha_pal.specs.Passed.{IsPassed}
use Rattle.alpha_pal.specs.Kernel.{KernelState}
use Rattle.alpha_pal.specs.Call.{Silent, given_in, put_in, Called, exits, signals, call}
use Rattle.alpha_pal.specs.CallEffect.{Reads, CallReturns, CallEffect, InputCause, SinkCause, CallView, seen}
use Rattle.alpha_pal.proofs.SystemCalls.{Reads-silent}
use Rattle.alpha_seq.specs.declared.end.End.{End}
use Rattle.alpha_seq.specs.declared.end.End.TheVariants as ends
use Rattle.alpha_seq.specs.declared.machine.Machine.{Machine}
use Rattle.alpha_seq.specs.State.{State, Barriered, Ends, stepped}
use Rattle.alpha_seq.specs.Step.{next_pc, ended, lock_after, returned, step}
use Rattle.alpha_seq.specs.Machine.{program_of, state_of, class_here}
use Rattle.alpha_seq.specs.Devices.{Drawn}
use Rattle.alpha_seq.specs.Sequential.{FaultedSeqStep}
use Rattle.alpha_seq.proofs.StepsMade.{MakesStep, kernel_here, FaultedSeqStep-input_fails, FaultedSeqStep-output_fails}

-- the machine after a call, before the program counter moves
abbrev pub called_machine : Machine → KernelState → List ℕ → List Block → ℕ → Machine
called_machine m kernel regs mem unique = record m { kernel = kernel; regs = regs; memory = mem; unique = unique }

-- the devices of a call
abbrev pub drawn_by : Supply → Supply → ℕ → ℕ → Drawn
drawn_by old new before now = record { old = old; new = new; before = before; now = now }

abbrev pub sunk_by : Option (List ℕ) → Option (List ℕ) → ℕ → ℕ → SinkChange
sunk_by old new before now = record { old = old; new = new; before = before; now = now }

module _ (function : PalCall) (m : Machine) (k : KernelState) (regs : List ℕ) (mem : List Block)
    (unique : ℕ) (left left' : Supply) (written written' : Option (List ℕ)) (faults faults' count count' : ℕ)
    (here : class_here m ≡ Some (barrier (Some function))) where
  -- the definition's step there
  step_here : (input : List ℕ)
      → step (program_of m) (class_here m) (state_of m) input
      ≡ returned function (call function m.regs m.memory m.unique input) (state_of m)
  step_here input = ap (λ class. step (program_of m) class (state_of m) input) here

  -- a call that ends the program
  ends_here : (end : End) (c : Called) → ((input : List ℕ) → call function m.regs m.memory m.unique input ≡ c)
      → ((s : State) → s.pc ≡ m.pc → returned function c s ≡ ended s end)
      → seen regs mem unique left' written' ≡ seen m.regs m.memory m.unique left written
      → faults' ≡ faults → count' ≡ count
      → MakesStep (Ends end) Nothing m (called_machine m k regs mem unique) (drawn_by left left' faults faults')
      (sunk_by written written' count count')
  ends_here end c does end_is e calm_input calm_sink = record {
    is = step_here []
        ∙ (ap (λ (d : Called). returned function d (state_of m)) (does [])
        ∙ (end_is (state_of m) refl
        ∙ ap (λ (s : CallView). stepped (state_of (called_machine m k s.regs s.mem s.unique)) (Ends end)) (sym e)));
    fed = subst (λ (s : Supply). Reads left Silent s) (sym (ap (λ (s : CallView). s.supply) e)) (Reads-silent left);
    same = calm_input;
    wrote = record {
      written =
          subst (λ (l : Option (List ℕ)). Appends written l []) (sym (ap (λ (s : CallView). s.written) e))
          (Appends-nil written);
      same = calm_sink;
    };
    passes = (refl, refl);
  }

  pub call-exits : (v : ℕ)
      → CallEffect function (Ok (pals.Exit v)) (seen m.regs m.memory m.unique left written)
      (seen regs mem unique left' written')
      → faults' ≡ faults → count' ≡ count
      → MakesStep (Ends (ends.Exit v)) Nothing m (called_machine m k regs mem unique)
      (drawn_by left left' faults faults')
      (sunk_by written written' count count')
  call-exits v h calm_input calm_sink = ends_here (ends.Exit v) (exits v) h.0 (λ s e. refl) h.1 calm_input calm_sink

  pub call-signals : (code : ℕ)
      → CallEffect function (Ok (pals.Signal code)) (seen m.regs m.memory m.unique left written)
      (seen regs mem unique left' written')
      → faults' ≡ faults → count' ≡ count
      → MakesStep (Ends (ends.Signal code m.pc)) Nothing m (called_machine m k regs mem unique)
      (drawn_by left left' faults faults') (sunk_by written written' count count')
  call-signals code h calm_input calm_sink =
      ends_here (ends.Signal code m.pc) (signals code) h.0
      (λ s e. ap (λ pc. ended s (ends.Signal code pc)) e) h.1 calm_input calm_sink

  -- a call behind which the program goes on
  pub call-continues : (passed : Passed) (new : Machine)
      → (h : CallReturns function passed (seen m.regs m.memory m.unique left written)
      (seen regs mem unique left' written'))
      → faults' ≡ faults → count' ≡ count
      → new
      ≡ record (called_machine m k regs mem unique) { pc = next_pc (state_of m); lock = lock_after function m.lock }
      → MakesStep (Barriered h.traffic (next_pc (state_of m)) regs) passed m new (drawn_by left left' faults faults')
      (sunk_by written written' count count')
  call-continues passed new h calm_input calm_sink is = record {
    is = step_here (given_in h.traffic)
        ∙ (ap (λ (d : Called). returned function d (state_of m)) h.is
        ∙ ap (λ (n : Machine). stepped (state_of n) (Barriered h.traffic (next_pc (state_of m)) regs)) (sym is));
    fed = h.fed;
    same = calm_input;
    wrote = record { written = h.wrote; same = calm_sink };
    passes =
        subst (λ (n : Machine). IsPassed passed n.memory (given_in h.traffic) (put_in h.traffic)) (sym is) h.passes;
  }

  -- a call in which a device failed
  pub call-fails : (fault : Fault)
      → CallEffect function (Err fault) (seen m.regs m.memory m.unique left written)
      (seen regs mem unique left' written')
      → kernel_here m (called_machine m k regs mem unique)
      → InputCause {A = PalEnd} (Err fault) faults faults' → SinkCause {A = PalEnd} (Err fault) count count'
      → FaultedSeqStep fault m (called_machine m k regs mem unique) (drawn_by left left' faults faults')
      (sunk_by written written' count count')
  call-fails broken.Input h kernel source sink =
      FaultedSeqStep-input_fails m (called_machine m k regs mem unique) (drawn_by left left' faults faults')
      (sunk_by written written' count count')
      (here ∙ ap (λ (f : PalCall). Some (barrier (Some f))) h.0) h.1
      (ap (λ (s : CallView). called_machine m k s.regs s.mem s.unique) h.2) kernel source.0 source.1
      (record { written = ap (λ (s : CallView). s.written) h.2; same = sink })
  call-fails broken.Output h kernel source sink =
      FaultedSeqStep-output_fails m (called_machine m k regs mem unique) (drawn_by left left' faults faults')
      (sunk_by written written' count count')
      (here ∙ ap (λ (f : PalCall). Some (barrier (Some f))) h.0) h.1
      (ap (λ (s : CallView). called_machine m k s.regs s.mem s.unique) h.2) kernel sink.0 sink.1
      (record { left = ap (λ (s : CallView). s.supply) h.2; same = source })
  call-fails broken.Notes h kernel source sink = absurd h
