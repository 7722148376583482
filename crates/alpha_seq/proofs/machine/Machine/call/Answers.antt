use Rattle.std.proofs.Common.{ℕ, refl, ap, ◌∙◌}
use Rattle.std.proofs.lemmas.Result.{err_from_is_err_and}
use Rattle.alpha_io.specs.Supply.{supply}
use Rattle.alpha_io.specs.SinkChange.{sink_change}
use Rattle.alpha_pal.specs.declared.pal_end.Passed.TheVariants.{Nothing}
use Rattle.alpha_pal.specs.CallEffect.{kernel_after}
use Rattle.alpha_seq.specs.declared.end.End.TheVariants as ends
use Rattle.alpha_seq.specs.declared.machine.Machine.{Machine}
use Rattle.alpha_seq.specs.State.{Barriered, Ends}
use Rattle.alpha_seq.specs.Step.{next_pc, lock_after}
use Rattle.alpha_seq.specs.Devices.{drawn}
use Rattle.alpha_seq.specs.Machine.{program_of, state_of}
use Rattle.alpha_seq.proofs.PalCallSteps.{called_machine, call-continues, call-exits, call-signals, call-fails}
use Rattle.alpha_seq.proofs.ExecutedInsns.{called-kernel}
use Rattle.alpha_seq.proofs.StepsMade.{MakesStep-effect}
use Rattle.alpha_seq.proofs.machine.Machine.call.Goals as goal

pub returns-in-Goes-clause-made : goal.returns-in-Goes-clause-made
returns-in-Goes-clause-made g c =
    let did = rw c.in-Goes.is at c.in_ok-end.ensures in
    let m = c.args.self.now in
    let n = c.call.new in
    let called = called_machine m n.self n.regs n.mem n.unique in
    MakesStep-effect (Barriered did.effect.traffic (next_pc (state_of m)) n.regs) c.in-Goes.passed m c.go_on.new.self
    (drawn g.S.Source c.args.input.now n.input)
    (sink_change g.K.Sink c.args.out.now n.out)
    (call-continues c.args.function m n.self n.regs n.mem n.unique (supply g.S.Source c.args.input.now)
    (supply g.S.Source n.input) (g.K.Sink.written c.args.out.now) (g.K.Sink.written n.out)
    (g.S.Source.faults c.args.input.now) (g.S.Source.faults n.input) (g.K.Sink.faults c.args.out.now)
    (g.K.Sink.faults n.out)
    c.requires.class c.in-Goes.passed c.go_on.new.self did.effect did.input did.sink
    (c.go_on.ensures
    ∙ ap (λ (next : ℕ). record called { pc = next; lock = lock_after c.args.function m.lock }) c.next_pc-next.ensures))
    (ap (λ (k : Machine). k.kernel) c.go_on.ensures ∙ called-kernel c.args.function m m n.self c.requires.class refl
    (c.call.ensures.kernel
    ∙ ap (λ (next : ℕ). kernel_after c.args.function next m.regs m.kernel) c.next_pc-next.ensures))
    (ap program_of c.go_on.ensures)

pub returns-in-Exit-clause-made : goal.returns-in-Exit-clause-made
returns-in-Exit-clause-made g c =
    let did = rw c.in-Exit.is at c.in_ok-end.ensures in
    let m = c.args.self.now in
    let n = c.call.new in
    MakesStep-effect (Ends (ends.Exit c.in-Exit.value)) Nothing m (called_machine m n.self n.regs n.mem n.unique)
    (drawn g.S.Source c.args.input.now n.input) (sink_change g.K.Sink c.args.out.now n.out)
    (call-exits c.args.function m n.self n.regs n.mem n.unique (supply g.S.Source c.args.input.now)
    (supply g.S.Source n.input) (g.K.Sink.written c.args.out.now) (g.K.Sink.written n.out)
    (g.S.Source.faults c.args.input.now) (g.S.Source.faults n.input) (g.K.Sink.faults c.args.out.now)
    (g.K.Sink.faults n.out)
    c.requires.class c.in-Exit.value did.effect did.input did.sink)
    (called-kernel c.args.function m m n.self c.requires.class refl
    (c.call.ensures.kernel
    ∙ ap (λ (next : ℕ). kernel_after c.args.function next m.regs m.kernel) c.next_pc-next.ensures))
    refl

pub returns-in-Signal-clause-made : goal.returns-in-Signal-clause-made
returns-in-Signal-clause-made g c =
    let did = rw c.in-Signal.is at c.in_ok-end.ensures in
    let m = c.args.self.now in
    let n = c.call.new in
    MakesStep-effect (Ends (ends.Signal c.in-Signal.code m.pc)) Nothing m
    (called_machine m n.self n.regs n.mem n.unique)
    (drawn g.S.Source c.args.input.now n.input) (sink_change g.K.Sink c.args.out.now n.out)
    (call-signals c.args.function m n.self n.regs n.mem n.unique (supply g.S.Source c.args.input.now)
    (supply g.S.Source n.input) (g.K.Sink.written c.args.out.now) (g.K.Sink.written n.out)
    (g.S.Source.faults c.args.input.now) (g.S.Source.faults n.input) (g.K.Sink.faults c.args.out.now)
    (g.K.Sink.faults n.out)
    c.requires.class c.in-Signal.code did.effect did.input did.sink)
    (called-kernel c.args.function m m n.self c.requires.class refl
    (c.call.ensures.kernel
    ∙ ap (λ (next : ℕ). kernel_after c.args.function next m.regs m.kernel) c.next_pc-next.ensures))
    refl

pub returns-in_err-end-clause-broken : goal.returns-in_err-end-clause-broken
returns-in_err-end-clause-broken g c =
    let m = c.args.self.now in
    let n = c.call.new in
    let did = c.in_err-end.ensures in
    let p = err_from_is_err_and c.from_residual.result c.from_residual.ensures.1 in
    rw (p.1, p.2)
    (call-fails c.args.function m n.self n.regs n.mem n.unique (supply g.S.Source c.args.input.now)
    (supply g.S.Source n.input) (g.K.Sink.written c.args.out.now) (g.K.Sink.written n.out)
    (g.S.Source.faults c.args.input.now) (g.S.Source.faults n.input) (g.K.Sink.faults c.args.out.now)
    (g.K.Sink.faults n.out)
    c.requires.class c.in_err-end.field-0.0 did.effect
    (called-kernel c.args.function m m n.self c.requires.class refl
    (c.call.ensures.kernel
    ∙ ap (λ (next : ℕ). kernel_after c.args.function next m.regs m.kernel) c.next_pc-next.ensures))
    did.input did.sink)
