use Rattle.std.proofs.Common.{◌≡◌, None, Some, refl, sym, ap, ◌∙◌}
use Rattle.alpha_io.specs.Supply.{supply}
use Rattle.alpha_io.specs.SinkChange.{sink_change}
use Rattle.alpha_table.specs.declared.form.Form.{Form}
use Rattle.alpha_table.specs.Class.{barrier}
use Rattle.alpha_table.specs.ClassOf.{class_of}
use Rattle.alpha_pal.specs.declared.pal_end.Passed.TheVariants.{Nothing}
use Rattle.alpha_seq.specs.declared.end.End.TheVariants.{Fetch}
use Rattle.alpha_seq.specs.State.{Ends}
use Rattle.alpha_seq.specs.Step.{next_pc}
use Rattle.alpha_seq.specs.Machine.{state_of, class_here, kernel_left}
use Rattle.alpha_seq.specs.Devices.{drawn}
use Rattle.alpha_seq.proofs.ExecutedInsns.{class_here-insn, ExecutesWord-shapes, ExecutesWord-kernel, ExecutesWord-user}
use Rattle.alpha_seq.proofs.ExecutedInsns.{MakesStep-quiet, ExecuteEffect-executes, executes-makes, called-kernel}
use Rattle.alpha_seq.proofs.StepsMade.{MakesStep-effect}
use Rattle.alpha_seq.proofs.machine.Machine.step_by.Goals as goal

-- the PC is no address of a code word

pub returns-in_default-clause-made : goal.returns-in_default-clause-made
returns-in_default-clause-made g c =
    let m = c.args.self.now in
    let here = class_here-insn m None (sym c.in_default.is ∙ c.requires.here) in
    MakesStep-effect (Ends (Fetch m.pc)) Nothing m m (drawn g.S.Source c.args.input.now c.args.input.now)
    (sink_change g.K.Sink c.args.out.now c.args.out.now)
    (MakesStep-quiet (Ends (Fetch m.pc)) None m m (supply g.S.Source c.args.input.now) (g.K.Sink.written c.args.out.now)
    (g.S.Source.faults c.args.input.now) (g.K.Sink.faults c.args.out.now) refl here (λ input. refl))
    (ap (λ class. kernel_left class (next_pc (state_of m)) m.regs m.kernel) (sym here)) refl

pub returns-in_default-clause-kernel : goal.returns-in_default-clause-kernel
returns-in_default-clause-kernel g c =
    let m = c.args.self.now in
    let here = class_here-insn m None (sym c.in_default.is ∙ c.requires.here) in
    ap (λ class. kernel_left class (next_pc (state_of m)) m.regs m.kernel) (sym here)

-- a PAL call

pub call-requires-clause-class : goal.call-requires-clause-class
call-requires-clause-class g c =
    class_here-insn c.args.self.now (Some c.in-Some.insn) (sym c.in-Some.is ∙ c.requires.here)
    ∙ ap (λ (f : Form). Some (class_of f)) (sym c.in-Pal.ensures.value)

pub returns-in-Pal-clause-kernel : goal.returns-in-Pal-clause-kernel
returns-in-Pal-clause-kernel g c =
    let m = c.args.self.now in
    let class : class_here m ≡ Some (barrier (Some c.in-Pal.function)) =
    class_here-insn m (Some c.in-Some.insn) (sym c.in-Some.is ∙ c.requires.here)
    ∙ ap (λ (f : Form). Some (class_of f)) (sym c.in-Pal.ensures.value) in
    called-kernel c.in-Pal.function m m c.call.new.self.kernel class refl c.call.ensures.kernel

-- another word

pub execute-requires : goal.execute-requires
execute-requires g c = λ function is. c.in_default-form.not-Pal function (c.form.ensures.value ∙ is)

pub returns-in_default-form-clause-made : goal.returns-in_default-form-clause-made
returns-in_default-form-clause-made g c =
    let m = c.args.self.now in
    executes-makes c.execute.result (class_of c.in-Some.insn) m c.execute.new.self (supply g.S.Source c.args.input.now)
    (g.K.Sink.written c.args.out.now) (g.S.Source.faults c.args.input.now) (g.K.Sink.faults c.args.out.now)
    (class_here-insn m (Some c.in-Some.insn) (sym c.in-Some.is ∙ c.requires.here)) c.execute.ensures

pub returns-in_default-form-clause-kernel : goal.returns-in_default-form-clause-kernel
returns-in_default-form-clause-kernel g c =
    let m = c.args.self.now in
    let class = class_of c.in-Some.insn in
    let x = ExecuteEffect-executes c.execute.result class m c.execute.new.self c.execute.ensures in
    ExecutesWord-kernel x.last_event class m c.execute.new.self
    (class_here-insn m (Some c.in-Some.insn) (sym c.in-Some.is ∙ c.requires.here)) x.does

pub returns-in_default-form-clause-shapes : goal.returns-in_default-form-clause-shapes
returns-in_default-form-clause-shapes g c =
    let x = ExecuteEffect-executes c.execute.result
    (class_of c.in-Some.insn) c.args.self.now c.execute.new.self c.execute.ensures in
    ExecutesWord-shapes x.last_event (class_of c.in-Some.insn) c.args.self.now c.execute.new.self x.does

pub returns-in_default-form-clause-same : goal.returns-in_default-form-clause-same
returns-in_default-form-clause-same g c =
    let m = c.args.self.now in
    let class = class_of c.in-Some.insn in
    let x = ExecuteEffect-executes c.execute.result class m c.execute.new.self c.execute.ensures in
    record {
      program = x.does.program;
      mode = ExecutesWord-user x.last_event class m c.execute.new.self c.requires.user x.does ∙ sym c.requires.user;
    }
