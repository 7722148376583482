use Rattle.std.proofs.Common.{◌≡◌, ◌∙◌, subst}
use Rattle.alpha_debug.specs.Session.{if_not_ended}
use Rattle.alpha_debug.specs.Lines.{where_line}
use Rattle.alpha_debug.specs.Effects.{setting_of}
use Rattle.alpha_debug.proofs.SinkEffects.{OnOk-map, OnErr-map}
use Rattle.alpha_debug.proofs.Sessions.{where_line_put, where_fails}
use Rattle.alpha_debug.specs.OutputChange.{output_change_by, AppendsOutput, SinkFailsWith}
use Rattle.alpha_debug.proofs.debugger.Debugger.run_until.Goals as goal

pub returns-clause-ok : goal.returns-clause-ok
returns-clause-ok g c =
    let written = g.K.Sink.written in
    let faults = g.K.Sink.faults in
    let line : c.as_bytes.result.now ≡ where_line c.make_steps.new.self.end c.make_steps.new.self.machine.pc =
    c.as_bytes.ensures ∙ c.where_line-line.ensures in
    OnOk-map c.emit.result
    (λ (wrote : AppendsOutput (output_change_by written faults (
      c.make_steps.new.out,
      c.make_steps.new.self.watcher.block,
    ) (c.emit.new.out, c.emit.new.block)) c.as_bytes.result.now).
    where_line_put written faults (c.args.out.now, c.args.self.now.watcher.block)
    (c.make_steps.new.out, c.make_steps.new.self.watcher.block) (c.emit.new.out, c.emit.new.block)
    (if_not_ended (setting_of c.args.self.now) c.args.until c.args.most) c.args.self.now c.make_steps.new.self
    c.in_ok-make_steps.ensures.ok
    (subst (AppendsOutput (output_change_by written faults (
      c.make_steps.new.out,
      c.make_steps.new.self.watcher.block,
    ) (c.emit.new.out, c.emit.new.block))) line wrote))
    c.emit.ensures.ok

pub returns-clause-refused : goal.returns-clause-refused
returns-clause-refused g c =
    let written = g.K.Sink.written in
    let faults = g.K.Sink.faults in
    let line : c.as_bytes.result.now ≡ where_line c.make_steps.new.self.end c.make_steps.new.self.machine.pc =
    c.as_bytes.ensures ∙ c.where_line-line.ensures in
    OnErr-map c.emit.result
    (λ (stops : SinkFailsWith (output_change_by written faults (
      c.make_steps.new.out,
      c.make_steps.new.self.watcher.block,
    ) (c.emit.new.out, c.emit.new.block)) c.as_bytes.result.now).
    where_fails written faults (c.args.out.now, c.args.self.now.watcher.block)
    (c.make_steps.new.out, c.make_steps.new.self.watcher.block) (c.emit.new.out, c.emit.new.block)
    (if_not_ended (setting_of c.args.self.now) c.args.until c.args.most) c.args.self.now c.make_steps.new.self
    c.in_ok-make_steps.ensures.ok
    (subst (SinkFailsWith (output_change_by written faults (
      c.make_steps.new.out,
      c.make_steps.new.self.watcher.block,
    ) (c.emit.new.out, c.emit.new.block))) line stops))
    c.emit.ensures.refused
