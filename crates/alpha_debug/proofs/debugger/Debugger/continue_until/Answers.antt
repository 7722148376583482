use Rattle.std.proofs.Common.{◌≡◌, true, []}
use Rattle.alpha_debug.specs.Session.{continue_until, if_not_ended}
use Rattle.alpha_debug.specs.Effects.{setting_of}
use Rattle.alpha_debug.specs.OutputChange.{output_change_by, AppendsOutput, SinkFailsWith}
use Rattle.alpha_debug.proofs.SinkEffects.{OnOk-map, OnErr-map}
use Rattle.alpha_debug.proofs.Sessions.{then_put, then_fails, IsQuiet-or_nothing_waits}
use Rattle.alpha_debug.proofs.debugger.Debugger.continue_until.Goals as goal

pub returns-clause-ok : goal.returns-clause-ok
returns-clause-ok g c =
    OnOk-map c.flush_due.result
    (λ (wrote : AppendsOutput (output_change_by g.K.Sink.written g.K.Sink.faults (
      c.run_until.new.out,
      c.run_until.new.self.watcher.block,
    ) (c.flush_due.new.out, c.flush_due.new.self)) []).
    then_put g.K.Sink.written g.K.Sink.faults (c.args.out.now, c.args.self.now.watcher.block)
    (c.run_until.new.out, c.run_until.new.self.watcher.block) (c.flush_due.new.out, c.flush_due.new.self)
    (continue_until (setting_of c.args.self.now) c.args.until c.args.most) c.args.self.now c.run_until.new.self
    c.in_ok-run_until.ensures.ok wrote)
    c.flush_due.ensures.ok

pub returns-clause-handed : goal.returns-clause-handed
returns-clause-handed g c =
    OnOk-map c.flush_due.result
    (λ (empty : c.run_until.new.self.watcher.has_put ≡ true → c.flush_due.new.self ≡ []).
    IsQuiet-or_nothing_waits c.run_until.new.self.watcher.has_put
    (if_not_ended (setting_of c.args.self.now) c.args.until c.args.most)
    c.args.self.now c.flush_due.new.self c.in_ok-run_until.ensures.quiet empty)
    c.flush_due.ensures.empty

pub returns-clause-refused : goal.returns-clause-refused
returns-clause-refused g c =
    OnErr-map c.flush_due.result
    (λ (stops : SinkFailsWith (output_change_by g.K.Sink.written g.K.Sink.faults (
      c.run_until.new.out,
      c.run_until.new.self.watcher.block,
    ) (c.flush_due.new.out, c.flush_due.new.self)) []).
    then_fails g.K.Sink.written g.K.Sink.faults (c.args.out.now, c.args.self.now.watcher.block)
    (c.run_until.new.out, c.run_until.new.self.watcher.block) (c.flush_due.new.out, c.flush_due.new.self)
    (continue_until (setting_of c.args.self.now) c.args.until c.args.most) c.args.self.now c.run_until.new.self
    c.in_ok-run_until.ensures.ok stops)
    c.flush_due.ensures.refused
