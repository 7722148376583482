use Rattle.std.proofs.Common.{[], subst}
use Rattle.alpha_io.specs.SinkChange.{sink_change}
use Rattle.alpha_seq.specs.Devices.{drawn}
use Rattle.alpha_debug.specs.Effects.{TellEffect}
use Rattle.alpha_debug.proofs.SessionStart.{opened_effect}
use Rattle.alpha_debug.proofs.HandedSessions.{opened_hands}
use Rattle.alpha_debug.specs.OutputChange.{output_change}
use Rattle.alpha_debug.proofs.transcript.debug.Goals as goal

pub returns-in-Ok-clause-effect : goal.returns-in-Ok-clause-effect
returns-in-Ok-clause-effect g c =
    opened_effect c.run_session.result c.args.image c.in-Ok.debugger
    (drawn g.S.Source c.args.script.now c.run_session.new.script)
    (sink_change g.K.Sink c.args.out.now c.run_session.new.out)
    c.in-Ok.ensures c.run_session.ensures.told

-- a session that was made doesn't run out of memory
pub returns-in-Ok-clause-same : goal.returns-in-Ok-clause-same
returns-in-Ok-clause-same g c = λ e.
    absurd (subst (λ end. TellEffect end c.in-Ok.debugger (drawn g.S.Source c.args.script.now c.run_session.new.script)
    (output_change g.K.Sink c.args.out.now [] c.run_session.new.out [])) e c.run_session.ensures.told)

pub returns-in-Ok-clause-handed : goal.returns-in-Ok-clause-handed
returns-in-Ok-clause-handed g c = λ some.
    opened_hands g.K.Sink c.args.image c.in-Ok.debugger (drawn g.S.Source c.args.script.now c.run_session.new.script)
    c.run_session.result c.args.out.now c.run_session.new.out c.in-Ok.ensures c.run_session.ensures.handed
