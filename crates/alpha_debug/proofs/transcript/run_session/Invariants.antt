use Rattle.std.proofs.Common.{◌≡◌, []}
use Rattle.alpha_seq.specs.Devices.{drawn}
use Rattle.alpha_debug.proofs.ScriptUnderway.{ScriptUnderway}
use Rattle.alpha_debug.proofs.HandedSessions.{Handing}
use Rattle.alpha_debug.specs.OutputChange.{output_change}
use Rattle.alpha_debug.proofs.transcript.run_session.Given as goal

-- the pieces so far were answered and handed over, and nothing waits
abbrev pub invariant-loop-most : goal.invariant-loop-most
invariant-loop-most g l = record {
  underway : ScriptUnderway l.initial.debugger l.debugger l.held.items l.most
      (drawn g.S.Source l.initial.script l.script)
      (output_change g.K.Sink l.initial.out [] l.out []);
  handing : Handing g.K.Sink l.initial.debugger l.debugger l.held.items l.most
      (g.S.Source.replies l.initial.script) (g.S.Source.replies l.script) l.initial.out l.out;
  block : l.debugger.watcher.block ≡ [];
}

abbrev pub decreases-loop-most : goal.decreases-loop-most
decreases-loop-most g l = l.most
