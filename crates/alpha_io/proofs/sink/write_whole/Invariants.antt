use Rattle.std.proofs.Common.{length, ◌≡◌}
use Rattle.alpha_io.proofs.Writes.{HasWrittenPrefix}
use Rattle.alpha_io.proofs.sink.write_whole.Given as goal

abbrev pub invariant-loop-rest : goal.invariant-loop-rest
invariant-loop-rest g l = record {
  front : HasWrittenPrefix (g.K.Sink.written l.initial.out) (g.K.Sink.written l.out) l.bytes l.rest;
  faults_unchanged : g.K.Sink.faults l.out ≡ g.K.Sink.faults l.initial.out;
}

abbrev pub decreases-loop-rest : goal.decreases-loop-rest
decreases-loop-rest g l = length l.rest
