use Rattle.std.proofs.Common.{◌∙◌}
use Rattle.std.proofs.lemmas.List.{take_rest}
use Rattle.alpha_io.proofs.Writes.{HasWrittenPrefix-more}
use Rattle.alpha_io.proofs.sink.write_whole.Goals as goal

pub loop-rest-preserved : goal.loop-rest-preserved
loop-rest-preserved g c =
    let more = HasWrittenPrefix-more _ _
    (g.K.Sink.written c.put.new.self) _ _ c.in_ok-count.count c.loop-rest.invariant.front c.in_ok-count.ensures.bytes in
    record {
      front = rw take_rest more;
      faults_unchanged = c.in_ok-count.ensures.cause.ok ∙ c.loop-rest.invariant.faults_unchanged;
    }
