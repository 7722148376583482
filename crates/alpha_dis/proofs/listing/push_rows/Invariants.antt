use Rattle.std.proofs.Common.{◌≡◌, ◌++◌, List, ℕ, length, map}
use Rattle.alpha_io.specs.SinkChange.{sink_change}
use Rattle.alpha_dis.specs.SinkEffect.{Takes}
use Rattle.alpha_dis.specs.Listing.{text, byte_line, rows}
use Rattle.alpha_dis.proofs.listing.push_rows.Given as goal

-- the lines of the rows before the rest were taken
abbrev pub invariant-loop-rest : goal.invariant-loop-rest
invariant-loop-rest g l = record {
  done : List ℕ;
  taken : Takes (sink_change g.K.Sink l.initial.out l.out) l.initial.block l.block done;
  whole : text (map byte_line (rows l.bytes)) ≡ done ++ text (map byte_line (rows l.rest));
}

abbrev pub decreases-loop-rest : goal.decreases-loop-rest
decreases-loop-rest g l = length l.rest
