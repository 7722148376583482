use Rattle.std.proofs.Common.{map, take}
use Rattle.alpha_io.specs.SinkChange.{sink_change}
use Rattle.alpha_dis.specs.SinkEffect.{Takes}
use Rattle.alpha_dis.specs.Listing.{text, code_line}
use Rattle.alpha_dis.proofs.listing.push_code.Given as goal

-- the lines of the first words were taken
abbrev pub invariant-loop-place : goal.invariant-loop-place
invariant-loop-place g l =
    Takes (sink_change g.K.Sink l.initial.out l.out) l.initial.block l.block
    (text (map code_line (take l.place l.image.words)))
