use Rattle.std.proofs.Common.{take}
use Rattle.std.specs.List.{flat_map}
use Rattle.alpha_io.specs.SinkChange.{sink_change}
use Rattle.alpha_image.specs.Parts.{pieces}
use Rattle.alpha_dis.specs.SinkEffect.{Takes}
use Rattle.alpha_dis.specs.Listing.{text, piece_lines}
use Rattle.alpha_dis.proofs.listing.push_data.Given as goal

-- the lines of the first segments were taken
abbrev pub invariant-loop-n : goal.invariant-loop-n
invariant-loop-n g l =
    Takes (sink_change g.K.Sink l.initial.out l.out) l.initial.block l.block
    (text (flat_map (piece_lines l.image.version) (take l.n (pieces l.image))))
