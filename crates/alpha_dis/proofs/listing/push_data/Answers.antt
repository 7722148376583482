use Rattle.std.proofs.Common.{◌+◌, ◌≤◌, ◌++◌, ℕ, List, length, take, drop, sym, subst, arith}
use Rattle.std.specs.List.{flat_map}
use Rattle.std.proofs.lemmas.List.{take_all}
use Rattle.alpha_io.specs.SinkChange.{sink_change, sink_change_by}
use Rattle.alpha_image.specs.Parts.{pieces, Piece}
use Rattle.alpha_image.proofs.SegmentShares.{length-pieces_of}
use Rattle.alpha_dis.specs.SinkEffect.{Takes, SinkFails}
use Rattle.alpha_dis.specs.Listing.{text, piece_lines, piece_of}
use Rattle.alpha_dis.proofs.BlockEffects.{listing_OnErr-any, Takes-then, SinkFails-second}
use Rattle.alpha_dis.proofs.ListingTexts.{text-pieces-more, text-pieces-split}
use Rattle.alpha_dis.proofs.listing.push_data.Goals as goal

pub returns-in_err-push_segment-clause-refused : goal.returns-in_err-push_segment-clause-refused
returns-in_err-push_segment-clause-refused g c =
    let written = g.K.Sink.written in
    let faults = g.K.Sink.faults in
    let l = c.loop-n in
    let version = c.args.image.now.version in
    let all = pieces c.args.image.now in
    let piece : Piece = piece_of c.segment_at.result.0 c.segment_at.result.1.now in
    listing_OnErr-any c.from_residual.result
    (subst (λ (t : List ℕ).
    SinkFails (sink_change_by written faults c.args.out.now c.push_segment.new.out) (c.args.block.now ++ t))
    (text-pieces-split version all l.n piece c.segment_at.ensures)
    (SinkFails-second written faults c.args.out.now l.out c.push_segment.new.out c.push_segment.new.out c.args.block.now
    l.block l.block l.block
    (text (flat_map (piece_lines version) (take l.n all))) (text (piece_lines version piece))
    (text (flat_map (piece_lines version) (drop (l.n + 1) all)))
    l.invariant c.in_err-push_segment.ensures.refused))

pub loop-n-preserved : goal.loop-n-preserved
loop-n-preserved g c =
    let written = g.K.Sink.written in
    let faults = g.K.Sink.faults in
    let l = c.loop-n in
    let version = c.args.image.now.version in
    let all = pieces c.args.image.now in
    let piece : Piece = piece_of c.segment_at.result.0 c.segment_at.result.1.now in
    subst (Takes (sink_change_by written faults c.args.out.now c.push_segment.new.out) c.args.block.now
    c.push_segment.new.block)
    (sym (text-pieces-more version all l.n piece c.segment_at.ensures))
    (Takes-then written faults c.args.out.now l.out c.push_segment.new.out c.args.block.now l.block
    (text (flat_map (piece_lines version) (take l.n all)))
    c.push_segment.new.block (text (piece_lines version piece)) l.invariant c.in_ok-push_segment.ensures.ok)

pub returns-clause-ok : goal.returns-clause-ok
returns-clause-ok g c =
    let l = c.loop-n in
    let p = c.args.image.now in
    let all : length (pieces p) ≤ l.n = omega (arith, length-pieces_of p.segments p.bytes) in
    subst (λ (ps : List Piece). Takes (sink_change g.K.Sink c.args.out.now l.out) c.args.block.now l.block
    (text (flat_map (piece_lines p.version) ps)))
    (take_all l.n (pieces p) all) l.invariant
