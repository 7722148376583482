use Rattle.std.proofs.Common.{◌++◌, ℕ, List, [], codes, map, sym, subst}
use Rattle.alpha_io.specs.SinkChange.{sink_change, sink_change_by}
use Rattle.alpha_image.specs.Parts.{Piece}
use Rattle.alpha_dis.specs.SinkEffect.{Takes, SinkFails}
use Rattle.alpha_dis.specs.Listing.{ended, text, count_line, rows, byte_line, segment_line, piece_lines, piece_of}
use Rattle.alpha_dis.proofs.BlockEffects.{listing_OnErr-any, Takes-more, Takes-three, SinkFails-more, SinkFails-second}
use Rattle.alpha_dis.proofs.BlockEffects.{SinkFails-third}
use Rattle.alpha_dis.proofs.ListingTexts.{text-piece_lines}
use Rattle.alpha_dis.proofs.listing.push_segment.Goals as goal

pub returns-in_err-make_room-clause-refused : goal.returns-in_err-make_room-clause-refused
returns-in_err-make_room-clause-refused g c =
    let piece : Piece = piece_of c.args.segment.now c.args.bytes.now in
    listing_OnErr-any c.from_residual.result
    (SinkFails-more (sink_change g.K.Sink c.args.out.now c.make_room.new.out) c.args.block.now
    (text (piece_lines c.args.image.now.version piece)) c.in_err-make_room.ensures.refused)

pub returns-in_err-push_rows-clause-refused : goal.returns-in_err-push_rows-clause-refused
returns-in_err-push_rows-clause-refused g c =
    let written = g.K.Sink.written in
    let faults = g.K.Sink.faults in
    let version = c.args.image.now.version in
    let piece : Piece = piece_of c.args.segment.now c.args.bytes.now in
    let start = ended (segment_line version piece.base) in
    let middle = text (map byte_line (rows piece.bytes)) in
    let end = ended (count_line (codes ".zero") piece.zeroed) in
    let first =
    Takes-more (sink_change_by written faults c.args.out.now c.make_room.new.out) c.args.block.now c.make_room.new.self
    c.push_segment_start.new.block [] start c.in_ok-make_room.ensures.ok c.push_segment_start.ensures in
    listing_OnErr-any c.from_residual-in_err-push_rows.result
    (subst (λ (t : List ℕ).
    SinkFails (sink_change_by written faults c.args.out.now c.push_rows.new.out) (c.args.block.now ++ t))
    (sym (text-piece_lines version piece))
    (SinkFails-second written faults c.args.out.now c.make_room.new.out c.push_rows.new.out c.push_rows.new.out
    c.args.block.now c.push_segment_start.new.block c.push_rows.new.block c.push_rows.new.block start middle end first
    c.in_err-push_rows.ensures.refused))

pub returns-in_err-make_room-2-clause-refused : goal.returns-in_err-make_room-2-clause-refused
returns-in_err-make_room-2-clause-refused g c =
    let written = g.K.Sink.written in
    let faults = g.K.Sink.faults in
    let version = c.args.image.now.version in
    let piece : Piece = piece_of c.args.segment.now c.args.bytes.now in
    let start = ended (segment_line version piece.base) in
    let middle = text (map byte_line (rows piece.bytes)) in
    let end = ended (count_line (codes ".zero") piece.zeroed) in
    let first =
    Takes-more (sink_change_by written faults c.args.out.now c.make_room.new.out) c.args.block.now c.make_room.new.self
    c.push_segment_start.new.block [] start c.in_ok-make_room.ensures.ok c.push_segment_start.ensures in
    listing_OnErr-any c.from_residual-in_err-make_room-2.result
    (subst (λ (t : List ℕ).
    SinkFails (sink_change_by written faults c.args.out.now c.make_room-2.new.out) (c.args.block.now ++ t))
    (sym (text-piece_lines version piece))
    (SinkFails-third written faults c.args.out.now c.make_room.new.out c.push_rows.new.out c.make_room-2.new.out
    c.args.block.now c.push_segment_start.new.block c.push_rows.new.block c.make_room-2.new.self start middle end first
    c.in_ok-push_rows.ensures.ok
    (SinkFails-more (sink_change_by written faults c.push_rows.new.out c.make_room-2.new.out) c.push_rows.new.block end
    c.in_err-make_room-2.ensures.refused)))

pub returns-clause-ok : goal.returns-clause-ok
returns-clause-ok g c =
    let written = g.K.Sink.written in
    let faults = g.K.Sink.faults in
    let version = c.args.image.now.version in
    let piece : Piece = piece_of c.args.segment.now c.args.bytes.now in
    let start = ended (segment_line version piece.base) in
    let middle = text (map byte_line (rows piece.bytes)) in
    let end = ended (count_line (codes ".zero") piece.zeroed) in
    let first =
    Takes-more (sink_change_by written faults c.args.out.now c.make_room.new.out) c.args.block.now c.make_room.new.self
    c.push_segment_start.new.block [] start c.in_ok-make_room.ensures.ok c.push_segment_start.ensures in
    let last =
    Takes-more (sink_change_by written faults c.push_rows.new.out c.make_room-2.new.out) c.push_rows.new.block
    c.make_room-2.new.self c.push_count.new.block [] end c.in_ok-make_room-2.ensures.ok c.push_count.ensures.state in
    subst
    (Takes (sink_change_by written faults c.args.out.now c.make_room-2.new.out) c.args.block.now c.push_count.new.block)
    (sym (text-piece_lines version piece))
    (Takes-three written faults c.args.out.now c.make_room.new.out c.push_rows.new.out c.make_room-2.new.out
    c.args.block.now c.push_segment_start.new.block c.push_rows.new.block c.push_count.new.block start middle end first
    c.in_ok-push_rows.ensures.ok last)
