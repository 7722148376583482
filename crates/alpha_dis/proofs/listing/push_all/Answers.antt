use Rattle.std.proofs.Common.{◌++◌, ℕ, List, map, sym, subst}
use Rattle.std.specs.List.{flat_map}
use Rattle.std.proofs.lemmas.Result.{on_ok_weaker, on_err_weaker}
use Rattle.alpha_io.specs.SinkChange.{sink_change, sink_change_by}
use Rattle.alpha_image.specs.Parts.{pieces}
use Rattle.alpha_dis.specs.SinkEffect.{Takes, SinkFails}
use Rattle.alpha_dis.specs.Listing.{text, heading, code_line, piece_lines, listing}
use Rattle.alpha_dis.proofs.BlockEffects.{listing_OnErr-any, Takes-three, SinkFails-more, SinkFails-second}
use Rattle.alpha_dis.proofs.BlockEffects.{SinkFails-third}
use Rattle.alpha_dis.proofs.ListingTexts.{text-listing}
use Rattle.alpha_dis.proofs.listing.push_all.Goals as goal

pub returns-in_err-push_start-clause-refused : goal.returns-in_err-push_start-clause-refused
returns-in_err-push_start-clause-refused g c =
    listing_OnErr-any c.from_residual.result
    (SinkFails-more (sink_change g.K.Sink c.args.out.now c.push_start.new.out) c.args.block.now
    (listing c.args.image.now) c.in_err-push_start.ensures.refused)

pub returns-in_err-push_code-clause-refused : goal.returns-in_err-push_code-clause-refused
returns-in_err-push_code-clause-refused g c =
    let written = g.K.Sink.written in
    let faults = g.K.Sink.faults in
    let p = c.args.image.now in
    listing_OnErr-any c.from_residual-in_err-push_code.result
    (subst (λ (t : List ℕ).
    SinkFails (sink_change_by written faults c.args.out.now c.push_code.new.out) (c.args.block.now ++ t))
    (sym (text-listing p))
    (SinkFails-second written faults c.args.out.now c.push_start.new.out c.push_code.new.out c.push_code.new.out
    c.args.block.now c.push_start.new.block c.push_code.new.block c.push_code.new.block
    (text (heading p)) (text (map code_line p.words)) (text (flat_map (piece_lines p.version) (pieces p)))
    c.in_ok-push_start.ensures.ok c.in_err-push_code.ensures.refused))

pub returns-clause-ok : goal.returns-clause-ok
returns-clause-ok g c =
    let written = g.K.Sink.written in
    let faults = g.K.Sink.faults in
    let p = c.args.image.now in
    on_ok_weaker c.push_data.result
    (λ third. subst
    (Takes (sink_change_by written faults c.args.out.now c.push_data.new.out) c.args.block.now c.push_data.new.block)
    (sym (text-listing p))
    (Takes-three written faults c.args.out.now c.push_start.new.out c.push_code.new.out c.push_data.new.out
    c.args.block.now c.push_start.new.block c.push_code.new.block c.push_data.new.block
    (text (heading p)) (text (map code_line p.words)) (text (flat_map (piece_lines p.version) (pieces p)))
    c.in_ok-push_start.ensures.ok c.in_ok-push_code.ensures.ok third))
    c.push_data.ensures.ok

pub returns-clause-refused : goal.returns-clause-refused
returns-clause-refused g c =
    let written = g.K.Sink.written in
    let faults = g.K.Sink.faults in
    let p = c.args.image.now in
    on_err_weaker c.push_data.result
    (λ third. subst (λ (t : List ℕ).
    SinkFails (sink_change_by written faults c.args.out.now c.push_data.new.out) (c.args.block.now ++ t))
    (sym (text-listing p))
    (SinkFails-third written faults c.args.out.now c.push_start.new.out c.push_code.new.out c.push_data.new.out
    c.args.block.now c.push_start.new.block c.push_code.new.block c.push_code.new.block
    (text (heading p)) (text (map code_line p.words)) (text (flat_map (piece_lines p.version) (pieces p)))
    c.in_ok-push_start.ensures.ok c.in_ok-push_code.ensures.ok third))
    c.push_data.ensures.refused
