use Rattle.std.proofs.Common.{◌≡◌, ◌<◌, ◌++◌, ℕ, List, [], length, get_or, map, take, drop, sym, ap, subst, ◌∙◌, arith}
use Rattle.std.specs.Option.{option_map_or}
use Rattle.alpha_io.specs.SinkChange.{sink_change_by}
use Rattle.alpha_text.specs.Canon.{canon}
use Rattle.alpha_dis.specs.SinkEffect.{Takes, SinkFails}
use Rattle.alpha_dis.specs.Listing.{ended, text, code_line}
use Rattle.alpha_dis.proofs.BlockEffects.{listing_OnErr-any, Takes-more, Takes-then, SinkFails-held}
use Rattle.alpha_dis.proofs.ListingTexts.{text-map-more, text-map-split}
use Rattle.alpha_dis.proofs.listing.push_code.Goals as goal

pub returns-in_err-make_room-clause-refused : goal.returns-in_err-make_room-clause-refused
returns-in_err-make_room-clause-refused g c =
    let written = g.K.Sink.written in
    let faults = g.K.Sink.faults in
    let l = c.loop-place in
    let words = c.args.image.now.words in
    let rest = text (map code_line (drop l.place words)) in
    listing_OnErr-any c.from_residual.result
    (subst (λ (t : List ℕ).
    SinkFails (sink_change_by written faults c.args.out.now c.make_room.new.out) (c.args.block.now ++ t))
    (sym (text-map-split code_line words l.place))
    (SinkFails-held written faults c.args.out.now l.out c.make_room.new.out c.args.block.now l.block
    (text (map code_line (take l.place words))) rest l.invariant c.in_err-make_room.ensures.refused))

pub loop-place-preserved : goal.loop-place-preserved
loop-place-preserved g c =
    let written = g.K.Sink.written in
    let faults = g.K.Sink.faults in
    let l = c.loop-place in
    let words = c.args.image.now.words in
    let within : l.place < length words = omega arith in
    let code = canon c.insn_at.result in
    let line : code ≡ code_line (get_or words l.place 0) =
    ap (λ o. option_map_or canon o []) (sym c.insn_at.ensures.value) in
    let last = Takes-more (sink_change_by written faults l.out c.make_room.new.out) l.block c.make_room.new.self
    c.push_code.new.self [] (ended code) c.in_ok-make_room.ensures.ok c.push_code.ensures in
    subst
    (Takes (sink_change_by written faults c.args.out.now c.make_room.new.out) c.args.block.now c.push_code.new.self)
    (ap (λ (t : List ℕ). text (map code_line (take l.place words)) ++ ended t) line
    ∙ sym (text-map-more code_line words l.place 0 within))
    (Takes-then written faults c.args.out.now l.out c.make_room.new.out c.args.block.now l.block
    (text (map code_line (take l.place words))) c.push_code.new.self (ended code)
    l.invariant last)
