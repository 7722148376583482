use Rattle.std.proofs.Common.{◌≡◌, ◌<◌, ◌++◌, ℕ, List, [], length, map, take, drop, sym, ap, subst, ◌∙◌, append_assoc}
use Rattle.std.proofs.Common.{arith}
use Rattle.std.proofs.lemmas.Bool.Decides.{nat_tests}
use Rattle.alpha_io.specs.SinkChange.{sink_change_by}
use Rattle.alpha_dis.specs.SinkEffect.{Takes, SinkFails}
use Rattle.alpha_dis.specs.Listing.{ended, text, byte_line, rows}
use Rattle.alpha_dis.proofs.BlockEffects.{listing_OnErr-any, Takes-more, Takes-then, SinkFails-held}
use Rattle.alpha_dis.proofs.ListingTexts.{take-row, drop-row, text-rows-some}
use Rattle.alpha_dis.proofs.listing.push_rows.Goals as goal

pub returns-in_err-make_room-clause-refused : goal.returns-in_err-make_room-clause-refused
returns-in_err-make_room-clause-refused g c =
    let written = g.K.Sink.written in
    let faults = g.K.Sink.faults in
    let l = c.loop-rest in
    listing_OnErr-any c.from_residual.result
    (subst (λ (t : List ℕ).
    SinkFails (sink_change_by written faults c.args.out.now c.make_room.new.out) (c.args.block.now ++ t))
    (sym l.invariant.whole)
    (SinkFails-held written faults c.args.out.now l.out c.make_room.new.out c.args.block.now l.block l.invariant.done
    (text (map byte_line (rows l.rest.now)))
    l.invariant.taken c.in_err-make_room.ensures.refused))

pub loop-rest-preserved : goal.loop-rest-preserved
loop-rest-preserved g c =
    let written = g.K.Sink.written in
    let faults = g.K.Sink.faults in
    let l = c.loop-rest in
    let rest = l.rest.now in
    let row = c.split_at.result.0.now in
    let some : 0 < length rest = grind (arith, nat_tests) in
    let front : row ≡ take 16 rest = c.split_at.ensures.front ∙ take-row rest c.min.result c.min.ensures in
    let back : c.split_at.result.1.now ≡ drop 16 rest =
    c.split_at.ensures.back ∙ drop-row rest c.min.result c.min.ensures in
    let line = ended (byte_line row) in
    let more : Takes (sink_change_by written faults l.out c.make_room.new.out) l.block c.push_bytes.new.block line =
    Takes-more (sink_change_by written faults l.out c.make_room.new.out) l.block c.make_room.new.self
    c.push_bytes.new.block [] line c.in_ok-make_room.ensures.ok c.push_bytes.ensures in
    record {
      done = l.invariant.done ++ line;
      taken =
          Takes-then written faults c.args.out.now l.out c.make_room.new.out c.args.block.now l.block l.invariant.done
          c.push_bytes.new.block line l.invariant.taken more;
      whole =
          l.invariant.whole
          ∙ (ap (λ (t : List ℕ). l.invariant.done ++ t)
          (text-rows-some rest some
          ∙ (ap (λ (t : List ℕ). ended (byte_line t) ++ text (map byte_line (rows (drop 16 rest)))) (sym front)
          ∙ ap (λ (t : List ℕ). line ++ text (map byte_line (rows t))) (sym back)))
          ∙ sym (append_assoc l.invariant.done line (text (map byte_line (rows c.split_at.result.1.now)))));
    }
