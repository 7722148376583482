use Rattle.std.proofs.Common.{[], List, ℕ, subst, append-nil}
use Rattle.alpha_io.specs.SinkChange.{sink_change_by, WritesPartly}
use Rattle.alpha_dis.specs.SinkEffect.{Takes}
use Rattle.alpha_dis.specs.Listing.{listing}
use Rattle.alpha_dis.proofs.BlockEffects.{WritesPartly-all, Puts-held, SinkFails-held}
use Rattle.alpha_dis.proofs.listing.list.Goals as goal

pub returns-in_err-flush-clause-prefix : goal.returns-in_err-flush-clause-prefix
returns-in_err-flush-clause-prefix g c =
    let written = g.K.Sink.written in
    let faults = g.K.Sink.faults in
    let whole = listing c.args.image.now in
    let taken : Takes (sink_change_by written faults c.args.out.now c.push_all.new.out) [] c.push_all.new.block whole =
    subst (λ (a : List ℕ). Takes (sink_change_by written faults c.args.out.now c.push_all.new.out) a
    c.push_all.new.block whole) c.new-block.ensures c.in_ok-push_all.ensures.ok in
    subst (WritesPartly (sink_change_by written faults c.args.out.now c.flush.new.out)) (append-nil whole)
    (SinkFails-held written faults c.args.out.now c.push_all.new.out c.flush.new.out [] c.push_all.new.block whole
    [] taken c.in_err-flush.ensures.refused).part

pub returns-clause-prefix : goal.returns-clause-prefix
returns-clause-prefix g c =
    let written = g.K.Sink.written in
    let faults = g.K.Sink.faults in
    let whole = listing c.args.image.now in
    let taken : Takes (sink_change_by written faults c.args.out.now c.push_all.new.out) [] c.push_all.new.block whole =
    subst (λ (a : List ℕ). Takes (sink_change_by written faults c.args.out.now c.push_all.new.out) a
    c.push_all.new.block whole) c.new-block.ensures c.in_ok-push_all.ensures.ok in
    WritesPartly-all (sink_change_by written faults c.args.out.now c.flush.new.out) whole
    (Puts-held written faults c.args.out.now c.push_all.new.out c.flush.new.out
    [] c.push_all.new.block whole taken c.in_ok-flush.ensures.ok)
