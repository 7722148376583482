use Rattle.std.proofs.Common.{◌≡◌, Ok, Err, drop, sym, ◌∙◌}
use Rattle.std.proofs.lemmas.List.{take_rest}
use Rattle.alpha_replay.proofs.ItemRows.{reading_none, reading_more, reading_stop, reading_all}
use Rattle.alpha_replay.proofs.items.read_items.Goals as goal

pub loop-n-init : goal.loop-n-init
loop-n-init c = rw c.in_ok-items.ensures.items (reading_none c.args.count c.args.bytes.now)

pub unreachable-requires : goal.unreachable-requires
unreachable-requires c =
    let l = c.loop-n in
    let read = rw (take_rest c.args.bytes.now l.at) at c.read.ensures.value in
    let stop = reading_stop c.args.count c.args.bytes.now l.n l.at l.behind l.items.items c.loop-n-test.true l.invariant
    (sym read ∙ c.in_default.is) in
    let both : Err l.n ≡ Ok c.requires.0 = sym stop ∙ c.requires.1 in
    cc

pub loop-n-preserved : goal.loop-n-preserved
loop-n-preserved c =
    let l = c.loop-n in
    let read = rw (take_rest c.args.bytes.now l.at) at c.read.ensures.value in
    let more = reading_more c.args.count c.args.bytes.now l.n l.at l.behind l.items.items c.in-Some.item
    c.loop-n-test.true l.invariant (sym read ∙ c.in-Some.is) in
    rw (c.in_ok-push.ensures.items, c.size-at.ensures.value, c.is_units-behind.ensures.value) more

pub returns : goal.returns
returns c =
    let l = c.loop-n in
    record {
      value = (
        drop l.at c.args.bytes.now,
        reading_all c.args.count c.args.bytes.now l.n l.at l.behind l.items.items c.loop-n-test.false l.invariant,
      );
    }
