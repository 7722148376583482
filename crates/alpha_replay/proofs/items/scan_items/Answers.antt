use Rattle.std.proofs.Common.{[], ◌∷◌, ◌++◌, refl, sym, ◌∙◌, arith}
use Rattle.std.proofs.lemmas.List.{take_rest}
use Rattle.std.proofs.lemmas.List.Sums.{sum_by_push}
use Rattle.alpha_replay.specs.Items.{item_units}
use Rattle.alpha_replay.proofs.ItemRows.{reading_none, reading_more, reading_stop, reading_all}
use Rattle.alpha_replay.proofs.items.scan_items.Goals as goal

pub loop-n-init : goal.loop-n-init
loop-n-init c = ([], reading_none c.args.count c.args.bytes.now, refl, omega arith)

pub returns-in_default : goal.returns-in_default
returns-in_default c =
    let l = c.loop-n in
    let read = rw (take_rest c.args.bytes.now l.at) at c.read.ensures.value in
    record {
      value = reading_stop c.args.count c.args.bytes.now l.n l.at l.behind l.invariant.0 c.loop-n-test.true
          l.invariant.1 (sym read ∙ c.in_default.is);
    }

pub loop-n-preserved : goal.loop-n-preserved
loop-n-preserved c =
    let l = c.loop-n in
    let i = c.in-Some.item in
    let read = rw (take_rest c.args.bytes.now l.at) at c.read.ensures.value in
    let more = reading_more c.args.count c.args.bytes.now l.n l.at l.behind l.invariant.0 i c.loop-n-test.true
    l.invariant.1 (sym read ∙ c.in-Some.is) in (
      l.invariant.0 ++ i ∷ [],
      rw (c.size-at.ensures.value, c.is_units-behind.ensures.value) more,
      omega (arith, sum_by_push item_units l.invariant.0 i, c.units.ensures.value, c.from-units.ensures, l.invariant.2),
      omega (arith, c.from-units.ensures, l.invariant.3),
    )

pub returns : goal.returns
returns c =
    let l = c.loop-n in
    record {
      value = record {
        items = l.invariant.0;
        is =
            reading_all c.args.count c.args.bytes.now l.n l.at l.behind l.invariant.0 c.loop-n-test.false l.invariant.1;
        within = l.invariant.1.within;
        units = l.invariant.2;
      };
    }
