use Rattle.std.proofs.Common.{◌+◌, ℕ, refl, sym, ap, subst, arith}
use Rattle.std.proofs.lemmas.List.{drop_more}
use Rattle.alpha_replay.specs.ReplayEffect.{place, first_cursor, StopsAt}
use Rattle.alpha_replay.proofs.MoveRows.{plays_none, plays_next, stops_at}
use Rattle.alpha_replay.proofs.play.play_items.Goals as goal

pub loop-item-init : goal.loop-item-init
loop-item-init c = (
  plays_none c.args.expected.now c.args.items.now (place c.args.wild.now c.args.input.now.left first_cursor),
  omega arith,
  refl,
)

pub loop-item-preserved : goal.loop-item-preserved
loop-item-preserved c = (
  plays_next c.args.expected.now c.args.items.now c.loop-item.item-index _
      (place c.args.wild.now c.args.input.now.left first_cursor)
      (place c.loop-item.wild c.loop-item.input.left c.loop-item.stand)
      (place c.play_item.new.wild c.play_item.new.input.left c.in-Some.to)
      (drop_more c.args.items.now c.loop-item.item-index _ c.loop-item-test.true)
      c.loop-item.invariant.0 c.in-Some.ensures.made,
  c.in-Some.ensures.bound,
  ap (λ (k : ℕ). k + 1) c.loop-item.invariant.2,
)

pub returns-in-None-clause-refused : goal.returns-in-None-clause-refused
returns-in-None-clause-refused c =
    let from = place c.args.wild.now c.args.input.now.left first_cursor in
    subst (λ (k : ℕ). StopsAt c.args.items.now k from) (sym c.loop-item.invariant.2)
    (stops_at c.args.expected.now c.args.items.now c.loop-item.item-index _
    from (place c.loop-item.wild c.loop-item.input.left c.loop-item.stand)
    (drop_more c.args.items.now c.loop-item.item-index _ c.loop-item-test.true)
    c.loop-item.invariant.0 c.in-None.ensures.refused)
