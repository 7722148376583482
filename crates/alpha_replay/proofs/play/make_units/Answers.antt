use Rattle.std.proofs.Common.{◌≡◌, ◌+◌, ◌-◌, ◌≤◌, ℕ, length, sym, ap, subst, ◌∙◌, arith}
use Rattle.alpha_replay.specs.declared.compare.Compared.{Compared}
use Rattle.alpha_replay.specs.declared.play.Cursor.{Cursor}
use Rattle.alpha_replay.specs.Listed.{units}
use Rattle.alpha_replay.specs.ReplayEffect.{place, ReplayEffect}
use Rattle.alpha_replay.proofs.MoveRows.{did_none, did_next, fails_next}
use Rattle.alpha_replay.proofs.FastMoves.{ReplayEffect-any, cursor_seen-after}
use Rattle.alpha_replay.proofs.play.make_units.Goals as goal

pub moves-init : goal.moves-init
moves-init c =
    let a = c.args in
    let n = c.run_fast.result in
    let start = place a.wild.now a.input.now.left a.from.now in
    let most : n ≤ a.units = c.run_fast.ensures.most in
    let made : 0 + n ≡ a.units - (a.units - n) = omega (arith, most) in
    record {
      most = omega arith;
      effect =
          subst (λ (k : ℕ). ReplayEffect a.expected.now (λ g p. units g k p) start
          (place c.run_fast.new.wild a.input.now.left c.run_fast.new.cursor))
          made
          (subst (λ (s : Cursor).
          ReplayEffect a.expected.now (λ g p. units g (0 + n) p) start (place c.run_fast.new.wild a.input.now.left s))
          (sym c.run_fast.ensures.stand)
          (ReplayEffect-any a.expected.now n 0 start a.wild.now c.run_fast.new.wild a.input.now.left a.from.now
          c.run_fast.ensures.over (did_none a.expected.now start) c.run_fast.ensures.went));
      seen =
          subst (λ (s : Compared). s.at ≤ length a.expected.now)
          (sym (ap (λ (s : Cursor). s.seen) c.run_fast.ensures.stand ∙ cursor_seen-after a.from.now n)) c.requires;
    }

pub returns-in-None-clause-refused : goal.returns-in-None-clause-refused
returns-in-None-clause-refused c =
    fails_next c.args.expected.now (c.args.units - c.moves.left) c.args.units
    (place c.args.wild.now c.args.input.now.left c.args.from.now)
    (place c.moves.wild c.moves.input.left c.moves.stand)
    (omega (arith, c.moves.invariant.most)) c.moves.invariant.effect c.in-None.ensures.refused

pub returns-clause-made : goal.returns-clause-made
returns-clause-made c =
    let a = c.args in
    let all : a.units - c.moves.left ≡ a.units = omega arith in
    subst (λ (k : ℕ). ReplayEffect a.expected.now (λ g p. units g k p)
    (place a.wild.now a.input.now.left a.from.now) (place c.moves.wild c.moves.input.left c.moves.stand))
    all c.moves.invariant.effect

pub moves-preserved : goal.moves-preserved
moves-preserved c =
    let a = c.args in
    let n = c.run_fast-left.result in
    let start = place a.wild.now a.input.now.left a.from.now in
    let left = c.moves.left in
    let most : n ≤ left - 1 = c.run_fast-left.ensures.most in
    let more : a.units - left + 1 + n ≡ a.units - (left - 1 - n) = omega (arith, most, c.moves.invariant.most) in
    let next = did_next a.expected.now (a.units - left) start (place c.moves.wild c.moves.input.left c.moves.stand)
    (place c.make_move.new.wild c.make_move.new.input.left c.in-Some.to)
    c.moves.invariant.effect c.in-Some.ensures.made in
    record {
      most = omega (arith, c.moves.invariant.most);
      effect =
          subst (λ (k : ℕ). ReplayEffect a.expected.now (λ g p. units g k p) start
          (place c.run_fast-left.new.wild c.make_move.new.input.left c.run_fast-left.new.cursor))
          more
          (subst (λ (s : Cursor). ReplayEffect a.expected.now (λ g p. units g (a.units - left + 1 + n) p) start
          (place c.run_fast-left.new.wild c.make_move.new.input.left s))
          (sym c.run_fast-left.ensures.stand)
          (ReplayEffect-any a.expected.now n (a.units - left + 1) start c.make_move.new.wild c.run_fast-left.new.wild
          c.make_move.new.input.left c.in-Some.to c.run_fast-left.ensures.over next c.run_fast-left.ensures.went));
      seen =
          subst (λ (s : Compared). s.at ≤ length a.expected.now)
          (sym (ap (λ (s : Cursor). s.seen) c.run_fast-left.ensures.stand ∙ cursor_seen-after c.in-Some.to n))
          c.in-Some.ensures.bound;
    }
