use Rattle.std.proofs.Common.{◌+◌, ◌≤◌, length, take, IsTrue, refl, sym, subst, ◌∙◌, arith, length-take}
use Rattle.alpha_io.specs.Supply.{supply}
use Rattle.alpha_mem.specs.Intent.{Store}
use Rattle.alpha_mem.specs.Block.{shapes, within}
use Rattle.alpha_mem.proofs.LawLemmas.{within-part, within-below}
use Rattle.alpha_pal.proofs.InputTaken.{TakesPieces-none, TakesPieces-more, ReadsInto-full, ReadsInto-ended}
use Rattle.alpha_pal.proofs.InputTaken.{TakesLess-failed, OnErr-from_true}
use Rattle.alpha_pal.proofs.take.take_into.Goals as goal

pub loop-done-init : goal.loop-done-init
loop-done-init g c = record {
  first = TakesPieces-none c.args.mem.now c.args.addr (supply g.S.Source c.args.input.now) c.requires.good.layout;
  shapes = refl;
  room = omega arith;
  memory = c.requires.good;
  faults_unchanged = refl;
}

pub overflow_add-addr : goal.overflow_add-addr
overflow_add-addr g c =
    let low = within-below (shapes c.args.mem.now) Store c.args.addr c.args.size c.requires.good.layout
    (omega arith) c.requires.range in
    omega arith

pub take_piece-requires-clause-range : goal.take_piece-requires-clause-range
take_piece-requires-clause-range g c =
    let n = length (take c.min-most.result c.loop-done.buffer) in
    subst (λ ss. IsTrue (within ss Store (c.args.addr + c.loop-done.done) n)) (sym c.loop-done.invariant.shapes)
    (within-part (shapes c.args.mem.now) Store c.args.addr c.args.size (c.args.addr + c.loop-done.done) n
    c.requires.range (omega arith) (omega (arith, length-take c.min-most.result c.loop-done.buffer)))

pub returns-then-count-eq0-clause-ok : goal.returns-then-count-eq0-clause-ok
returns-then-count-eq0-clause-ok g c =
    ReadsInto-ended c.args.mem.now c.loop-done.mem c.take_piece.new.mem c.args.addr c.loop-done.done
    c.in_ok-count.count c.args.size (supply g.S.Source c.args.input.now) (supply g.S.Source c.loop-done.input)
    (supply g.S.Source c.take_piece.new.input) c.requires.good.layout c.requires.range (omega arith)
    (omega arith) c.loop-done.invariant.first c.in_ok-count.ensures.ok

pub returns-clause-ok : goal.returns-clause-ok
returns-clause-ok g c =
    ReadsInto-full c.args.mem.now c.loop-done.mem c.args.addr c.loop-done.done c.args.size
    (supply g.S.Source c.args.input.now) (supply g.S.Source c.loop-done.input) (omega arith) c.loop-done.invariant.first

pub returns-in_err-count-clause-refused : goal.returns-in_err-count-clause-refused
returns-in_err-count-clause-refused g c =
    OnErr-from_true _ c.from_residual.result
    (TakesLess-failed c.args.mem.now c.loop-done.mem c.take_piece.new.mem c.args.addr c.loop-done.done c.args.size
    (supply g.S.Source c.args.input.now) (supply g.S.Source c.loop-done.input)
    (supply g.S.Source c.take_piece.new.input)
    (omega arith) c.in_err-count.ensures.same c.loop-done.invariant.first c.in_err-count.ensures.input)

pub loop-done-preserved : goal.loop-done-preserved
loop-done-preserved g c =
    let bound = c.in_ok-count.ensures.bound in
    let room : c.loop-done.done + c.in_ok-count.count ≤ c.args.size =
    omega (arith, length-take c.min-most.result c.loop-done.buffer) in
    record {
      first =
          TakesPieces-more c.args.mem.now c.loop-done.mem c.take_piece.new.mem c.args.addr c.loop-done.done
          c.in_ok-count.count (c.loop-done.done + c.in_ok-count.count) c.args.size (supply g.S.Source c.args.input.now)
          (supply g.S.Source c.loop-done.input) (supply g.S.Source c.take_piece.new.input) c.requires.good.layout
          c.requires.range refl room c.if-count-eq0.false c.loop-done.invariant.first c.in_ok-count.ensures.ok;
      shapes = c.in_ok-count.ensures.shapes ∙ c.loop-done.invariant.shapes;
      room = room;
      memory = c.in_ok-count.ensures.good;
      faults_unchanged = c.in_ok-count.ensures.cause.ok ∙ c.loop-done.invariant.faults_unchanged;
    }
