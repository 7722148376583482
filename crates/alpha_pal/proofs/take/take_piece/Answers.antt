use Rattle.std.proofs.Common.{ℕ, length, take, arith, length-take}
use Rattle.alpha_mem.specs.Intent.{Store}
use Rattle.alpha_mem.specs.Block.{shapes}
use Rattle.alpha_mem.proofs.LawLemmas.{within-part}
use Rattle.alpha_pal.proofs.take.take_piece.Goals as goal

pub write-requires : goal.write-requires
write-requires g c =
    within-part (shapes c.args.mem.now) Store c.args.addr (length c.args.piece.now) c.args.addr
    (length (take c.in_ok-count.count c.take.new.buf)) c.requires.range (omega arith)
    (omega (arith, length-take {A = ℕ}, c.in_ok-count.ensures.bound))

pub returns-clause-ok : goal.returns-clause-ok
returns-clause-ok g c = record {
  had = record {
    taken = take c.in_ok-count.count c.take.new.buf;
    count = omega (arith, length-take {A = ℕ}, c.in_ok-count.ensures.bound);
    there = c.write.ensures.value;
    consumed = c.in_ok-count.ensures.bytes;
  };
  asked = length c.take.new.buf;
  call = c.in_ok-count.ensures.replies;
}
