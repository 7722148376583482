use Rattle.alpha_io.proofs.Writes.{WritesPrefix-none, WritesPrefix-all, WritesPrefix-after, WritesPrefix-more}
use Rattle.alpha_io.proofs.Writes.{WritesPrefix-told}
use Rattle.alpha_io.proofs.laws.laws_of_prefixes.Goals as goal

pub returns : goal.returns
returns c = record {
  none = WritesPrefix-none;
  all = WritesPrefix-all;
  after = WritesPrefix-after;
  more = WritesPrefix-more;
  told = WritesPrefix-told;
}
