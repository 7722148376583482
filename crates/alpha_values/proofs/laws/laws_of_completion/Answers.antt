use Rattle.std.proofs.Common.{refl}
use Rattle.alpha_values.specs.TrapOp.{completed_of}
use Rattle.alpha_values.proofs.MachineWords.{register_of-lt}
use Rattle.alpha_values.proofs.LawLemmas.{Overflows-range, completed-wrap, completed-exact}
use Rattle.alpha_values.proofs.laws.laws_of_completion.Goals as goal

pub returns : goal.returns
unfolding completed_of
returns c = record {
  range = Overflows-range;
  bound = λ op a b how. register_of-lt _;
  wrap = completed-wrap;
  stop = λ op a b. refl;
  exact = completed-exact;
}
