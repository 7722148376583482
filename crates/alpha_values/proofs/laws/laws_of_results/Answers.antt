use Rattle.alpha_values.specs.Op.{result_of}
use Rattle.alpha_values.proofs.MachineWords.{wrapped_sum, wrapped_difference, wrapped_product}
use Rattle.alpha_values.proofs.ResultBounds.{result_bound}
use Rattle.alpha_values.proofs.laws.laws_of_results.Goals as goal

pub returns : goal.returns
unfolding result_of
returns c = record {
  bound = result_bound;
  sum = λ level a b old. wrapped_sum a b;
  difference = λ level a b old. wrapped_difference a b;
  product = λ level a b old. wrapped_product a b;
}
