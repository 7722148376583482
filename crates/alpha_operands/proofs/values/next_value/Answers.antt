use Rattle.std.proofs.Common.{◌≡◌, length, sym, ◌∙◌, arith}
use Rattle.std.proofs.lemmas.Bool.Decides.{nat_tests}
use Rattle.alpha_operands.proofs.FirstValues.{none-in-empty}
use Rattle.alpha_operands.proofs.ListValueSizes.{result-sized}
use Rattle.alpha_operands.proofs.values.next_value.Goals as goal

pub returns-clause-sized : goal.returns-clause-sized
returns-clause-sized c =
    (result-sized c.args.bytes c.in_ok-shape.shape c.args.list.now c.first_value.result
    (sym c.list_shape.ensures ∙ c.in_ok-shape.was) c.first_value.ensures).0

pub returns-clause-shorter : goal.returns-clause-shorter
returns-clause-shorter c =
    (result-sized c.args.bytes c.in_ok-shape.shape c.args.list.now c.first_value.result
    (sym c.list_shape.ensures ∙ c.in_ok-shape.was) c.first_value.ensures).1

pub returns-then-is_empty-clause-value : goal.returns-then-is_empty-clause-value
returns-then-is_empty-clause-value c =
    sym (none-in-empty c.args.bytes c.args.list.now
    (let none : length c.args.list.now ≡ 0 = grind (arith, nat_tests) in none))
