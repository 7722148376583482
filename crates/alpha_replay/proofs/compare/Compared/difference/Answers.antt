use Rattle.std.proofs.Common.{arith}
use Rattle.std.proofs.lemmas.List.{length-drop}
use Rattle.alpha_replay.proofs.OutputComparison.{first_difference-differs, first_difference-output_short}
use Rattle.alpha_replay.proofs.OutputComparison.{difference_none}
use Rattle.alpha_replay.proofs.compare.Compared.difference.Goals as goal

pub returns-then-self : goal.returns-then-self
returns-then-self c =
    λ output before. first_difference-differs c.args.expected.now c.args.self output c.if-self.true before

pub returns-then-self-expected : goal.returns-then-self-expected
returns-then-self-expected c = λ output before.
    let rest = length-drop c.args.self.at c.args.expected.now in
    first_difference-output_short c.args.expected.now c.args.self output c.if-self.false
    (omega (arith, rest, c.if-self-expected.true)) before

pub returns : goal.returns
returns c = λ output before.
    difference_none c.args.expected.now c.args.self output c.if-self.false c.if-self-expected.false before
