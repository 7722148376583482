use Rattle.alpha_replay.proofs.OutputComparison.{first_difference-too_many_bytes}
use Rattle.alpha_replay.proofs.compare.same_prefix.Goals as goal

pub returns-then-expected-count-clause-other : goal.returns-then-expected-count-clause-other
returns-then-expected-count-clause-other c = λ less n more.
    first_difference-too_many_bytes c.args.bytes.now c.args.expected.now c.loop-count.count less
    c.if-expected-count.true n more
