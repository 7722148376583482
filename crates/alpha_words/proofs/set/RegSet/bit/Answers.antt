use Rattle.std.proofs.Common.{arith}
use Rattle.alpha_words.proofs.SetMembers.{Has-masked}
use Rattle.alpha_words.proofs.set.RegSet.bit.Goals as goal

pub returns-clause-members : goal.returns-clause-members
returns-clause-members c = λ k. rw c.number.ensures.value (Has-masked c.args.r k (omega arith))
