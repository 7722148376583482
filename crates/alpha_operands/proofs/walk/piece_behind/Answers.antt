use Rattle.std.proofs.Common.{sym}
use Rattle.alpha_operands.proofs.PatternPrefixes.{longer_of}
use Rattle.alpha_operands.proofs.Reached.{IsOneOf-at}
use Rattle.alpha_operands.proofs.walk.piece_behind.Goals as goal

pub returns-in-Some-clause-behind : goal.returns-in-Some-clause-behind
returns-in-Some-clause-behind c = longer_of c.args.front.now _ c.args.kind c.in-Some.piece (sym c.in-Some.ensures)

pub returns-in-Some-clause-pattern : goal.returns-in-Some-clause-pattern
returns-in-Some-clause-pattern c =
    IsOneOf-at c.args.patterns.now c.loop-pattern.pattern-index _ c.loop-pattern-test.true
