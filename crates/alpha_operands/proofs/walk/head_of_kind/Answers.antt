use Rattle.std.proofs.Common.{sym, ◌∙◌, ap}
use Rattle.alpha_operands.specs.Pieces.{same_kind}
use Rattle.alpha_operands.proofs.Reached.{head_of_kind-past_end, head_of_kind-other_kind}
use Rattle.alpha_operands.proofs.walk.head_of_kind.Goals as goal

pub returns-in_default : goal.returns-in_default
returns-in_default c =
    let (inside, read) = c.in-Some.ensures.lookup.3 in
    sym
    (head_of_kind-other_kind c.args.kind c.args.front.now c.args.pattern.now c.in-Some.piece.now inside
    (read c.in-Some.piece.now)
    (ap (λ k. same_kind k c.args.kind) (sym c.kind.ensures) ∙ sym c.same_kind.ensures ∙ c.if-same_kind.false))

pub returns-in_default-3 : goal.returns-in_default-3
returns-in_default-3 c =
    sym (head_of_kind-past_end c.args.kind c.args.front.now c.args.pattern.now
    (rw c.in_default.is at c.get.ensures.lookup.3))
