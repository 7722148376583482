use Rattle.std.proofs.Common.{inl}
use Rattle.alpha_quick.specs.Words.{HasLastBase, HasTail}
use Rattle.alpha_quick.proofs.LexemeMeanings.{IfSome-implied}
use Rattle.alpha_quick.proofs.groups.tail.Goals as goal

pub returns-in-40 : goal.returns-in-40
returns-in-40 c =
    IfSome-implied (HasLastBase c.args.s.now) (HasTail c.args.s.now) c.last_base.result
    (λ r h. inl h) c.last_base.ensures
