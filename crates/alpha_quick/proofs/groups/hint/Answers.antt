use Rattle.std.proofs.Common.{inl}
use Rattle.alpha_quick.specs.Words.{HasWrittenHint, HasHint}
use Rattle.alpha_quick.proofs.LexemeMeanings.{IfSome-implied}
use Rattle.alpha_quick.proofs.groups.hint.Goals as goal

pub returns-in-44 : goal.returns-in-44
returns-in-44 c =
    IfSome-implied (HasWrittenHint c.args.s.now) (HasHint c.args.s.now) c.written_hint.result
    (λ n h. inl h) c.written_hint.ensures
