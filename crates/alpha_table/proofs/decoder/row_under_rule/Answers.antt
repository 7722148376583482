use Rattle.std.proofs.Common.{refl, sym, true≢false}
use Rattle.alpha_table.proofs.DecodedInsns.{Row-operate_refused, Decodes-operate, OperandsFit-equal}
use Rattle.alpha_table.proofs.decoder.row_under_rule.Goals as goal

pub returns-then-not-has_source-clause-none : goal.returns-then-not-has_source-clause-none
returns-then-not-has_source-clause-none c =
    Row-operate_refused c.args.w.0 c.args.op c.requires (λ p. true≢false (sym (c.if-not-has_source.ensures.1 p.0)))

pub returns-then-operands_fit-clause-found : goal.returns-then-operands_fit-clause-found
returns-then-operands_fit-clause-found c =
    Decodes-operate c.args.w.0 c.args.op c.requires (c.if-not-has_source.ensures.0 refl)
    (OperandsFit-equal _ _ _ _ _ _ c.operands.ensures c.ra.ensures c.source.ensures (c.if-operands_fit.ensures.0 refl))

pub returns-else-operands_fit-clause-none : goal.returns-else-operands_fit-clause-none
returns-else-operands_fit-clause-none c =
    Row-operate_refused c.args.w.0 c.args.op c.requires
    (λ p. true≢false
    (sym (c.if-operands_fit.ensures.1 (OperandsFit-equal _ _ _ _ _ _ (sym c.operands.ensures) (sym c.ra.ensures)
    (sym c.source.ensures) p.1))))
