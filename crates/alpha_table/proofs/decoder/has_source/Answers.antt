use Rattle.std.proofs.Common.{refl, sym, ◌∙◌, true≢false}
use Rattle.std.proofs.lemmas.Bool.{eq-eqb, eqb-true}
use Rattle.alpha_table.proofs.DecodedInsns.{literal_source, register_source}
use Rattle.alpha_table.proofs.decoder.has_source.Goals as goal

pub returns-then-is_literal : goal.returns-then-is_literal
returns-then-is_literal c = (λ t. literal_source c.args.w.0 (c.if-is_literal.ensures.0 refl), λ s. refl)

pub returns-else-is_literal : goal.returns-else-is_literal
returns-else-is_literal c =
    let s = register_source c.args.w.0 (λ e. true≢false (sym (c.if-is_literal.ensures.1 e))) in
    (λ t. s.1 (sym c.zeros.ensures ∙ eqb-true _ _ t), λ h. eq-eqb _ _ (c.zeros.ensures ∙ s.0 h))
