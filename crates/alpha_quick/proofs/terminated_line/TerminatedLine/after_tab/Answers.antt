use Rattle.std.proofs.Common.{refl, ◌+◌, ◌∙◌, ap, sym, subst}
use Rattle.alpha_token.specs.Tokens.{tokens}
use Rattle.alpha_text.specs.SuffixWords.{IsApart}
use Rattle.alpha_quick.specs.TerminatedLine.{rest_from}
use Rattle.alpha_quick.proofs.TerminatedLines.{tokens-tab}
use Rattle.alpha_quick.proofs.terminated_line.TerminatedLine.after_tab.Goals as goal

pub returns-then-is_any_byte_at-clause-apart : goal.returns-then-is_any_byte_at-clause-apart
returns-then-is_any_byte_at-clause-apart c = subst IsApart (sym (c.if-is_any_byte_at.ensures refl)) (refl, refl)

pub returns-then-is_any_byte_at-clause-line : goal.returns-then-is_any_byte_at-clause-line
returns-then-is_any_byte_at-clause-line c =
    ap tokens (c.if-is_any_byte_at.ensures refl) ∙ tokens-tab (rest_from c.args.self.now (c.args.i + 1))
