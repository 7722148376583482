use Rattle.std.proofs.Common.{refl, ◌+◌, ◌∙◌, ap}
use Rattle.alpha_token.specs.Tokens.{tokens}
use Rattle.alpha_text.proofs.CanonicalTokens.{tokens-space}
use Rattle.alpha_quick.specs.TerminatedLine.{rest_from}
use Rattle.alpha_quick.proofs.terminated_line.TerminatedLine.after_comma.Goals as goal

pub returns-then-is_byte_at-clause-line : goal.returns-then-is_byte_at-clause-line
returns-then-is_byte_at-clause-line c =
    ap tokens (c.if-is_byte_at.ensures.line refl) ∙ tokens-space (rest_from c.args.self.now (c.args.i + 1))
