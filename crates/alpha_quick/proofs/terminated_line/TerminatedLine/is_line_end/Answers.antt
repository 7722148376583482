use Rattle.std.proofs.Common.{◌∙◌, ap}
use Rattle.alpha_token.specs.Tokens.{tokens}
use Rattle.alpha_text.proofs.CanonicalTokens.{tokens-none}
use Rattle.alpha_quick.proofs.TerminatedLines.{rest_from-end}
use Rattle.alpha_quick.proofs.terminated_line.TerminatedLine.is_line_end.Goals as goal

pub returns-then-i-self-clause-end : goal.returns-then-i-self-clause-end
returns-then-i-self-clause-end c =
    λ h. (0, ap tokens (rest_from-end c.args.self.now c.args.i c.requires.ended c.if-i-self.true) ∙ tokens-none)
