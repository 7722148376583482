use Rattle.std.proofs.Common.{refl, ◌∷◌, ◌+◌, ◌∙◌, [], ap}
use Rattle.alpha_token.specs.Tokens.{tokens}
use Rattle.alpha_text.proofs.CanonicalTokens.{token-minus}
use Rattle.alpha_quick.specs.TerminatedLine.{rest_from}
use Rattle.alpha_quick.proofs.terminated_line.TerminatedLine.sign.Goals as goal

pub returns-then-is_byte_at-clause-line : goal.returns-then-is_byte_at-clause-line
returns-then-is_byte_at-clause-line c = λ n rest h. (
  rest_from c.args.self.now (c.args.i + 1),
  (45 ∷ [], ap tokens (c.if-is_byte_at.ensures.line refl) ∙ token-minus (rest_from c.args.self.now (c.args.i + 1))),
  h,
)
