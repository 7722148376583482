use Rattle.std.proofs.Common.{◌≡◌, ℕ, List, [], ◌∷◌, ◌+◌, ◌∙◌, false, refl, ap}
use Rattle.alpha_token.specs.Bytes.{goes_on_name}
use Rattle.alpha_token.specs.declared.token.TokenKind.TheVariants as kinds
use Rattle.alpha_token.specs.Tokens.{tokens}
use Rattle.alpha_operands.specs.declared.number.Sign.TheVariants as signs
use Rattle.alpha_quick.specs.TerminatedLine.{rest_from}
use Rattle.alpha_quick.specs.Words.{HasMark, HasWords, HasDistance}
use Rattle.alpha_text.proofs.CanonicalTokens.{token-dot, token-plus, token-minus}
use Rattle.alpha_quick.proofs.LexemeMeanings.{IfSome-implied}
use Rattle.alpha_quick.proofs.terminated_line.TerminatedLine.distance_after_dot.Goals as goal

-- `.` before a sign
dot_mark : (after digits : List ℕ) (b : ℕ) → after ≡ b ∷ digits → goes_on_name b ≡ false
    → HasMark (46 ∷ after) kinds.Dot after
dot_mark after digits b f apart = (46 ∷ [], rw f (token-dot b digits apart))

pub returns-then-is_byte_at : goal.returns-then-is_byte_at
returns-then-is_byte_at c =
    let s = c.args.self.now in
    let e : rest_from s c.args.i ≡ 43 ∷ rest_from s (c.args.i + 1) = c.if-is_byte_at.ensures.line refl in
    IfSome-implied (HasWords signs.Plus (rest_from s (c.args.i + 1)))
    (HasDistance (46 ∷ rest_from s c.args.i)) c.displacement.result
    (λ words h. (
      signs.Plus,
      rest_from s c.args.i,
      rest_from s (c.args.i + 1),
      dot_mark (rest_from s c.args.i) (rest_from s (c.args.i + 1)) 43 e refl,
      (43 ∷ [], ap tokens e ∙ token-plus (rest_from s (c.args.i + 1))),
      h,
    )) c.displacement.ensures

pub returns-then-is_byte_at-2 : goal.returns-then-is_byte_at-2
returns-then-is_byte_at-2 c =
    let s = c.args.self.now in
    let e : rest_from s c.args.i ≡ 45 ∷ rest_from s (c.args.i + 1) = c.if-is_byte_at-2.ensures.line refl in
    IfSome-implied (HasWords signs.Minus (rest_from s (c.args.i + 1)))
    (HasDistance (46 ∷ rest_from s c.args.i)) c.displacement-then-is_byte_at-2.result
    (λ words h. (
      signs.Minus,
      rest_from s c.args.i,
      rest_from s (c.args.i + 1),
      dot_mark (rest_from s c.args.i) (rest_from s (c.args.i + 1)) 45 e refl,
      (45 ∷ [], ap tokens e ∙ token-minus (rest_from s (c.args.i + 1))),
      h,
    )) c.displacement-then-is_byte_at-2.ensures
