use Rattle.std.proofs.Common.{◌≡◌, ℕ, List, [], ◌∷◌, ◌∙◌, false, refl, ap}
use Rattle.alpha_token.specs.Bytes.{goes_on_name}
use Rattle.alpha_token.specs.declared.token.TokenKind.TheVariants as kinds
use Rattle.alpha_token.specs.Tokens.{tokens}
use Rattle.alpha_operands.specs.declared.number.Sign.TheVariants as signs
use Rattle.alpha_quick.specs.Words.{HasMark, HasWords, HasDistance}
use Rattle.alpha_text.proofs.CanonicalTokens.{token-dot, token-plus, token-minus}
use Rattle.alpha_quick.proofs.LexemeMeanings.{IfSome-implied}
use Rattle.alpha_quick.proofs.groups.distance.Goals as goal

-- `.` before a sign
dot_mark : (line after digits : List ℕ) (b : ℕ) → line ≡ 46 ∷ after → after ≡ b ∷ digits → goes_on_name b ≡ false
    → HasMark line kinds.Dot after
dot_mark line after digits b e f apart = (46 ∷ [], rw (e, f) (token-dot b digits apart))

pub returns-in-Some : goal.returns-in-Some
returns-in-Some c =
    IfSome-implied (HasWords signs.Plus c.in-Some.digits.now) (HasDistance c.args.s.now) c.displacement.result
    (λ words h. (
      signs.Plus,
      c.in_ok-behind.behind.now,
      c.in-Some.digits.now,
      dot_mark c.args.s.now c.in_ok-behind.behind.now c.in-Some.digits.now 43 c.in_ok-behind.ensures c.in-Some.ensures
          refl,
      (43 ∷ [], ap tokens c.in-Some.ensures ∙ token-plus c.in-Some.digits.now),
      h,
    )) c.displacement.ensures

pub returns : goal.returns
returns c =
    IfSome-implied (HasWords signs.Minus c.in_ok-digits.digits.now) (HasDistance c.args.s.now) c.displacement-2.result
    (λ words h. (
      signs.Minus,
      c.in_ok-behind.behind.now,
      c.in_ok-digits.digits.now,
      dot_mark c.args.s.now c.in_ok-behind.behind.now c.in_ok-digits.digits.now 45 c.in_ok-behind.ensures
          c.in_ok-digits.ensures refl,
      (45 ∷ [], ap tokens c.in_ok-digits.ensures ∙ token-minus c.in_ok-digits.digits.now),
      h,
    )) c.displacement-2.ensures
