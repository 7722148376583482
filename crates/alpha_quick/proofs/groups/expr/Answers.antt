use Rattle.std.proofs.Common.{◌≡◌, w64, to_z, of_z, [], ◌∷◌, ◌∙◌, ap, inr, rules}
use Rattle.std.proofs.lemmas.Int.{to_z-of_z}
use Rattle.alpha_token.specs.Tokens.{tokens}
use Rattle.alpha_operands.specs.declared.number.Sign.TheVariants as signs
use Rattle.alpha_text.proofs.CanonicalTokens.{token-plus, token-minus}
use Rattle.alpha_quick.proofs.groups.expr.Goals as goal

pub returns-in-Some : goal.returns-in-Some
returns-in-Some c =
    let plain : to_z w64 (of_z w64 c.in_ok-offset.offset) ≡ c.in_ok-offset.offset =
    to_z-of_z w64 c.in_ok-offset.offset (search rules) in
    rw plain (inr (
      signs.Plus,
      c.in_ok-label.behind.now,
      c.in-Some.digits.now,
      c.in_ok-label.ensures,
      (43 ∷ [], ap tokens c.in-Some.ensures ∙ token-plus c.in-Some.digits.now),
      c.in_ok-offset.ensures,
    ))

pub returns-in-Some-after_byte : goal.returns-in-Some-after_byte
returns-in-Some-after_byte c =
    let plain : to_z w64 (of_z w64 c.in_ok-offset-2.offset) ≡ c.in_ok-offset-2.offset =
    to_z-of_z w64 c.in_ok-offset-2.offset (search rules) in
    rw plain (inr (
      signs.Minus,
      c.in_ok-label.behind.now,
      c.in-Some-after_byte.digits.now,
      c.in_ok-label.ensures,
      (45 ∷ [], ap tokens c.in-Some-after_byte.ensures ∙ token-minus c.in-Some-after_byte.digits.now),
      c.in_ok-offset-2.ensures,
    ))
