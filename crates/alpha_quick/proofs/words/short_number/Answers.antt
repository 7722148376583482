use Rattle.std.proofs.Common.{◌<◌, ◌^◌, ◌∙◌, decimal, sym, ap, rules}
use Rattle.alpha_token.specs.Tokens.{tokens}
use Rattle.alpha_text.proofs.CanonicalTokens.{token-num, number_value-decimal}
use Rattle.alpha_quick.proofs.words.short_number.Goals as goal

pub returns-then-ends_word : goal.returns-then-ends_word
returns-then-ends_word c =
    let n = c.in_ok-n.n in
    let small : c.in_ok-n.n < 2 ^ 64 = search rules in (
      decimal n,
      number_value-decimal n small ∙ sym c.from.ensures,
      ap tokens c.in_ok-n.ensures ∙ token-num n c.in_ok-n.rest.now small (c.ends_word.ensures c.if-ends_word.true),
    )
