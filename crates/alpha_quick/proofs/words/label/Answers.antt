use Rattle.std.proofs.Common.{◌≡◌, true, ◌∙◌, sym, ap}
use Rattle.alpha_token.specs.Bytes.{is_label}
use Rattle.alpha_token.specs.Tokens.{tokens}
use Rattle.alpha_quick.proofs.Parts.{label_tokens}
use Rattle.alpha_quick.proofs.words.label.Goals as goal

pub returns-then-ends_name : goal.returns-then-ends_name
returns-then-ends_name c =
    let name = c.of-lexeme.result.name.now in
    let is : is_label name ≡ true = sym c.is_label.ensures ∙ c.if-is_label.true in (
      is,
      ap tokens c.of-lexeme.ensures.line
          ∙ label_tokens name c.of-lexeme.result.rest.now is (c.ends_name.ensures c.if-ends_name.true),
    )
