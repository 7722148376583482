use Rattle.std.proofs.Common.{◌≡◌, ◌++◌, false, is_some, sym, ◌∙◌, ap, subst}
use Rattle.std.specs.Option.{option_map}
use Rattle.alpha_token.specs.Tokens.{tokens}
use Rattle.alpha_text.specs.Statements.{code}
use Rattle.alpha_quick.specs.Unparsed.{IsAfterLabel}
use Rattle.alpha_quick.proofs.Parts.{label_goes_on, line_of-named, bare_line, IsAfterLabel-same}
use Rattle.alpha_quick.proofs.line.read_text.Goals as goal
use Rattle.alpha_quick.proofs.line.read_text.Goals.{then-prefix, else-prefix}

pub with_trap-whole-requires-clause-key : goal.with_trap-whole-requires-clause-key
with_trap-whole-requires-clause-key c =
    (label_goes_on c.of-cut.result.lexeme.name.now c.of-cut.ensures.name, c.of-cut.ensures.key)

pub returns-then-is_some-clause-rest : goal.returns-then-is_some-clause-rest
returns-then-is_some-clause-rest c =
    let text = c.of-cut.result.lexeme.name.now ++ c.of-cut.result.lexeme.rest.now in
    let whole = c.with_trap-whole.result in
    let same : tokens text ≡ tokens (whole.name.now ++ whole.rest.now) =
    ap tokens (sym c.of-cut.ensures.text ∙ c.with_trap-whole.ensures.line) in
    record {
      line =
          IsAfterLabel-same c.args.line.now c.args.text.now (option_map (λ l. l.now) c.of-cut.result.label)
          (c.of-cut.result.lexeme.name.now ++ c.of-cut.result.lexeme.rest.now) c.requires
          (subst (λ t. IsAfterLabel c.args.text.now (option_map (λ l. l.now) c.of-cut.result.label) t)
          c.of-cut.ensures.text
          c.of-cut.ensures.line);
      whole = λ plain.
          line_of-named text whole.name.now whole.rest.now (code c.in-Some.prefix.insn) same
          (c.in-Some.ensures.0 plain);
      left = λ reaches s reach.
          line_of-named text whole.name.now whole.rest.now s same (c.in-Some.ensures.1 reaches s reach);
    }

pub returns-else-is_some-clause-line : goal.returns-else-is_some-clause-line
returns-else-is_some-clause-line c =
    let whole = c.with_trap-whole.result in
    let plain : c.in-Some.prefix.reaches ≡ false =
    elim c.if-prefix.branch [ then-prefix w ↦ absurd cc | else-prefix w ↦ w.if-prefix.false ] in
    let bare : is_some c.of-cut.result.label ≡ false =
    elim c.if-prefix.branch [ then-prefix w ↦ absurd cc | else-prefix w ↦ cc ] in
    let same =
    c.requires
    ∙ bare_line (λ l. l.now) c.args.text.now c.of-cut.result.text.now c.of-cut.result.label bare
    c.of-cut.ensures.line in
    (line_of-named c.args.line.now whole.name.now whole.rest.now (code c.in-Some.prefix.insn)
    (same ∙ ap tokens c.with_trap-whole.ensures.line) (c.in-Some.ensures.0 plain)).1

pub returns-else-is_some-clause-statement : goal.returns-else-is_some-clause-statement
returns-else-is_some-clause-statement c =
    let whole = c.with_trap-whole.result in
    let plain : c.in-Some.prefix.reaches ≡ false =
    elim c.if-prefix.branch [ then-prefix w ↦ absurd cc | else-prefix w ↦ w.if-prefix.false ] in
    let bare : is_some c.of-cut.result.label ≡ false =
    elim c.if-prefix.branch [ then-prefix w ↦ absurd cc | else-prefix w ↦ cc ] in
    let same =
    c.requires
    ∙ bare_line (λ l. l.now) c.args.text.now c.of-cut.result.text.now c.of-cut.result.label bare
    c.of-cut.ensures.line in
    (line_of-named c.args.line.now whole.name.now whole.rest.now (code c.in-Some.prefix.insn)
    (same ∙ ap tokens c.with_trap-whole.ensures.line) (c.in-Some.ensures.0 plain)).0
