-- A line as far as it was read.
use Rattle.std.specs.Prelude.{◌≡◌, ◌++◌, ◌∷◌, ℕ, List, true, false, Option, None, Some, IfSome}
use Rattle.std.specs.Option.{option_map}
use Rattle.alpha_token.specs.Bytes.{is_label}
use Rattle.alpha_token.specs.Tokens.{tokens}
use Rattle.alpha_text.specs.Statements.{Stmt, code}
use Rattle.alpha_quick.specs.declared.line.Unparsed.{Unparsed}
use Rattle.alpha_quick.specs.InsnPrefix.{Reaches, HasStatement}

-- A text stands behind the label of a line and its colon, or makes up a line without one, but for blanks before it.
abbrev pub IsAfterLabel : List ℕ → Option (List ℕ) → List ℕ → Type 0
IsAfterLabel line None text = tokens line ≡ tokens text
IsAfterLabel line (Some label) text =
    (rest : List ℕ) × (is_label label ≡ true) × (tokens line ≡ tokens (label ++ (58 ∷ rest)))
    × (tokens rest ≡ tokens text)

-- The first bytes and those behind them stand behind the label. The instruction at their front is their statement, or
-- makes it with the words that are left, if it is to reach a label.
pub record IsUnparsed (r : Unparsed) : Type 0 where
  pub line : IsAfterLabel r.line.now (option_map (λ l. l.now) r.label) (r.lexeme.name.now ++ r.lexeme.rest.now)
  pub whole : IfSome r.insn (λ i. r.reaches ≡ false → HasStatement (r.lexeme.name.now ++ r.lexeme.rest.now) (code i))
  pub left : IfSome r.insn
      (λ i. r.reaches ≡ true → (s : Stmt) → Reaches i r.left.now s
      → HasStatement (r.lexeme.name.now ++ r.lexeme.rest.now) s)
