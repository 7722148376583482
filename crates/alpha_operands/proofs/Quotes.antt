-- The text of a string is read to its end.
use Rattle.std.proofs.Common.{◌≡◌, ℕ, List, [], ◌∷◌, ◌++◌, ◌-◌, Some, Ok, IfSome, length, length-append, sym, ◌∙◌, ap}
use Rattle.std.proofs.Common.{inl, inr, arith}
use Rattle.std.proofs.Math.Seq.{take-append_seam}
use Rattle.alpha_token.specs.declared.token.TokenKind.TheVariants as kinds
use Rattle.alpha_token.specs.Quoted.{IsText, IsString}
use Rattle.alpha_token.specs.Tokens.{Lexeme, Tokens, End, Bad, Next, left_of, tokens}
use Rattle.alpha_token.proofs.QuotedTexts.{StringsAmong, tokens-strings}
use Rattle.alpha_operands.specs.declared.piece.Piece.{Piece}
use Rattle.alpha_operands.specs.declared.number.Sign.{Sign}
use Rattle.alpha_operands.specs.declared.number.Sign.TheVariants as signs
use Rattle.alpha_operands.specs.Pieces.{kind_of}
use Rattle.alpha_operands.specs.Shapes.{Pattern}
use Rattle.alpha_operands.specs.Operands.{Slots, nothing, between_quotes, filled}
use Rattle.alpha_operands.specs.Walk.{piece_behind, front_after, sign_after, is_whole, follow, operands}
use Rattle.alpha_operands.proofs.SlotChanges.{filled-changes}
use Rattle.alpha_operands.proofs.Grammar.{cond-ok_or_fault, piece_behind-is, grammar-took, grammar-went}

between-is : (string text : List ℕ) → string ≡ 34 ∷ (text ++ (34 ∷ [])) → between_quotes string ≡ text
between-is string text e =
    let size : length string - 2 ≡ length text = rw e (omega (arith, length-append text (34 ∷ []))) in
    rw (size, e) (take-append_seam text (34 ∷ []))

string-text : (string : List ℕ) → IsString string → IsText (between_quotes string)
string-text string (text, e, is) = rw (between-is string text e) is

text-stays : (p : Piece) (t : Lexeme) (sign : Sign) (o r : Slots) → IfSome o.text IsText → kind_of p ≡ t.kind
    → (t.kind ≡ kinds.Text → IsString t.text) → filled p t sign o ≡ Ok r → IfSome r.text IsText
text-stays p t sign o r good k string h =
    elim (filled-changes p t sign o r h).1 [
      | inl e ↦ rw e good
      | inr (piece, e) ↦ rw e (string-text t.text (string (sym k ∙ ap kind_of piece)))
    ]

follow-text : (all : List Pattern) (front : Pattern) (sign : Sign) (ts : Tokens) (o r : Slots) → StringsAmong ts
    → IfSome o.text IsText → follow all front sign ts o ≡ Ok r → IfSome r.text IsText
follow-text all front sign (End left) o r strings good h =
    rw (← (cond-ok_or_fault (is_whole all front) o r left h).1) good
follow-text all front sign (Bad left) o r strings good h = cc
follow-text all front sign (Next t ts) o r (string, strings) good h =
    let (p, found, g) = grammar-took t sign o (piece_behind all front t.kind)
    (λ p filled. follow all (front_after front p) (sign_after p) ts filled) r h in
    let (next, ok, m) = grammar-went (left_of t) (filled p t sign o)
    (λ filled. follow all (front_after front p) (sign_after p) ts filled) r g in
    follow-text all (front_after front p) (sign_after p) ts next r strings
    (text-stays p t sign o next good (piece_behind-is all front t.kind p found).1 string ok) m

pub operand_text-read : (all : List Pattern) (line text : List ℕ) (o : Slots) → operands all (tokens line) ≡ Ok o
    → o.text ≡ Some text → IsText text
unfolding operands
operand_text-read all line text o h e =
    rw e at (follow-text all [] signs.Plus (tokens line) nothing o (tokens-strings line) tt h)
