-- What a directive of data says with the value behind it.
use Rattle.std.proofs.Common.{◌≡◌, ℕ, ℤ, List, [], Some, Result, Ok, length, refl, sym, ◌∙◌, ap, subst, inl, inr}
use Prim.Native.Nat.{zero, suc}
use Rattle.std.specs.Prelude.{true}
use Rattle.std.specs.Option.{is_some, unwrap_or}
use Rattle.alpha_token.specs.Tokens.{tokens}
use Rattle.alpha_operands.specs.declared.number.Number.{Number}
use Rattle.alpha_operands.specs.declared.number.Number.TheVariants as numbers
use Rattle.alpha_operands.specs.declared.number.Sign.TheVariants as signs
use Rattle.alpha_operands.specs.declared.walk.OperandFault.{OperandFault}
use Rattle.alpha_operands.specs.declared.piece.Piece.{Piece}
use Rattle.alpha_operands.specs.declared.piece.Piece.TheVariants as pieces
use Rattle.alpha_operands.specs.declared.shape.Shape.{Shape}
use Rattle.alpha_operands.specs.declared.shape.Shape.TheVariants as shapes
use Rattle.alpha_operands.specs.Ranges.{number_of, offset_of}
use Rattle.alpha_operands.specs.Shapes.{patterns}
use Rattle.alpha_operands.specs.Operands.{Slots, nothing, filled}
use Rattle.alpha_operands.specs.Walk.{follow, operands}
use Rattle.alpha_text.specs.declared.head.Head.TheVariants as heads
use Rattle.alpha_text.specs.declared.head.PseudoOp.{PseudoOp}
use Rattle.alpha_text.specs.declared.head.PseudoOp.TheVariants as owns
use Rattle.alpha_text.specs.Heads.{pseudo_op_shape}
use Rattle.alpha_text.specs.Statements.{values, zero, align, stmt_by}
use Rattle.alpha_text.specs.Reading.{list_in}
use Rattle.alpha_text.specs.SuffixWords.{SaysBy}
use Rattle.alpha_quick.specs.Parts.{values_of}
use Rattle.alpha_quick.specs.Listed.{HasCount, HasValues}
use Rattle.alpha_quick.specs.Words.{HasEnd, HasComma, HasExpr, HasNumber, HasValue}

-- operands behind which so much is left
abbrev GivesUpTo : Shape → List ℕ → List ℕ → Type 0
GivesUpTo shape line rest = (o : Slots) × (operands (patterns shape) (tokens line) ≡ Ok o) × (o.left ≡ length rest)

-- the piece of the numbers of a directive
abbrev piece_of : PseudoOp → Piece
piece_of pseudo_op = (unwrap_or (values_of pseudo_op) (0, pieces.Ra)).1

-- the operands of a directive's line, from the operands before it on
abbrev directive_operands : PseudoOp → List ℕ → Slots → Result Slots OperandFault
directive_operands pseudo_op line o = follow (patterns (pseudo_op_shape pseudo_op)) [] signs.Plus (tokens line) o

-- the operands with a number behind which so much is left
abbrev slots_with_number : Slots → Number → List ℕ → Slots
slots_with_number o v rest = record o { number = Some v; left = length rest }

-- the last number of a list
directive_operands-last : (pseudo_op : PseudoOp) (line rest : List ℕ) (v : Number) (o : Slots)
    → is_some (values_of pseudo_op) ≡ true
    → HasValue (piece_of pseudo_op) line v rest → HasEnd rest
    → directive_operands pseudo_op line o ≡ Ok (slots_with_number o v rest)
unfolding patterns filled
directive_operands-last owns.Byte line rest v o some (signs.Plus, n, d, is) e = rw (d.2, e.1, d.1, is)
directive_operands-last owns.Byte line rest v o some (signs.Minus, n, (s, m, d), is) e = rw (m.1, d.2, e.1, d.1, is)
directive_operands-last owns.Word line rest v o some (signs.Plus, n, d, is) e = rw (d.2, e.1, d.1, is)
directive_operands-last owns.Word line rest v o some (signs.Minus, n, (s, m, d), is) e = rw (m.1, d.2, e.1, d.1, is)
directive_operands-last owns.Long line rest v o some (signs.Plus, n, d, is) e = rw (d.2, e.1, d.1, is)
directive_operands-last owns.Long line rest v o some (signs.Minus, n, (s, m, d), is) e = rw (m.1, d.2, e.1, d.1, is)
directive_operands-last owns.Quad line rest v o some (signs.Plus, n, d, is) e = rw (d.2, e.1, d.1, is)
directive_operands-last owns.Quad line rest v o some (signs.Minus, n, (s, m, d), is) e = rw (m.1, d.2, e.1, d.1, is)
directive_operands-last pseudo_op line rest v o some has e = cc

-- a number before a comma
directive_operands-next : (pseudo_op : PseudoOp) (line rest more : List ℕ) (v : Number) (o : Slots)
    → is_some (values_of pseudo_op) ≡ true
    → HasValue (piece_of pseudo_op) line v rest → (c : HasComma rest more)
    → directive_operands pseudo_op line o ≡ directive_operands pseudo_op more (slots_with_number o v c.1)
unfolding patterns filled
directive_operands-next owns.Byte line rest more v o some (signs.Plus, n, d, is) c = rw (d.2, c.2, d.1, is)
directive_operands-next owns.Byte line rest more v o some (signs.Minus, n, (s, m, d), is) c =
    rw (m.1, d.2, c.2, d.1, is)
directive_operands-next owns.Word line rest more v o some (signs.Plus, n, d, is) c = rw (d.2, c.2, d.1, is)
directive_operands-next owns.Word line rest more v o some (signs.Minus, n, (s, m, d), is) c =
    rw (m.1, d.2, c.2, d.1, is)
directive_operands-next owns.Long line rest more v o some (signs.Plus, n, d, is) c = rw (d.2, c.2, d.1, is)
directive_operands-next owns.Long line rest more v o some (signs.Minus, n, (s, m, d), is) c =
    rw (m.1, d.2, c.2, d.1, is)
directive_operands-next owns.Quad line rest more v o some (signs.Plus, n, d, is) c = rw (d.2, c.2, d.1, is)
directive_operands-next owns.Quad line rest more v o some (signs.Minus, n, (s, m, d), is) c =
    rw (m.1, d.2, c.2, d.1, is)
directive_operands-next pseudo_op line rest more v o some has c = cc

-- so many numbers
directive_operands-HasCount : (pseudo_op : PseudoOp) (n : ℕ) (line rest : List ℕ) (o : Slots)
    → is_some (values_of pseudo_op) ≡ true
    → HasCount n (piece_of pseudo_op) line rest
    → (p : Slots) × (directive_operands pseudo_op line o ≡ Ok p) × (p.left ≡ length rest)
directive_operands-HasCount pseudo_op zero line rest o some (v, has, ends) =
    (_, directive_operands-last pseudo_op line rest v o some has ends, refl)
directive_operands-HasCount pseudo_op (suc n) line rest o some (v, after, more, has, comma, on) =
    let (p, h, left) = directive_operands-HasCount pseudo_op n more rest (slots_with_number o v comma.1) some on in
    (p, directive_operands-next pseudo_op line after more v o some has comma ∙ h, left)

quads_address : (line rest label : List ℕ) (offset : ℤ) → HasExpr line label offset rest → HasEnd rest
    → GivesUpTo shapes.Quads line rest
unfolding operands patterns filled
quads_address line rest label offset (inl ((g, e), z)) (l, f) =
    (record nothing { label = Some label; left = length rest }, rw (e, f, g) refl, refl)
quads_address line rest label offset (inr (signs.Plus, u, v, (g, e), (t, m), (n, (w, k, d), is))) (l, f) = (
  record nothing { label = Some label; offset = offset; left = length rest },
  rw (e, m, d, f, g, ap (offset_of signs.Plus) k ∙ is) refl,
  refl,
)
quads_address line rest label offset (inr (signs.Minus, u, v, (g, e), (t, m), (n, (w, k, d), is))) (l, f) = (
  record nothing { label = Some label; offset = offset; left = length rest },
  rw (e, m, d, f, g, ap (offset_of signs.Minus) k ∙ is) refl,
  refl,
)

-- a directive of values says its list
says_list : (pseudo_op : PseudoOp) (bytes : ℕ) (after words rest : List ℕ) → tokens after ≡ tokens words
    → ((o : Slots) (list : List ℕ) → stmt_by (heads.PseudoOp pseudo_op) o list ≡ values bytes list)
    → GivesUpTo (pseudo_op_shape pseudo_op) words rest →
    SaysBy (heads.PseudoOp pseudo_op) after (values bytes (list_in after (length rest)))
says_list pseudo_op bytes after words rest same says (o, h, left) =
    (o, rw same h, says o (list_in after o.left) ∙ ap (λ n. values bytes (list_in after n)) left)

pub HasValues-more : (piece : Piece) (line after more end : List ℕ) (v : Number) → HasValue piece line v after
    → HasComma after more → HasValues piece more end → HasValues piece line end
HasValues-more piece line after more end v has comma (n, on) = (suc n, (v, after, more, has, comma, on))

-- a directive of values says these
says_given : (pseudo_op : PseudoOp) (o : Slots) (list : List ℕ) → is_some (values_of pseudo_op) ≡ true
    → stmt_by (heads.PseudoOp pseudo_op) o list ≡ values (unwrap_or (values_of pseudo_op) (0, pieces.Ra)).0 list
says_given owns.Byte o list some = refl
says_given pseudo_op o list some = cc

pub says_values : (pseudo_op : PseudoOp) (bytes : ℕ) (piece : Piece) (after words rest : List ℕ)
    → values_of pseudo_op ≡ Some (bytes, piece) → tokens after ≡ tokens words → HasValues piece words rest →
    SaysBy (heads.PseudoOp pseudo_op) after (values bytes (list_in after (length rest)))
unfolding operands
says_values pseudo_op bytes piece after words rest is same (n, has) =
    let pair : unwrap_or (values_of pseudo_op) (0, pieces.Ra) ≡ (bytes, piece) = rw is in
    let some : is_some (values_of pseudo_op) ≡ true = rw is in
    says_list pseudo_op bytes after words rest same
    (λ o list. says_given pseudo_op o list some ∙ ap (λ p. values p.0 list) pair)
    (directive_operands-HasCount pseudo_op n words rest nothing some
    (subst (λ p. HasCount n p.1 words rest) (sym pair) has))

pub says_address : (after words rest label : List ℕ) (offset : ℤ) → tokens after ≡ tokens words
    → HasExpr words label offset rest → HasEnd rest →
    SaysBy (heads.PseudoOp owns.Quad) after (values 8 (list_in after (length rest)))
says_address after words rest label offset same has ends =
    says_list owns.Quad 8 after words rest same (λ o list. refl) (quads_address words rest label offset has ends)

pub says_zero : (after words rest : List ℕ) (n k : ℕ) → tokens after ≡ tokens words
    → HasNumber words n rest → number_of pieces.Zeroed signs.Plus n ≡ Some (numbers.Zeroed k) → HasEnd rest
    → SaysBy (heads.PseudoOp owns.Zero) after (zero k)
unfolding operands patterns filled
says_zero after words rest n k same (t, v, e) is (l, f) = (
  record nothing { number = Some (numbers.Zeroed k); left = length rest },
  rw (same, e, f, ap (number_of pieces.Zeroed signs.Plus) v ∙ is) refl,
  refl,
)

pub says_align : (after words rest : List ℕ) (n k : ℕ) → tokens after ≡ tokens words
    → HasNumber words n rest → number_of pieces.Align signs.Plus n ≡ Some (numbers.Align k) → HasEnd rest
    → SaysBy (heads.PseudoOp owns.Align) after (align k)
unfolding operands patterns filled
says_align after words rest n k same (t, v, e) is (l, f) = (
  record nothing { number = Some (numbers.Align k); left = length rest },
  rw (same, e, f, ap (number_of pieces.Align signs.Plus) v ∙ is) refl,
  refl,
)
