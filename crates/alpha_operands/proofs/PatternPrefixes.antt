-- The fronts of patterns.
use Rattle.std.proofs.Common.{◌≡◌, ℕ, ◌+◌, [], ◌∷◌, ◌++◌, Bool, true, false, cond, ◌&&◌, Option, Some, None}
use Rattle.std.proofs.Common.{MatchOption, Bor, take, drop, length, add-one, ◌==◌, if◌then◌else◌, refl, sym, ◌∙◌, ap}
use Rattle.std.proofs.Common.{arith}
use Rattle.std.proofs.lemmas.Bool.Decides.{nat_tests}
use Rattle.std.specs.Cmp.Lexicographic.{pointwise}
use Rattle.std.specs.Option.{option_map}
use Rattle.alpha_operands.specs.declared.piece.Piece.{Piece}
use Rattle.alpha_operands.specs.declared.piece.Piece.TheVariants.{Ra, Rb, Rc, Comma, Again, Open, Close, Minus, Plus}
use Rattle.alpha_operands.specs.declared.piece.Piece.TheVariants.{Less, Dot, Operator, Label, Offset, Text}
use Rattle.alpha_operands.specs.declared.piece.Piece.TheVariants.{Displacement, Immediate, Literal, Hint, Distance}
use Rattle.alpha_operands.specs.declared.piece.Piece.TheVariants.{Whole, Zeroed, Align, Level, Pal, Nothing, Byte, Word}
use Rattle.alpha_operands.specs.declared.piece.Piece.TheVariants.{Long, Quad}
use Rattle.alpha_token.specs.declared.token.TokenKind.{TokenKind}
use Rattle.alpha_operands.specs.Pieces.{kind_of, same_kind, piece_number, same_piece}
use Rattle.alpha_operands.specs.Shapes.{Pattern}
use Rattle.alpha_operands.specs.Walk.{rest_of, head_of_kind, front_after}

cond-and_step : (x y : Bool) (r : Option Pattern) (d : Pattern) → r ≡ cond y (Some d) None
    → cond x r None ≡ cond (x && y) (Some d) None
cond-and_step true y r d h = h
cond-and_step false y r d h = refl

pub rest_of-by : (E : Piece → Piece → Bool) → ((a b : Piece) → E a b ≡ same_piece a b) → (front q : Pattern)
    → rest_of front q ≡ cond (pointwise E (take (length front) q) front) (Some (drop (length front) q)) None
rest_of-by E same [] q = refl
rest_of-by E same (a ∷ front) [] = refl
rest_of-by E same (a ∷ front) (b ∷ q) = rw (same b a) (cond-and_step (same_piece b a) _ _ _ (rest_of-by E same front q))

pub pointwise-stripped : (E : Piece → Piece → Bool) → ((a b : Piece) → E a b ≡ same_piece a b)
    → (front q : Pattern) (r : Option (Bor Pattern)) →
    MatchOption r (pointwise E (take (length front) q) front ≡ false)
    (λ x. (pointwise E (take (length front) q) front ≡ true) × (x.now ≡ drop (length front) q)
    × (length x.now + length front ≡ length q)) →
    option_map (λ x. x.now) r ≡ rest_of front q
pointwise-stripped E same front q None h = rw (rest_of-by E same front q, h) refl
pointwise-stripped E same front q (Some x) h = rw (rest_of-by E same front q, h.0) (ap Some h.1)

-- each piece has its own number
piece_at : ℕ → Piece
piece_at n =
    if n == 0 then Ra else if n == 1 then Rb else if n == 2 then Rc else if n == 3 then Comma else if n == 4 then Again
    else if n == 5 then Open else if n == 6 then Close else if n == 7 then Minus else if n == 8 then Plus else if n == 9
    then Less
    else if n == 10 then Dot else if n == 11 then Operator else if n == 12 then Label else if n == 13 then Offset
    else if n == 14 then Text
    else if n == 15 then Displacement else if n == 16 then Immediate else if n == 17 then Literal else if n == 18
    then Hint
    else if n == 19 then Distance else if n == 20 then Whole else if n == 21 then Zeroed else if n == 22 then Align
    else if n == 23 then Level
    else if n == 24 then Pal else if n == 25 then Nothing else if n == 26 then Byte else if n == 27 then Word
    else if n == 28 then Long else Quad

piece_at-number : (p : Piece) → piece_at (piece_number p) ≡ p
unfolding piece_at
piece_at-number Ra = refl
piece_at-number p = refl

pub same_piece-is : (a b : Piece) → same_piece a b ≡ true → a ≡ b
same_piece-is a b h =
    let e : piece_number a ≡ piece_number b = grind (arith, nat_tests) in
    sym (piece_at-number a) ∙ ap piece_at e ∙ piece_at-number b

pub rest_of-is : (front q rest : Pattern) → rest_of front q ≡ Some rest → q ≡ front ++ rest
rest_of-is [] q rest h = cc
rest_of-is (a ∷ front) [] rest h = cc
rest_of-is (a ∷ front) (b ∷ q) rest h =
    let both : (x : Bool) → same_piece b a ≡ x → cond x (rest_of front q) None ≡ Some rest
    → (b ∷ q) ≡ a ∷ (front ++ rest) =
    λ x. elim x as (λ y. same_piece b a ≡ y → cond y (rest_of front q) None ≡ Some rest → (b ∷ q)
    ≡ a ∷ (front ++ rest)) [ true ↦ λ e k. cc (same_piece-is b a e, rest_of-is front q rest k) | false ↦ λ e k. cc ] in
    both (same_piece b a) refl h

pub head_of_kind-is : (kind : TokenKind) (r : Option Pattern) (p : Piece) → head_of_kind kind r ≡ Some p
    → (rest : Pattern) × (r ≡ Some (p ∷ rest))
head_of_kind-is kind None p h = cc
head_of_kind-is kind (Some []) p h = cc
head_of_kind-is kind (Some (x ∷ q)) p h =
    let both : (b : Bool) → cond b (Some x) None ≡ Some p → (rest : Pattern) × (Some (x ∷ q) ≡ Some (p ∷ rest)) =
    λ b. elim b as (λ y. cond y (Some x) None ≡ Some p
    → (rest : Pattern) × (Some (x ∷ q) ≡ Some (p ∷ rest))) [ true ↦ λ k. (q, cc) | false ↦ λ k. cc ] in
    both (same_kind (kind_of x) kind) h

-- a piece of a pattern behind its front
pub longer_of : (front q : Pattern) (kind : TokenKind) (p : Piece) → head_of_kind kind (rest_of front q) ≡ Some p
    → (rest : Pattern) × (q ≡ front ++ p ∷ rest)
longer_of front q kind p h =
    let (rest, e) = head_of_kind-is kind (rest_of front q) p h in
    (rest, rest_of-is front q (p ∷ rest) e)

pub take-front : (front : Pattern) (p : Piece) (rest q : Pattern) → q ≡ front ++ p ∷ rest
    → take (length front + 1) q ≡ front ++ p ∷ []
take-front [] p rest q e = rw e refl
take-front (a ∷ front) p rest [] e = cc
take-front (a ∷ front) p rest (b ∷ q) e =
    let tail : q ≡ front ++ p ∷ rest = cc in
    let head : b ≡ a = cc in
    rw (head, add-one) (ap (λ t. a ∷ t) (rw add-one at (take-front front p rest q tail)))

pub front_after-take : (front : Pattern) (p : Piece) (q : Pattern) → (p ≡ Again → ⊥)
    → ((rest : Pattern) × (q ≡ front ++ p ∷ rest)) → take (length front + 1) q ≡ front_after front p
front_after-take front Again q apart (rest, e) = absurd (apart refl)
front_after-take front p q apart (rest, e) = take-front front p rest q e
