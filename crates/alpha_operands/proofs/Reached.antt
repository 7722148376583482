-- The pattern that is read goes on, or another one does.
use Rattle.std.proofs.Common.{◌≡◌, ◌⊎◌, ℕ, ◌<◌, ◌≤◌, List, [], ◌∷◌, ◌++◌, true, false, Some, None, length, take, drop}
use Rattle.std.proofs.Common.{get_or, drop-cons, map, Bor, refl, sym, ◌∙◌, ap, inl, inr, arith}
use Prim.Native.Nat.{zero, suc}
use Rattle.std.proofs.Math.Seq.{take-length}
use Rattle.std.proofs.lemmas.List.{take-append-drop}
use Rattle.alpha_token.specs.declared.token.TokenKind.{TokenKind}
use Rattle.alpha_token.proofs.ConditionalChoices.{cond-either}
use Rattle.alpha_operands.specs.declared.piece.Piece.{Piece}
use Rattle.alpha_operands.specs.Pieces.{kind_of, same_kind, same_piece}
use Rattle.alpha_operands.specs.Shapes.{Pattern}
use Rattle.alpha_operands.specs.Grammar.{IsOneOf}
use Rattle.alpha_operands.specs.Walk.{rest_of, is_whole, head_of_kind, piece_behind}
use Rattle.alpha_operands.specs.Reached.{HasBehind}
use Rattle.alpha_operands.proofs.Grammar.{Distinct, piece_behind-only, is_whole-of}

-- a pattern that ends within a front has no piece behind it
pub head_of_kind-past_end : (kind : TokenKind) (front q : Pattern) → length q ≤ length front
    → head_of_kind kind (rest_of front q) ≡ None
head_of_kind-past_end kind [] [] h = refl
head_of_kind-past_end kind [] (x ∷ q) h = absurd (omega arith)
head_of_kind-past_end kind (a ∷ front) [] h = refl
head_of_kind-past_end kind (a ∷ front) (b ∷ q) h =
    cond-either (λ r. head_of_kind kind r ≡ None) (same_piece b a) (rest_of front q) None
    (λ e. head_of_kind-past_end kind front q (omega arith)) (λ e. refl)

-- nor has one whose piece there has another form
pub head_of_kind-other_kind : (kind : TokenKind) (front q : Pattern) (p : Piece) → length front < length q
    → p ≡ get_or q (length front) p → same_kind (kind_of p) kind ≡ false → head_of_kind kind (rest_of front q) ≡ None
head_of_kind-other_kind kind front [] p h e k = absurd (omega arith)
head_of_kind-other_kind kind [] (x ∷ q) p h e k = let same : x ≡ p = sym e in rw (same, k) refl
head_of_kind-other_kind kind (a ∷ front) (b ∷ q) p h e k =
    cond-either (λ r. head_of_kind kind r ≡ None) (same_piece b a) (rest_of front q) None
    (λ s. head_of_kind-other_kind kind front q p (omega arith) e k) (λ s. refl)

-- a pattern in three: so many pieces, the next one, and those behind it
pub HasBehind-take : (q : Pattern) (n : ℕ) (p : Piece) → n < length q → p ≡ get_or q n p → HasBehind q (take n q) p
HasBehind-take q n p h e = (
  drop (suc n) q,
  sym (take-append-drop n q) ∙ ap (λ s. take n q ++ s) (drop-cons q n p h ∙ ap (λ x. x ∷ drop (suc n) q) (sym e)),
)

empty_front : (front : Pattern) (p : Piece) (rest : Pattern) → [] ≡ front ++ p ∷ rest → ⊥
empty_front [] p rest h = cc
empty_front (a ∷ front) p rest h = cc

-- the pattern that is read decides
pub own_piece : (all : List Pattern) → Distinct all → (q front : Pattern) (kind : TokenKind) (p : Piece)
    → (q ≡ []) ⊎ IsOneOf q all → HasBehind q front p → kind_of p ≡ kind → piece_behind all front kind ≡ Some p
own_piece all distinct q front kind p (inl none) (rest, e) k = absurd (empty_front front p rest (sym none ∙ e))
own_piece all distinct q front kind p (inr m) (rest, e) k =
    piece_behind-only all distinct front kind p (rest, rw e at m) k

-- where all of it is read, it ends
pub is_whole-own_end : (all : List Pattern) (q : Pattern) (n : ℕ) → (q ≡ []) ⊎ IsOneOf q all → 0 < n → n ≡ length q
    → is_whole all (take n q) ≡ true
is_whole-own_end all q n (inl none) h e = let f : length q ≡ 0 = ap length none in absurd (omega arith)
is_whole-own_end all q n (inr m) h e = rw (e, take-length q) (is_whole-of all q m)

pub IsOneOf-at : (all : List (Bor Pattern)) (i : ℕ) (d : Bor Pattern) → i < length all
    → IsOneOf (get_or all i d).now (map (λ p. p.now) all)
IsOneOf-at [] i d h = absurd (omega arith)
IsOneOf-at (x ∷ xs) zero d h = inl refl
IsOneOf-at (x ∷ xs) (suc i) d h = inr (IsOneOf-at xs i d (omega arith))
