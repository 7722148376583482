-- The patterns of a list: the pieces that they have, and that each has a value.
use Rattle.std.proofs.Common.{◌≡◌, ℕ, List, [], ◌∷◌, ◌++◌, Bool, true, false, not, ◌&&◌, ◌||◌, ◌==◌, eqb, Some, refl}
use Rattle.std.proofs.Common.{inl, inr, arith}
use Rattle.std.specs.List.{list_all}
use Rattle.std.proofs.lemmas.List.{append-nil}
use Rattle.std.proofs.lemmas.Bool.Decides.{nat_tests}
use Rattle.std.proofs.lemmas.Bool.{and_parts}
use Rattle.alpha_token.proofs.ConditionalChoices.{cond-either}
use Rattle.alpha_operands.specs.declared.piece.Piece.{Piece}
use Rattle.alpha_operands.specs.declared.piece.Piece.TheVariants as pieces
use Rattle.alpha_operands.specs.declared.shape.Shape.{Shape}
use Rattle.alpha_operands.specs.declared.shape.Shape.TheVariants as shapes
use Rattle.alpha_operands.specs.Shapes.{Pattern, patterns}
use Rattle.alpha_operands.specs.Walk.{is_whole, front_after}
use Rattle.alpha_operands.specs.Grammar.{IsOneOf, ContinuesOperand}
use Rattle.alpha_operands.specs.Values.{list_shape}

-- a piece gives a value
unfoldable pub is_valued : Piece → Bool
is_valued pieces.Label = true
is_valued pieces.Byte = true
is_valued pieces.Word = true
is_valued pieces.Long = true
is_valued pieces.Quad = true
is_valued _ = false

unfoldable pub is_again : Piece → Bool
is_again pieces.Again = true
is_again _ = false

-- a piece may stand in a list of values of so many bytes
unfoldable pub is_listed : ℕ → Piece → Bool
is_listed bytes pieces.Byte = bytes == 1
is_listed bytes pieces.Word = bytes == 2
is_listed bytes pieces.Long = bytes == 4
is_listed bytes pieces.Quad = bytes == 8
is_listed bytes pieces.Label = bytes == 8
is_listed bytes pieces.Plus = true
is_listed bytes pieces.Less = true
is_listed bytes pieces.Offset = true
is_listed bytes pieces.Minus = true
is_listed bytes pieces.Again = true
is_listed bytes _ = false

-- a pattern has such pieces alone, and a value before its end and before a comma
unfoldable pub is_formed : ℕ → Bool → Pattern → Bool
is_formed bytes seen [] = seen
is_formed bytes seen (p ∷ q) =
    (is_listed bytes p && (not (is_again p) || seen)) && is_formed bytes (seen || is_valued p) q

unfoldable pub seen_in : Bool → Pattern → Bool
seen_in seen [] = seen
seen_in seen (p ∷ q) = seen_in (seen || is_valued p) q

one_of : (f : Pattern → Bool) (q : Pattern) (all : List Pattern) → list_all f all ≡ true → IsOneOf q all → f q ≡ true
one_of f q [] h m = absurd m
one_of f q (p ∷ ps) h m =
    let (a, b) = and_parts (f p) (list_all f ps) h in
    elim m [ inl e ↦ rw (← e) a | inr n ↦ one_of f q ps b n ]

formed_behind : (bytes : ℕ) (seen : Bool) (front q : Pattern) → is_formed bytes seen (front ++ q) ≡ true
    → is_formed bytes (seen_in seen front) q ≡ true
unfolding is_formed seen_in
formed_behind bytes seen [] q h = h
formed_behind bytes seen (p ∷ front) q h =
    formed_behind bytes (seen || is_valued p) front q
    (and_parts (is_listed bytes p && (not (is_again p) || seen))
    (is_formed bytes (seen || is_valued p) (front ++ q)) h).1

seen_in-more : (seen : Bool) (front : Pattern) (p : Piece)
    → seen_in seen (front ++ p ∷ []) ≡ (seen_in seen front || is_valued p)
unfolding seen_in
seen_in-more seen [] p = refl
seen_in-more seen (x ∷ front) p = seen_in-more (seen || is_valued x) front p

-- behind a piece other than the comma of a list
pub seen_in-front_after : (front : Pattern) (p : Piece) → is_again p ≡ false
    → seen_in false (front_after front p) ≡ (seen_in false front || is_valued p)
unfolding is_again
seen_in-front_after front pieces.Again h = cc
seen_in-front_after front p h = seen_in-more false front p

-- what the patterns of a list have behind a front
abbrev pub Formed : ℕ → List Pattern → Type 0
Formed bytes all = list_all (is_formed bytes false) all ≡ true

pub listed_behind : (bytes : ℕ) (all : List Pattern) (front : Pattern) (p : Piece) → Formed bytes all
    → ContinuesOperand all front p → (is_listed bytes p ≡ true) × ((not (is_again p) || seen_in false front) ≡ true)
unfolding is_formed
listed_behind bytes all front p formed (rest, m) =
    let h : is_formed bytes (seen_in false front) (p ∷ rest) ≡ true =
    formed_behind bytes false front (p ∷ rest) (one_of (is_formed bytes false) (front ++ p ∷ rest) all formed m) in
    and_parts (is_listed bytes p) (not (is_again p) || seen_in false front)
    (and_parts (is_listed bytes p && (not (is_again p) || seen_in false front))
    (is_formed bytes (seen_in false front || is_valued p) rest) h).0

pub seen_whole : (bytes : ℕ) (all : List Pattern) (front : Pattern) → Formed bytes all → IsOneOf front all
    → seen_in false front ≡ true
unfolding is_formed
seen_whole bytes all front formed m =
    formed_behind bytes false front [] (rw (append-nil front) (one_of (is_formed bytes false) front all formed m))

-- the four sizes
pub list_shape-cases : (P : ℕ → Shape → Type 0) → P 1 shapes.Bytes → P 2 shapes.Words → P 4 shapes.Longs
    → P 8 shapes.Quads
    → (bytes : ℕ) (s : Shape) → list_shape bytes ≡ Some s → P bytes s
list_shape-cases P one two four eight bytes s =
    cond-either (λ r. r ≡ Some s → P bytes s) (eqb bytes 1) _ _
    (λ e h. let b : bytes ≡ 1 = grind (arith, nat_tests) in let same : shapes.Bytes ≡ s = cc in rw (b, ← same) one)
    (λ e.
    cond-either (λ r. r ≡ Some s → P bytes s) (eqb bytes 2) _ _
    (λ e h. let b : bytes ≡ 2 = grind (arith, nat_tests) in let same : shapes.Words ≡ s = cc in rw (b, ← same) two)
    (λ e.
    cond-either (λ r. r ≡ Some s → P bytes s) (eqb bytes 4) _ _
    (λ e h. let b : bytes ≡ 4 = grind (arith, nat_tests) in let same : shapes.Longs ≡ s = cc in rw (b, ← same) four)
    (λ e.
    cond-either (λ r. r ≡ Some s → P bytes s) (eqb bytes 8) _ _
    (λ e h. let b : bytes ≡ 8 = grind (arith, nat_tests) in let same : shapes.Quads ≡ s = cc in rw (b, ← same) eight)
    (λ e h. cc))))

pub list_shape-Formed : (bytes : ℕ) (s : Shape) → list_shape bytes ≡ Some s → Formed bytes (patterns s)
unfolding patterns is_formed is_listed is_again is_valued
list_shape-Formed = list_shape-cases (λ bytes s. Formed bytes (patterns s)) refl refl refl refl

pub is_whole-nil : (bytes : ℕ) (s : Shape) → list_shape bytes ≡ Some s → is_whole (patterns s) [] ≡ false
unfolding patterns
is_whole-nil = list_shape-cases (λ bytes s. is_whole (patterns s) [] ≡ false) refl refl refl refl
