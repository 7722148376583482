-- Where two patterns of a shape differ first, they differ in the form of a token.
use Rattle.std.proofs.Common.{◌≡◌, List, [], ◌∷◌, ◌++◌, Bool, true, false, not, cond, ◌&&◌, if◌then◌else◌, refl, inl}
use Rattle.std.proofs.Common.{inr}
use Rattle.std.proofs.lemmas.Bool.{and_parts}
use Rattle.alpha_operands.specs.declared.piece.Piece.{Piece}
use Rattle.alpha_operands.specs.declared.shape.Shape.{Shape}
use Rattle.alpha_operands.specs.declared.shape.Shape.TheVariants as shapes
use Rattle.alpha_operands.specs.Pieces.{kind_of, same_kind, same_piece}
use Rattle.alpha_operands.specs.Shapes.{Pattern, patterns}
use Rattle.alpha_operands.specs.Grammar.{IsOneOf}
use Rattle.alpha_operands.proofs.PatternPrefixes.{same_piece-is}
use Rattle.alpha_operands.proofs.Grammar.{Distinct, same_kind-same, same_piece-same}

abbrev differ_in_token : Pattern → Pattern → Bool
differ_in_token [] q = true
differ_in_token (a ∷ p) [] = true
differ_in_token (a ∷ p) (b ∷ q) =
    if same_piece a b then differ_in_token p q else not (same_kind (kind_of a) (kind_of b))

abbrev apart_from_each : Pattern → List Pattern → Bool
apart_from_each p [] = true
apart_from_each p (q ∷ qs) = differ_in_token p q && apart_from_each p qs

abbrev each_apart : List Pattern → List Pattern → Bool
each_apart [] qs = true
each_apart (p ∷ ps) qs = apart_from_each p qs && each_apart ps qs

one_from_each : (p q : Pattern) (qs : List Pattern) → apart_from_each p qs ≡ true → IsOneOf q qs
    → differ_in_token p q ≡ true
one_from_each p q [] h m = absurd m
one_from_each p q (x ∷ qs) h m =
    let (a, b) = and_parts (differ_in_token p x) (apart_from_each p qs) h in
    elim m [ inl e ↦ rw (← e) a | inr n ↦ one_from_each p q qs b n ]

two_apart : (p q : Pattern) (ps qs : List Pattern) → each_apart ps qs ≡ true → IsOneOf p ps → IsOneOf q qs
    → differ_in_token p q ≡ true
two_apart p q [] qs h m n = absurd m
two_apart p q (x ∷ ps) qs h m n =
    let (a, b) = and_parts (apart_from_each x qs) (each_apart ps qs) h in
    elim m [ inl e ↦ rw (← e) (one_from_each x q qs a n) | inr k ↦ two_apart p q ps qs b k n ]

behind_front : (front : Pattern) (a b : Piece) (x y : Pattern)
    → differ_in_token (front ++ a ∷ x) (front ++ b ∷ y) ≡ true
    → kind_of a ≡ kind_of b → a ≡ b
behind_front [] a b x y h k =
    let test : (v : Bool) → same_piece a b ≡ v
    → cond v (differ_in_token x y) (not (same_kind (kind_of a) (kind_of b))) ≡ true → a ≡ b =
    λ v.
    elim v as (λ w. same_piece a b ≡ w → cond w (differ_in_token x y) (not (same_kind (kind_of a) (kind_of b))) ≡ true
    → a ≡ b) [
      | true ↦ λ e g. same_piece-is a b e
      | false ↦ λ e g. let no : false ≡ true = rw (same_kind-same (kind_of a) (kind_of b) k) at g in cc
    ] in
    test (same_piece a b) refl h
behind_front (c ∷ front) a b x y h k = behind_front front a b x y (rw (same_piece-same c) at h) k

Distinct-each_apart : (all : List Pattern) → each_apart all all ≡ true → Distinct all
Distinct-each_apart all h =
    record {
      same = λ front p x (r, m) (s, n) k.
          behind_front front p x r s (two_apart (front ++ p ∷ r) (front ++ x ∷ s) all all h m n) k;
    }

pub shapes-distinct : (s : Shape) → Distinct (patterns s)
unfolding patterns
shapes-distinct shapes.Memory = Distinct-each_apart _ refl
shapes-distinct s = Distinct-each_apart _ refl
