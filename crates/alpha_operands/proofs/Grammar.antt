-- Reading operands along the patterns is their grammar.
use Rattle.std.proofs.Common.{◌≡◌, ◌⊎◌, ℕ, ◌==◌, List, [], ◌∷◌, ◌++◌, Bool, true, false, cond, ◌||◌, eqb, Option, Some}
use Rattle.std.proofs.Common.{None, Result, Ok, Err, if◌then◌else◌, refl, sym, ◌∙◌, ap, inl, inr, arith}
use Rattle.std.specs.Option.{option_or}
use Rattle.std.proofs.lemmas.List.{append-nil}
use Rattle.std.proofs.lemmas.Bool.Decides.{nat_tests}
use Rattle.std.proofs.lemmas.Bool.{eqb-true, or_cases}
use Rattle.alpha_token.specs.declared.token.TokenKind.{TokenKind}
use Rattle.alpha_token.specs.declared.token.TokenKind.TheVariants as kinds
use Rattle.alpha_token.specs.Tokens.{Lexeme, Tokens, End, Bad, Next, left_of}
use Rattle.alpha_operands.specs.declared.piece.Piece.{Piece}
use Rattle.alpha_operands.specs.declared.number.Sign.{Sign}
use Rattle.alpha_operands.specs.declared.operands.LineFaultKind.{LineFaultKind}
use Rattle.alpha_operands.specs.declared.operands.LineFaultKind.TheVariants.{BadOperands}
use Rattle.alpha_operands.specs.declared.walk.OperandFault.{OperandFault}
use Rattle.alpha_operands.specs.Pieces.{kind_of, kind_number, same_kind, piece_number, same_piece}
use Rattle.alpha_operands.specs.Shapes.{Pattern}
use Rattle.alpha_operands.specs.Operands.{Slots, filled}
use Rattle.alpha_operands.specs.Walk.{rest_of, is_empty, is_whole, head_of_kind, piece_behind, front_after, sign_after}
use Rattle.alpha_operands.specs.Walk.{fault, go_on, taken, follow}
use Rattle.alpha_operands.specs.Grammar.{IsOneOf, ContinuesOperand, Completes, Spells}
use Rattle.alpha_operands.proofs.PatternPrefixes.{rest_of-is, longer_of}

-- each kind has its own number
kind_at : ℕ → TokenKind
kind_at n =
    if n == 0 then kinds.Name else if n == 1 then kinds.Dot else if n == 2 then kinds.Register else if n == 3
    then kinds.Number
    else if n == 4 then kinds.Operator else if n == 5 then kinds.Text else if n == 6 then kinds.Comma else if n == 7
    then kinds.Open
    else if n == 8 then kinds.Close else if n == 9 then kinds.Colon else if n == 10 then kinds.Plus else kinds.Minus

kind_at-number : (k : TokenKind) → kind_at (kind_number k) ≡ k
unfolding kind_at
kind_at-number kinds.Name = refl
kind_at-number k = refl

eqb-same : (n : ℕ) → eqb n n ≡ true
eqb-same n = grind (arith, nat_tests)

pub same_kind-is : (a b : TokenKind) → same_kind a b ≡ true → a ≡ b
same_kind-is a b h = sym (kind_at-number a) ∙ ap kind_at (eqb-true (kind_number a) (kind_number b) h) ∙ kind_at-number b

pub same_kind-same : (a b : TokenKind) → a ≡ b → same_kind a b ≡ true
same_kind-same a b h = rw h (eqb-same (kind_number b))

-- a choice that gave something
first_of_two : {A : Type 0} (a b : Option A) (x : A) → option_or a b ≡ Some x → (a ≡ Some x) ⊎ (b ≡ Some x)
first_of_two None b x h = inr h
first_of_two (Some y) b x h = inl h

head_of_kind-kind : (kind : TokenKind) (r : Option Pattern) (p : Piece) → head_of_kind kind r ≡ Some p
    → kind_of p ≡ kind
head_of_kind-kind kind None p h = cc
head_of_kind-kind kind (Some []) p h = cc
head_of_kind-kind kind (Some (x ∷ q)) p h =
    let both : (b : Bool) → same_kind (kind_of x) kind ≡ b → cond b (Some x) None ≡ Some p → kind_of p ≡ kind =
    λ b. elim b as (λ y. same_kind (kind_of x) kind ≡ y → cond y (Some x) None ≡ Some p → kind_of p ≡ kind) [
      | true ↦ λ e k. let same : x ≡ p = cc in rw (← same) (same_kind-is (kind_of x) kind e)
      | false ↦ λ e k. cc
    ] in
    both (same_kind (kind_of x) kind) refl h

pub piece_behind-is : (all : List Pattern) (front : Pattern) (kind : TokenKind) (p : Piece)
    → piece_behind all front kind ≡ Some p → ContinuesOperand all front p × (kind_of p ≡ kind)
piece_behind-is [] front kind p h = cc
piece_behind-is (q ∷ qs) front kind p h =
    elim (first_of_two (head_of_kind kind (rest_of front q)) (piece_behind qs front kind) p h) [
      | inl e ↦ (
        let (rest, same) = longer_of front q kind p e in (rest, inl same),
        head_of_kind-kind kind (rest_of front q) p e,
      )
      | inr e ↦ let ((rest, m), k) = piece_behind-is qs front kind p e in ((rest, inr m), k)
    ]

pub same_piece-same : (p : Piece) → same_piece p p ≡ true
same_piece-same p = eqb-same (piece_number p)

rest_of-front : (front rest : Pattern) → rest_of front (front ++ rest) ≡ Some rest
rest_of-front [] rest = refl
rest_of-front (a ∷ front) rest = rw (same_piece-same a) (rest_of-front front rest)

-- some piece is found where a pattern goes on with one of the kind
found_one : (a b : Option Piece) (p : Piece) → ((x : Piece) × (b ≡ Some x)) → (x : Piece) × (option_or a b ≡ Some x)
found_one None b p h = h
found_one (Some y) b p h = (y, refl)

pub piece_behind-some : (all : List Pattern) (front : Pattern) (kind : TokenKind) (p : Piece)
    → ContinuesOperand all front p → kind_of p ≡ kind → (x : Piece) × (piece_behind all front kind ≡ Some x)
piece_behind-some [] front kind p (rest, m) k = absurd m
piece_behind-some (q ∷ qs) front kind p (rest, m) k =
    elim m [
      | inl e ↦ (p, rw (e, rest_of-front front (p ∷ rest), same_kind-same (kind_of p) kind k) refl)
      | inr n ↦ found_one (head_of_kind kind (rest_of front q)) (piece_behind qs front kind) p
          (piece_behind-some qs front kind p (rest, n) k)
    ]

-- of the pieces with which patterns go on behind one front, no two have one form
pub record Distinct (all : List Pattern) : Type 0 where
  pub same : (front : Pattern) (p x : Piece) → ContinuesOperand all front p → ContinuesOperand all front x
      → kind_of p ≡ kind_of x → p ≡ x

pub piece_behind-only : (all : List Pattern) → Distinct all → (front : Pattern) (kind : TokenKind) (p : Piece)
    → ContinuesOperand all front p → kind_of p ≡ kind → piece_behind all front kind ≡ Some p
piece_behind-only all distinct front kind p goes k =
    let (x, e) = piece_behind-some all front kind p goes k in
    let (also, l) = piece_behind-is all front kind x e in
    e ∙ ap Some (distinct.same front x p also goes (l ∙ sym k))

pub piece_behind-none : (all : List Pattern) (front : Pattern) (kind : TokenKind) (p : Piece)
    → piece_behind all front kind ≡ None → ContinuesOperand all front p → kind_of p ≡ kind → ⊥
piece_behind-none all front kind p none goes k =
    let (x, e) = piece_behind-some all front kind p goes k in
    let no : None ≡ Some x = sym none ∙ e in
    cc

is_empty-is : (r : Option Pattern) → is_empty r ≡ true → r ≡ Some []
is_empty-is None h = cc
is_empty-is (Some []) h = refl
is_empty-is (Some (p ∷ q)) h = cc

or_true : (a : Bool) → (a || true) ≡ true
or_true true = refl
or_true false = refl

pub is_whole-is : (all : List Pattern) (front : Pattern) → is_whole all front ≡ true → IsOneOf front all
is_whole-is [] front h = cc
is_whole-is (q ∷ qs) front h =
    elim (or_cases (is_empty (rest_of front q)) (is_whole qs front) h) [
      | inl e ↦ inl (rest_of-is front q [] (is_empty-is (rest_of front q) e) ∙ append-nil front)
      | inr e ↦ inr (is_whole-is qs front e)
    ]

rest_of-same : (front : Pattern) → rest_of front front ≡ Some []
rest_of-same [] = refl
rest_of-same (a ∷ front) = rw (same_piece-same a) (rest_of-same front)

pub is_whole-of : (all : List Pattern) (front : Pattern) → IsOneOf front all → is_whole all front ≡ true
is_whole-of [] front m = absurd m
is_whole-of (q ∷ qs) front m = elim m [
  | inl e ↦ rw (e, rest_of-same front) refl
  | inr n ↦ rw (is_whole-of qs front n) (or_true (is_empty (rest_of front q)))
]

-- the tests that decide how reading goes on, each with what it gave
pub cond-ok_or_fault : (b : Bool) (o r : Slots) (left : ℕ) → cond b (Ok o) (fault left BadOperands) ≡ Ok r
    → (b ≡ true) × (o ≡ r)
cond-ok_or_fault true o r left h = (refl, cc)
cond-ok_or_fault false o r left h = cc

pub grammar-took : (t : Lexeme) (sign : Sign) (o : Slots) (found : Option Piece)
    (more : Piece → Slots → Result Slots OperandFault) (r : Slots)
    → taken t sign o found more ≡ Ok r
    → (p : Piece) × (found ≡ Some p) × (go_on (left_of t) (filled p t sign o) (more p) ≡ Ok r)
grammar-took t sign o None more r h = cc
grammar-took t sign o (Some p) more r h = (p, refl, h)

pub grammar-went : (left : ℕ) (x : Result Slots LineFaultKind) (more : Slots → Result Slots OperandFault) (r : Slots)
    → go_on left x more ≡ Ok r → (next : Slots) × (x ≡ Ok next) × (more next ≡ Ok r)
grammar-went left (Err why) more r h = cc
grammar-went left (Ok next) more r h = (next, refl, h)

pub follow-spells : (all : List Pattern) (front : Pattern) (sign : Sign) (ts : Tokens) (o r : Slots)
    → follow all front sign ts o ≡ Ok r → (q : Pattern) × Completes all front q × Spells q sign ts o r
follow-spells all front sign (End left) o r h =
    let (e, same) = cond-ok_or_fault (is_whole all front) o r left h in
    ([], is_whole-is all front e, same)
follow-spells all front sign (Bad left) o r h = cc
follow-spells all front sign (Next t ts) o r h =
    let (p, e, g) = grammar-took t sign o (piece_behind all front t.kind)
    (λ p filled. follow all (front_after front p) (sign_after p) ts filled) r h in
    let (next, f, m) = grammar-went (left_of t) (filled p t sign o)
    (λ filled. follow all (front_after front p) (sign_after p) ts filled) r g in
    let (goes, k) = piece_behind-is all front t.kind p e in
    let (q, c, s) = follow-spells all (front_after front p) (sign_after p) ts next r m in
    (p ∷ q, (goes, c), (k, next, f, s))

pub spells-follow : (all : List Pattern) → Distinct all → (front q : Pattern) (sign : Sign) (ts : Tokens) (o r : Slots)
    → Completes all front q → Spells q sign ts o r → follow all front sign ts o ≡ Ok r
spells-follow all distinct front [] sign (End left) o r c s = rw (is_whole-of all front c, s) refl
spells-follow all distinct front [] sign (Bad left) o r c s = absurd s
spells-follow all distinct front [] sign (Next t ts) o r c s = absurd s
spells-follow all distinct front (p ∷ q) sign (End left) o r c s = absurd s
spells-follow all distinct front (p ∷ q) sign (Bad left) o r c s = absurd s
spells-follow all distinct front (p ∷ q) sign (Next t ts) o r (goes, c) (k, next, f, s) =
    rw (piece_behind-only all distinct front t.kind p goes k, f)
    (spells-follow all distinct (front_after front p) q (sign_after p) ts next r c s)
