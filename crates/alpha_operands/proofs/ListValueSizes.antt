-- Each value of a list is of its size, and the list behind it is shorter.
use Rattle.std.proofs.Common.{◌≡◌, ◌⊎◌, ℕ, ℤ, ◌-◌, ◌^◌, ◌≤◌, ◌<◌, List, [], Bool, true, false, ◌&&◌, eqb, Option, Some}
use Rattle.std.proofs.Common.{None, Result, Ok, Err, IfSome, Bor, length, refl, sym, ◌∙◌, ap, inl, inr, arith}
use Prim.Native.Nat.{zero, suc}
use Rattle.std.specs.Option.{option_map}
use Rattle.std.proofs.lemmas.Bool.Decides.{nat_tests}
use Rattle.std.proofs.lemmas.Bool.{eqb-true}
use Rattle.alpha_token.specs.Bytes.{is_label}
use Rattle.alpha_token.specs.Numeral.{number_value}
use Rattle.alpha_token.specs.Tokens.{Lexeme, Tokens, End, Bad, Next, tokens}
use Rattle.alpha_token.proofs.StringLengths.{option_map-some}
use Rattle.alpha_token.proofs.QuotedTexts.{option_and_then-some}
use Rattle.alpha_token.proofs.TokenOrder.{AreInOrder, tokens-fall}
use Rattle.alpha_operands.specs.declared.piece.Piece.{Piece}
use Rattle.alpha_operands.specs.declared.piece.Piece.TheVariants as pieces
use Rattle.alpha_operands.specs.declared.shape.Shape.{Shape}
use Rattle.alpha_operands.specs.declared.number.Sign.{Sign}
use Rattle.alpha_operands.specs.declared.number.Sign.TheVariants as signs
use Rattle.alpha_operands.specs.declared.number.Number.{Number}
use Rattle.alpha_operands.specs.declared.number.Number.TheVariants as numbers
use Rattle.alpha_operands.specs.declared.operands.LineFaultKind.{LineFaultKind}
use Rattle.alpha_operands.specs.declared.operands.LineFaultKind.TheVariants.{OutOfRange}
use Rattle.alpha_operands.specs.declared.values.ListValue.{ListValue}
use Rattle.alpha_operands.specs.Ranges.{number_of, offset_of, in_range, modulo}
use Rattle.alpha_operands.specs.Shapes.{Pattern, patterns}
use Rattle.alpha_operands.specs.Operands.{Slots, nothing, filled}
use Rattle.alpha_operands.specs.Walk.{is_whole, piece_behind, front_after, sign_after}
use Rattle.alpha_operands.specs.Values.{Listed, number, label, view, list_shape, ended, then_on, up_to_comma}
use Rattle.alpha_operands.specs.Values.{first_operands, value_in, value_of, first_value, next_of, IsOfSize}
use Rattle.alpha_operands.proofs.SlotChanges.{a_value, cond-ok, ok-injective}
use Rattle.alpha_operands.proofs.OperandRanges.{if_in-inside}
use Rattle.alpha_operands.proofs.Grammar.{piece_behind-is}
use Rattle.alpha_operands.proofs.ListPatterns.{is_listed, Formed, listed_behind, list_shape-Formed, is_whole-nil}

-- a number among operands is of the size, where it is a value, and a label is there only where the size is 8
abbrev IsFineNumber : ℕ → Option Number → Type 0
IsFineNumber bytes (Some (numbers.Value n)) = IsOfSize bytes (number n)
IsFineNumber bytes _ = Unit {0}

abbrev IsFineLabel : ℕ → Option (List ℕ) → Type 0
IsFineLabel bytes None = Unit {0}
IsFineLabel bytes (Some name) = bytes ≡ 8

abbrev AreFine : ℕ → Slots → Type 0
AreFine bytes o = IsFineNumber bytes o.number × IsFineLabel bytes o.label

-- a number up to `most`, or down to -`least`, modulo 2^64
in_range-modulo : (most least : ℕ) (sign : Sign) (n : ℕ) → least < 2 ^ 64 → in_range most least sign n ≡ true
    → (modulo sign n ≤ most) ⊎ ((2 ^ 64 - least ≤ modulo sign n) × (modulo sign n < 2 ^ 64))
in_range-modulo most least signs.Plus n small h = inl (let l : n ≤ most = grind (arith, nat_tests) in l)
in_range-modulo most least signs.Minus zero small h = inl (omega arith)
in_range-modulo most least signs.Minus (suc n) small h =
    let l : suc n ≤ least = grind (arith, nat_tests) in
    inr (omega arith, omega arith)

fine-1 : (sign : Sign) (n : ℕ) → in_range 255 128 sign n ≡ true → IsOfSize 1 (number (modulo sign n))
fine-1 sign n h =
    elim (in_range-modulo 255 128 sign n (omega arith) h) [ inl l ↦ inl (omega arith) | inr (a, b) ↦ inr (a, b) ]

fine-2 : (sign : Sign) (n : ℕ) → in_range 65535 32768 sign n ≡ true → IsOfSize 2 (number (modulo sign n))
fine-2 sign n h =
    elim (in_range-modulo 65535 32768 sign n (omega arith) h) [ inl l ↦ inl (omega arith) | inr (a, b) ↦ inr (a, b) ]

fine-4 : (sign : Sign) (n : ℕ) → in_range (2 ^ 32 - 1) (2 ^ 31) sign n ≡ true → IsOfSize 4 (number (modulo sign n))
fine-4 sign n h =
    elim (in_range-modulo (2 ^ 32 - 1) (2 ^ 31) sign n
    (omega arith) h) [ inl l ↦ inl (omega arith) | inr (a, b) ↦ inr (a, b) ]

fine-8 : (sign : Sign) (n : ℕ) → in_range (2 ^ 64 - 1) (2 ^ 63) sign n ≡ true → IsOfSize 8 (number (modulo sign n))
fine-8 sign n h =
    elim (in_range-modulo (2 ^ 64 - 1) (2 ^ 63) sign n
    (omega arith) h) [ inl l ↦ inl (omega arith) | inr (a, b) ↦ inr (a, b) ]

filled-fine : (bytes : ℕ) (p : Piece) (t : Lexeme) (sign : Sign) (o r : Slots) → is_listed bytes p ≡ true
    → AreFine bytes o → filled p t sign o ≡ Ok r → AreFine bytes r
unfolding filled is_listed number_of
filled-fine bytes pieces.Byte t sign o r l (n, m) h =
    let (v, e, k) = a_value (number_of pieces.Byte sign (number_value t.text)) OutOfRange _ r h in
    let (b, same) = if_in-inside _ _ v e in
    rw (← k, ← same) (rw (eqb-true bytes 1 l) (fine-1 sign (number_value t.text) b), m)
filled-fine bytes pieces.Word t sign o r l (n, m) h =
    let (v, e, k) = a_value (number_of pieces.Word sign (number_value t.text)) OutOfRange _ r h in
    let (b, same) = if_in-inside _ _ v e in
    rw (← k, ← same) (rw (eqb-true bytes 2 l) (fine-2 sign (number_value t.text) b), m)
filled-fine bytes pieces.Long t sign o r l (n, m) h =
    let (v, e, k) = a_value (number_of pieces.Long sign (number_value t.text)) OutOfRange _ r h in
    let (b, same) = if_in-inside _ _ v e in
    rw (← k, ← same) (rw (eqb-true bytes 4 l) (fine-4 sign (number_value t.text) b), m)
filled-fine bytes pieces.Quad t sign o r l (n, m) h =
    let (v, e, k) = a_value (number_of pieces.Quad sign (number_value t.text)) OutOfRange _ r h in
    let (b, same) = if_in-inside _ _ v e in
    rw (← k, ← same) (rw (eqb-true bytes 8 l) (fine-8 sign (number_value t.text) b), m)
filled-fine bytes pieces.Label t sign o r l (n, m) h =
    let (b, k) = cond-ok (is_label t.text) _ r h in
    rw (← k) (n, eqb-true bytes 8 l)
filled-fine bytes pieces.Offset t sign o r l fine h =
    let (v, e, k) = a_value (offset_of sign (number_value t.text)) OutOfRange _ r h in
    rw (← k) fine
filled-fine bytes pieces.Plus t sign o r l fine h = rw (← ok-injective _ r h) fine
filled-fine bytes pieces.Less t sign o r l fine h = rw (← ok-injective _ r h) fine
filled-fine bytes pieces.Minus t sign o r l fine h = rw (← ok-injective _ r h) fine
filled-fine bytes pieces.Again t sign o r l fine h = rw (← ok-injective _ r h) fine
filled-fine bytes p t sign o r l fine h = cc

Some-pair : (o f : Slots) (a b : List ℕ) → (let x : Option (Slots × List ℕ) = Some (o, a) in x) ≡ Some (f, b)
    → (o ≡ f) × (a ≡ b)
Some-pair o f a b h =
    let e : (let x : Slots × List ℕ = (o, a) in x) ≡ (f, b) = cc in
    (ap (λ (x : Slots × List ℕ). x.0) e, ap (λ (x : Slots × List ℕ). x.1) e)

ended-is : (b : Bool) (o f : Slots) (rest : List ℕ) → ended b o ≡ Some (f, rest) → (b ≡ true) × (o ≡ f) × (rest ≡ [])
ended-is true o f rest h = let (a, b) = Some-pair o f [] rest h in (refl, a, sym b)
ended-is false o f rest h = cc

then-is : (r : Result Slots LineFaultKind) (more : Slots → Option (Slots × List ℕ)) (f : Slots) (rest : List ℕ)
    → then_on r more ≡ Some (f, rest) → (next : Slots) × (r ≡ Ok next) × (more next ≡ Some (f, rest))
then-is (Err why) more f rest h = cc
then-is (Ok o) more f rest h = (o, refl, h)

-- the comma of a list ends the operands of a value, and another piece goes on with them
up_to_comma-is : (t : Lexeme) (sign : Sign) (o : Slots) (found : Option Piece)
    (more : Piece → Slots → Option (Slots × List ℕ)) (f : Slots) (rest : List ℕ)
    → up_to_comma t sign o found more ≡ Some (f, rest) →
    ((o ≡ f) × (rest ≡ t.rest))
    ⊎ ((p : Piece) × (next : Slots) × (found ≡ Some p) × (filled p t sign o ≡ Ok next) × (more p next ≡ Some (f, rest)))
up_to_comma-is t sign o None more f rest h = cc
up_to_comma-is t sign o (Some pieces.Again) more f rest h = let (a, b) = Some-pair o f t.rest rest h in inl (a, sym b)
up_to_comma-is t sign o (Some p) more f rest h =
    let (next, ok, m) = then-is (filled p t sign o) (more p) f rest h in
    inr (p, next, refl, ok, m)

first-fine : (bytes : ℕ) (all : List Pattern) → Formed bytes all
    → (front : Pattern) (sign : Sign) (ts : Tokens) (o f : Slots) (rest : List ℕ) → AreFine bytes o
    → first_operands all front sign ts o ≡ Some (f, rest) → AreFine bytes f
first-fine bytes all form front sign (End left) o f rest fine h = rw (← (ended-is _ o f rest h).1) fine
first-fine bytes all form front sign (Bad left) o f rest fine h = cc
first-fine bytes all form front sign (Next t ts) o f rest fine h =
    elim (up_to_comma-is t sign o (piece_behind all front t.kind)
    (λ p filled. first_operands all (front_after front p) (sign_after p) ts filled) f rest h) [
      | inl (e, k) ↦ rw (← e) fine
      | inr (p, next, found, ok, m) ↦
          first-fine bytes all form (front_after front p) (sign_after p) ts next f rest
          (filled-fine bytes p t sign o next
          (listed_behind bytes all front p form (piece_behind-is all front t.kind p found).0).0 fine ok)
          m
    ]

value-fine : (bytes : ℕ) (n : Option Number) (offset : ℤ) (name : Option (List ℕ)) (v : Listed) → IsFineNumber bytes n
    → IsFineLabel bytes name → value_in n offset name ≡ Some v → IsOfSize bytes v
value-fine bytes n offset (Some name) v a b h = let e : label name offset ≡ v = cc in rw (← e) b
value-fine bytes (Some (numbers.Value n)) offset None v a b h = let e : number n ≡ v = cc in rw (← e) a
value-fine bytes None offset None v a b h = cc
value-fine bytes (Some n) offset None v a b h = cc

first-shorter : (n : ℕ) (all : List Pattern) (front : Pattern) (sign : Sign) (ts : Tokens) (o f : Slots) (rest : List ℕ)
    → AreInOrder n ts → first_operands all front sign ts o ≡ Some (f, rest) → length rest ≤ n
first-shorter n all front sign (End left) o f rest fall h = rw (ended-is _ o f rest h).2 (omega arith)
first-shorter n all front sign (Bad left) o f rest fall h = cc
first-shorter n all front sign (Next t ts) o f rest (a, b, c) h =
    elim (up_to_comma-is t sign o (piece_behind all front t.kind)
    (λ p filled. first_operands all (front_after front p) (sign_after p) ts filled) f rest h) [
      | inl (e, k) ↦ rw k (omega arith)
      | inr (p, next, found, ok, m) ↦ let l : length rest ≤ length t.rest =
          first-shorter (length t.rest) all (front_after front p) (sign_after p) ts next f rest c m in
          omega arith
    ]

and_false : (a : Bool) → (a && false) ≡ true → ⊥
and_false true h = cc
and_false false h = cc

-- the first value of a list has a token at least
value-shorter : (n : ℕ) (all : List Pattern) (ts : Tokens) (o f : Slots) (rest : List ℕ) → is_whole all [] ≡ false
    → AreInOrder n ts → first_operands all [] signs.Plus ts o ≡ Some (f, rest) → length rest < n
value-shorter n all (End left) o f rest none fall h =
    let b : (eqb left 0 && is_whole all []) ≡ true = (ended-is _ o f rest h).0 in
    let not_whole : (eqb left 0 && false) ≡ true = rw none at b in absurd (and_false (eqb left 0) not_whole)
value-shorter n all (Bad left) o f rest none fall h = cc
value-shorter n all (Next t ts) o f rest none (a, b, c) h =
    elim (up_to_comma-is t signs.Plus o (piece_behind all [] t.kind)
    (λ p filled. first_operands all (front_after [] p) (sign_after p) ts filled) f rest h) [
      | inl (e, k) ↦ rw k (omega arith)
      | inr (p, next, found, ok, m) ↦ let l : length rest ≤ length t.rest =
          first-shorter (length t.rest) all (front_after [] p) (sign_after p) ts next f rest c m in
          omega arith
    ]

-- the operands of a first value, from it
first_value-is : (s : Shape) (list : List ℕ) (v : Listed) (rest : List ℕ) → first_value s list ≡ Some (v, rest)
    → (o : Slots) × (first_operands (patterns s) [] signs.Plus (tokens list) nothing ≡ Some (o, rest))
    × (value_of o ≡ Some v)
unfolding first_value
first_value-is s list v rest h =
    let (found, e, k) =
    option_and_then-some (λ (found : Slots × List ℕ). option_map (λ v. (v, found.1)) (value_of found.0))
    (first_operands (patterns s) [] signs.Plus (tokens list) nothing) (v, rest) h in
    let (w, is, same) = option_map-some (λ (v : Listed). (v, found.1)) (value_of found.0) (v, rest) k in
    let value : w ≡ v = ap (λ (x : Listed × List ℕ). x.0) same in
    let behind : found.1 ≡ rest = ap (λ (x : Listed × List ℕ). x.1) same in
    (found.0, e ∙ ap (λ r. Some (found.0, r)) behind, is ∙ ap Some value)

pub value-sized : (bytes : ℕ) (s : Shape) (list : List ℕ) (v : Listed) (rest : List ℕ) → list_shape bytes ≡ Some s
    → first_value s list ≡ Some (v, rest) → IsOfSize bytes v × (length rest < length list)
value-sized bytes s list v rest shape h =
    let (o, found, is) = first_value-is s list v rest h in
    let (n, name) =
    first-fine bytes (patterns s) (list_shape-Formed bytes s shape) [] signs.Plus (tokens list) nothing o rest
    (tt, tt) found in (
      value-fine bytes o.number o.offset o.label v n name is,
      value-shorter (length list) (patterns s) (tokens list) nothing o rest (is_whole-nil bytes s shape)
          (tokens-fall list) found,
    )

-- the same of what a function returned
pub result-sized : (bytes : ℕ) (s : Shape) (list : List ℕ) (r : Option (ListValue × Bor (List ℕ)))
    → list_shape bytes ≡ Some s → option_map (λ v. (view v.0, v.1.now)) r ≡ first_value s list →
    (IfSome r (λ v. IsOfSize bytes (view v.0))) × (IfSome r (λ v. length v.1.now < length list))
result-sized bytes s list None shape h = (tt, tt)
result-sized bytes s list (Some v) shape h = value-sized bytes s list (view v.0) v.1.now shape (sym h)

pub next_of-IsOfSize : (bytes : ℕ) (list : List ℕ) (v : Listed × List ℕ) → next_of bytes list ≡ Some v
    → IsOfSize bytes v.0
next_of-IsOfSize bytes list v h =
    let (s, shape, first) = option_and_then-some (λ (shape : Shape). first_value shape list) (list_shape bytes) v h in
    (value-sized bytes s list v.0 v.1 shape first).0
