-- The numbers of operands are within their ranges.
use Rattle.std.proofs.Common.{◌≡◌, ℕ, ◌%◌, ◌^◌, ◌≤◌, ◌<◌, List, Bool, true, false, cond, ◌&&◌, ◌||◌, Option, Some, None}
use Rattle.std.proofs.Common.{Ok, IfSome, eqb, nat_lt, nat_le, refl, sym, inl, inr, arith}
use Rattle.std.specs.Option.{option_map}
use Rattle.std.proofs.lemmas.Bool.Decides.{nat_tests}
use Rattle.std.proofs.lemmas.Int.{ints}
use Rattle.std.proofs.lemmas.Bool.{and_parts}
use Rattle.alpha_words.specs.declared.PalCall.{PalCall}
use Rattle.alpha_table.specs.Row.{IsSigned}
use Rattle.alpha_table.specs.Decoded.{decoded}
use Rattle.alpha_token.specs.Numeral.{number_value}
use Rattle.alpha_token.specs.Tokens.{Lexeme, Tokens, End, Bad, Next, left_of}
use Rattle.alpha_operands.specs.declared.piece.Piece.{Piece}
use Rattle.alpha_operands.specs.declared.piece.Piece.TheVariants as pieces
use Rattle.alpha_operands.specs.declared.number.Sign.{Sign}
use Rattle.alpha_operands.specs.declared.number.Sign.TheVariants as signs
use Rattle.alpha_operands.specs.declared.number.Number.{Number}
use Rattle.alpha_operands.specs.declared.number.Number.TheVariants.{Call}
use Rattle.alpha_operands.specs.Ranges.{in_range, if_in, words_of, call_of, number_of, IsNumber}
use Rattle.alpha_operands.specs.Shapes.{Pattern}
use Rattle.alpha_operands.specs.Operands.{Slots, filled}
use Rattle.alpha_operands.specs.Walk.{is_whole, piece_behind, front_after, sign_after, follow}
use Rattle.alpha_operands.proofs.SlotChanges.{filled-changes}
use Rattle.alpha_operands.proofs.Grammar.{cond-ok_or_fault, grammar-took, grammar-went}

pub if_in-inside : (b : Bool) (y x : Number) → if_in b y ≡ Some x → (b ≡ true) × (y ≡ x)
if_in-inside true y x h = (refl, cc)
if_in-inside false y x h = cc

one_or_two : (n : ℕ) → (eqb n 1 || eqb n 2) ≡ true → (1 ≤ n) × (n ≤ 2)
one_or_two n h = grind (arith, nat_tests)

words_within : (sign : Sign) (n : ℕ) → in_range 4194304 4194300 sign n ≡ true → IsSigned 20 (words_of sign n)
words_within signs.Plus n h =
    let l : n ≤ 4194304 = grind (arith, nat_tests) in
    (omega (arith, ints), omega (arith, ints))
words_within signs.Minus n h =
    let l : n ≤ 4194300 = grind (arith, nat_tests) in
    (omega (arith, ints), omega (arith, ints))

a_call : (n : ℕ) (x : Number) → cond (nat_lt n (2 ^ 26)) (option_map Call (call_of (decoded n))) None ≡ Some x
    → IsNumber x
a_call n x h =
    let of_call : (c : Option PalCall) → option_map Call c ≡ Some x → IsNumber x =
    λ c. elim c as (λ y. option_map Call y ≡ Some x
    → IsNumber x) [ None ↦ λ e. cc | Some y ↦ λ e. let k : Call y ≡ x = cc in rw (← k) tt ] in
    let test : (b : Bool) → cond b (option_map Call (call_of (decoded n))) None ≡ Some x → IsNumber x =
    λ b. elim b as (λ y. cond y (option_map Call (call_of (decoded n))) None ≡ Some x
    → IsNumber x) [ true ↦ λ e. of_call (call_of (decoded n)) e | false ↦ λ e. cc ] in
    test (nat_lt n (2 ^ 26)) h

pub number_of-within : (p : Piece) (sign : Sign) (n : ℕ) (x : Number) → number_of p sign n ≡ Some x → IsNumber x
unfolding number_of
number_of-within pieces.Displacement sign n x h = let (b, e) = if_in-inside _ _ x h in rw (← e) tt
number_of-within pieces.Immediate sign n x h = let (b, e) = if_in-inside _ _ x h in rw (← e) tt
number_of-within pieces.Literal sign n x h = let (b, e) = if_in-inside _ _ x h in rw (← e) tt
number_of-within pieces.Hint sign n x h =
    let (b, e) = if_in-inside (nat_le n 16383) _ x h in
    rw (← e) (let l : n < 2 ^ 14 = grind (arith, nat_tests) in l)
number_of-within pieces.Distance sign n x h =
    let (b, e) = if_in-inside (eqb (n % 4) 0 && in_range 4194304 4194300 sign n) _ x h in
    rw (← e) (words_within sign n (and_parts (eqb (n % 4) 0) _ b).1)
number_of-within pieces.Whole sign n x h = let (b, e) = if_in-inside _ _ x h in rw (← e) tt
number_of-within pieces.Zeroed sign n x h =
    let (b, e) = if_in-inside (nat_le n 16777216) _ x h in
    rw (← e) (let l : n ≤ 2 ^ 24 = grind (arith, nat_tests) in l)
number_of-within pieces.Align sign n x h =
    let (b, e) = if_in-inside (nat_le n 13) _ x h in
    rw (← e) (let l : n ≤ 13 = grind (arith, nat_tests) in l)
number_of-within pieces.Level sign n x h =
    let (b, e) = if_in-inside (eqb n 1 || eqb n 2) _ x h in
    rw (← e) (one_or_two n b)
number_of-within pieces.Pal sign n x h = a_call n x h
number_of-within pieces.Nothing sign n x h = let (b, e) = if_in-inside _ _ x h in rw (← e) tt
number_of-within pieces.Byte sign n x h = let (b, e) = if_in-inside _ _ x h in rw (← e) tt
number_of-within pieces.Word sign n x h = let (b, e) = if_in-inside _ _ x h in rw (← e) tt
number_of-within pieces.Long sign n x h = let (b, e) = if_in-inside _ _ x h in rw (← e) tt
number_of-within pieces.Quad sign n x h = let (b, e) = if_in-inside _ _ x h in rw (← e) tt
number_of-within p sign n x h = cc

number-within : (p : Piece) (sign : Sign) (n : ℕ) (x : Option Number) → number_of p sign n ≡ x → IfSome x IsNumber
number-within p sign n None h = tt
number-within p sign n (Some x) h = number_of-within p sign n x h

filled-within : (p : Piece) (t : Lexeme) (sign : Sign) (o r : Slots) → IfSome o.number IsNumber
    → filled p t sign o ≡ Ok r → IfSome r.number IsNumber
filled-within p t sign o r good h =
    elim (filled-changes p t sign o r h).2 [
      | inl e ↦ rw e good
      | inr e ↦ number-within p sign (number_value t.text) r.number (sym e)
    ]

pub follow-within : (all : List Pattern) (front : Pattern) (sign : Sign) (ts : Tokens) (o r : Slots)
    → IfSome o.number IsNumber → follow all front sign ts o ≡ Ok r → IfSome r.number IsNumber
follow-within all front sign (End left) o r good h = rw (← (cond-ok_or_fault (is_whole all front) o r left h).1) good
follow-within all front sign (Bad left) o r good h = cc
follow-within all front sign (Next t ts) o r good h =
    let (p, e, g) = grammar-took t sign o (piece_behind all front t.kind)
    (λ p filled. follow all (front_after front p) (sign_after p) ts filled) r h in
    let (next, f, m) = grammar-went (left_of t) (filled p t sign o)
    (λ filled. follow all (front_after front p) (sign_after p) ts filled) r g in
    follow-within all (front_after front p) (sign_after p) ts next r (filled-within p t sign o next good f) m
