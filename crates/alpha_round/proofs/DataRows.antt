-- A row of data bytes reads back.
use Rattle.std.proofs.Common.{◌≡◌, ℕ, zero, suc, ◌*◌, ◌^◌, ◌<◌, ◌≤◌, List, [], ◌∷◌, ◌++◌, length, map, All, true}
use Rattle.std.proofs.Common.{nat_le, Some, Ok, decimal, refl, ◌∙◌, ap, length-append, arith}
use Rattle.std.specs.List.{join_with_byte}
use Rattle.std.proofs.lemmas.Fmt.{decimal_nonempty, length-decimal-le}
use Rattle.std.proofs.lemmas.Bool.Decides.{nat_tests}
use Rattle.alpha_token.specs.Numeral.{number_value}
use Rattle.alpha_token.specs.Tokens.{tokens}
use Rattle.alpha_operands.specs.declared.piece.Piece.TheVariants as pieces
use Rattle.alpha_operands.specs.declared.number.Sign.TheVariants as signs
use Rattle.alpha_operands.specs.declared.number.Number.TheVariants as numbers
use Rattle.alpha_operands.specs.declared.shape.Shape.TheVariants as shapes
use Rattle.alpha_operands.specs.Ranges.{number_of}
use Rattle.alpha_operands.specs.Shapes.{patterns}
use Rattle.alpha_operands.specs.Operands.{Slots, filled}
use Rattle.alpha_operands.specs.Walk.{follow}
use Rattle.alpha_operands.specs.Values.{first_value, next_of}
use Rattle.alpha_operands.specs.Values as listed
use Rattle.alpha_operands.proofs.ListReading.{values-none}
use Rattle.alpha_operands.proofs.FirstValues.{comma-tokens}
use Rattle.alpha_text.proofs.CanonicalTokens.{token-num, number_value-decimal}
use Rattle.alpha_image.specs.Parts.{IsByte}
use Rattle.alpha_asm.specs.Statement.{number, cells, cell_of, values_up_to}
use Rattle.alpha_round.proofs.ListingItems.{row_statement}
use Rattle.alpha_round.proofs.JoinedLines.{AreInside, inside-append}
use Rattle.alpha_round.proofs.NumberTexts.{decimal-inside, decimal-text}

-- the values of a row with commas between them
abbrev pub row_text : List ℕ → List ℕ
row_text row = join_with_byte 44 (map decimal row)

byte_small : (b : ℕ) → IsByte b → b < 2 ^ 64
byte_small b h = omega arith

byte_is : (b : ℕ) → IsByte b → number_of pieces.Byte signs.Plus (number_value (decimal b)) ≡ Some (numbers.Value b)
unfolding number_of
byte_is b h =
    let in_range : nat_le b 255 ≡ true = grind (arith, nat_tests) in
    ap (number_of pieces.Byte signs.Plus) (number_value-decimal b (byte_small b h)) ∙ rw in_range refl

All-tail : (b : ℕ) (row : List ℕ) → All IsByte (b ∷ row) → All IsByte row
All-tail b row h i d l = h (suc i) d (omega (arith, l))

All-head : (b : ℕ) (row : List ℕ) → All IsByte (b ∷ row) → IsByte b
All-head b row h = h 0 0 (omega arith)

-- ---- as operands of a line

pub row_follow : (b : ℕ) (row : List ℕ) (o : Slots) → All IsByte (b ∷ row)
    → (r : Slots) × (follow (patterns shapes.Bytes) [] signs.Plus (tokens (row_text (b ∷ row))) o ≡ Ok r) × (r.left ≡ 0)
unfolding patterns filled
row_follow b [] o h =
    let t = decimal-text b (byte_small b (All-head b [] h)) in
    (record o { number = Some (numbers.Value b); left = 0 }, rw (t.token, byte_is b (All-head b [] h)) refl, refl)
row_follow b (c ∷ row) o h =
    let first = token-num b (44 ∷ row_text (c ∷ row)) (byte_small b (All-head b (c ∷ row) h)) refl in
    let more = row_follow c row (record o { number = Some (numbers.Value b); left = length (row_text (c ∷ row)) })
    (All-tail b (c ∷ row) h) in
    (more.0, rw (first, comma-tokens (row_text (c ∷ row)), byte_is b (All-head b (c ∷ row) h)) more.1, more.2)

-- ---- as values of a list

last_value : (b : ℕ) → IsByte b → next_of 1 (decimal b) ≡ Some (listed.number b, [])
unfolding first_value patterns filled
last_value b h = let t = decimal-text b (byte_small b h) in rw (t.token, byte_is b h) refl

first_of : (b : ℕ) (rest : List ℕ) → IsByte b → next_of 1 (decimal b ++ (44 ∷ rest)) ≡ Some (listed.number b, rest)
unfolding first_value patterns filled
first_of b rest h = rw (token-num b (44 ∷ rest) (byte_small b h) refl, comma-tokens rest, byte_is b h) refl

values_all : (n : ℕ) (row : List ℕ) → All IsByte row → length row ≤ n
    → values_up_to n 1 (row_text row) ≡ map listed.number row
values_all zero [] h l = refl
values_all zero (b ∷ row) h l = absurd (omega arith)
values_all (suc n) [] h l = rw (values-none 1) refl
values_all (suc n) (b ∷ []) h l =
    rw (last_value b (All-head b [] h))
    (ap (λ vs. listed.number b ∷ vs) (values_all n [] (All-tail b [] h) (omega arith)))
values_all (suc n) (b ∷ c ∷ row) h l =
    rw (first_of b (row_text (c ∷ row)) (All-head b (c ∷ row) h))
    (ap (λ vs. listed.number b ∷ vs) (values_all n (c ∷ row) (All-tail b (c ∷ row) h) (omega arith)))

-- a value has a byte or more
row_text-length : (row : List ℕ) → All IsByte row → length row ≤ length (row_text row)
row_text-length [] h = omega arith
row_text-length (b ∷ []) h = omega (arith, decimal_nonempty b (byte_small b (All-head b [] h)))
row_text-length (b ∷ c ∷ row) h = omega (
  arith,
  decimal_nonempty b (byte_small b (All-head b (c ∷ row) h)),
  row_text-length (c ∷ row) (All-tail b (c ∷ row) h),
  length-append (decimal b) (44 ∷ row_text (c ∷ row)),
)

cells_all : (row : List ℕ) → map (cell_of 1) (map listed.number row) ≡ map (number 1) row
cells_all [] = refl
cells_all (b ∷ row) = ap (λ cs. number 1 b ∷ cs) (cells_all row)

-- the values of a row are its bytes
pub row_cells : (row : List ℕ) → All IsByte row → cells (row_statement row) ≡ map (number 1) row
unfolding cells
row_cells row h =
    ap (map (cell_of 1)) (values_all (length (row_text row)) row h (row_text-length row h)) ∙ cells_all row

-- ---- how long it is

byte_short : (b : ℕ) → IsByte b → length (decimal b) ≤ 3
byte_short b h = length-decimal-le 3 b (omega arith) (omega arith) (byte_small b h)

pub length-row_text : (row : List ℕ) → All IsByte row → length (row_text row) ≤ 4 * length row
length-row_text [] h = omega arith
length-row_text (b ∷ []) h = omega (arith, byte_short b (All-head b [] h))
length-row_text (b ∷ c ∷ row) h = omega (
  arith,
  byte_short b (All-head b (c ∷ row) h),
  length-row_text (c ∷ row) (All-tail b (c ∷ row) h),
  length-append (decimal b) (44 ∷ row_text (c ∷ row)),
)

pub row_inside : (row : List ℕ) → AreInside (row_text row)
row_inside [] = refl
row_inside (b ∷ []) = decimal-inside b
row_inside (b ∷ c ∷ row) = inside-append (decimal b) (44 ∷ row_text (c ∷ row)) (decimal-inside b) (row_inside (c ∷ row))
