-- Texts of numbers: how long they are, that they stay in their line, and that they read back.
use Rattle.std.proofs.Common.{◌≡◌, ℕ, zero, suc, ◌+◌, ◌/◌, ◌%◌, ◌^◌, ◌<◌, ◌≤◌, List, [], ◌∷◌, ◌++◌, length, true, false}
use Rattle.std.proofs.Common.{eqb, nat_lt, Some, decimal, refl, sym, ◌∙◌, ap, append-nil, lt_of_lt_of_le, lit≤, arith}
use Rattle.std.specs.List.{list_all, prefix_len}
use Rattle.std.specs.Fmt.{digits, digits_onto, digit_glyph}
use Rattle.std.specs.Char.{is_ascii_hexdigit, digit_value}
use Rattle.std.specs.Str.Parse.{AllDigits, digits_value}
use Rattle.std.proofs.lemmas.Fmt.{digits_is_IsNumeral}
use Rattle.std.proofs.lemmas.Bool.Decides.{nat_tests}
use Rattle.alpha_token.specs.declared.token.TokenKind.TheVariants as kinds
use Rattle.alpha_token.specs.Numeral.{hex_len, number_more, number_value}
use Rattle.alpha_token.specs.Tokens.{End, Next, tokens}
use Rattle.alpha_token.proofs.ConditionalChoices.{cond-either}
use Rattle.alpha_text.proofs.CanonicalTokens.{prefix_len-run, token-next, number_at, token-num, tokens-none}
use Rattle.alpha_text.proofs.CanonicalTokens.{number_value-decimal}
use Rattle.alpha_dis.specs.Listing.{hexadecimal}
use Rattle.alpha_round.proofs.JoinedLines.{is_inside, AreInside}

-- ---- digits, whichever the number

inside_glyph : (d : ℕ) → is_inside (digit_glyph false d) ≡ true
inside_glyph d =
    cond-either (λ c. nat_lt 13 c ≡ true) (nat_lt d 10) (48 + d) (87 + d) (λ e. grind (arith, nat_tests))
    (λ e. grind (arith, nat_tests))

digits_onto-inside : (k base n : ℕ) (written : List ℕ) → AreInside written
    → (length (digits_onto k base false n written) ≤ k + length written)
    × AreInside (digits_onto k base false n written)
digits_onto-inside zero base n written h = (omega arith, h)
digits_onto-inside (suc k) base n written h =
    let more : List ℕ = digit_glyph false (n % base) ∷ written in
    let inside : AreInside (digit_glyph false (n % base) ∷ written) = rw (inside_glyph (n % base), h) refl in
    cond-either (λ l. (length l ≤ suc k + length written) × AreInside l)
    (eqb (n / base) 0) (digit_glyph false (n % base) ∷ written)
    (digits_onto k base false (n / base) (digit_glyph false (n % base) ∷ written))
    (λ e. (omega arith, inside))
    (λ e. let (size, far) = digits_onto-inside k base (n / base) (digit_glyph false (n % base) ∷ written) inside in
    (omega arith, far))

some_digits : (base n : ℕ) → (length (digits base false n) ≤ 64) × AreInside (digits base false n)
unfolding digits
some_digits base n = let (size, inside) = digits_onto-inside 64 base n [] refl in (omega arith, inside)

pub decimal-short : (n : ℕ) → length (decimal n) ≤ 64
decimal-short n = (some_digits 10 n).0

pub decimal-inside : (n : ℕ) → AreInside (decimal n)
decimal-inside n = (some_digits 10 n).1

pub hexadecimal-short : (n : ℕ) → length (hexadecimal n) ≤ 66
unfolding hexadecimal
hexadecimal-short n = let h = (some_digits 16 n).0 in omega arith

pub hexadecimal-inside : (n : ℕ) → AreInside (hexadecimal n)
unfolding hexadecimal
hexadecimal-inside n = (some_digits 16 n).1

-- ---- a number's text is one token, and stands for the number

pub record IsNumberText (text : List ℕ) (n : ℕ) : Type 0 where
  pub token : tokens text ≡ Next (record { kind = kinds.Number; text = text; rest = [] }) (End 0)
  pub value : number_value text ≡ n

pub decimal-text : (n : ℕ) → n < 2 ^ 64 → IsNumberText (decimal n) n
decimal-text n h = record {
  token =
      ap tokens (sym (append-nil (decimal n)))
      ∙ (token-num n [] h tt ∙ ap (Next (record { kind = kinds.Number; text = decimal n; rest = [] })) tokens-none);
  value = number_value-decimal n h;
}

hex_digit : (c : ℕ) → digit_value c < 16 → is_ascii_hexdigit c ≡ true
hex_digit c h = grind (arith, nat_tests)

hex_digits : (ds : List ℕ) → AllDigits 16 ds → list_all is_ascii_hexdigit ds ≡ true
hex_digits [] h = refl
hex_digits (d ∷ ds) (a, b) = rw (hex_digit d a, hex_digits ds b) refl

-- behind `0x`
hex_all : (ds : List ℕ) → AllDigits 16 ds → hex_len 48 (120 ∷ ds) ≡ length ds
hex_all ds h =
    ap (prefix_len is_ascii_hexdigit) (sym (append-nil ds))
    ∙ prefix_len-run is_ascii_hexdigit ds [] (hex_digits ds h) tt

not_none : (ds : List ℕ) → 0 < length ds → eqb (length ds) 0 ≡ false
not_none ds h = grind (arith, nat_tests)

hex_more : (ds : List ℕ) → 0 < length ds → AllDigits 16 ds → number_more 48 (120 ∷ ds) ≡ suc (length ds)
hex_more ds some h = let one : 1 + length ds ≡ suc (length ds) = omega arith in rw (hex_all ds h, not_none ds some) one

hex_token : (ds : List ℕ) → 0 < length ds → AllDigits 16 ds
    → tokens (48 ∷ 120 ∷ ds) ≡ Next (record { kind = kinds.Number; text = 48 ∷ 120 ∷ ds; rest = [] }) (End 0)
hex_token ds some h =
    ap (λ t. tokens (48 ∷ 120 ∷ t)) (sym (append-nil ds))
    ∙ (token-next 48 (120 ∷ ds) [] kinds.Number refl (λ e. cc)
    (number_at 48 (120 ∷ (ds ++ [])) refl refl
    ∙ ap (λ (t : List ℕ). Some (kinds.Number, number_more 48 (120 ∷ t))) (append-nil ds)
    ∙ ap (λ (m : ℕ). Some (kinds.Number, m)) (hex_more ds some h))
    ∙ ap (Next (record { kind = kinds.Number; text = 48 ∷ 120 ∷ ds; rest = [] })) tokens-none)

hex_value : (ds : List ℕ) → 0 < length ds → AllDigits 16 ds → number_value (48 ∷ 120 ∷ ds) ≡ digits_value 16 ds
hex_value ds some h = rw (hex_all ds h, not_none ds some) refl

pub hexadecimal-text : (n : ℕ) → n < 2 ^ 64 → IsNumberText (hexadecimal n) n
unfolding hexadecimal
hexadecimal-text n h =
    let wide : n < 16 ^ 64 = lt_of_lt_of_le h (lit≤ tt) in
    let (numeral, value) = digits_is_IsNumeral 16 false (omega arith) (omega arith) n wide in
    record {
      token = hex_token (digits 16 false n) numeral.0 numeral.1;
      value = hex_value (digits 16 false n) numeral.0 numeral.1 ∙ value;
    }
