-- What `parse` answers for a text of at most 20 decimal digits.
use Rattle.std.proofs.Common.{◌≡◌, ◌<◌, ◌≤◌, ◌^◌, ◌&&◌, ℕ, Bool, true, false, not, List, length, nat_lt, Some, None, Ok}
use Rattle.std.proofs.Common.{Err, if◌then◌else◌, refl, sym, ap, ◌∙◌, rules}
use Rattle.std.specs.List.{list_all}
use Rattle.std.specs.Char.{is_ascii_digit}
use Rattle.std.specs.Str.Parse.{digits_value, ParsesUnsigned}
use Rattle.std.proofs.lemmas.Bool.{and_parts, and_from, lt-ltb, le-ltb, ltb-true}
use Rattle.std.proofs.lemmas.Str.Parse.{IsNumeralModel, numerals_by_value, parse_digits}
use Rattle.alpha_request.specs.Options.{number_of, is_digits}

own_name : IsNumeralModel (λ ds. list_all is_ascii_digit ds ≡ true) (digits_value 10)
own_name = numerals_by_value (λ ds. list_all is_ascii_digit ds ≡ true) (search rules)

-- of a short text the digits alone count
pub is_digits-short : (text : List ℕ) → length text ≤ 20 → is_digits text ≡ list_all is_ascii_digit text
is_digits-short text short = ap (λ long. not long && list_all is_ascii_digit text) (le-ltb 20 (length text) short)

-- a text that isn't short, or has other bytes
pub no_number : (text : List ℕ) → is_digits text ≡ false → number_of text ≡ None
no_number text h =
    ap (λ digits. if digits && (nat_lt 0 (length text) && nat_lt (digits_value 10 text) (2 ^ 64))
    then Some (digits_value 10 text) else None)
    h

some_if-both : (n : ℕ) (a b : Bool) → a ≡ true → b ≡ true → (if a && b then Some n else None) ≡ Some n
some_if-both n a b h g = cc

some_if-not_second : (n : ℕ) (a b : Bool) → (b ≡ true → ⊥) → (if a && b then Some n else None) ≡ None
some_if-not_second n true true h = absurd (h refl)
some_if-not_second n true false h = refl
some_if-not_second n false b h = refl

pub number_parsed : (text : List ℕ) (n : ℕ) → is_digits text ≡ true → ParsesUnsigned {E = ℕ} 64 10 text (Ok n)
    → number_of text ≡ Some n
number_parsed text n h parses =
    let all = (and_parts (not (nat_lt 20 (length text))) (list_all is_ascii_digit text) h).1 in
    let parsed : ((0 < length text) × (digits_value 10 text < 2 ^ 64)) × (n ≡ digits_value 10 text) =
    parse_digits own_name {E = ℕ} 64 text (Ok n) parses all in
    some_if-both (digits_value 10 text) (is_digits text)
    (nat_lt 0 (length text) && nat_lt (digits_value 10 text) (2 ^ 64)) h
    (and_from _ _ (lt-ltb 0 (length text) parsed.0.0) (lt-ltb (digits_value 10 text) (2 ^ 64) parsed.0.1))
    ∙ ap Some (sym parsed.1)

pub number_refused : {E : Type 0} (text : List ℕ) (e : E) → is_digits text ≡ true → ParsesUnsigned 64 10 text (Err e)
    → number_of text ≡ None
number_refused {E = E} text e h parses =
    let all = (and_parts (not (nat_lt 20 (length text))) (list_all is_ascii_digit text) h).1 in
    let parsed : (0 < length text) × (digits_value 10 text < 2 ^ 64) → ⊥ =
    parse_digits own_name {E = E} 64 text (Err e) parses all in
    some_if-not_second (digits_value 10 text) (is_digits text)
    (nat_lt 0 (length text) && nat_lt (digits_value 10 text) (2 ^ 64))
    (λ b. let w = and_parts (nat_lt 0 (length text)) (nat_lt (digits_value 10 text) (2 ^ 64)) b in
    parsed (ltb-true 0 (length text) w.0, ltb-true (digits_value 10 text) (2 ^ 64) w.1))
