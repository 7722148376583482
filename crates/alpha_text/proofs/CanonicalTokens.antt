-- The tokens of the words of a canonical line.
use Rattle.std.proofs.Common.{◌≡◌, ◌≢◌, ℕ, List, [], ◌∷◌, ◌++◌, ◌<◌, ◌^◌, ◌==◌, if◌then◌else◌, ◌&&◌, Bool, true, false}
use Rattle.std.proofs.Common.{not, cond, eqb, Some, decimal, length, refl, sym, ◌∙◌, ap, add-one, arith}
use Rattle.std.specs.List.{prefix_len, list_all}
use Rattle.std.specs.Str.{all_ascii_digits}
use Rattle.std.specs.Str.Parse.{digits_value}
use Rattle.std.specs.Char.{is_ascii_digit, is_ascii_hexdigit, is_ascii_alphanumeric, is_ascii_alphabetic}
use Rattle.std.proofs.Math.Nat.{add_comm}
use Rattle.std.proofs.lemmas.List.{take_at, drop_at}
use Rattle.std.proofs.lemmas.Str.Parse.{numerals_by_value, tells_all_ascii_digits}
use Rattle.std.proofs.lemmas.Fmt.{digits_decimal, digits_value-decimal, decimal_nonempty}
use Rattle.std.proofs.lemmas.Bool.Decides.{nat_tests}
use Rattle.std.proofs.lemmas.Bool.{and_parts}
use Rattle.alpha_token.specs.declared.token.TokenKind.{TokenKind}
use Rattle.alpha_token.specs.declared.token.TokenKind.TheVariants as kinds
use Rattle.alpha_token.specs.Bytes.{is_blank, begins_name, goes_on_name}
use Rattle.alpha_token.specs.Numeral.{hex_len, number_more, number_value}
use Rattle.alpha_token.specs.Tokens.{Lexeme, Tokens, End, Next, token_at, tokens, if_any, name_kind}
use Rattle.alpha_token.proofs.TokenSuffixes.{tokens-next}
use Rattle.alpha_text.specs.SuffixWords.{BeginsWithout}
use Rattle.alpha_text.specs.Canon.{Word, reg, num, mark, spell, behind_name}

pub prefix_len-run : (p : ℕ → Bool) (ds s : List ℕ) → list_all p ds ≡ true → BeginsWithout p s
    → prefix_len p (ds ++ s) ≡ length ds
prefix_len-run p [] [] h stop = refl
prefix_len-run p [] (b ∷ s) h stop = rw stop refl
prefix_len-run p (d ∷ ds) s h stop =
    let (a, b) = and_parts (p d) (list_all p ds) h in
    rw (a, prefix_len-run p ds s b stop, add_comm 1 (length ds), add-one) refl

digits_numbers : (ds : List ℕ) → all_ascii_digits ds ≡ true → list_all is_ascii_digit ds ≡ true
digits_numbers [] h = refl
digits_numbers (d ∷ ds) h =
    let (a, b) = and_parts (is_ascii_digit d) (all_ascii_digits ds) h in
    rw (a, digits_numbers ds b) refl

alphanumeric_digit : (d : ℕ) → is_ascii_digit d ≡ true → is_ascii_alphanumeric d ≡ true
alphanumeric_digit d h = rw h refl

pub digits_alphanumeric : (ds : List ℕ) → all_ascii_digits ds ≡ true → list_all is_ascii_alphanumeric ds ≡ true
digits_alphanumeric [] h = refl
digits_alphanumeric (d ∷ ds) h =
    let (a, b) = and_parts (is_ascii_digit d) (all_ascii_digits ds) h in
    rw (alphanumeric_digit d a, digits_alphanumeric ds b) refl

pub decimal-digits : (n : ℕ) → n < 2 ^ 64 → all_ascii_digits (decimal n) ≡ true
decimal-digits n h = digits_decimal (numerals_by_value _ tells_all_ascii_digits) n h

-- a token at the front, with its further bytes
pub token-next : (b : ℕ) (ds s : List ℕ) (kind : TokenKind) → is_blank b ≡ false
    → b ≢ 35 → token_at b (ds ++ s) ≡ Some (kind, length ds)
    → tokens (b ∷ (ds ++ s)) ≡ Next (record { kind = kind; text = b ∷ ds; rest = s }) (tokens s)
token-next b ds s kind plain apart found =
    tokens-next (b ∷ (ds ++ s)) (ds ++ s) (b ∷ ds) s kind (length ds) (omega arith) (rw plain refl) apart refl found
    (rw (add_comm 1 (length ds), add-one) (ap (λ t. b ∷ t) (sym (take_at ds s (length ds) refl))))
    (sym (drop_at ds s (length ds) refl))

pub token-mark : (b : ℕ) (s : List ℕ) (kind : TokenKind) → is_blank b ≡ false → b ≢ 35 → token_at b s ≡ Some (kind, 0)
    → tokens (b ∷ s) ≡ Next (record { kind = kind; text = b ∷ []; rest = s }) (tokens s)
token-mark b s kind plain apart found = token-next b [] s kind plain apart found

some_more : (kind : TokenKind) (n : ℕ) → 0 < n → if_any kind n ≡ Some (kind, n)
some_more kind n h = let no : eqb n 0 ≡ false = grind (arith, nat_tests) in rw no refl

register_at : (s : List ℕ) → token_at 36 s ≡ if_any kinds.Register (prefix_len is_ascii_alphanumeric s)
unfolding token_at
register_at s = refl

pub token-reg : (r : ℕ) (s : List ℕ) → r < 2 ^ 64 → BeginsWithout is_ascii_alphanumeric s
    → tokens (36 ∷ (decimal r ++ s))
    ≡ Next (record { kind = kinds.Register; text = 36 ∷ decimal r; rest = s }) (tokens s)
token-reg r s h stop =
    let run : prefix_len is_ascii_alphanumeric (decimal r ++ s) ≡ length (decimal r) =
    prefix_len-run is_ascii_alphanumeric (decimal r) s (digits_alphanumeric (decimal r) (decimal-digits r h)) stop in
    token-next 36 (decimal r) s kinds.Register refl (λ e. cc)
    (register_at (decimal r ++ s) ∙ ap (if_any kinds.Register) run
    ∙ some_more kinds.Register (length (decimal r)) (decimal_nonempty r h))

-- a register by two letters or digits
pub token-letters : (a b : ℕ) (s : List ℕ) → is_ascii_alphanumeric a ≡ true
    → is_ascii_alphanumeric b ≡ true → BeginsWithout is_ascii_alphanumeric s
    → tokens (36 ∷ a ∷ b ∷ s) ≡ Next (record { kind = kinds.Register; text = 36 ∷ a ∷ b ∷ []; rest = s }) (tokens s)
token-letters a b s first second stop =
    let run : prefix_len is_ascii_alphanumeric (a ∷ b ∷ s) ≡ 2 =
    prefix_len-run is_ascii_alphanumeric (a ∷ b ∷ []) s (rw (first, second) refl) stop in
    token-next 36 (a ∷ b ∷ []) s kinds.Register refl (λ e. cc)
    (register_at (a ∷ b ∷ s) ∙ ap (if_any kinds.Register) run)

pub number_at : (b : ℕ) (s : List ℕ) → begins_name b ≡ false → is_ascii_digit b ≡ true
    → token_at b s ≡ Some (kinds.Number, number_more b s)
unfolding token_at
number_at b s a d = rw (a, d) refl

-- a digit begins no name, is no blank and no `#`
pub is_ascii_digit-begins_nothing : (b : ℕ) → is_ascii_digit b ≡ true
    → (begins_name b ≡ false) × (is_blank b ≡ false) × (b ≢ 35) × (eqb b 120 ≡ false)
is_ascii_digit-begins_nothing b h = grind (arith, nat_tests)

pub no_hex : (b : ℕ) (s : List ℕ) → BeginsWithout (λ c. eqb c 120) s → hex_len b s ≡ 0
no_hex b [] stop = refl
no_hex b (c ∷ s) stop =
    rw stop
    (elim (eqb b 48) as (λ v. cond (v && false) (prefix_len is_ascii_hexdigit s) 0 ≡ 0) [ true ↦ refl | false ↦ refl ])

alphanumeric_apart : (b : ℕ) → is_ascii_alphanumeric b ≡ false → (is_ascii_digit b ≡ false) × (eqb b 120 ≡ false)
alphanumeric_apart b h = grind (arith, nat_tests)

no_digits : (s : List ℕ) → BeginsWithout is_ascii_alphanumeric s → BeginsWithout is_ascii_digit s
no_digits [] stop = tt
no_digits (b ∷ s) stop = (alphanumeric_apart b stop).0

digits-no_x : (ds s : List ℕ) → all_ascii_digits ds ≡ true → BeginsWithout is_ascii_alphanumeric s
    → BeginsWithout (λ c. eqb c 120) (ds ++ s)
digits-no_x [] [] h stop = tt
digits-no_x [] (b ∷ s) h stop = (alphanumeric_apart b stop).1
digits-no_x (d ∷ ds) s h stop =
    (is_ascii_digit-begins_nothing d (and_parts (is_ascii_digit d) (all_ascii_digits ds) h).0).3

more_digits : (b : ℕ) (ds s : List ℕ) → all_ascii_digits ds ≡ true → BeginsWithout is_ascii_alphanumeric s
    → number_more b (ds ++ s) ≡ length ds
more_digits b ds s h stop =
    rw (no_hex b (ds ++ s) (digits-no_x ds s h stop))
    (prefix_len-run is_ascii_digit ds s (digits_numbers ds h) (no_digits s stop))

token-digits : (ds s : List ℕ) → all_ascii_digits ds ≡ true → 0 < length ds → BeginsWithout is_ascii_alphanumeric s
    → tokens (ds ++ s) ≡ Next (record { kind = kinds.Number; text = ds; rest = s }) (tokens s)
token-digits [] s h inside stop = absurd (omega arith)
token-digits (b ∷ ds) s h inside stop =
    let (a, rest) = and_parts (is_ascii_digit b) (all_ascii_digits ds) h in
    let (no_name, plain, apart, other) = is_ascii_digit-begins_nothing b a in
    token-next b ds s kinds.Number plain apart
    (number_at b (ds ++ s) no_name a ∙ ap (λ n. Some (kinds.Number, n)) (more_digits b ds s rest stop))

pub token-num : (n : ℕ) (s : List ℕ) → n < 2 ^ 64 → BeginsWithout is_ascii_alphanumeric s
    → tokens (decimal n ++ s) ≡ Next (record { kind = kinds.Number; text = decimal n; rest = s }) (tokens s)
token-num n s h stop = token-digits (decimal n) s (decimal-digits n h) (decimal_nonempty n h) stop

pub append-nil_right : (ds : List ℕ) → ds ++ [] ≡ ds
append-nil_right [] = refl
append-nil_right (d ∷ ds) = ap (λ t. d ∷ t) (append-nil_right ds)

value_digits : (ds : List ℕ) → all_ascii_digits ds ≡ true → 0 < length ds → number_value ds ≡ digits_value 10 ds
value_digits [] h inside = absurd (omega arith)
value_digits (b ∷ ds) h inside =
    let (a, rest) = and_parts (is_ascii_digit b) (all_ascii_digits ds) h in
    let none : hex_len b ds ≡ 0 = no_hex b ds (rw (append-nil_right ds) at (digits-no_x ds [] rest tt)) in
    rw none refl

pub number_value-decimal : (n : ℕ) → n < 2 ^ 64 → number_value (decimal n) ≡ n
number_value-decimal n h =
    value_digits (decimal n) (decimal-digits n h) (decimal_nonempty n h)
    ∙ digits_value-decimal (numerals_by_value _ tells_all_ascii_digits) n h

-- a letter, and then what goes on a name
abbrev pub is_word : List ℕ → Bool
is_word [] = false
is_word (b ∷ ds) = is_ascii_alphabetic b && list_all goes_on_name ds

pub is_ascii_alphabetic-begins_name : (b : ℕ) → is_ascii_alphabetic b ≡ true
    → (begins_name b ≡ true) × (eqb b 46 ≡ false)
is_ascii_alphabetic-begins_name b h = (rw h refl, grind (arith, nat_tests))

not-true : (b : Bool) → not b ≡ true → b ≡ false
not-true true h = cc
not-true false h = refl

-- what begins a name is no blank and no `#`
begins_apart : (b : ℕ) → begins_name b ≡ true → (is_blank b ≡ false) × (b ≢ 35)
begins_apart b h = grind (arith, nat_tests)

name_at : (b : ℕ) (s : List ℕ) → begins_name b ≡ true → eqb b 46 ≡ false
    → token_at b s ≡ Some (kinds.Name, prefix_len goes_on_name s)
unfolding token_at
name_at b s a d = rw (a, d) refl

named_at : (b : ℕ) (s : List ℕ) → begins_name b ≡ true
    → token_at b s ≡ Some (name_kind b (prefix_len goes_on_name s), prefix_len goes_on_name s)
unfolding token_at
named_at b s a = rw a refl

kind_named : (b n : ℕ) → not (eqb b 46 && eqb n 0) ≡ true → name_kind b n ≡ kinds.Name
kind_named b n h = let e : (eqb b 46 && eqb n 0) ≡ false = not-true (eqb b 46 && eqb n 0) h in rw e refl

-- a name that isn't `.` alone
pub token-named : (b : ℕ) (ds s : List ℕ) → begins_name b ≡ true → not (eqb b 46 && eqb (length ds) 0) ≡ true
    → list_all goes_on_name ds ≡ true → BeginsWithout goes_on_name s
    → tokens ((b ∷ ds) ++ s) ≡ Next (record { kind = kinds.Name; text = b ∷ ds; rest = s }) (tokens s)
token-named b ds s begins more rest stop =
    let (plain, apart) = begins_apart b begins in
    token-next b ds s kinds.Name plain apart
    (named_at b (ds ++ s) begins ∙ ap (λ n. Some (name_kind b n, n)) (prefix_len-run goes_on_name ds s rest stop)
    ∙ ap (λ k. Some (k, length ds)) (kind_named b (length ds) more))

-- a name that doesn't begin with `.`
pub token-begun : (b : ℕ) (ds s : List ℕ) → begins_name b ≡ true → eqb b 46 ≡ false
    → list_all goes_on_name ds ≡ true → BeginsWithout goes_on_name s
    → tokens ((b ∷ ds) ++ s) ≡ Next (record { kind = kinds.Name; text = b ∷ ds; rest = s }) (tokens s)
token-begun b ds s begins dot rest stop =
    let (plain, apart) = begins_apart b begins in
    token-next b ds s kinds.Name plain apart
    (name_at b (ds ++ s) begins dot ∙ ap (λ n. Some (kinds.Name, n)) (prefix_len-run goes_on_name ds s rest stop))

pub tokens-none : tokens [] ≡ End 0
unfolding tokens
tokens-none = refl

pub tokens-space : (s : List ℕ) → tokens (32 ∷ s) ≡ tokens s
unfolding tokens
tokens-space s = refl

pub tokens-comma_first : (s : List ℕ)
    → tokens (44 ∷ s) ≡ Next (record { kind = kinds.Comma; text = 44 ∷ []; rest = s }) (tokens s)
unfolding token_at
tokens-comma_first s = token-mark 44 s kinds.Comma refl (λ e. cc) refl

pub token-open : (s : List ℕ)
    → tokens (40 ∷ s) ≡ Next (record { kind = kinds.Open; text = 40 ∷ []; rest = s }) (tokens s)
unfolding token_at
token-open s = token-mark 40 s kinds.Open refl (λ e. cc) refl

pub token-close : (s : List ℕ)
    → tokens (41 ∷ s) ≡ Next (record { kind = kinds.Close; text = 41 ∷ []; rest = s }) (tokens s)
unfolding token_at
token-close s = token-mark 41 s kinds.Close refl (λ e. cc) refl

pub token-minus : (s : List ℕ)
    → tokens (45 ∷ s) ≡ Next (record { kind = kinds.Minus; text = 45 ∷ []; rest = s }) (tokens s)
unfolding token_at
token-minus s = token-mark 45 s kinds.Minus refl (λ e. cc) refl

pub token-plus : (s : List ℕ)
    → tokens (43 ∷ s) ≡ Next (record { kind = kinds.Plus; text = 43 ∷ []; rest = s }) (tokens s)
unfolding token_at
token-plus s = token-mark 43 s kinds.Plus refl (λ e. cc) refl

-- a `.` before a sign
pub token-dot : (b : ℕ) (s : List ℕ) → goes_on_name b ≡ false
    → tokens (46 ∷ b ∷ s) ≡ Next (record { kind = kinds.Dot; text = 46 ∷ []; rest = b ∷ s }) (tokens (b ∷ s))
unfolding token_at
token-dot b s h = token-mark 46 (b ∷ s) kinds.Dot refl (λ e. cc) (rw h refl)

pub token-high : (s : List ℕ)
    → tokens (37 ∷ 104 ∷ 105 ∷ 40 ∷ s)
    ≡ Next (record { kind = kinds.Operator; text = 37 ∷ 104 ∷ 105 ∷ []; rest = 40 ∷ s }) (tokens (40 ∷ s))
unfolding token_at
token-high s = token-next 37 (104 ∷ 105 ∷ []) (40 ∷ s) kinds.Operator refl (λ e. cc) refl

pub token-low : (s : List ℕ)
    → tokens (37 ∷ 108 ∷ 111 ∷ 40 ∷ s)
    ≡ Next (record { kind = kinds.Operator; text = 37 ∷ 108 ∷ 111 ∷ []; rest = 40 ∷ s }) (tokens (40 ∷ s))
unfolding token_at
token-low s = token-next 37 (108 ∷ 111 ∷ []) (40 ∷ s) kinds.Operator refl (λ e. cc) refl

-- the mark of a byte
abbrev pub mark_kind : ℕ → TokenKind
mark_kind b =
    if b == 44 then kinds.Comma else if b == 40 then kinds.Open else if b == 41 then kinds.Close else if b == 43
    then kinds.Plus
    else if b == 45 then kinds.Minus else kinds.Dot

-- a word as a token before a text
abbrev pub token_of : Word → List ℕ → Lexeme
token_of (reg r) s = record { kind = kinds.Register; text = 36 ∷ decimal r; rest = s }
token_of (num n) s = record { kind = kinds.Number; text = decimal n; rest = s }
token_of (mark b) s = record { kind = mark_kind b; text = b ∷ []; rest = s }

-- each word is a token of its own where the words stand one behind the other
abbrev pub AreApartTokens : List Word → Type 0
AreApartTokens [] = Unit {0}
AreApartTokens (reg r ∷ ws) = (r < 32) × BeginsWithout is_ascii_alphanumeric (spell ws) × AreApartTokens ws
AreApartTokens (num n ∷ ws) = (n < 2 ^ 64) × BeginsWithout is_ascii_alphanumeric (spell ws) × AreApartTokens ws
AreApartTokens (mark b ∷ ws) =
    (tokens (b ∷ spell ws) ≡ Next (token_of (mark b) (spell ws)) (tokens (spell ws))) × AreApartTokens ws

abbrev pub tokens_of : List Word → Tokens
tokens_of [] = End 0
tokens_of (w ∷ ws) = Next (token_of w (spell ws)) (tokens_of ws)

spelled-tokens : (ws : List Word) → AreApartTokens ws → tokens (spell ws) ≡ tokens_of ws
spelled-tokens [] apart = tokens-none
spelled-tokens (reg r ∷ ws) (small, ends, apart) =
    token-reg r (spell ws) (omega arith) ends ∙ ap (Next (token_of (reg r) (spell ws))) (spelled-tokens ws apart)
spelled-tokens (num n ∷ ws) (small, ends, apart) =
    token-num n (spell ws) small ends ∙ ap (Next (token_of (num n) (spell ws))) (spelled-tokens ws apart)
spelled-tokens (mark b ∷ ws) (at, apart) = at ∙ ap (Next (token_of (mark b) (spell ws))) (spelled-tokens ws apart)

pub behind-tokens : (ws : List Word) → AreApartTokens ws → tokens (behind_name ws) ≡ tokens_of ws
behind-tokens [] apart = tokens-none
behind-tokens (w ∷ ws) apart = tokens-space (spell (w ∷ ws)) ∙ spelled-tokens (w ∷ ws) apart
