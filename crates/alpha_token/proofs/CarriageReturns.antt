-- A carriage return behind a line begins no token: the line's tokens are the same, or a bad one stands there.
use Rattle.std.proofs.Common.{◌≡◌, ◌⊎◌, ℕ, List, [], ◌∷◌, ◌++◌, ◌≤◌, ◌<◌, ◌+◌, Bool, true, false, cond, eqb, ◌&&◌}
use Rattle.std.proofs.Common.{Option, None, Some, drop, take, length, refl, ◌∙◌, ap, inl, inr, arith}
use Prim.Native.Nat.{zero, suc}
use Rattle.std.specs.List.{prefix_len}
use Rattle.std.specs.Option.{option_map}
use Rattle.std.specs.Char.{is_ascii_alphabetic, is_ascii_alphanumeric, is_ascii_digit, is_ascii_hexdigit}
use Rattle.std.proofs.lemmas.List.{take-append-le, drop-append-le}
use Rattle.std.proofs.lemmas.List.Sums.{prefix_len-le-length}
use Rattle.std.proofs.lemmas.Bool.Decides.{nat_tests}
use Rattle.alpha_token.specs.declared.token.TokenKind.{TokenKind}
use Rattle.alpha_token.specs.declared.token.TokenKind.TheVariants.{Register, Number, Operator, Text}
use Rattle.alpha_token.specs.Bytes.{is_blank, begins_name, goes_on_name}
use Rattle.alpha_token.specs.Numeral.{hex_len, number_more}
use Rattle.alpha_token.specs.Quoted.{byte_at, quoted_len}
use Rattle.alpha_token.specs.Tokens.{Lexeme, Tokens, End, Bad, Next, mark, token_at, put_before, tokens_after, tokens}
use Rattle.alpha_token.proofs.StringLengths.{option_map-some}
use Rattle.alpha_token.proofs.ConditionalChoices.{cond-either, choose_both}
use Rattle.alpha_token.proofs.QuotedTexts.{quoted_len-open}
use Rattle.alpha_token.proofs.SplitLines.{Within, SameWithin, found-within, any-within, mark-within, token-same}

abbrev pub with_return : List ℕ → List ℕ
with_return a = a ++ 13 ∷ []

-- a run of bytes ends before it
pub prefix-return : (p : ℕ → Bool) (a : List ℕ) → p 13 ≡ false → prefix_len p (with_return a) ≡ prefix_len p a
prefix-return p [] h = rw h refl
prefix-return p (b ∷ a) h = ap (λ n. cond (p b) (1 + n) 0) (prefix-return p a h)

prefix-inside : (p : ℕ → Bool) (a : List ℕ) → p 13 ≡ false → prefix_len p (with_return a) ≤ length a
prefix-inside p a h = omega (arith, prefix-return p a h, prefix_len-le-length p a)

hex-inside : (b : ℕ) (a : List ℕ) → (hex_len b (with_return a) ≡ 0) ⊎ (hex_len b (with_return a) < length a)
hex-inside b [] = inl (cond-either (λ r. r ≡ 0) (eqb b 48 && eqb 13 120) 0 0 (λ e. refl) (λ e. refl))
hex-inside b (x ∷ a) =
    cond-either (λ r. (r ≡ 0) ⊎ (r < length (x ∷ a))) (eqb b 48 && eqb x 120) _ _
    (λ e. inr (let l = prefix-inside is_ascii_hexdigit a refl in omega arith)) (λ e. inl refl)

number-inside : (b : ℕ) (a : List ℕ) → number_more b (with_return a) ≤ length a
number-inside b a =
    cond-either (λ r. r ≤ length a) (eqb (hex_len b (with_return a)) 0) _ _ (λ e. prefix-inside is_ascii_digit a refl)
    (λ e.
    elim (hex-inside b a) [
      | inl z ↦ absurd (grind (arith, nat_tests))
      | inr l ↦ omega arith
    ])

quoted-inside : (skip : ℕ) (a : List ℕ) (n : ℕ) → quoted_len skip (with_return a) ≡ Some n → n < length a
unfolding byte_at
quoted-inside zero [] n h = cc
quoted-inside (suc skip) [] n h = cc
quoted-inside (suc skip) (b ∷ a) n h =
    let (m, e, same) = option_map-some suc (quoted_len skip (with_return a)) n h in
    let l : m < length a = quoted-inside skip a m e in
    omega arith
quoted-inside zero (b ∷ a) n h =
    let either : (x : Bool) → eqb b 34 ≡ x → n < length (b ∷ a) =
    λ x. elim x as (λ y. eqb b 34 ≡ y → n < length (b ∷ a)) [
      | true ↦ λ e. let k : Some 0 ≡ Some n = rw e at h in let z : 0 ≡ n = cc in omega arith
      | false ↦ λ e. let (v, at, (m, f, same)) = quoted_len-open b (with_return a) n e h in
          let l : m < length a = quoted-inside v.1 a m f in
          omega arith
    ] in
    either (eqb b 34) refl

text-inside : (a : List ℕ) → Within (length a) (option_map (λ n. (Text, suc n)) (quoted_len 0 (with_return a)))
text-inside a v h =
    let (n, f, same) = option_map-some (λ (n : ℕ). (Text, suc n)) (quoted_len 0 (with_return a)) v h in
    let e : suc n ≡ v.1 = ap (λ (w : TokenKind × ℕ). w.1) same in
    let l : n < length a = quoted-inside 0 a n f in
    omega arith

-- so does a token
token-inside : (b : ℕ) (a : List ℕ) → Within (length a) (token_at b (with_return a))
unfolding token_at
token-inside b a =
    cond-either (Within (length a)) (begins_name b) _ _
    (λ e. found-within (length a) (prefix_len goes_on_name (with_return a)) _ (prefix-inside goes_on_name a refl)) (λ e.
    cond-either (Within (length a)) (is_ascii_digit b) _ _
    (λ e. found-within (length a) (number_more b (with_return a)) Number (number-inside b a)) (λ e.
    cond-either (Within (length a)) (eqb b 36) _ _
    (λ e. any-within (length a) (prefix_len is_ascii_alphanumeric (with_return a)) Register
    (prefix-inside is_ascii_alphanumeric a refl))
    (λ e.
    cond-either (Within (length a)) (eqb b 37) _ _
    (λ e. any-within (length a) (prefix_len is_ascii_alphabetic (with_return a)) Operator
    (prefix-inside is_ascii_alphabetic a refl))
    (λ e.
    cond-either (Within (length a)) (eqb b 34) _ _ (λ e. text-inside a) (λ e. mark-within (length a) (mark b))))))

-- a token with the carriage return behind it
abbrev pub lexeme-with_return : Lexeme → Lexeme
lexeme-with_return t = record { kind = t.kind; text = t.text; rest = with_return t.rest }

-- The tokens of a line, and those of the line with the carriage return. Of the latter a bad one says nothing.
abbrev pub Returned : Tokens → Tokens → Type 0
Returned (End m) (End n) = Unit {0}
Returned (End m) (Bad n) = Unit {0}
Returned (End m) (Next t ts) = ⊥
Returned (Bad m) (End n) = ⊥
Returned (Bad m) (Bad n) = Unit {0}
Returned (Bad m) (Next t ts) = ⊥
Returned (Next u us) (End n) = ⊥
Returned (Next u us) (Bad n) = Unit {0}
Returned (Next u us) (Next t ts) = (t ≡ lexeme-with_return u) × Returned us ts

bad-with_return : (ts : Tokens) (n : ℕ) → Returned ts (Bad n)
bad-with_return (End m) n = tt
bad-with_return (Bad m) n = tt
bad-with_return (Next t ts) n = tt

put-with_return : (b : ℕ) (a : List ℕ) (whole cut : Option (TokenKind × ℕ)) → Within (length a) whole
    → SameWithin (length a) whole cut
    → ((k : ℕ) → k ≤ length a → Returned (tokens_after k a) (tokens_after k (with_return a)))
    → Returned (put_before (b ∷ a) cut (λ more. tokens_after more a) b a)
    (put_before (b ∷ with_return a) whole (λ more. tokens_after more (with_return a)) b (with_return a))
put-with_return b a None cut within same behind =
    bad-with_return (put_before (b ∷ a) cut (λ more. tokens_after more a) b a) (length (b ∷ with_return a))
put-with_return b a (Some v) cut within same behind =
    let m : v.1 ≤ length a = within v refl in
    rw (same v refl m) (
      ap (λ (x : List ℕ). (let t : Lexeme = record { kind = v.0; text = b ∷ x; rest = drop v.1 (with_return a) } in t))
          (take-append-le v.1 a (13 ∷ []) m)
          ∙ ap (λ (x : List ℕ). (let t : Lexeme = record { kind = v.0; text = b ∷ take v.1 a; rest = x } in t))
          (drop-append-le v.1 a (13 ∷ []) m),
      behind v.1 m,
    )

return-bad : tokens_after 0 (13 ∷ []) ≡ Bad 1
unfolding token_at
return-bad = refl

after-with_return : (skip : ℕ) (a : List ℕ) → skip ≤ length a
    → Returned (tokens_after skip a) (tokens_after skip (with_return a))
after-with_return zero [] l = rw return-bad tt
after-with_return (suc skip) [] l = absurd (omega arith)
after-with_return (suc skip) (b ∷ a) l = after-with_return skip a (omega arith)
after-with_return zero (b ∷ a) l =
    choose_both Returned (is_blank b) _ _ _ _ (after-with_return zero a (omega arith)) (
    choose_both Returned (eqb b 35) _ _ _ _ tt (
    put-with_return b a (token_at b (with_return a)) (token_at b a) (token-inside b a) (token-same b a (13 ∷ []))
    (λ k m. after-with_return k a m)))

pub tokens-with_return : (a : List ℕ) → Returned (tokens a) (tokens (with_return a))
unfolding tokens
tokens-with_return a = after-with_return 0 a (omega arith)
