-- A line that is cut behind its last token has the same tokens.
use Rattle.std.proofs.Common.{◌≡◌, ◌⊎◌, ℕ, List, [], ◌∷◌, ◌++◌, ◌≤◌, ◌<◌, ◌+◌, Bool, true, false, cond, eqb, ◌&&◌}
use Rattle.std.proofs.Common.{Option, None, Some, drop, length, length-append, length-drop, refl, sym, ◌∙◌, ap, inl}
use Rattle.std.proofs.Common.{inr, arith}
use Prim.Native.Nat.{zero, suc}
use Rattle.std.specs.List.{prefix_len}
use Rattle.std.specs.Option.{option_map}
use Rattle.std.specs.Char.{is_ascii_alphabetic, is_ascii_alphanumeric, is_ascii_digit, is_ascii_hexdigit}
use Rattle.std.proofs.lemmas.List.{take-append-le}
use Rattle.std.proofs.lemmas.List.Sums.{prefix_len-le-length}
use Rattle.std.proofs.lemmas.Bool.Decides.{nat_tests}
use Rattle.alpha_token.specs.declared.token.TokenKind.{TokenKind}
use Rattle.alpha_token.specs.declared.token.TokenKind.TheVariants.{Register, Number, Operator, Text}
use Rattle.alpha_token.specs.Bytes.{is_blank, begins_name, goes_on_name}
use Rattle.alpha_token.specs.Numeral.{hex_len, number_more}
use Rattle.alpha_token.specs.Quoted.{quoted_len}
use Rattle.alpha_token.specs.Tokens.{Tokens, End, Bad, Next, name_kind, if_any, mark, token_at, put_before}
use Rattle.alpha_token.specs.Tokens.{tokens_after, tokens}
use Rattle.alpha_token.proofs.TokenSuffixes.{tokens_after-skip}
use Rattle.alpha_token.proofs.StringLengths.{option_map-some}
use Rattle.alpha_token.proofs.ConditionalChoices.{cond-either, choose_both}
use Rattle.alpha_token.proofs.QuotedTexts.{quoted_len-front, quoted_len-within}
use Rattle.alpha_token.proofs.TokenOrder.{AreInOrder, tokens-fall, LeftBehind, left-rest-falls}

-- a run of bytes that ends before the cut is the same
prefix_len-front : (p : ℕ → Bool) (a c : List ℕ) → prefix_len p (a ++ c) ≤ length a
    → prefix_len p a ≡ prefix_len p (a ++ c)
prefix_len-front p [] c h = omega arith
prefix_len-front p (b ∷ a) c h =
    choose_both (λ r t. r ≤ length (b ∷ a) → t ≡ r) (p b) (1 + prefix_len p (a ++ c)) 0 (1 + prefix_len p a) 0
    (λ l. let e : prefix_len p a ≡ prefix_len p (a ++ c) = prefix_len-front p a c (omega arith) in ap (λ n. 1 + n) e)
    (λ l. refl) h

hex_len-front : (b : ℕ) (a c : List ℕ) → (hex_len b (a ++ c) ≡ 0) ⊎ (hex_len b (a ++ c) < length a)
    → hex_len b a ≡ hex_len b (a ++ c)
hex_len-front b [] c (inl e) = sym e
hex_len-front b [] c (inr l) = absurd (omega arith)
hex_len-front b (x ∷ a) c h =
    choose_both (λ r t. (r ≡ 0) ⊎ (r < length (x ∷ a)) → t ≡ r) (eqb b 48 && eqb x 120)
    (prefix_len is_ascii_hexdigit (a ++ c)) 0 (prefix_len is_ascii_hexdigit a) 0
    (λ k. prefix_len-front is_ascii_hexdigit a c (elim k [ inl e ↦ omega arith | inr l ↦ omega arith ])) (λ k. refl) h

-- how many further bytes a number has
abbrev more_of : ℕ → ℕ → ℕ
more_of hex digits = cond (eqb hex 0) digits (1 + hex)

more_of-within : (hex digits n : ℕ) → more_of hex digits ≤ n
    → ((hex ≡ 0) × (digits ≤ n)) ⊎ ((eqb hex 0 ≡ false) × (hex < n))
more_of-within hex digits n h =
    let either : (x : Bool) → eqb hex 0 ≡ x → cond x digits (1 + hex) ≤ n
    → ((hex ≡ 0) × (digits ≤ n)) ⊎ ((eqb hex 0 ≡ false) × (hex < n)) =
    λ x. elim x as (λ y. eqb hex 0 ≡ y → cond y digits (1 + hex) ≤ n
    → ((hex ≡ 0) × (digits ≤ n)) ⊎ ((eqb hex 0 ≡ false) × (hex < n))) [
      | true ↦ λ e l. inl (let z : hex ≡ 0 = grind (arith, nat_tests) in z, l)
      | false ↦ λ e l. inr (e, omega arith)
    ] in
    either (eqb hex 0) refl h

number_more-front : (b : ℕ) (a c : List ℕ) → number_more b (a ++ c) ≤ length a
    → number_more b a ≡ number_more b (a ++ c)
number_more-front b a c h =
    elim (more_of-within (hex_len b (a ++ c)) (prefix_len is_ascii_digit (a ++ c)) (length a) h) [
      | inl (e, l) ↦ rw (hex_len-front b a c (inl e), prefix_len-front is_ascii_digit a c l) refl
      | inr (e, l) ↦ rw (hex_len-front b a c (inr l), e) refl
    ]

hex_len-within : (b : ℕ) (s : List ℕ) → 0 < hex_len b s → hex_len b s < length s
hex_len-within b [] h = absurd (omega arith)
hex_len-within b (x ∷ s) h =
    cond-either (λ r. 0 < r → r < length (x ∷ s)) (eqb b 48 && eqb x 120) _ _
    (λ e k. omega (arith, prefix_len-le-length is_ascii_hexdigit s)) (λ e k. absurd (omega arith)) h

number_more-within : (b : ℕ) (s : List ℕ) → number_more b s ≤ length s
number_more-within b s =
    let either : (x : Bool) → eqb (hex_len b s) 0 ≡ x
    → cond x (prefix_len is_ascii_digit s) (1 + hex_len b s) ≤ length s =
    λ x. elim x as (λ y. eqb (hex_len b s) 0 ≡ y → cond y (prefix_len is_ascii_digit s) (1 + hex_len b s) ≤ length s) [
      | true ↦ λ e. prefix_len-le-length is_ascii_digit s
      | false ↦ λ e. let l : 0 < hex_len b s = grind (arith, nat_tests) in
          let k : hex_len b s < length s = hex_len-within b s l in
          omega arith
    ] in
    either (eqb (hex_len b s) 0) refl

-- a token has no more bytes than there are
abbrev pub Within : ℕ → Option (TokenKind × ℕ) → Type 0
Within n found = (v : TokenKind × ℕ) → found ≡ Some v → v.1 ≤ n

pub found-within : (n more : ℕ) (kind : TokenKind) → more ≤ n → Within n (Some (kind, more))
found-within n more kind l v h =
    let same : (let w : TokenKind × ℕ = (kind, more) in w) ≡ v = cc in
    let e : more ≡ v.1 = ap (λ (w : TokenKind × ℕ). w.1) same in
    omega arith

pub any-within : (n more : ℕ) (kind : TokenKind) → more ≤ n → Within n (if_any kind more)
any-within n more kind l = cond-either (Within n) (eqb more 0) _ _ (λ e v h. cc) (λ e. found-within n more kind l)

text-within : (s : List ℕ) → Within (length s) (option_map (λ n. (Text, suc n)) (quoted_len 0 s))
text-within s v h =
    let (n, f, same) = option_map-some (λ (n : ℕ). (Text, suc n)) (quoted_len 0 s) v h in
    let e : suc n ≡ v.1 = ap (λ (w : TokenKind × ℕ). w.1) same in
    let l : n < length s = quoted_len-within 0 s n f in
    omega arith

pub mark-within : (n : ℕ) (o : Option TokenKind) → Within n (option_map (λ kind. (kind, 0)) o)
mark-within n o v h =
    let (kind, f, same) = option_map-some (λ (kind : TokenKind). (kind, 0)) o v h in
    let e : 0 ≡ v.1 = ap (λ (w : TokenKind × ℕ). w.1) same in
    omega arith

token-within : (b : ℕ) (s : List ℕ) → Within (length s) (token_at b s)
unfolding token_at
token-within b s =
    cond-either (Within (length s)) (begins_name b) _ _
    (λ e. found-within (length s) (prefix_len goes_on_name s) _ (prefix_len-le-length goes_on_name s)) (λ e.
    cond-either (Within (length s)) (is_ascii_digit b) _ _
    (λ e. found-within (length s) (number_more b s) Number (number_more-within b s)) (λ e.
    cond-either (Within (length s)) (eqb b 36) _ _
    (λ e.
    any-within (length s) (prefix_len is_ascii_alphanumeric s) Register (prefix_len-le-length is_ascii_alphanumeric s))
    (λ e.
    cond-either (Within (length s)) (eqb b 37) _ _
    (λ e.
    any-within (length s) (prefix_len is_ascii_alphabetic s) Operator (prefix_len-le-length is_ascii_alphabetic s))
    (λ e.
    cond-either (Within (length s)) (eqb b 34) _ _ (λ e. text-within s) (λ e. mark-within (length s) (mark b))))))

-- a token that ends within n bytes is the same in a second text
abbrev pub SameWithin : ℕ → Option (TokenKind × ℕ) → Option (TokenKind × ℕ) → Type 0
SameWithin n whole cut = (v : TokenKind × ℕ) → whole ≡ Some v → v.1 ≤ n → cut ≡ Some v

found-same : (n : ℕ) (kind : ℕ → TokenKind) (whole cut : ℕ) → (whole ≤ n → cut ≡ whole)
    → SameWithin n (Some (kind whole, whole)) (Some (kind cut, cut))
found-same n kind whole cut same v h l =
    let w : (let w : TokenKind × ℕ = (kind whole, whole) in w) ≡ v = cc in
    let e : whole ≡ v.1 = ap (λ (w : TokenKind × ℕ). w.1) w in
    ap (λ m. Some (kind m, m)) (same (omega arith)) ∙ h

any-size : (kind : TokenKind) (more : ℕ) (v : TokenKind × ℕ) → if_any kind more ≡ Some v → more ≡ v.1
any-size kind more v h =
    cond-either (λ (r : Option (TokenKind × ℕ)). r ≡ Some v → more ≡ v.1) (eqb more 0) _ _ (λ e k. cc)
    (λ e k. let w : (let w : TokenKind × ℕ = (kind, more) in w) ≡ v = cc in ap (λ (w : TokenKind × ℕ). w.1) w) h

any-same : (n : ℕ) (kind : TokenKind) (whole cut : ℕ) → (whole ≤ n → cut ≡ whole)
    → SameWithin n (if_any kind whole) (if_any kind cut)
any-same n kind whole cut same v h l =
    let e : whole ≡ v.1 = any-size kind whole v h in
    ap (if_any kind) (same (omega arith)) ∙ h

text-same : (a c : List ℕ)
    → SameWithin (length a) (option_map (λ n. (Text, suc n)) (quoted_len 0 (a ++ c)))
    (option_map (λ n. (Text, suc n)) (quoted_len 0 a))
text-same a c v h l =
    let (n, f, same) = option_map-some (λ (n : ℕ). (Text, suc n)) (quoted_len 0 (a ++ c)) v h in
    let e : suc n ≡ v.1 = ap (λ (w : TokenKind × ℕ). w.1) same in
    rw (quoted_len-front 0 a c n f (omega arith)) (ap Some same)

pub token-same : (b : ℕ) (a c : List ℕ) → SameWithin (length a) (token_at b (a ++ c)) (token_at b a)
unfolding token_at
token-same b a c =
    choose_both (SameWithin (length a)) (begins_name b) _ _ _ _
    (found-same (length a) (name_kind b) (prefix_len goes_on_name (a ++ c)) (prefix_len goes_on_name a)
    (prefix_len-front goes_on_name a c)) (
    choose_both (SameWithin (length a)) (is_ascii_digit b) _ _ _ _
    (found-same (length a) (λ n. Number) (number_more b (a ++ c)) (number_more b a) (number_more-front b a c)) (
    choose_both (SameWithin (length a)) (eqb b 36) _ _ _ _
    (any-same (length a) Register (prefix_len is_ascii_alphanumeric (a ++ c)) (prefix_len is_ascii_alphanumeric a)
    (prefix_len-front is_ascii_alphanumeric a c)) (
    choose_both (SameWithin (length a)) (eqb b 37) _ _ _ _
    (any-same (length a) Operator (prefix_len is_ascii_alphabetic (a ++ c)) (prefix_len is_ascii_alphabetic a)
    (prefix_len-front is_ascii_alphabetic a c)) (
    choose_both (SameWithin (length a)) (eqb b 34) _ _ _ _ (text-same a c) (λ v h l. h)))))

-- The tokens of a text and those of the same text with more bytes behind it: one by one alike. Each of the text's
-- tokens has the tokens of its rest behind it.
abbrev pub TokensAlike : List ℕ → Tokens → Tokens → Type 0
TokensAlike c (End cut) (End whole) = cut ≡ 0
TokensAlike c (End cut) (Bad whole) = ⊥
TokensAlike c (End cut) (Next t ts) = ⊥
TokensAlike c (Bad cut) whole = ⊥
TokensAlike c (Next u us) (End whole) = ⊥
TokensAlike c (Next u us) (Bad whole) = ⊥
TokensAlike c (Next u us) (Next t ts) =
    (u.kind ≡ t.kind) × (u.text ≡ t.text) × (us ≡ tokens u.rest) × TokensAlike c us ts

TokensAlike-End : (c : List ℕ) (n : ℕ) (ts : Tokens) → AreInOrder (length c) ts → LeftBehind n ts (length c)
    → TokensAlike c (End 0) ts
TokensAlike-End c n (End left) f h = refl
TokensAlike-End c n (Bad left) f h = h
TokensAlike-End c n (Next t ts) (a, b, fall) h =
    let l : length c ≤ length t.rest = left-rest-falls (length t.rest) ts (length c) fall h in
    omega arith

put-alike : (b : ℕ) (a c : List ℕ) (n : ℕ) (whole cut : Option (TokenKind × ℕ)) → Within (length (a ++ c)) whole
    → SameWithin (length a) whole cut →
    ((k : ℕ) → AreInOrder (length (drop k (a ++ c))) (tokens_after k (a ++ c))) →
    ((k : ℕ) → k ≤ length a → LeftBehind (length (drop k (a ++ c))) (tokens_after k (a ++ c)) (length c)
    → TokensAlike c (tokens_after k a) (tokens_after k (a ++ c))) →
    LeftBehind n (put_before (b ∷ (a ++ c)) whole (λ more. tokens_after more (a ++ c)) b (a ++ c)) (length c) →
    TokensAlike c (put_before (b ∷ a) cut (λ more. tokens_after more a) b a)
    (put_before (b ∷ (a ++ c)) whole (λ more. tokens_after more (a ++ c)) b (a ++ c))
unfolding tokens
put-alike b a c n None cut within same fall behind h = absurd h
put-alike b a c n (Some v) cut within same fall behind h =
    let l : length c ≤ length (drop v.1 (a ++ c)) =
    left-rest-falls (length (drop v.1 (a ++ c))) (tokens_after v.1 (a ++ c)) (length c) (fall v.1) h in
    let k : v.1 ≤ length (a ++ c) = within v refl in
    let m : v.1 ≤ length a = omega (arith, length-drop v.1 (a ++ c), length-append a c) in
    rw (same v refl m) (refl, ap (λ t. b ∷ t) (sym (take-append-le v.1 a c m)), tokens_after-skip v.1 a, behind v.1 m h)

tokens_after-fall : (k : ℕ) (s : List ℕ) → AreInOrder (length (drop k s)) (tokens_after k s)
unfolding tokens
tokens_after-fall k s = rw (tokens_after-skip k s) (tokens-fall (drop k s))

TokensAlike-cut : (skip : ℕ) (a c : List ℕ) (n : ℕ) → skip ≤ length a → length (drop skip (a ++ c)) ≤ n
    → LeftBehind n (tokens_after skip (a ++ c)) (length c)
    → TokensAlike c (tokens_after skip a) (tokens_after skip (a ++ c))
TokensAlike-cut zero [] c n l m h = TokensAlike-End c n (tokens_after 0 c) (tokens_after-fall 0 c) h
TokensAlike-cut (suc skip) [] c n l m h = absurd (omega arith)
TokensAlike-cut (suc skip) (b ∷ a) c n l m h = TokensAlike-cut skip a c n (omega arith) m h
TokensAlike-cut zero (b ∷ a) c n l m h =
    choose_both (λ r t. LeftBehind n r (length c) → TokensAlike c t r) (is_blank b) _ _ _ _
    (TokensAlike-cut zero a c n (omega arith) (omega arith)) (
    choose_both (λ r t. LeftBehind n r (length c) → TokensAlike c t r) (eqb b 35) _ _ _ _
    (λ e. absurd (omega (arith, length-append a c))) (
    put-alike b a c n (token_at b (a ++ c)) (token_at b a) (token-within b (a ++ c)) (token-same b a c)
    (λ k. tokens_after-fall k (a ++ c)) (λ k f e. TokensAlike-cut k a c (length (drop k (a ++ c))) f (omega arith) e)))
    h

pub tokens-cut : (a c : List ℕ) (n : ℕ) → length (a ++ c) ≤ n → LeftBehind n (tokens (a ++ c)) (length c)
    → TokensAlike c (tokens a) (tokens (a ++ c))
unfolding tokens
tokens-cut a c n m h = TokensAlike-cut 0 a c n (omega arith) m h
