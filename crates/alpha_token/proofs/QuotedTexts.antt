-- What stands between the quotes of a string is read to its end.
use Rattle.std.proofs.Common.{◌≡◌, ℕ, List, [], ◌∷◌, ◌++◌, ◌≤◌, ◌<◌, ◌+◌, ◌*◌, Bool, true, false, eqb, ◌&&◌, Option}
use Rattle.std.proofs.Common.{None, Some, take, drop, length, length-take, option_and_then, refl, sym, ◌∙◌, ap, subst}
use Rattle.std.proofs.Common.{arith}
use Prim.Native.Nat.{zero, suc}
use Rattle.std.specs.Option.{option_map}
use Rattle.std.specs.Char.{is_ascii_hexdigit, digit_value, is_ascii_digit, is_ascii_alphabetic, is_ascii_alphanumeric}
use Rattle.std.specs.List.{prefix_len}
use Rattle.std.proofs.lemmas.List.{take-append-drop, drop-take}
use Rattle.std.proofs.lemmas.Bool.Decides.{nat_tests}
use Rattle.std.proofs.Math.Nat.{add_comm}
use Rattle.alpha_token.specs.declared.token.TokenKind.{TokenKind}
use Rattle.alpha_token.specs.declared.token.TokenKind.TheVariants.{Name, Dot, Register, Number, Operator, Text}
use Rattle.alpha_token.specs.Bytes.{is_blank, begins_name, goes_on_name}
use Rattle.alpha_token.specs.Quoted.{unescape, hex_pair, escape, byte_at, first_byte, quoted_len, IsTextOf, IsText}
use Rattle.alpha_token.specs.Quoted.{IsString}
use Rattle.alpha_token.specs.Tokens.{Lexeme, Tokens, End, Bad, Next, mark, token_at, put_before, tokens_after, tokens}
use Rattle.alpha_token.proofs.ConditionalChoices.{cond-either, choose_both}
use Rattle.alpha_token.proofs.StringLengths.{option_map-some, quoted_len-skip}

pub option_and_then-some : {A B : Type 0} (f : A → Option B) (o : Option A) (y : B) → option_and_then f o ≡ Some y
    → (x : A) × (o ≡ Some x) × (f x ≡ Some y)
option_and_then-some f None y e = cc
option_and_then-some f (Some x) y e = (x, refl, e)

hex_pair-size : (s : List ℕ) (v : ℕ × ℕ) → hex_pair s ≡ Some v → v.1 ≡ 3
hex_pair-size [] v h = cc
hex_pair-size (a ∷ []) v h = cc
hex_pair-size (a ∷ b ∷ s) v h =
    cond-either (λ (r : Option (ℕ × ℕ)). r ≡ Some v → v.1 ≡ 3) (is_ascii_hexdigit a && is_ascii_hexdigit b) _ _
    (λ e k. let same : (let w : ℕ × ℕ = (16 * digit_value a + digit_value b, 3) in w) ≡ v = cc in
    sym (ap (λ (w : ℕ × ℕ). w.1) same))
    (λ e k. cc) h

-- what an escape is doesn't depend on what stands behind it
hex_pair-front : (a c : List ℕ) (v : ℕ × ℕ) → hex_pair (a ++ c) ≡ Some v → v.1 ≤ suc (length a) → hex_pair a ≡ Some v
hex_pair-front [] c v h l = let e : v.1 ≡ 3 = hex_pair-size c v h in absurd (omega arith)
hex_pair-front (x ∷ []) c v h l = let e : v.1 ≡ 3 = hex_pair-size (x ∷ c) v h in absurd (omega arith)
hex_pair-front (x ∷ y ∷ a) c v h l = h

unescape-size : (o : Option ℕ) (v : ℕ × ℕ) → option_map (λ x. (x, 1)) o ≡ Some v → v.1 ≡ 1
unescape-size o v h = let (x, e, same) = option_map-some (λ (x : ℕ). (x, 1)) o v h in sym (ap (λ (w : ℕ × ℕ). w.1) same)

escape-size : (s : List ℕ) (v : ℕ × ℕ) → escape s ≡ Some v → 1 ≤ v.1
escape-size [] v h = cc
escape-size (e ∷ s) v h =
    cond-either (λ (r : Option (ℕ × ℕ)). r ≡ Some v → 1 ≤ v.1) (eqb e 120) _ _
    (λ x k. let n : v.1 ≡ 3 = hex_pair-size s v k in omega arith)
    (λ x k. let n : v.1 ≡ 1 = unescape-size (unescape e) v k in omega arith) h

escape-front : (a c : List ℕ) (v : ℕ × ℕ) → escape (a ++ c) ≡ Some v → v.1 ≤ length a → escape a ≡ Some v
escape-front [] c v h l = let n : 1 ≤ v.1 = escape-size c v h in absurd (omega arith)
escape-front (e ∷ a) c v h l =
    choose_both (λ (r t : Option (ℕ × ℕ)). r ≡ Some v → t ≡ Some v) (eqb e 120) (hex_pair (a ++ c)) _ (hex_pair a) _
    (λ k. hex_pair-front a c v k (omega arith)) (λ k. k) h

pub byte_at-front : (b : ℕ) (a c : List ℕ) (v : ℕ × ℕ) → byte_at (b ∷ (a ++ c)) ≡ Some v → v.1 ≤ length a
    → byte_at (b ∷ a) ≡ Some v
unfolding byte_at
byte_at-front b a c v h l =
    choose_both (λ (r t : Option (ℕ × ℕ)). r ≡ Some v → t ≡ Some v) (eqb b 92) (escape (a ++ c)) _ (escape a) _
    (λ k. escape-front a c v k l) (λ k. k) h

-- a string that is closed: its first byte, and how many bytes stand before the closing quote behind that one
pub quoted_len-open : (b : ℕ) (s : List ℕ) (n : ℕ) → eqb b 34 ≡ false → quoted_len 0 (b ∷ s) ≡ Some n →
    (v : ℕ × ℕ) × (byte_at (b ∷ s) ≡ Some v) × ((m : ℕ) × (quoted_len v.1 s ≡ Some m) × (suc m ≡ n))
quoted_len-open b s n plain h =
    let k : option_and_then (λ v. option_map suc (quoted_len v.1 s)) (byte_at (b ∷ s)) ≡ Some n = rw plain at h in
    let (v, at, e) = option_and_then-some (λ (v : ℕ × ℕ). option_map suc (quoted_len v.1 s)) (byte_at (b ∷ s)) n k in
    let (m, f, same) = option_map-some suc (quoted_len v.1 s) n e in
    (v, at, (m, f, same))

pub quoted_len-within : (skip : ℕ) (s : List ℕ) (n : ℕ) → quoted_len skip s ≡ Some n → n < length s
quoted_len-within skip [] n h = cc
quoted_len-within (suc skip) (b ∷ s) n h =
    let (m, e, same) = option_map-some suc (quoted_len skip s) n h in
    let l : m < length s = quoted_len-within skip s m e in
    omega arith
quoted_len-within zero (b ∷ s) n h =
    let either : (x : Bool) → eqb b 34 ≡ x → n < length (b ∷ s) =
    λ x. elim x as (λ y. eqb b 34 ≡ y → n < length (b ∷ s)) [
      | true ↦ λ e. let k : Some 0 ≡ Some n = rw e at h in let z : 0 ≡ n = cc in omega arith
      | false ↦ λ e. let (v, at, (m, f, same)) = quoted_len-open b s n e h in
          let l : m < length s = quoted_len-within v.1 s m f in
          omega arith
    ] in
    either (eqb b 34) refl

quoted_len-skipped : (k : ℕ) (s : List ℕ) (m : ℕ) → quoted_len k s ≡ Some m
    → (n : ℕ) × (quoted_len 0 (drop k s) ≡ Some n) × (n + k ≡ m)
quoted_len-skipped k s m h = option_map-some (λ n. n + k) (quoted_len 0 (drop k s)) m (sym (quoted_len-skip k s) ∙ h)

pub quoted_len-front : (skip : ℕ) (a c : List ℕ) (n : ℕ) → quoted_len skip (a ++ c) ≡ Some n → n < length a
    → quoted_len skip a ≡ Some n
quoted_len-front skip [] c n h l = absurd (omega arith)
quoted_len-front (suc skip) (b ∷ a) c n h l =
    let (m, e, same) = option_map-some suc (quoted_len skip (a ++ c)) n h in
    rw (quoted_len-front skip a c m e (omega arith)) (ap Some same)
quoted_len-front zero (b ∷ a) c n h l =
    let either : (x : Bool) → eqb b 34 ≡ x → quoted_len 0 (b ∷ a) ≡ Some n =
    λ x. elim x as (λ y. eqb b 34 ≡ y → quoted_len 0 (b ∷ a) ≡ Some n) [
      | true ↦ λ e. let k : Some 0 ≡ Some n = rw e at h in rw e k
      | false ↦ λ e.
          let (v, at, (m, f, same)) = quoted_len-open b (a ++ c) n e h in
          let (p, g, sum) = quoted_len-skipped v.1 (a ++ c) m f in
          rw (e, byte_at-front b a c v at (omega arith), quoted_len-front v.1 a c m f (omega arith)) (ap Some same)
    ] in
    either (eqb b 34) refl

-- the text before the closing quote is read to its end
first_of : (b : ℕ) (s : List ℕ) (v : ℕ × ℕ) (k : ℕ) → byte_at (b ∷ s) ≡ Some v → k + v.1 ≤ length s
    → first_byte (take (suc (k + v.1)) (b ∷ s)) ≡ Some (v.0, take k (drop v.1 s))
first_of b s v k at l =
    let whole : byte_at (b ∷ (take (k + v.1) s ++ drop (k + v.1) s)) ≡ Some v =
    ap (λ t. byte_at (b ∷ t)) (take-append-drop (k + v.1) s) ∙ at in
    let front : byte_at (b ∷ take (k + v.1) s) ≡ Some v =
    byte_at-front b (take (k + v.1) s) (drop (k + v.1) s) v whole (omega (arith, length-take (k + v.1) s)) in
    rw front (ap (λ t. Some (v.0, t)) (ap (λ n. drop v.1 (take n s)) (add_comm k v.1) ∙ drop-take v.1 k s))

pub quoted_text-read : (skip : ℕ) (s : List ℕ) (n : ℕ) → quoted_len 0 (drop skip s) ≡ Some n
    → IsText (take n (drop skip s))
quoted_text-read zero [] n h = cc
quoted_text-read (suc skip) [] n h = cc
quoted_text-read (suc skip) (b ∷ s) n h = quoted_text-read skip s n h
quoted_text-read zero (b ∷ s) n h =
    let either : (x : Bool) → eqb b 34 ≡ x → IsText (take n (b ∷ s)) =
    λ x. elim x as (λ y. eqb b 34 ≡ y → IsText (take n (b ∷ s))) [
      | true ↦ λ e. let k : Some 0 ≡ Some n = rw e at h in let z : 0 ≡ n = cc in ([], rw (← z) refl)
      | false ↦ λ e.
          let (v, at, (m, f, same)) = quoted_len-open b s n e h in
          let (k, g, sum) = quoted_len-skipped v.1 s m f in
          let (bytes, is) = quoted_text-read v.1 s k g in
          let l : m < length s = quoted_len-within v.1 s m f in (
            v.0 ∷ bytes,
            (
              take k (drop v.1 s),
              ap (λ n. first_byte (take n (b ∷ s))) (let t : n ≡ suc (k + v.1) = omega arith in t)
                  ∙ first_of b s v k at (omega arith),
              is,
            ),
          )
    ] in
    either (eqb b 34) refl

-- nothing is the first byte of a text that is empty
first-none : (text : List ℕ) (b : ℕ) (rest : List ℕ) → text ≡ [] → first_byte text ≡ Some (b, rest) → ⊥
unfolding byte_at
first-none text b rest e h =
    let none : (let x : Option (ℕ × List ℕ) = None in x) ≡ Some (b, rest) = sym (ap first_byte e) ∙ h in
    cc

pub IsTextOf-unique : (text bs cs : List ℕ) → IsTextOf text bs → IsTextOf text cs → bs ≡ cs
IsTextOf-unique text [] [] h k = refl
IsTextOf-unique text [] (c ∷ cs) h (rest, k, m) = absurd (first-none text c rest h k)
IsTextOf-unique text (b ∷ bs) [] (rest, h, m) k = absurd (first-none text b rest k h)
IsTextOf-unique text (b ∷ bs) (c ∷ cs) (rest, h, m) (other, k, n) =
    let e : (let x : ℕ × List ℕ = (b, rest) in x) ≡ (c, other) =
    (let same : (let x : Option (ℕ × List ℕ) = Some (b, rest) in x) ≡ Some (c, other) = sym h ∙ k in cc) in
    let head : b ≡ c = ap (λ (x : ℕ × List ℕ). x.0) e in
    let behind : rest ≡ other = ap (λ (x : ℕ × List ℕ). x.1) e in
    cc (head, IsTextOf-unique rest bs cs m (rw behind n))

-- behind the text stands the closing quote
quoted_len-closing_quote : (skip : ℕ) (s : List ℕ) (n : ℕ) → quoted_len skip s ≡ Some n
    → (rest : List ℕ) × (drop n s ≡ 34 ∷ rest)
quoted_len-closing_quote skip [] n h = cc
quoted_len-closing_quote (suc skip) (b ∷ s) n h =
    let (m, e, same) = option_map-some suc (quoted_len skip s) n h in
    rw (← same) (quoted_len-closing_quote skip s m e)
quoted_len-closing_quote zero (b ∷ s) n h =
    let either : (x : Bool) → eqb b 34 ≡ x → (rest : List ℕ) × (drop n (b ∷ s) ≡ 34 ∷ rest) =
    λ x. elim x as (λ y. eqb b 34 ≡ y → (rest : List ℕ) × (drop n (b ∷ s) ≡ 34 ∷ rest)) [
      | true ↦ λ e. let k : Some 0 ≡ Some n = rw e at h in
          let z : 0 ≡ n = cc in
          let q : b ≡ 34 = grind (arith, nat_tests) in
          (s, rw (← z, q) refl)
      | false ↦ λ e. let (v, at, (m, f, same)) = quoted_len-open b s n e h in
          rw (← same) (quoted_len-closing_quote v.1 s m f)
    ] in
    either (eqb b 34) refl

take-one_more : (n : ℕ) (s : List ℕ) (b : ℕ) (rest : List ℕ) → drop n s ≡ b ∷ rest
    → take (suc n) s ≡ take n s ++ (b ∷ [])
take-one_more zero [] b rest h = cc
take-one_more zero (x ∷ s) b rest h = let e : x ≡ b = cc in rw e refl
take-one_more (suc n) [] b rest h = cc
take-one_more (suc n) (x ∷ s) b rest h = ap (λ t. x ∷ t) (take-one_more n s b rest h)

quoted-string : (s : List ℕ) (n : ℕ) → quoted_len 0 s ≡ Some n → IsString (34 ∷ take (suc n) s)
quoted-string s n h =
    let (rest, e) = quoted_len-closing_quote 0 s n h in
    (take n s, ap (λ t. 34 ∷ t) (take-one_more n s 34 rest e), quoted_text-read 0 s n h)

-- a token is a string, where it is a text
abbrev StringIfText : ℕ → List ℕ → Option (TokenKind × ℕ) → Type 0
StringIfText b s found = (v : TokenKind × ℕ) → found ≡ Some v → v.0 ≡ Text → IsString (b ∷ take v.1 s)

no_text : (b : ℕ) (s : List ℕ) (kind : TokenKind) (more : ℕ) → (kind ≡ Text → ⊥) → StringIfText b s (Some (kind, more))
no_text b s kind more apart v h k =
    let same : (let w : TokenKind × ℕ = (kind, more) in w) ≡ v = cc in
    absurd (apart (ap (λ (w : TokenKind × ℕ). w.0) same ∙ k))

none_text : (b : ℕ) (s : List ℕ) → StringIfText b s None
none_text b s v h k = cc

some_text : (b : ℕ) (s : List ℕ) → eqb b 34 ≡ true → StringIfText b s (option_map (λ n. (Text, suc n)) (quoted_len 0 s))
some_text b s e v h k =
    let (n, f, same) = option_map-some (λ (n : ℕ). (Text, suc n)) (quoted_len 0 s) v h in
    let q : b ≡ 34 = grind (arith, nat_tests) in
    let size : suc n ≡ v.1 = ap (λ (w : TokenKind × ℕ). w.1) same in
    rw (q, ← size) (quoted-string s n f)

mark-no_text : (b : ℕ) → mark b ≡ Some Text → ⊥
mark-no_text b =
    cond-either (λ (r : Option TokenKind). r ≡ Some Text → ⊥) (eqb b 44) _ _ (λ e h. cc) (λ e.
    cond-either (λ (r : Option TokenKind). r ≡ Some Text → ⊥) (eqb b 40) _ _ (λ e h. cc) (λ e.
    cond-either (λ (r : Option TokenKind). r ≡ Some Text → ⊥) (eqb b 41) _ _ (λ e h. cc) (λ e.
    cond-either (λ (r : Option TokenKind). r ≡ Some Text → ⊥) (eqb b 58) _ _ (λ e h. cc) (λ e.
    cond-either (λ (r : Option TokenKind). r ≡ Some Text → ⊥) (eqb b 43) _ _ (λ e h. cc) (λ e.
    cond-either (λ (r : Option TokenKind). r ≡ Some Text → ⊥) (eqb b 45) _ _ (λ e h. cc) (λ e h. cc))))))

marked-no_text : (b : ℕ) (s : List ℕ) → StringIfText b s (option_map (λ kind. (kind, 0)) (mark b))
marked-no_text b s v h k =
    let (kind, f, same) = option_map-some (λ (kind : TokenKind). (kind, 0)) (mark b) v h in
    absurd (mark-no_text b (f ∙ ap Some (ap (λ (w : TokenKind × ℕ). w.0) same ∙ k)))

token-string : (b : ℕ) (s : List ℕ) → StringIfText b s (token_at b s)
unfolding token_at
token-string b s =
    cond-either (StringIfText b s) (begins_name b) _ _
    (λ e. no_text b s _ _ (cond-either (λ (kind : TokenKind). kind ≡ Text → ⊥)
    (eqb b 46 && eqb (prefix_len goes_on_name s) 0) Dot Name (λ x k. cc) (λ x k. cc)))
    (λ e.
    cond-either (StringIfText b s) (is_ascii_digit b) _ _ (λ e. no_text b s Number _ (λ k. cc)) (λ e.
    cond-either (StringIfText b s) (eqb b 36) _ _
    (λ e. cond-either (StringIfText b s) (eqb (prefix_len is_ascii_alphanumeric s) 0) _ _
    (λ e. none_text b s) (λ e. no_text b s Register _ (λ k. cc)))
    (λ e.
    cond-either (StringIfText b s) (eqb b 37) _ _
    (λ e. cond-either (StringIfText b s) (eqb (prefix_len is_ascii_alphabetic s) 0) _ _
    (λ e. none_text b s) (λ e. no_text b s Operator _ (λ k. cc)))
    (λ e.
    cond-either (StringIfText b s) (eqb b 34) _ _ (some_text b s) (λ e. marked-no_text b s)))))

-- each text among the tokens is a string
abbrev pub StringsAmong : Tokens → Type 0
StringsAmong (End left) = Unit {0}
StringsAmong (Bad left) = Unit {0}
StringsAmong (Next t ts) = (t.kind ≡ Text → IsString t.text) × StringsAmong ts

put-strings : (line : List ℕ) (found : Option (TokenKind × ℕ)) (b : ℕ) (s : List ℕ)
    → StringIfText b s found → ((k : ℕ) → StringsAmong (tokens_after k s))
    → StringsAmong (put_before line found (λ more. tokens_after more s) b s)
put-strings line None b s h behind = tt
put-strings line (Some v) b s h behind = (h v refl, behind v.1)

strings-after : (skip : ℕ) (s : List ℕ) → StringsAmong (tokens_after skip s)
strings-after skip [] = tt
strings-after (suc skip) (b ∷ s) = strings-after skip s
strings-after zero (b ∷ s) =
    cond-either StringsAmong (is_blank b) _ _ (λ e. strings-after 0 s) (λ e.
    cond-either StringsAmong (eqb b 35) _ _ (λ e. tt)
    (λ e. put-strings (b ∷ s) (token_at b s) b s (token-string b s) (λ k. strings-after k s)))

pub tokens-strings : (line : List ℕ) → StringsAmong (tokens line)
unfolding tokens
tokens-strings line = strings-after 0 line

pub first-string : (line : List ℕ) (t : Lexeme) (more : Tokens) → tokens line ≡ Next t more → t.kind ≡ Text
    → IsString t.text
first-string line t more h =
    let among : StringsAmong (Next t more) = subst StringsAmong h (tokens-strings line) in
    among.0
