-- A name read as a word.
use Rattle.std.proofs.Common.{◌≡◌, ◌<◌, ◌≤◌, ◌+◌, ◌*◌, ◌/◌, ◌-◌, ◌^◌, ◌∷◌, ◌++◌, ◌∙◌, ℕ, List, [], length, take, drop}
use Rattle.std.proofs.Common.{get_or, true, eqb, nat_le, refl, sym, ap, arith}
use Rattle.std.specs.Prelude.{⊤}
use Prim.Native.Nat.{zero, suc}
use mathlib.Core.List.{reverse, reverse_aux}
use Rattle.std.specs.List.{fold, list_all}
use Rattle.std.proofs.lemmas.Bool.Decides.{nat_tests}
use Rattle.std.proofs.lemmas.Bool.{and_parts}
use Rattle.std.proofs.lemmas.List.{reverse-reverse, drop_more, get_or-take, length-take-le}
use Rattle.alpha_token.specs.Bytes.{goes_on_name}
use Rattle.alpha_quick.specs.Keys.{key_of, is_named}
use Rattle.alpha_quick.proofs.Keys.{reversed_number, with_plain_byte, fold_number, one_number, key_number, byte_bounds}
use Rattle.alpha_quick.proofs.Keys.{all_reversed}

abbrev pub AreBytes : List ℕ → Type 0
AreBytes [] = ⊤
AreBytes (y ∷ ys) = (y < 256) × AreBytes ys

-- the last byte is there, and isn't 0
abbrev pub EndsNonzero : List ℕ → Type 0
EndsNonzero [] = ⊥
EndsNonzero (y ∷ []) = 0 < y
EndsNonzero (y ∷ z ∷ zs) = EndsNonzero (z ∷ zs)

reversed_number-positive : (ys : List ℕ) → EndsNonzero ys → 0 < reversed_number ys
reversed_number-positive [] t = absurd t
reversed_number-positive (y ∷ []) t = omega (arith, t)
reversed_number-positive (y ∷ z ∷ zs) t =
    let more : 0 < reversed_number (z ∷ zs) = reversed_number-positive (z ∷ zs) t in
    omega (arith, more)

reversed_number-injective : (a b : List ℕ) → list_all goes_on_name a ≡ true → AreBytes b → EndsNonzero b
    → reversed_number a ≡ reversed_number b → a ≡ b
reversed_number-injective a [] f g t e = absurd t
reversed_number-injective [] (y ∷ ys) f g t e =
    let some : 0 < reversed_number (y ∷ ys) = reversed_number-positive (y ∷ ys) t in
    absurd (omega (arith, some, e))
reversed_number-injective (x ∷ xs) (y ∷ []) f (g, gs) t e =
    let (p, ps) = and_parts (goes_on_name x) (list_all goes_on_name xs) f in
    let (some, byte) = byte_bounds x p in
    let sums : x + reversed_number xs * 256 ≡ y + 0 * 256 = e in
    let first : x ≡ y = omega arith in
    let others : reversed_number xs ≡ 0 = omega arith in
    ap (λ z. z ∷ xs) first ∙ ap (λ zs. y ∷ zs) (one_number xs [] ps refl others)
reversed_number-injective (x ∷ xs) (y ∷ z ∷ zs) f (g, gs) t e =
    let (p, ps) = and_parts (goes_on_name x) (list_all goes_on_name xs) f in
    let (some, byte) = byte_bounds x p in
    let sums : x + reversed_number xs * 256 ≡ y + reversed_number (z ∷ zs) * 256 = e in
    let first : x ≡ y = omega arith in
    let others : reversed_number xs ≡ reversed_number (z ∷ zs) = omega arith in
    ap (λ z. z ∷ xs) first ∙ ap (λ zs. y ∷ zs) (reversed_number-injective xs (z ∷ zs) ps gs t others)

EndsNonzero-reverse : (name acc : List ℕ) → EndsNonzero acc → EndsNonzero (reverse_aux name acc)
EndsNonzero-reverse [] acc t = t
EndsNonzero-reverse (b ∷ name) [] t = absurd t
EndsNonzero-reverse (b ∷ name) (y ∷ ys) t = EndsNonzero-reverse name (b ∷ y ∷ ys) t

AreBytes-reverse : (name acc : List ℕ) → AreBytes name → AreBytes acc → AreBytes (reverse_aux name acc)
AreBytes-reverse [] acc n a = a
AreBytes-reverse (b ∷ name) acc (h, n) a = AreBytes-reverse name (b ∷ acc) n (h, a)

-- names of one key are one, where the first byte isn't 0
is_named-injective : (row bs : List ℕ) (b key : ℕ) → is_named row key ≡ true → 0 < b → AreBytes (b ∷ bs)
    → fold with_plain_byte 0 (b ∷ bs) ≡ key → row ≡ b ∷ bs
is_named-injective row bs b key has some all is =
    let (same, others) = and_parts (eqb (key_of row) key) _ has in
    let (few, each) = and_parts (nat_le (length row) 8) (list_all goes_on_name row) others in
    let e : key_of row ≡ key = grind (arith, nat_tests) in
    let n : length row ≤ 8 = grind (arith, nat_tests) in
    let r : reverse row ≡ reverse (b ∷ bs) =
    reversed_number-injective (reverse row) (reverse (b ∷ bs)) (all_reversed row [] each refl)
    (AreBytes-reverse (b ∷ bs) [] all tt)
    (EndsNonzero-reverse bs (b ∷ []) some)
    (sym (key_number row n each) ∙ e ∙ sym is ∙ fold_number (b ∷ bs) []) in
    sym (reverse-reverse row) ∙ ap reverse r ∙ reverse-reverse (b ∷ bs)

-- so many values of a function, from that of k on
abbrev pub values_from : (ℕ → ℕ) → ℕ → ℕ → List ℕ
values_from f k zero = []
values_from f k (suc n) = f k ∷ values_from f (suc k) n

values_from-AreBytes : (f : ℕ → ℕ) (k n : ℕ) → k + n ≤ 8 → ((m : ℕ) → m < 8 → f m < 256) → AreBytes (values_from f k n)
values_from-AreBytes f k zero few h = tt
values_from-AreBytes f k (suc n) few h =
    (h k (omega (arith, few)), values_from-AreBytes f (suc k) n (omega (arith, few)) h)

-- eight bytes
pub bound_of_eight : (f : ℕ → ℕ)
    → (f 0 < 256) × (f 1 < 256) × (f 2 < 256) × (f 3 < 256) × (f 4 < 256) × (f 5 < 256) × (f 6 < 256) × (f 7 < 256)
    → (k : ℕ) → k < 8 → f k < 256
bound_of_eight f (a, b, c, d, e, g, h, i) zero l = a
bound_of_eight f (a, b, c, d, e, g, h, i) (suc zero) l = b
bound_of_eight f (a, b, c, d, e, g, h, i) (suc (suc zero)) l = c
bound_of_eight f (a, b, c, d, e, g, h, i) (suc (suc (suc zero))) l = d
bound_of_eight f (a, b, c, d, e, g, h, i) (suc (suc (suc (suc zero)))) l = e
bound_of_eight f (a, b, c, d, e, g, h, i) (suc (suc (suc (suc (suc zero))))) l = g
bound_of_eight f (a, b, c, d, e, g, h, i) (suc (suc (suc (suc (suc (suc zero)))))) l = h
bound_of_eight f (a, b, c, d, e, g, h, i) (suc (suc (suc (suc (suc (suc (suc zero))))))) l = i
bound_of_eight f b (suc (suc (suc (suc (suc (suc (suc (suc k)))))))) l = absurd (omega (arith, l))

values_from-same : (f g : ℕ → ℕ) (k n : ℕ) → ((m : ℕ) → m < k + n → f m ≡ g m) → values_from f k n ≡ values_from g k n
values_from-same f g k zero h = refl
values_from-same f g k (suc n) h =
    let here : k < k + suc n = omega arith in
    ap (λ z. z ∷ values_from f (suc k) n) (h k here)
    ∙ ap (λ zs. g k ∷ zs) (values_from-same f g (suc k) n (λ m l. h m (omega (arith, l))))

drop-values_from : (ys : List ℕ) (i k n : ℕ) → i + k + n ≤ length ys
    → drop (i + k) ys ≡ values_from (λ m. get_or ys (i + m) 0) k n ++ drop (i + k + n) ys
drop-values_from ys i k zero h = let e : i + k ≡ i + k + 0 = omega arith in ap (λ m. drop m ys) e
drop-values_from ys i k (suc n) h =
    let a : i + k + 1 ≡ i + suc k = omega arith in
    let b : i + suc k + n ≡ i + k + suc n = omega arith in
    drop_more ys (i + k) 0 (omega arith) ∙ ap (λ m. get_or ys (i + k) 0 ∷ drop m ys) a
    ∙ ap (λ zs. get_or ys (i + k) 0 ∷ zs)
    (drop-values_from ys i (suc k) n (omega arith)
    ∙ ap (λ m. values_from (λ m. get_or ys (i + m) 0) (suc k) n ++ drop m ys) b)

-- the word of eight bytes
abbrev pub word_of_eight : (ℕ → ℕ) → ℕ
word_of_eight f = ((((((f 0 * 256 + f 1) * 256 + f 2) * 256 + f 3) * 256 + f 4) * 256 + f 5) * 256 + f 6) * 256 + f 7

-- its upper bytes
word_of_eight-front : (f : ℕ → ℕ) (n : ℕ) → ((k : ℕ) → k < 8 → f k < 256) → 0 < n → n ≤ 8
    → fold with_plain_byte 0 (values_from f 0 n) ≡ word_of_eight f / 2 ^ (64 - 8 * n)
word_of_eight-front f zero b some few = absurd (omega (arith, some))
word_of_eight-front f (suc zero) b some few = omega (
  arith,
  b 0 (omega arith),
  b 1 (omega arith),
  b 2 (omega arith),
  b 3 (omega arith),
  b 4 (omega arith),
  b 5 (omega arith),
  b 6 (omega arith),
  b 7 (omega arith),
)
word_of_eight-front f (suc (suc zero)) b some few = omega (
  arith,
  b 0 (omega arith),
  b 1 (omega arith),
  b 2 (omega arith),
  b 3 (omega arith),
  b 4 (omega arith),
  b 5 (omega arith),
  b 6 (omega arith),
  b 7 (omega arith),
)
word_of_eight-front f (suc (suc (suc zero))) b some few = omega (
  arith,
  b 0 (omega arith),
  b 1 (omega arith),
  b 2 (omega arith),
  b 3 (omega arith),
  b 4 (omega arith),
  b 5 (omega arith),
  b 6 (omega arith),
  b 7 (omega arith),
)
word_of_eight-front f (suc (suc (suc (suc zero)))) b some few = omega (
  arith,
  b 0 (omega arith),
  b 1 (omega arith),
  b 2 (omega arith),
  b 3 (omega arith),
  b 4 (omega arith),
  b 5 (omega arith),
  b 6 (omega arith),
  b 7 (omega arith),
)
word_of_eight-front f (suc (suc (suc (suc (suc zero))))) b some few = omega (
  arith,
  b 0 (omega arith),
  b 1 (omega arith),
  b 2 (omega arith),
  b 3 (omega arith),
  b 4 (omega arith),
  b 5 (omega arith),
  b 6 (omega arith),
  b 7 (omega arith),
)
word_of_eight-front f (suc (suc (suc (suc (suc (suc zero)))))) b some few = omega (
  arith,
  b 0 (omega arith),
  b 1 (omega arith),
  b 2 (omega arith),
  b 3 (omega arith),
  b 4 (omega arith),
  b 5 (omega arith),
  b 6 (omega arith),
  b 7 (omega arith),
)
word_of_eight-front f (suc (suc (suc (suc (suc (suc (suc zero))))))) b some few = omega (
  arith,
  b 0 (omega arith),
  b 1 (omega arith),
  b 2 (omega arith),
  b 3 (omega arith),
  b 4 (omega arith),
  b 5 (omega arith),
  b 6 (omega arith),
  b 7 (omega arith),
)
word_of_eight-front f (suc (suc (suc (suc (suc (suc (suc (suc zero)))))))) b some few = omega (
  arith,
  b 0 (omega arith),
  b 1 (omega arith),
  b 2 (omega arith),
  b 3 (omega arith),
  b 4 (omega arith),
  b 5 (omega arith),
  b 6 (omega arith),
  b 7 (omega arith),
)
word_of_eight-front f (suc (suc (suc (suc (suc (suc (suc (suc (suc n))))))))) b some few = absurd (omega (arith, few))

is_named-values_from : (row : List ℕ) (f : ℕ → ℕ) (n key : ℕ) → is_named row key ≡ true → ((k : ℕ) → k < 8 → f k < 256)
    → 0 < f 0
    → 0 < n → n ≤ 8 → word_of_eight f / 2 ^ (64 - 8 * n) ≡ key → row ≡ values_from f 0 n
is_named-values_from row f zero key has b first some few is = absurd (omega (arith, some))
is_named-values_from row f (suc n) key has b first some few is =
    is_named-injective row (values_from f 1 n) (f 0) key has first
    (values_from-AreBytes f 0 (suc n) (omega (arith, few)) b)
    (word_of_eight-front f (suc n) b some few ∙ is)

abbrev pub word_at : List ℕ → ℕ → ℕ
word_at xs i =
    ((((((get_or xs i 0 * 256 + get_or xs (i + 1) 0) * 256 + get_or xs (i + 2) 0) * 256 + get_or xs (i + 3) 0) * 256
    + get_or xs (i + 4) 0) * 256 + get_or xs (i + 5) 0) * 256 + get_or xs (i + 6) 0) * 256 + get_or xs (i + 7) 0

word_at-moved : (xs : List ℕ) (i j : ℕ) → i ≡ j
    → word_at xs j
    ≡ ((((((get_or xs i 0 * 256 + get_or xs (j + 1) 0) * 256 + get_or xs (j + 2) 0) * 256 + get_or xs (j + 3) 0) * 256
    + get_or xs (j + 4) 0) * 256 + get_or xs (j + 5) 0) * 256 + get_or xs (j + 6) 0) * 256 + get_or xs (j + 7) 0
word_at-moved xs i j e = rw e refl

-- a line that begins with the name of a row and a blank
pub is_named-line_front : (row xs rest : List ℕ) (end i n key : ℕ) → is_named row key ≡ true
    → ((k : ℕ) → k < 8 → get_or xs (i + k) 0 < 256) → 0 < get_or xs i 0 → 0 < n → n ≤ 8 → i + n ≤ end → end < length xs
    → word_at xs i / 2 ^ (64 - 8 * n) ≡ key → drop (i + n) (take end xs) ≡ rest → drop i (take end xs) ≡ row ++ rest
is_named-line_front row xs rest end i n key has b first some few within inside is after =
    let ys = take end xs in
    let size : length ys ≡ end = length-take-le end xs (omega arith) in
    let z : i + 0 ≡ i = omega arith in
    let zn : i + 0 + n ≡ i + n = omega arith in
    let first' : 0 < get_or xs (i + 0) 0 = rw z first in
    let name : row ≡ values_from (λ k. get_or xs (i + k) 0) 0 n =
    is_named-values_from row (λ k. get_or xs (i + k) 0) n key has b first'
    some few (ap (λ w. w / 2 ^ (64 - 8 * n)) (sym (word_at-moved xs (i + 0) i z)) ∙ is) in
    let same : values_from (λ k. get_or ys (i + k) 0) 0 n ≡ values_from (λ k. get_or xs (i + k) 0) 0 n =
    values_from-same (λ k. get_or ys (i + k) 0) (λ k. get_or xs (i + k) 0) 0 n
    (λ m l. get_or-take end xs (i + m) 0 (omega (arith, l, within))) in
    ap (λ m. drop m ys) (sym z) ∙ drop-values_from ys i 0 n (omega (arith, size, within))
    ∙ ap (λ m. values_from (λ k. get_or ys (i + k) 0) 0 n ++ drop m ys) zn
    ∙ ap (λ t. values_from (λ k. get_or ys (i + k) 0) 0 n ++ t) after
    ∙ ap (λ r. r ++ rest) (same ∙ sym name)
