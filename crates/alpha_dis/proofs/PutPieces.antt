-- What stands before a place of an array after a piece was written at another, and the digits of a number in pairs.
use Rattle.std.proofs.Common.{◌≡◌, ℕ, zero, suc, ◌+◌, ◌*◌, ◌/◌, ◌%◌, ◌^◌, ◌<◌, ◌≤◌, List, [], ◌∷◌, ◌++◌, ◌&&◌, Bool}
use Rattle.std.proofs.Common.{true, eqb, decimal, length, get_or, take, refl, ap, ◌∙◌, ⊎_elim, append_assoc, take-add}
use Rattle.std.proofs.Common.{arith}
use Rattle.std.proofs.lemmas.List.{take-append-le, take_at, drop_at, length-take-le}
use Rattle.std.proofs.lemmas.Bool.{and_parts, cases_lt, eqb-true}
use Rattle.std.proofs.lemmas.Fmt.{decimal_digit, decimal_step}
use borrow.Rule.Slice.PartMut.{put_mid, post_of}
use Rattle.alpha_dis.specs.Written.{before}
use Rattle.alpha_dis.specs.declared.pieces.TheConstants.{PAIRS}

-- of a piece that was written at a place the first bytes count
pub before-put_mid : (place size count : ℕ) (bytes piece : List ℕ) → place ≤ length bytes → count ≤ length piece
    → before (place + count) (put_mid place size bytes piece) ≡ before place bytes ++ take count piece
unfolding before
before-put_mid place size count bytes piece within few =
    let front : length (take place bytes) ≡ place = length-take-le place bytes within in
    let behind = piece ++ post_of place size bytes in
    take-add place count (take place bytes ++ behind)
    ∙ (rw (
      take_at (take place bytes) behind place front,
      drop_at (take place bytes) behind place front,
      take-append-le count piece (post_of place size bytes) few,
    ) refl)

-- ---- pairs of digits

abbrev pub pair_digits : ℕ → List ℕ
pair_digits n = (48 + n / 10) ∷ (48 + n % 10) ∷ []

abbrev are_pairs : ℕ → Bool
are_pairs zero = true
are_pairs (suc n) =
    (eqb (get_or PAIRS (2 * n) 0) (48 + n / 10) && eqb (get_or PAIRS (2 * n + 1) 0) (48 + n % 10)) && are_pairs n

all_pairs : are_pairs 100 ≡ true
all_pairs = refl

are_pairs-digits : (most n : ℕ) → are_pairs most ≡ true → n < most
    → (get_or PAIRS (2 * n) 0 ≡ 48 + n / 10) × (get_or PAIRS (2 * n + 1) 0 ≡ 48 + n % 10)
are_pairs-digits zero n h within = absurd (omega arith)
are_pairs-digits (suc most) n h within =
    let (here, rest) =
    and_parts (eqb (get_or PAIRS (2 * most) 0) (48 + most / 10) && eqb (get_or PAIRS (2 * most + 1) 0) (48 + most % 10))
    (are_pairs most) h in
    let (tens, ones) = and_parts (eqb (get_or PAIRS (2 * most) 0) (48 + most / 10))
    (eqb (get_or PAIRS (2 * most + 1) 0) (48 + most % 10)) here in
    ⊎_elim
    (λ (less : n < most). are_pairs-digits most n rest less)
    (λ (last : most ≤ n).
    let e : n ≡ most = omega arith in
    rw e (eqb-true _ _ tens, eqb-true _ _ ones))
    (cases_lt n most)

pub PAIRS_at : (n : ℕ) → n < 100 → (get_or PAIRS (2 * n) 0 ≡ 48 + n / 10) × (get_or PAIRS (2 * n + 1) 0 ≡ 48 + n % 10)
PAIRS_at n h = are_pairs-digits 100 n all_pairs h

pub decimal_two : (n : ℕ) → 10 ≤ n → n < 100 → decimal n ≡ pair_digits n
decimal_two n least most = rw (decimal_step n least (omega arith), decimal_digit (n / 10) (omega arith)) refl

-- a number of three digits or more, without its last two and with them
pub decimal_pair : (n : ℕ) → 100 ≤ n → n < 2 ^ 64 → decimal n ≡ decimal (n / 100) ++ pair_digits (n % 100)
decimal_pair n least most =
    let front : n / 10 / 10 ≡ n / 100 = omega arith in
    let tens : n / 10 % 10 ≡ n % 100 / 10 = omega arith in
    let ones : n % 10 ≡ n % 100 % 10 = omega arith in
    rw (
      decimal_step n (omega arith) most,
      decimal_step (n / 10) (omega arith) (omega arith),
      append_assoc,
      front,
      tens,
      ← ones,
    ) refl

-- and without its last four
pub decimal_pairs : (n : ℕ) → 10000 ≤ n → n < 2 ^ 64
    → decimal n ≡ (decimal (n / 10000) ++ pair_digits (n / 100 % 100)) ++ pair_digits (n % 100)
decimal_pairs n least most =
    let front : n / 100 / 100 ≡ n / 10000 = omega arith in
    decimal_pair n (omega arith) most
    ∙ ap (λ (l : List ℕ). l ++ pair_digits (n % 100))
    (decimal_pair (n / 100) (omega arith) (omega arith)
    ∙ ap (λ (k : ℕ). decimal k ++ pair_digits (n / 100 % 100)) front)
