-- A loop that goes down the places of a register and puts each digit below those that it has.
use Rattle.std.proofs.Common.{◌≡◌, ℕ, suc, ◌+◌, ◌-◌, ◌*◌, ◌/◌, ◌%◌, ◌^◌, ◌<◌, ◌≤◌, ◌∙◌, ap, arith, bit_or}
use Rattle.std.specs.Prelude.{if◌then◌else◌, ◌==◌, nat_le}
use Rattle.std.proofs.lemmas.Nat.{shl_whole, or_shifted, mul-add-lt, pow-add, shr-shr}
use Rattle.alpha_words.specs.Digits.{digits, number}
use Rattle.alpha_values.specs.Bits.{pairwise}
use Rattle.alpha_values.specs.Op.{zapped, bytes_compared}

-- the number so far has `room` bits, and a digit of w bits comes below it
pub digit_below : (w room left digit : ℕ) → left < 2 ^ room → digit < 2 ^ w → room + w ≤ 64
    → (bit_or (left * 2 ^ w % 2 ^ 64) digit ≡ digit + 2 ^ w * left)
    × (bit_or (left * 2 ^ w % 2 ^ 64) digit < 2 ^ (room + w))
digit_below w room left digit small low within =
    let e : bit_or (left * 2 ^ w % 2 ^ 64) digit ≡ left * 2 ^ w + digit =
    ap (λ m. bit_or m digit) (shl_whole left room w 64 small within) ∙ or_shifted left w digit low in
    (omega arith, omega (arith, mul-add-lt left (2 ^ w) digit (2 ^ room) small low, pow-add 2 room w))

-- what is left of the bytes from a place on
unfoldable pub zapped_from : ℕ → ℕ → ℕ → ℕ
zapped_from marks a k =
    number 256
    (pairwise (λ mark byte. if mark == 1 then 0 else byte) (digits 2 (8 - k) (marks / 2 ^ k))
    (digits 256 (8 - k) (a / 2 ^ (8 * k))))

-- the answers for the bytes from a place on
unfoldable pub compared_from : ℕ → ℕ → ℕ → ℕ
compared_from a b k =
    number 2
    (pairwise (λ x y. if nat_le y x then 1 else 0) (digits 256 (8 - k) (a / 2 ^ (8 * k)))
    (digits 256 (8 - k) (b / 2 ^ (8 * k))))

next_byte : (a k : ℕ) → a / 2 ^ (8 * k) / 256 ≡ a / 2 ^ (8 * (k + 1))
next_byte a k =
    let more : 8 * k + 8 ≡ 8 * (k + 1) = omega arith in
    shr-shr a (8 * k) 8 ∙ ap (λ j. a / 2 ^ j) more

pub zapped_from-all : (marks a : ℕ) → zapped_from marks a 0 ≡ zapped a marks
unfolding zapped_from zapped
zapped_from-all marks a =
    let x : marks / 1 ≡ marks = omega arith in
    let y : a / 1 ≡ a = omega arith in
    ap (λ m. number 256 (pairwise (λ mark byte. if mark == 1 then 0 else byte) (digits 2 8 m) (digits 256 8 (a / 1)))) x
    ∙ ap (λ m. number 256 (pairwise (λ mark byte. if mark == 1 then 0 else byte) (digits 2 8 marks) (digits 256 8 m))) y

pub zapped_from-step : (marks a k : ℕ) → k < 8
    → zapped_from marks a k
    ≡ (if marks / 2 ^ k % 2 == 1 then 0 else a / 2 ^ (8 * k) % 256) + 256 * zapped_from marks a (k + 1)
unfolding zapped_from number pairwise digits
zapped_from-step marks a k within =
    let more : 8 - k ≡ suc (8 - (k + 1)) = omega arith in
    let f : ℕ → ℕ → ℕ = λ mark byte. if mark == 1 then 0 else byte in
    ap (λ c. number 256 (pairwise f (digits 2 c (marks / 2 ^ k)) (digits 256 c (a / 2 ^ (8 * k))))) more
    ∙ ap (λ m. f (marks / 2 ^ k % 2) (a / 2 ^ (8 * k) % 256) + 256 * m)
    (ap (λ m. number 256 (pairwise f (digits 2 (8 - (k + 1)) m) (digits 256 (8 - (k + 1)) (a / 2 ^ (8 * k) / 256))))
    (shr-shr marks k 1)
    ∙ ap (λ m. number 256 (pairwise f (digits 2 (8 - (k + 1)) (marks / 2 ^ (k + 1))) (digits 256 (8 - (k + 1)) m)))
    (next_byte a k))

pub compared_from-all : (a b : ℕ) → compared_from a b 0 ≡ bytes_compared a b
unfolding compared_from bytes_compared
compared_from-all a b =
    let x : a / 1 ≡ a = omega arith in
    let y : b / 1 ≡ b = omega arith in
    ap (λ m. number 2 (pairwise (λ x y. if nat_le y x then 1 else 0) (digits 256 8 m) (digits 256 8 (b / 1)))) x
    ∙ ap (λ m. number 2 (pairwise (λ x y. if nat_le y x then 1 else 0) (digits 256 8 a) (digits 256 8 m))) y

pub compared_from-step : (a b k : ℕ) → k < 8
    → compared_from a b k
    ≡ (if nat_le (b / 2 ^ (8 * k) % 256) (a / 2 ^ (8 * k) % 256) then 1 else 0) + 2 * compared_from a b (k + 1)
unfolding compared_from number pairwise digits
compared_from-step a b k within =
    let more : 8 - k ≡ suc (8 - (k + 1)) = omega arith in
    let f : ℕ → ℕ → ℕ = λ x y. if nat_le y x then 1 else 0 in
    ap (λ c. number 2 (pairwise f (digits 256 c (a / 2 ^ (8 * k))) (digits 256 c (b / 2 ^ (8 * k))))) more
    ∙ ap (λ m. f (a / 2 ^ (8 * k) % 256) (b / 2 ^ (8 * k) % 256) + 2 * m)
    (ap (λ m. number 2 (pairwise f (digits 256 (8 - (k + 1)) m) (digits 256 (8 - (k + 1)) (b / 2 ^ (8 * k) / 256))))
    (next_byte a k)
    ∙ ap (λ m. number 2 (pairwise f (digits 256 (8 - (k + 1)) (a / 2 ^ (8 * (k + 1)))) (digits 256 (8 - (k + 1)) m)))
    (next_byte b k))

-- ---- a turn of each loop

pub zapped_from-more : (marks a k left byte : ℕ) → 0 < k → k ≤ 8 → left ≡ zapped_from marks a k
    → left < 2 ^ (8 * (8 - k))
    → byte ≡ (if marks / 2 ^ (k - 1) % 2 == 1 then 0 else a / 2 ^ (8 * (k - 1)) % 256) → byte < 256
    → (bit_or (left * 256 % 2 ^ 64) byte ≡ zapped_from marks a (k - 1))
    × (bit_or (left * 256 % 2 ^ 64) byte < 2 ^ (8 * (8 - (k - 1))))
zapped_from-more marks a k left byte some most is small byte_is low =
    let both = digit_below 8 (8 * (8 - k)) left byte small low (omega arith) in
    let back : k - 1 + 1 ≡ k = omega arith in
    let room : 8 * (8 - k) + 8 ≡ 8 * (8 - (k - 1)) = omega arith in
    let step = zapped_from-step marks a (k - 1) (omega arith) in
    let above = ap (λ j. zapped_from marks a j) back in
    let wide = ap (λ j. 2 ^ j) room in
    (omega arith, omega arith)

pub compared_from-more : (a b k answers bit : ℕ) → 0 < k → k ≤ 8 → answers ≡ compared_from a b k → answers < 2 ^ (8 - k)
    → bit ≡ (if nat_le (b / 2 ^ (8 * (k - 1)) % 256) (a / 2 ^ (8 * (k - 1)) % 256) then 1 else 0) → bit < 2
    → (bit_or (answers * 2 % 2 ^ 64) bit ≡ compared_from a b (k - 1))
    × (bit_or (answers * 2 % 2 ^ 64) bit < 2 ^ (8 - (k - 1)))
compared_from-more a b k answers bit some most is small bit_is low =
    let both = digit_below 1 (8 - k) answers bit small low (omega arith) in
    let back : k - 1 + 1 ≡ k = omega arith in
    let room : 8 - k + 1 ≡ 8 - (k - 1) = omega arith in
    let step = compared_from-step a b (k - 1) (omega arith) in
    let above = ap (λ j. compared_from a b j) back in
    let wide = ap (λ j. 2 ^ j) room in
    (omega arith, omega arith)
