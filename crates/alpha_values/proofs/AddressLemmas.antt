-- Where two accesses by one base touch a common byte.
use Rattle.std.proofs.Common.{◌≡◌, ℕ, ◌+◌, ◌-◌, ◌*◌, ◌/◌, ◌%◌, ◌^◌, ◌<◌, ◌≤◌, Bool, true, false, cond, ℤ, pos, negsuc}
use Rattle.std.proofs.Common.{◌+ℤ◌, ◌-ℤ◌, ◌≤ℤ◌, ◌<ℤ◌, ◌↔◌, FitsSigned, sym, ap, arith, max}
use Rattle.std.specs.Int.{w16}
use Rattle.std.proofs.lemmas.Int.{ints, by_lt_z}
use Rattle.std.proofs.lemmas.Bool.{cond_both}
use Rattle.alpha_table.specs.declared.columns.MemAccess.{MemAccess}
use Rattle.alpha_table.specs.Spans.{bytes_spanned}
use Rattle.alpha_table.specs.Uses.{first_byte}
use Rattle.alpha_values.specs.Address.{address_of, access_address, Covers, AccessesMeet}
use Rattle.alpha_values.specs.InSpan.{IsInSpan}
use Rattle.alpha_values.proofs.MachineWords.{register_of-mod, register_of-lt}

-- a displacement, counted from the lowest one
displacement_from_lowest : ℤ → ℕ
displacement_from_lowest (pos n) = n + 32768
displacement_from_lowest (negsuc n) = 32767 - n

raised_is : (d : ℤ) → FitsSigned w16 d
    → (pos (displacement_from_lowest d) ≡ d +ℤ pos 32768) × (displacement_from_lowest d < 65536)
unfolding displacement_from_lowest
raised_is (pos n) fits = let h = fits.sfits in (omega (arith, ints), omega arith)
raised_is (negsuc n) fits = let h = fits.sfits in (omega (arith, ints), omega arith)

address_raised : (base : ℕ) (d : ℤ) → FitsSigned w16 d
    → address_of base d ≡ (base + (2 ^ 64 - 32768) + displacement_from_lowest d) % 2 ^ 64
unfolding address_of
address_raised base d fits =
    let is = (raised_is d fits).0 in
    register_of-mod (pos base +ℤ d) 1 (base + (2 ^ 64 - 32768) + displacement_from_lowest d) (omega (arith, ints))

-- where two addresses by one base lie in memory, they lie as far apart as their displacements
as_far : (base : ℕ) (d e : ℤ) → base < 2 ^ 64 → FitsSigned w16 d → FitsSigned w16 e
    → address_of base d < 2 ^ 31 → address_of base e < 2 ^ 31
    → address_of base d + displacement_from_lowest e ≡ address_of base e + displacement_from_lowest d
as_far base d e small fits also low under =
    omega (arith, address_raised base d fits, address_raised base e also, (raised_is d fits).1, (raised_is e also).1)

address_of-lt : (base : ℕ) (d : ℤ) → address_of base d < 2 ^ 64
unfolding address_of
address_of-lt base d = register_of-lt _

-- an access by the way it comes to its address
access_by : (c : MemAccess) (base : ℕ) (clears : Bool) → c.clears ≡ clears
    → access_address c base ≡ cond clears (address_of base c.disp / 8 * 8) (address_of base c.disp)
unfolding access_address
access_by c base clears e = ap (λ b. cond b (address_of base c.disp / 8 * 8) (address_of base c.disp)) e

pub access_address-lt : (c : MemAccess) (base : ℕ) → access_address c base < 2 ^ 64
unfolding access_address
access_address-lt c base =
    let small = address_of-lt base c.disp in
    cond_both c.clears (address_of base c.disp / 8 * 8) (address_of base c.disp) (λ n. n < 2 ^ 64) (λ e. omega arith)
    (λ e. small)

-- the access begins at its address or, with bits cleared, up to seven bytes before
record IsNear (c : MemAccess) (base : ℕ) : Type 0 where
  low : address_of base c.disp ≤ access_address c base + cond c.clears 7 0
  high : access_address c base ≤ address_of base c.disp

cleared_low : (clears : Bool) (n : ℕ) → n ≤ cond clears (n / 8 * 8) n + cond clears 7 0
cleared_low true n = omega arith
cleared_low false n = omega arith

cleared_high : (clears : Bool) (n : ℕ) → cond clears (n / 8 * 8) n ≤ n
cleared_high true n = omega arith
cleared_high false n = omega arith

address-near : (c : MemAccess) (base : ℕ) → IsNear c base
unfolding access_address
address-near c base = record {
  low = cleared_low c.clears (address_of base c.disp);
  high = cleared_high c.clears (address_of base c.disp);
}

-- what lies in memory lies below 2 ^ 31 before its bits are cleared
in_memory : (c : MemAccess) (base : ℕ) → access_address c base + c.bytes ≤ 2 ^ 30 → address_of base c.disp < 2 ^ 31
in_memory c base h =
    let close = address-near c base in
    let few : cond c.clears 7 0 ≤ 7 = cond_both c.clears 7 0 (λ n. n ≤ 7) (λ e. omega arith) (λ e. omega arith) in
    omega arith

-- a displacement below another and some bytes
below_end : (clears : Bool) (d e : ℤ) (n : ℕ) → FitsSigned w16 d → FitsSigned w16 e
    → displacement_from_lowest d < displacement_from_lowest e + n + cond clears 7 0
    → cond clears (d -ℤ pos 7) d <ℤ (e +ℤ pos n)
below_end true d e n fits also h = let p = (raised_is d fits).0 in let q = (raised_is e also).0 in omega (arith, ints)
below_end false d e n fits also h = let p = (raised_is d fits).0 in let q = (raised_is e also).0 in omega (arith, ints)

below_end-back : (clears : Bool) (d e : ℤ) (n : ℕ) → FitsSigned w16 d → FitsSigned w16 e → clears ≡ false
    → cond clears (d -ℤ pos 7) d <ℤ (e +ℤ pos n) → displacement_from_lowest d < displacement_from_lowest e + n
below_end-back true d e n fits also none h = absurd cc
below_end-back false d e n fits also none h =
    let p = (raised_is d fits).0 in
    let q = (raised_is e also).0 in
    omega (arith, ints)

-- where a byte of a isn't past the end of b, a begins below b's end
one_end : (a b : MemAccess) (base y : ℕ) → FitsSigned w16 a.disp → FitsSigned w16 b.disp
    → address_of base a.disp + displacement_from_lowest b.disp
    ≡ address_of base b.disp + displacement_from_lowest a.disp
    → access_address a base ≤ y → y < access_address b base + b.bytes
    → (bytes_spanned a).low <ℤ (bytes_spanned b).high
one_end a b base y fits also far from below =
    let near_a = address-near a base in
    let near_b = address-near b base in
    below_end a.clears a.disp b.disp b.bytes fits also (omega (arith, near_a.low, near_b.high))

-- two accesses by one base that touch a common byte of memory: their spans meet
pub common-meets : (a b : MemAccess) (base y : ℕ) → base < 2 ^ 64 → FitsSigned w16 a.disp → FitsSigned w16 b.disp
    → access_address a base + a.bytes ≤ 2 ^ 30 → access_address b base + b.bytes ≤ 2 ^ 30
    → Covers a base y → Covers b base y → AccessesMeet a b
common-meets a b base y small fits also there there_too one other =
    let far = as_far base a.disp b.disp small fits also (in_memory a base there) (in_memory b base there_too) in
    (one_end a b base y fits also far one.from other.below, one_end b a base y also fits (sym far) other.from one.below)

-- and where their spans meet they touch one, if neither clears bits of its address
pub meeting-touches : (a b : MemAccess) (base : ℕ) → base < 2 ^ 64 → FitsSigned w16 a.disp → FitsSigned w16 b.disp
    → 0 < a.bytes → 0 < b.bytes
    → access_address a base + a.bytes ≤ 2 ^ 30 → access_address b base + b.bytes ≤ 2 ^ 30 → a.clears ≡ false
    → b.clears ≡ false
    → AccessesMeet a b → (y : ℕ) × Covers a base y × Covers b base y
meeting-touches a b base small fits also some some_too there there_too plain plain_too meet =
    let far = as_far base a.disp b.disp small fits also (in_memory a base there) (in_memory b base there_too) in
    let x = access_by a base false plain in
    let y = access_by b base false plain_too in
    let low = below_end-back a.clears a.disp b.disp b.bytes fits also plain meet.0 in
    let high = below_end-back b.clears b.disp a.disp a.bytes also fits plain_too meet.1 in (
      max (access_address a base) (access_address b base),
      record { from = omega arith; below = omega arith },
      record { from = omega arith; below = omega arith },
    )

first_below : (clears : Bool) (d : ℤ) (n : ℕ) → 0 < n → cond clears (d -ℤ pos 7) d <ℤ (d +ℤ pos n)
first_below true d n some = omega (arith, ints)
first_below false d n some = omega (arith, ints)

-- a span has its first byte
first_in_span : (c : MemAccess) → 0 < c.bytes → first_byte c <ℤ (c.disp +ℤ pos c.bytes)
first_in_span c some = first_below c.clears c.disp c.bytes some

-- spans that meet have a byte in common, the later one of their first bytes
AccessesMeet-common_byte : (a b : MemAccess) → 0 < a.bytes → 0 < b.bytes → AccessesMeet a b
    → (distance : ℤ) × IsInSpan a distance × IsInSpan b distance
AccessesMeet-common_byte a b some some_too h =
    let first = first_in_span a some in
    let first_too = first_in_span b some_too in
    by_lt_z (first_byte a) (first_byte b)
    (λ l. (
      first_byte b,
      record { from = omega (arith, ints, l); below = h.1 },
      record { from = omega (arith, ints); below = first_too },
    ))
    (λ l. (first_byte a, record { from = omega (arith, ints); below = first }, record { from = l; below = h.0 }))

address-meet : (a b : MemAccess) → ((distance : ℤ) × IsInSpan a distance × IsInSpan b distance) → AccessesMeet a b
address-meet a b (x, one, other) =
    (omega (arith, ints, one.from, other.below), omega (arith, ints, other.from, one.below))

pub meeting-common : (a b : MemAccess) → 0 < a.bytes → 0 < b.bytes
    → (AccessesMeet a b ↔ ((distance : ℤ) × IsInSpan a distance × IsInSpan b distance))
meeting-common a b some some_too = (AccessesMeet-common_byte a b some some_too, address-meet a b)
