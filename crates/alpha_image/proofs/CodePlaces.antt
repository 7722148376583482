-- The places of the code words, by their addresses.
use Rattle.std.proofs.Common.{◌≡◌, ℕ, ◌+◌, ◌*◌, ◌-◌, ◌/◌, ◌%◌, ◌<◌, ◌≤◌, ◌↔◌, Bool, true, eqb, leb, ltb, ◌&&◌, length}
use Rattle.std.proofs.Common.{Some, refl, arith}
use Rattle.std.specs.Prelude.{IsSome}
use Rattle.std.proofs.lemmas.Bool.{eq-eqb, le-leb, lt-ltb}
use Rattle.std.proofs.lemmas.Bool.Decides.{nat_tests}
use Rattle.std.proofs.lemmas.Option.{cond_some}
use Rattle.alpha_image.specs.Parts.{Parts, IsImage, place_of}

-- an address that is aligned and within the code
abbrev is_code : Parts → ℕ → Bool
is_code p address = eqb (address % 4) 0 && (leb p.code_base address && ltb address (p.code_base + 4 * length p.words))

is_code-true : (p : Parts) (address : ℕ) → is_code p address ≡ true
    → (address % 4 ≡ 0) × (p.code_base ≤ address) × (address < p.code_base + 4 * length p.words)
is_code-true p address e = (grind (arith, nat_tests), grind (arith, nat_tests), grind (arith, nat_tests))

is_code-from : (p : Parts) (address : ℕ) → address % 4 ≡ 0 → p.code_base ≤ address
    → address < p.code_base + 4 * length p.words → is_code p address ≡ true
is_code-from p address a b c = rw (eq-eqb _ _ a, le-leb _ _ b, lt-ltb _ _ c) refl

pub place_of-code : (p : Parts) → IsImage p → (address n : ℕ)
    → (place_of p address ≡ Some n) ↔ ((n < length p.words) × (address ≡ p.code_base + 4 * n))
unfolding place_of
place_of-code p good address n = (
  λ e. let found = cond_some (is_code p address) ((address - p.code_base) / 4) n e in
      let at = is_code-true p address found.0 in
      let aligned = good.fields.code_base.0 in
      (omega arith, omega arith),
  λ e. let aligned = good.fields.code_base.0 in
      let at : is_code p address ≡ true = is_code-from p address (omega arith) (omega arith) (omega arith) in
      let same : (address - p.code_base) / 4 ≡ n = omega arith in
      rw (at, same) refl,
)

pub place_of-entry : (p : Parts) → IsImage p → IsSome (place_of p p.entry)
unfolding place_of
place_of-entry p good =
    let fit = good.fields.entry in
    let at : is_code p p.entry ≡ true = is_code-from p p.entry (omega arith) (omega arith) (omega arith) in
    rw at refl
