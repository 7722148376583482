use Rattle.std.proofs.Common.{◌≡◌, ◌≢◌, ◌<◌, ◌^◌, ℕ, Option, Some, None, IfSome, arith, subst, ◌∙◌, ap}
use Rattle.std.specs.Int.{w32, bit_at, trailing_zeros}
use Rattle.std.proofs.lemmas.Nat.Bits.{bit_at-trailing_zeros}
use Rattle.alpha_words.specs.Regs.{Has}
use Rattle.alpha_shadow.proofs.last.least_register.Goals as goal

found : (bits : ℕ) (o : Option ℕ) → bits ≢ 0 → bits < 2 ^ 31 → IfSome o (λ r. r ≡ trailing_zeros w32 bits)
    → IfSome o (Has bits)
found bits None some small value = tt
found bits (Some r) some small value =
    ap (bit_at bits) value ∙ (bit_at-trailing_zeros w32 bits (omega arith) (omega arith)).1

pub returns-else-bits-eq0-clause-found : goal.returns-else-bits-eq0-clause-found
returns-else-bits-eq0-clause-found c =
    let e = c.bits-bits.ensures.value in
    subst (λ n. IfSome c.new.result (Has n)) e
    (found c.bits-bits.result c.new.result c.if-bits-eq0.false
    (let b = c.bits-bits.ensures.bound in omega arith) c.new.ensures.found)
