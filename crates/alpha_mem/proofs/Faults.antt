-- An aligned access has its bytes in one block.
use Rattle.std.proofs.Common.{◌≡◌, ℕ, zero, suc, ◌+◌, ◌%◌, ◌^◌, ◌<◌, ◌≤◌, Bool, true, false, cond, ◌&&◌, ◌||◌, List, []}
use Rattle.std.proofs.Common.{◌∷◌, refl, sym, ap, ◌∙◌, ⊎_elim, arith, count_by, add-zero, Some, None}
use Rattle.std.specs.List.{list_any, AllByRecursion}
use Rattle.std.proofs.Math.Nat.{add-mod, mod-eq_of_lt, mod-mod, mod-mod_of_dvd, mod-zero, zero-mod}
use Rattle.std.proofs.lemmas.Nat.Gcd.{dvd_of_mod-eq-zero}
use Rattle.std.proofs.lemmas.Bool.{false≢true, and_parts, and_from, or_cases, false_from_ne_true, ne_eqb, eq-eqb}
use Rattle.std.proofs.lemmas.Bool.{cond-true, cond-false, eqb-true}
use Rattle.std.proofs.lemmas.List.Elements.{recursion_from_All}
use Rattle.alpha_mem.specs.declared.access.Size.{Size}
use Rattle.alpha_mem.specs.declared.access.Size.TheVariants.{B1, B2, B4, B8}
use Rattle.alpha_mem.specs.declared.access.MemFault.TheVariants.{Align, Region}
use Rattle.alpha_mem.specs.Size.{size_of}
use Rattle.alpha_mem.specs.Intent.{Intent, Load, Store}
use Rattle.alpha_mem.specs.Block.{Shape, holds, allows, within}
use Rattle.alpha_mem.specs.Fault.{each_within, fault_of}
use Rattle.alpha_mem.specs.Memory.{IsLayout}
use Rattle.alpha_mem.proofs.Blocks.{holds-true, holds-from, all_units, list_any-weaker, one_passes_both}

-- two tests are one where each passes if the other does
same_tests : (x y : Bool) → (x ≡ true → y ≡ true) → (y ≡ true → x ≡ true) → x ≡ y
same_tests true y to from = sym (to refl)
same_tests false true to from = from refl
same_tests false false to from = refl

-- all n bytes at address a lie in one block
abbrev one_block : List Shape → Intent → ℕ → ℕ → Bool
one_block ss intent a n = list_any (λ s. allows s intent && holds s a n) ss

-- every size divides 16
pub size_of-divides : (size : Size) → 16 % size_of size ≡ 0
size_of-divides B1 = refl
size_of-divides B2 = refl
size_of-divides B4 = refl
size_of-divides B8 = refl

pub size_of-le : (size : Size) → size_of size ≤ 8
size_of-le B1 = omega arith
size_of-le B2 = omega arith
size_of-le B4 = omega arith
size_of-le B8 = omega arith

pub size_of-pos : (size : Size) → 0 < size_of size
size_of-pos B1 = omega arith
size_of-pos B2 = omega arith
size_of-pos B4 = omega arith
size_of-pos B8 = omega arith

divisor-pos : (n : ℕ) → 16 % n ≡ 0 → 0 < n
divisor-pos zero divides = absurd (omega (arith, mod-zero 16))
divisor-pos (suc n) divides = omega arith

-- inside an aligned access no block begins
not_at_start : (n a t : ℕ) → 16 % n ≡ 0 → a % n ≡ 0 → 0 < t → t < n → (a + t) % 16 ≡ 0 → ⊥
not_at_start n a t divides aligned above below start =
    let by_sixteen : (a + t) % 16 % n ≡ (a + t) % n =
    mod-mod_of_dvd n {b = 16} (a + t) (dvd_of_mod-eq-zero n divides) in
    let none : (a + t) % 16 % n ≡ 0 = ap (λ k. k % n) start ∙ zero-mod n in
    let parts : a % n + t % n ≡ t % n = omega arith in
    let some : (a + t) % n ≡ t = add-mod a t n ∙ (ap (λ k. k % n) parts ∙ (mod-mod t n ∙ mod-eq_of_lt below)) in
    omega arith

-- one byte more of an access lies in the same block, where no block begins at that byte
one_more : (ss : List Shape) (intent : Intent) (a j : ℕ) → AllByRecursion (λ s. s.first % 16 ≡ 0) ss
    → count_by (λ s. holds s (a + j) 1) ss ≤ 1 → ((a + suc j) % 16 ≡ 0 → ⊥) → one_block ss intent a (suc j) ≡ true
    → one_block ss intent (a + suc j) 1 ≡ true → one_block ss intent a (suc (suc j)) ≡ true
one_more ss intent a j starts one inside hp hq =
    one_passes_both (λ (s : Shape). s.first % 16 ≡ 0) (λ s. allows s intent && holds s a (suc j))
    (λ s. allows s intent && holds s (a + suc j) 1) (λ s. allows s intent && holds s a (suc (suc j)))
    (λ s. holds s (a + j) 1) ss
    (λ s start h.
    let p = and_parts (allows s intent) (holds s a (suc j)) h in
    let q = holds-true s a (suc j) p.1 in
    holds-from s (a + j) 1 (omega arith) (omega arith))
    (λ s start h.
    let p = and_parts (allows s intent) (holds s (a + suc j) 1) h in
    let q = holds-true s (a + suc j) 1 p.1 in
    let apart : s.first ≡ a + suc j → ⊥ = λ e. inside (ap (λ n. n % 16) (sym e) ∙ start) in
    holds-from s (a + j) 1 (omega arith) (omega arith))
    (λ s start h g.
    let p = and_parts (allows s intent) (holds s a (suc j)) h in
    let r = and_parts (allows s intent) (holds s (a + suc j) 1) g in
    let q = holds-true s a (suc j) p.1 in
    let t = holds-true s (a + suc j) 1 r.1 in
    and_from _ _ p.0 (holds-from s a (suc (suc j)) (omega arith) (omega arith)))
    starts one hp hq

-- with bytes, `within` is the test of one block
pub within-one_block : (ss : List Shape) (intent : Intent) (a n : ℕ) → 0 < n
    → within ss intent a n ≡ list_any (λ s. allows s intent && holds s a n) ss
within-one_block ss intent a zero p = absurd (omega arith)
within-one_block ss intent a (suc n) p =
    ap (λ b. b || one_block ss intent a (suc n)) (ne_eqb (suc n) 0 (λ e. omega arith))

each-to_one : (ss : List Shape) (intent : Intent) (a n : ℕ) → IsLayout ss → 16 % n ≡ 0 → a % n ≡ 0 → (j : ℕ) → suc j ≤ n
    → each_within ss intent a (suc j) ≡ true → one_block ss intent a (suc j) ≡ true
unfolding each_within
each-to_one ss intent a n layout divides aligned zero fits h = ap (λ k. one_block ss intent k 1) (sym (add-zero a)) ∙ h
each-to_one ss intent a n layout divides aligned (suc j) fits h =
    let p = and_parts (each_within ss intent a (suc j)) (within ss intent (a + suc j) 1) h in
    one_more ss intent a j (recursion_from_All (λ (s : Shape). s.first % 16 ≡ 0) ss layout.aligned)
    (layout.apart (a + j)) (not_at_start n a (suc j) divides aligned (omega arith) (omega arith))
    (each-to_one ss intent a n layout divides aligned j (omega arith) p.0) p.1

each-from_one : (ss : List Shape) (intent : Intent) (a n : ℕ) → one_block ss intent a n ≡ true → (j : ℕ) → j ≤ n
    → each_within ss intent a j ≡ true
unfolding each_within
each-from_one ss intent a n h zero fits = refl
each-from_one ss intent a n h (suc j) fits =
    and_from _ _ (each-from_one ss intent a n h j (omega arith))
    (list_any-weaker (λ s. Unit {0}) (λ s. allows s intent && holds s a n)
    (λ s. allows s intent && holds s (a + j) 1) ss (all_units ss) (λ s u h.
    let p = and_parts (allows s intent) (holds s a n) h in
    let q = holds-true s a n p.1 in
    and_from _ _ p.0 (holds-from s (a + j) 1 (omega arith) (omega arith))) h)

each_to : (ss : List Shape) (intent : Intent) (a n : ℕ) → IsLayout ss → 16 % n ≡ 0 → a % n ≡ 0
    → each_within ss intent a n ≡ true → one_block ss intent a n ≡ true
each_to ss intent a zero layout divides aligned h = absurd (omega (arith, divisor-pos 0 divides))
each_to ss intent a (suc n) layout divides aligned h =
    each-to_one ss intent a (suc n) layout divides aligned n (omega arith) h

-- each byte of an aligned access lies in a block exactly where one block has them all
pub each_within-aligned : (ss : List Shape) (intent : Intent) (a n : ℕ) → IsLayout ss → 16 % n ≡ 0 → a % n ≡ 0
    → each_within ss intent a n ≡ within ss intent a n
each_within-aligned ss intent a n layout divides aligned =
    let one = within-one_block ss intent a n (divisor-pos n divides) in
    same_tests (each_within ss intent a n) (within ss intent a n)
    (λ h. one ∙ each_to ss intent a n layout divides aligned h)
    (λ h. each-from_one ss intent a n (sym one ∙ h) n (omega arith))

-- a fault, with its test of one block
pub fault_of-aligned : (ss : List Shape) (intent : Intent) (a n : ℕ) → IsLayout ss → 16 % n ≡ 0 → a % n ≡ 0
    → fault_of ss intent a n ≡ cond (within ss intent a n) None (Some Region)
unfolding fault_of
fault_of-aligned ss intent a n layout divides aligned =
    cond-true _ _ _ (eq-eqb _ _ aligned)
    ∙ ap (λ b. cond b None (Some Region)) (each_within-aligned ss intent a n layout divides aligned)

pub fault_of-unaligned : (ss : List Shape) (intent : Intent) (a n : ℕ) → (a % n ≡ 0 → ⊥)
    → fault_of ss intent a n ≡ Some Align
unfolding fault_of
fault_of-unaligned ss intent a n h = cond-false _ _ _ (ne_eqb _ _ h)

-- what an access that was judged answers, where its length is n
pub fault_of-judged_align : (ss : List Shape) (intent : Intent) (a n k : ℕ) → n ≡ k → (a % n ≡ 0 → ⊥)
    → Some Align ≡ fault_of ss intent a k
fault_of-judged_align ss intent a n k e h = sym (fault_of-unaligned ss intent a k (λ z. h (ap (λ j. a % j) e ∙ z)))

fault_of-within : (ss : List Shape) (intent : Intent) (a n : ℕ) (size : Size) (there : Bool) → IsLayout ss
    → n ≡ size_of size
    → a % n ≡ 0 → within ss intent a n ≡ there → fault_of ss intent a (size_of size) ≡ cond there None (Some Region)
fault_of-within ss intent a n size there layout e aligned h =
    fault_of-aligned ss intent a (size_of size) layout (size_of-divides size) (ap (λ j. a % j) (sym e) ∙ aligned)
    ∙ ap (λ b. cond b None (Some Region)) (ap (λ j. within ss intent a j) (sym e) ∙ h)

pub fault_of-judged_none : (ss : List Shape) (intent : Intent) (a n : ℕ) (size : Size) → IsLayout ss → n ≡ size_of size
    → a % n ≡ 0 → within ss intent a n ≡ true → None ≡ fault_of ss intent a (size_of size)
fault_of-judged_none ss intent a n size layout e aligned h =
    sym (fault_of-within ss intent a n size true layout e aligned h)

pub fault_of-judged_region : (ss : List Shape) (intent : Intent) (a n : ℕ) (size : Size) → IsLayout ss
    → n ≡ size_of size
    → a % n ≡ 0 → (within ss intent a n ≡ true → ⊥) → Some Region ≡ fault_of ss intent a (size_of size)
fault_of-judged_region ss intent a n size layout e aligned h =
    sym (fault_of-within ss intent a n size false layout e aligned (false_from_ne_true _ h))

-- an access with no fault is aligned, and each of its bytes lies in a block
granted_by : (aligned each : Bool) → cond aligned (cond each None (Some Region)) (Some Align) ≡ None
    → (aligned ≡ true) × (each ≡ true)
granted_by true true e = (refl, refl)
granted_by true false e = absurd cc
granted_by false each e = absurd cc

granted-parts : (ss : List Shape) (intent : Intent) (a n : ℕ) → fault_of ss intent a n ≡ None
    → (a % n ≡ 0) × (each_within ss intent a n ≡ true)
unfolding fault_of
granted-parts ss intent a n granted =
    let p = granted_by _ _ granted in
    (eqb-true _ _ p.0, p.1)

-- an access with no fault lies in one block
pub within-no_fault : (ss : List Shape) (intent : Intent) (a n : ℕ) → IsLayout ss → 16 % n ≡ 0
    → fault_of ss intent a n ≡ None → within ss intent a n ≡ true
within-no_fault ss intent a n layout divides granted =
    let p = granted-parts ss intent a n granted in
    sym (each_within-aligned ss intent a n layout divides p.0) ∙ p.1

-- what a store may write, a load may read
pub within-readable : (ss : List Shape) (a n : ℕ) → within ss Store a n ≡ true → within ss Load a n ≡ true
within-readable ss a zero there = refl
within-readable ss a (suc n) there =
    within-one_block ss Load a (suc n) (omega arith)
    ∙ list_any-weaker (λ s. Unit {0}) (λ s. s.writable && holds s a (suc n))
    (λ s. holds s a (suc n)) ss (all_units ss) (λ s u h. (and_parts s.writable (holds s a (suc n)) h).1)
    (sym (within-one_block ss Store a (suc n) (omega arith)) ∙ there)

-- a part of a range within one block lies within it
pub within-part : (ss : List Shape) (intent : Intent) (a n b k : ℕ) → within ss intent a n ≡ true → a ≤ b
    → b + k ≤ a + n → within ss intent b k ≡ true
within-part ss intent a n b zero there low high = refl
within-part ss intent a zero b (suc k) there low high = absurd (omega arith)
within-part ss intent a (suc n) b (suc k) there low high =
    within-one_block ss intent b (suc k) (omega arith)
    ∙ list_any-weaker (λ s. Unit {0}) (λ s. allows s intent && holds s a (suc n))
    (λ s. allows s intent && holds s b (suc k)) ss (all_units ss) (λ s u h.
    let p = and_parts (allows s intent) (holds s a (suc n)) h in
    let q = holds-true s a (suc n) p.1 in
    and_from _ _ p.0 (holds-from s b (suc k) (omega arith) (omega arith)))
    (sym (within-one_block ss intent a (suc n) (omega arith)) ∙ there)

one_block-below : (ss : List Shape) (intent : Intent) (a n : ℕ) → AllByRecursion (λ s. s.first + s.size ≤ 2 ^ 30) ss
    → one_block ss intent a n ≡ true → a + n ≤ 2 ^ 30
one_block-below [] intent a n below h = absurd (false≢true h)
one_block-below (s ∷ ss) intent a n below h =
    ⊎_elim (λ (e : allows s intent && holds s a n ≡ true).
    let q = holds-true s a n (and_parts (allows s intent) (holds s a n) e).1 in omega (arith, below.0))
    (λ (e : one_block ss intent a n ≡ true). one_block-below ss intent a n below.1 e) (or_cases _ _ h)

-- a range of some bytes ends at or below 2 ^ 30
pub within-below : (ss : List Shape) (intent : Intent) (a n : ℕ) → IsLayout ss → 0 < n → within ss intent a n ≡ true
    → a + n ≤ 2 ^ 30
within-below ss intent a n layout some there =
    one_block-below ss intent a n (recursion_from_All (λ (s : Shape). s.first + s.size ≤ 2 ^ 30) ss layout.below)
    (sym (within-one_block ss intent a n some) ∙ there)

-- so does an access with no fault
pub fault_of-none_below : (ss : List Shape) (intent : Intent) (a n : ℕ) → IsLayout ss → fault_of ss intent a n ≡ None
    → a + n ≤ 2 ^ 30
unfolding each_within
fault_of-none_below ss intent a zero layout granted =
    omega (arith, (granted-parts ss intent a 0 granted).0, mod-zero a)
fault_of-none_below ss intent a (suc n) layout granted =
    let last =
    and_parts (each_within ss intent a n) (within ss intent (a + n) 1) (granted-parts ss intent a (suc n) granted).1 in
    omega (arith, within-below ss intent (a + n) 1 layout (omega arith) last.1)
