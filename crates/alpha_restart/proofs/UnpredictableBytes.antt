-- Bytes while a trap is pending: words that wait may leave any bytes where their stores go.
use Rattle.std.proofs.Common.{◌≡◌, ◌<◌, ◌≤◌, ◌+◌, ◌-◌, ◌*◌, ◌/◌, ◌%◌, ◌^◌, ◌⊎◌, ℕ, ℤ, pos, negsuc, ◌+ℤ◌, cond, List}
use Rattle.std.proofs.Common.{length, Some, FitsSigned, ap, subst, ◌∙◌, ⊎_elim, inl, inr, arith}
use Rattle.std.specs.Int.{w16}
use Rattle.std.proofs.lemmas.Int.{ints}
use Rattle.std.proofs.lemmas.Bool.{cases_eq, cases_lt}
use Rattle.alpha_words.specs.Regs.{reg}
use Rattle.alpha_table.specs.declared.columns.InsnKind.TheVariants as kinds
use Rattle.alpha_table.specs.declared.columns.MemAccess.{MemAccess}
use Rattle.alpha_table.specs.Code.{class_at, kind}
use Rattle.alpha_table.specs.Uses.{access}
use Rattle.alpha_values.specs.Numbers.{register_of}
use Rattle.alpha_values.specs.Address.{address_of, access_address, Covers, AccessesMeet}
use Rattle.alpha_values.proofs.MachineWords.{register_of-mod}
use Rattle.alpha_values.proofs.AddressLemmas.{common-meets}
use Rattle.alpha_mem.specs.Block.{Block, shapes}
use Rattle.alpha_mem.specs.Memory.{byte_at, write_bytes}
use Rattle.alpha_mem.proofs.LawLemmas as mem
use Rattle.alpha_restart.specs.Safe.{Shadowed, IsSafe}
use Rattle.alpha_restart.specs.Match.{Reached, DeadByte, SameBytes, intent_of}
use Rattle.alpha_restart.proofs.CodeWordBounds.{access-IsNarrow}

-- ---- addresses by any base

-- a base counts modulo 2 ^ 64
address_wrapped : (base : ℕ) (d : ℤ) → FitsSigned w16 d → address_of (base % 2 ^ 64) d ≡ address_of base d
unfolding address_of
address_wrapped base (pos n) fits =
    let one : register_of (pos (base % 2 ^ 64) +ℤ pos n) ≡ (base % 2 ^ 64 + n) % 2 ^ 64 =
    register_of-mod _ 0 (base % 2 ^ 64 + n) (omega (arith, ints)) in
    let two : register_of (pos base +ℤ pos n) ≡ (base + n) % 2 ^ 64 =
    register_of-mod _ 0 (base + n) (omega (arith, ints)) in
    omega arith
address_wrapped base (negsuc n) fits =
    let few = fits.sfits in
    let one : register_of (pos (base % 2 ^ 64) +ℤ negsuc n) ≡ (base % 2 ^ 64 + (2 ^ 64 - 1 - n)) % 2 ^ 64 =
    register_of-mod _ 1 (base % 2 ^ 64 + (2 ^ 64 - 1 - n)) (omega (arith, ints)) in
    let two : register_of (pos base +ℤ negsuc n) ≡ (base + (2 ^ 64 - 1 - n)) % 2 ^ 64 =
    register_of-mod _ 1 (base + (2 ^ 64 - 1 - n)) (omega (arith, ints)) in
    omega arith

access_wrapped : (c : MemAccess) (base : ℕ) → FitsSigned w16 c.disp
    → access_address c (base % 2 ^ 64) ≡ access_address c base
unfolding access_address
access_wrapped c base fits = ap (λ n. cond c.clears (n / 8 * 8) n) (address_wrapped base c.disp fits)

covers_wrapped : (c : MemAccess) (base y : ℕ) → FitsSigned w16 c.disp → Covers c base y → Covers c (base % 2 ^ 64) y
covers_wrapped c base y fits h =
    let same = access_wrapped c base fits in
    record { from = (let from = h.from in omega arith); below = (let below = h.below in omega arith) }

-- two accesses by one base that touch a common byte of memory
spans_meet : (a b : MemAccess) (base y : ℕ) → FitsSigned w16 a.disp → FitsSigned w16 b.disp
    → access_address a base + a.bytes ≤ 2 ^ 30
    → access_address b base + b.bytes ≤ 2 ^ 30 → Covers a base y → Covers b base y → AccessesMeet a b
spans_meet a b base y fits also there there_too one other =
    let same = access_wrapped a base fits in
    let same_too = access_wrapped b base also in
    common-meets a b (base % 2 ^ 64) y (omega arith) fits also (omega arith) (omega arith)
    (covers_wrapped a base y fits one) (covers_wrapped b base y also other)

-- ---- the window

-- an end further on, where the accesses on the way are reached
pub SameBytes-later_end : (code : List ℕ) (q e f : ℕ) (regs : List ℕ) (m n : List Block) → SameBytes code q e regs m n
    → e ≤ f
    → ((i : ℕ) (c : MemAccess) → e ≤ i → i < f → access (class_at code i) ≡ Some c → Reached code q i c regs (shapes m))
    → SameBytes code q f regs m n
SameBytes-later_end code q e f regs m n h more reach = record {
  blocks = h.blocks;
  layout = h.layout;
  bytes = λ y. ⊎_elim
      (λ (same : byte_at n y ≡ byte_at m y). inl same)
      (λ (d : DeadByte code q e regs y). inr (record {
        at = d.at;
        above = d.above;
        below = (let below = d.below in omega arith);
        c = d.c;
        accesses = d.accesses;
        store = d.store;
        written = d.written;
        unread = d.unread;
      }))
      (h.bytes y);
  reached = λ i c low high is. ⊎_elim
      (λ (before : i < e). h.reached i c low before is)
      (λ (past : e ≤ i). reach i c past high is)
      (cases_lt i e);
}

module _ (code : List ℕ) (safe : IsSafe code) (p i f : ℕ) (regs : List ℕ) (m n : List Block) (c : MemAccess)
    (h : SameBytes code (p + 1) f regs m n)
    (reach : Shadowed code p i) (above : p < i) (below : i < f) (accesses : access (class_at code i) ≡ Some c)
    (store : kind (class_at code i) ≡ Some kinds.Store) where
  granted_below : (j : ℕ) (d : MemAccess) → p < j → j < f → access (class_at code j) ≡ Some d
      → access_address d (reg regs d.base) + d.bytes ≤ 2 ^ 30
  granted_below j d low high is =
      mem.fault_of-none_below (shapes m) (intent_of (kind (class_at code j)))
      (access_address d (reg regs d.base)) d.bytes h.layout (h.reached j d (omega arith) high is).granted

  -- no load before the store reads a byte that it writes
  unread : (y : ℕ) → Covers c (reg regs c.base) y → (j : ℕ) (d : MemAccess) → p + 1 ≤ j → j < i
      → kind (class_at code j) ≡ Some kinds.Load
      → access (class_at code j) ≡ Some d → Covers d (reg regs d.base) y → ⊥
  unread y written j d low high load is read = safe.meets p i j c d reach store accesses (omega arith) high load is
      (⊎_elim
      (λ (same : d.base ≡ c.base).
      inr
      (spans_meet d c (reg regs c.base) y (access-IsNarrow code j d is).disp (access-IsNarrow code i c accesses).disp
      (subst (λ b. access_address d (reg regs b) + d.bytes ≤ 2 ^ 30) same
      (granted_below j d (omega arith) (omega arith) is))
      (granted_below i c above below accesses)
      (subst (λ b. Covers d (reg regs b) y) same read) written))
      (λ (apart : d.base ≡ c.base → ⊥). inl apart)
      (cases_eq d.base c.base))

  pub SameBytes-unpredictable : (xs : List ℕ) → length xs ≡ c.bytes
      → SameBytes code (p + 1) f regs m (write_bytes n (access_address c (reg regs c.base)) xs)
  SameBytes-unpredictable xs size = record {
    blocks = mem.shapes-write_bytes n (access_address c (reg regs c.base)) xs ∙ h.blocks;
    layout = h.layout;
    bytes = λ y. ⊎_elim
        (λ (before : y < access_address c (reg regs c.base)). outside y (inl before))
        (λ (from : access_address c (reg regs c.base) ≤ y). ⊎_elim
        (λ (inside : y < access_address c (reg regs c.base) + c.bytes).
        let written : Covers c (reg regs c.base) y = record { from = from; below = inside } in
        inr (record {
          at = i;
          above = omega arith;
          below = below;
          c = c;
          accesses = accesses;
          store = store;
          written = written;
          unread = unread y written;
        }))
        (λ (past : access_address c (reg regs c.base) + c.bytes ≤ y). outside y (inr (omega arith)))
        (cases_lt y (access_address c (reg regs c.base) + c.bytes)))
        (cases_lt y (access_address c (reg regs c.base)));
    reached = h.reached;
  }
    where
      outside : (y : ℕ)
          → (y < access_address c (reg regs c.base)) ⊎ (access_address c (reg regs c.base) + length xs ≤ y)
          → (byte_at (write_bytes n (access_address c (reg regs c.base)) xs) y ≡ byte_at m y)
          ⊎ DeadByte code (p + 1) f regs y
      outside y out = ⊎_elim
          (λ (same : byte_at n y ≡ byte_at m y).
          inl (mem.byte_at-write_bytes_outside n (access_address c (reg regs c.base)) xs y out ∙ same))
          (λ (d : DeadByte code (p + 1) f regs y). inr d)
          (h.bytes y)
