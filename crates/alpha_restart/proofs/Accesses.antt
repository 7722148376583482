-- A load reads the same bytes in both machines, and a store leaves the same.
use Rattle.std.proofs.Common.{◌≡◌, ◌≢◌, ◌<◌, ◌≤◌, ◌+◌, ◌⊎◌, ℕ, List, length, Some, None, IsTrue, refl, sym, ap, subst}
use Rattle.std.proofs.Common.{◌∙◌, ⊎_elim, inl, inr, arith}
use Rattle.std.proofs.lemmas.Bool.{cases_eq, cases_lt}
use Rattle.alpha_words.specs.Regs.{reg}
use Rattle.alpha_table.specs.declared.columns.InsnKind.{InsnKind}
use Rattle.alpha_table.specs.declared.columns.InsnKind.TheVariants as kinds
use Rattle.alpha_table.specs.declared.columns.MemAccess.{MemAccess}
use Rattle.alpha_table.specs.Code.{class_at, kind}
use Rattle.alpha_table.specs.Uses.{access}
use Rattle.alpha_values.specs.Address.{access_address, Covers}
use Rattle.alpha_mem.specs.Intent.{Load, Store}
use Rattle.alpha_mem.specs.Block.{Block, shapes, within}
use Rattle.alpha_mem.specs.Fault.{fault_of}
use Rattle.alpha_mem.specs.Memory.{byte_at, bytes_at, write_bytes, IsLayout}
use Rattle.alpha_mem.proofs.LawLemmas as mem
use Rattle.alpha_restart.specs.Match.{Reached, DeadByte, SameBytes, intent_of}
use Rattle.alpha_restart.proofs.CodeWordBounds.{access-IsNarrow}
use Rattle.alpha_restart.proofs.BytesAlike.{DeadByte-next_word, Reached-next_word}

module _ (code : List ℕ) (q e : ℕ) (regs : List ℕ) (m n : List Block) (c : MemAccess) (h : SameBytes code q e regs m n)
    (less : q < e) (accesses : access (class_at code q) ≡ Some c) where
  -- its address
  abbrev pub here : ℕ
  here = access_address c (reg regs c.base)

  -- the access at the word doesn't fault
  pub granted_here : (k : InsnKind) → kind (class_at code q) ≡ Some k
      → fault_of (shapes m) (intent_of (Some k)) (here) c.bytes ≡ None
  granted_here k is =
      ap (λ o. fault_of (shapes m) (intent_of o) (here) c.bytes) (sym is)
      ∙ (h.reached q c (omega arith) less accesses).granted

  pub granted_there : (k : InsnKind) → kind (class_at code q) ≡ Some k
      → fault_of (shapes n) (intent_of (Some k)) (here) c.bytes ≡ None
  granted_there k is =
      ap (λ ss. fault_of ss (intent_of (Some k)) (here) c.bytes) h.blocks ∙ granted_here k is

  -- a byte that the load at q reads isn't dead
  read_same : (y : ℕ) → kind (class_at code q) ≡ Some kinds.Load → Covers c (reg regs c.base) y
      → byte_at m y ≡ byte_at n y
  read_same y load covers = ⊎_elim
      (λ (same : byte_at n y ≡ byte_at m y). sym same)
      (λ (d : DeadByte code q e regs y). ⊎_elim
      (λ (is : q ≡ d.at).
      let f : kind (class_at code q) ≡ Some kinds.Store = ap (λ k. kind (class_at code k)) is ∙ d.store in
      cc)
      (λ (apart : q ≡ d.at → ⊥). let low = d.above in
      absurd (d.unread q c (omega arith) (omega arith) load accesses covers))
      (cases_eq q d.at))
      (h.bytes y)

  pub same_loaded : kind (class_at code q) ≡ Some kinds.Load
      → bytes_at n (here) c.bytes ≡ bytes_at m (here) c.bytes
  same_loaded load =
      sym (mem.bytes_at-agree m n (here) c.bytes (sym h.blocks) h.layout
      (mem.within-no_fault (shapes m) Load (here) c.bytes h.layout (access-IsNarrow code q c accesses).divides
      (granted_here kinds.Load load))
      (λ x low high. read_same x load (record { from = low; below = high })))

  -- the bytes after a store at q
  stored_byte : (xs : List ℕ) (y : ℕ) → length xs ≡ c.bytes → kind (class_at code q) ≡ Some kinds.Store
      → (byte_at (write_bytes n (here) xs) y ≡ byte_at (write_bytes m (here) xs) y) ⊎ DeadByte code (q + 1) e regs y
  stored_byte xs y size store =
      ⊎_elim (λ (before : y < here). outside (inl before))
      (λ (from : here ≤ y). ⊎_elim
      (λ (below : y < here + length xs). inl (inside from below))
      (λ (past : here + length xs ≤ y). outside (inr past))
      (cases_lt y (here + length xs)))
      (cases_lt y (here))
    where
      there : IsTrue (within (shapes m) Load (here) (length xs))
      there =
          subst (λ k. IsTrue (within (shapes m) Load (here) k)) (sym size)
          (mem.within-readable (shapes m) (here) c.bytes
          (mem.within-no_fault (shapes m) Store (here) c.bytes h.layout (access-IsNarrow code q c accesses).divides
          (granted_here kinds.Store store)))

      inside : here ≤ y → y < here + length xs
          → byte_at (write_bytes n (here) xs) y ≡ byte_at (write_bytes m (here) xs) y
      inside low high =
          mem.byte_at-write_bytes_inside n (here) xs y (subst IsLayout (sym h.blocks) h.layout)
          (subst (λ ss. IsTrue (within ss Load (here) (length xs))) (sym h.blocks) there) low high
          ∙ sym (mem.byte_at-write_bytes_inside m (here) xs y h.layout there low high)

      elsewhere : (y < here) ⊎ (here + length xs ≤ y) → (d : DeadByte code q e regs y) → d.at ≢ q
      elsewhere out d is =
          let same : d.c ≡ c =
          (let f : Some d.c ≡ Some c = sym d.accesses ∙ (ap (λ k. access (class_at code k)) is ∙ accesses) in cc) in
          let w : Covers c (reg regs c.base) y = subst (λ k. Covers k (reg regs k.base) y) same d.written in
          let low = w.from in
          let high = w.below in
          ⊎_elim (λ (p : y < here). omega arith) (λ (p : here + length xs ≤ y). omega arith) out

      outside : (y < here) ⊎ (here + length xs ≤ y)
          → (byte_at (write_bytes n (here) xs) y ≡ byte_at (write_bytes m (here) xs) y) ⊎ DeadByte code (q + 1) e regs y
      outside out = ⊎_elim
          (λ (same : byte_at n y ≡ byte_at m y). inl (mem.byte_at-write_bytes_outside n (here) xs y out
          ∙ (same ∙ sym (mem.byte_at-write_bytes_outside m (here) xs y out))))
          (λ (d : DeadByte code q e regs y).
          inr (DeadByte-next_word code q e e regs regs m n y (λ x u. refl) h (omega arith) d (elsewhere out d)))
          (h.bytes y)

  pub bytes_stored : (xs : List ℕ) → length xs ≡ c.bytes → kind (class_at code q) ≡ Some kinds.Store
      → SameBytes code (q + 1) e regs (write_bytes m (here) xs) (write_bytes n (here) xs)
  bytes_stored xs size store =
      let mine = mem.shapes-write_bytes m (here) xs in
      record {
        blocks = mem.shapes-write_bytes n (here) xs ∙ (h.blocks ∙ sym mine);
        layout = subst IsLayout (sym mine) h.layout;
        bytes = λ y. stored_byte xs y size store;
        reached = λ i d low high is. subst (λ ss. Reached code (q + 1) i d regs ss) (sym mine)
            (Reached-next_word code q i d regs regs m (omega arith) (λ x u. refl)
            (h.reached i d (omega arith) high is));
      }
