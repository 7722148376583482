-- Bytes that are the same or dead, from one word to the next.
use Rattle.std.proofs.Common.{◌≡◌, ◌≢◌, ◌<◌, ◌≤◌, ◌+◌, ℕ, List, Some, refl, sym, ap, subst, ◌∙◌, ⊎_elim, inl, inr}
use Rattle.std.proofs.Common.{arith}
use Rattle.alpha_words.specs.Regs.{reg}
use Rattle.alpha_table.specs.declared.columns.InsnKind.TheVariants as kinds
use Rattle.alpha_table.specs.declared.columns.MemAccess.{MemAccess}
use Rattle.alpha_table.specs.Code.{class_at, kind}
use Rattle.alpha_table.specs.Uses.{sets}
use Rattle.alpha_values.specs.Address.{access_address, Covers}
use Rattle.alpha_mem.specs.Block.{Block, shapes}
use Rattle.alpha_mem.specs.Fault.{fault_of}
use Rattle.alpha_mem.specs.Memory.{byte_at, IsLayout}
use Rattle.alpha_mem.proofs.LawLemmas as mem
use Rattle.alpha_restart.specs.Match.{Reached, DeadByte, SameBytes, intent_of}

-- the registers that the word at a place does not set are the same
abbrev pub SameUnset : List ℕ → ℕ → List ℕ → List ℕ → Type 0
SameUnset code q old new = (x : ℕ) → sets (class_at code q) ≢ Some x → reg new x ≡ reg old x

covers_moved : (c : MemAccess) (v w y : ℕ) → v ≡ w → Covers c v y → Covers c w y
covers_moved c v w y e h = subst (λ n. Covers c n y) e h

-- the words behind the one at q reach their accesses as before
pub Reached-next_word : (code : List ℕ) (q i : ℕ) (c : MemAccess) (old new : List ℕ) (m : List Block) → q < i
    → SameUnset code q old new
    → Reached code q i c old (shapes m) → Reached code (q + 1) i c new (shapes m)
Reached-next_word code q i c old new m above same_unset h = record {
  base = λ k low high. h.base k (omega arith) high;
  granted = ap (λ v. fault_of (shapes m) (intent_of (kind (class_at code i))) (access_address c v) c.bytes)
      (same_unset c.base (h.base q (omega arith) above)) ∙ h.granted;
}

-- a dead byte that no store at q writes is dead behind q
pub DeadByte-next_word : (code : List ℕ) (q e f : ℕ) (old new : List ℕ) (m n : List Block) (y : ℕ)
    → SameUnset code q old new
    → SameBytes code q e old m n
    → e ≤ f → (d : DeadByte code q e old y) → (d.at ≢ q) → DeadByte code (q + 1) f new y
DeadByte-next_word code q e f old new m n y same_unset h more d apart =
    let low = d.above in
    let high = d.below in
    record {
      at = d.at;
      above = omega arith;
      below = omega arith;
      c = d.c;
      accesses = d.accesses;
      store = d.store;
      written = covers_moved d.c (reg old d.c.base) (reg new d.c.base) y
          (sym (same_unset d.c.base ((h.reached d.at d.c low high d.accesses).base q (omega arith) (omega arith))))
          d.written;
      unread = λ j c above below load accesses covers. d.unread j c (omega arith) below load accesses
          (covers_moved c (reg new c.base) (reg old c.base) y
          (same_unset c.base ((h.reached j c (omega arith) (omega arith) accesses).base q (omega arith) (omega arith)))
          covers);
    }

-- past a word that stores nothing
pub SameBytes-next_word : (code : List ℕ) (q e f : ℕ) (old new : List ℕ) (m n : List Block)
    → kind (class_at code q) ≢ Some kinds.Store
    → SameUnset code q old new → SameBytes code q e old m n → e ≤ f → ((i : ℕ) → q < i → i < f → i < e)
    → SameBytes code (q + 1) f new m n
SameBytes-next_word code q e f old new m n plain same_unset h more few = record {
  blocks = h.blocks;
  layout = h.layout;
  bytes = λ y. ⊎_elim
      (λ (same : byte_at n y ≡ byte_at m y). inl same)
      (λ (d : DeadByte code q e old y). inr (DeadByte-next_word code q e f old new m n y same_unset h more d
      (λ is. plain (ap (λ k. kind (class_at code k)) (sym is) ∙ d.store))))
      (h.bytes y);
  reached =
      λ i c low high accesses. Reached-next_word code q i c old new m (omega arith) same_unset
      (h.reached i c (omega arith) (few i (omega arith) high) accesses);
}

-- at the end no byte is dead
pub SameBytes-end : (code : List ℕ) (q : ℕ) (regs : List ℕ) (m n : List Block) → SameBytes code q q regs m n → n ≡ m
SameBytes-end code q regs m n h =
    mem.memory-extensional n m h.blocks (subst IsLayout (sym h.blocks) h.layout) (λ y. ⊎_elim
    (λ (same : byte_at n y ≡ byte_at m y). same)
    (λ (d : DeadByte code q q regs y). let low = d.above in let high = d.below in absurd (omega arith))
    (h.bytes y))

pub SameBytes-refl : (code : List ℕ) (q : ℕ) (regs : List ℕ) (m : List Block) → IsLayout (shapes m)
    → SameBytes code q q regs m m
SameBytes-refl code q regs m layout = record {
  blocks = refl;
  layout = layout;
  bytes = λ y. inl refl;
  reached = λ i c low high accesses. absurd (omega arith);
}
