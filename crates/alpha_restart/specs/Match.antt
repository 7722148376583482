-- Where registers and bytes of the imprecise machine may differ from the precise machine's: in what the words ahead
-- write again before they read it.
use Rattle.std.specs.Prelude.{◌≡◌, ◌≢◌, ◌<◌, ◌≤◌, ℕ, false, ◌⊎◌, Option, Some, None, List, length}
use Rattle.alpha_words.specs.Regs.{reg}
use Rattle.alpha_table.specs.declared.columns.InsnKind.{InsnKind}
use Rattle.alpha_table.specs.declared.columns.InsnKind.TheVariants as kinds
use Rattle.alpha_table.specs.declared.columns.MemAccess.{MemAccess}
use Rattle.alpha_table.specs.Code.{class_at, kind}
use Rattle.alpha_table.specs.Uses.{sets, uses, access}
use Rattle.alpha_values.specs.Address.{access_address, Covers}
use Rattle.alpha_mem.specs.Intent.{Intent, Load, Store}
use Rattle.alpha_mem.specs.Block.{Block, Shape, shapes}
use Rattle.alpha_mem.specs.Fault.{fault_of}
use Rattle.alpha_mem.specs.Memory.{byte_at, IsLayout}
use Rattle.alpha_seq.specs.State.{State}
use Rattle.alpha_restart.specs.Safe.{Steady}

-- ---- registers

-- a word in [from, to) sets the register, and no word from `from` up to that one uses it
pub record Dead (code : List ℕ) (from to r : ℕ) : Type 0 where
  pub at : ℕ
  pub above : from ≤ at
  pub below : at < to
  pub written : sets (class_at code at) ≡ Some r
  pub unused : (j : ℕ) → from ≤ j → j ≤ at → uses (class_at code j) r ≡ false

-- the registers of the precise machine, and the actual ones: each is the same, or dead
pub record Alike (code : List ℕ) (from to : ℕ) (precise actual : List ℕ) : Type 0 where
  pub order : from ≤ to
  pub size : length precise ≡ 32
  pub size_too : length actual ≡ 32
  pub registers : (r : ℕ) → (reg actual r ≡ reg precise r) ⊎ Dead code from to r
  pub steady : Steady code from to

-- ---- bytes

abbrev pub intent_of : Option InsnKind → Intent
intent_of (Some kinds.Store) = Store
intent_of _ = Load

-- no word in [from, at) sets the base of the access at a place, and the access does not fault
pub record Reached (code : List ℕ) (from at : ℕ) (c : MemAccess) (regs : List ℕ) (blocks : List Shape) : Type 0 where
  pub base : (k : ℕ) → from ≤ k → k < at → sets (class_at code k) ≢ Some c.base
  pub granted : fault_of blocks (intent_of (kind (class_at code at))) (access_address c (reg regs c.base)) c.bytes
      ≡ None

-- a store in [from, to) writes the byte, and no load from `from` up to that one reads it
pub record DeadByte (code : List ℕ) (from to : ℕ) (regs : List ℕ) (y : ℕ) : Type 0 where
  pub at : ℕ
  pub above : from ≤ at
  pub below : at < to
  pub c : MemAccess
  pub accesses : access (class_at code at) ≡ Some c
  pub store : kind (class_at code at) ≡ Some kinds.Store
  pub written : Covers c (reg regs c.base) y
  pub unread : (j : ℕ) (d : MemAccess) → from ≤ j → j < at → kind (class_at code j) ≡ Some kinds.Load
      → access (class_at code j) ≡ Some d → Covers d (reg regs d.base) y → ⊥

-- the memory of the precise machine, and the actual one, by the precise registers: each byte is the same, or dead
pub record SameBytes (code : List ℕ) (from to : ℕ) (regs : List ℕ) (precise actual : List Block) : Type 0 where
  pub blocks : shapes actual ≡ shapes precise
  pub layout : IsLayout (shapes precise)
  pub bytes : (y : ℕ) → (byte_at actual y ≡ byte_at precise y) ⊎ DeadByte code from to regs y
  pub reached : (i : ℕ) (c : MemAccess) → from ≤ i → i < to → access (class_at code i) ≡ Some c
      → Reached code from i c regs (shapes precise)

-- ---- states

-- both machines stand at the same word, and what the words up to `to` don't write again is the same
pub record Match (code : List ℕ) (from to : ℕ) (precise actual : State) : Type 0 where
  pub registers : Alike code from to precise.regs actual.regs
  pub memory : SameBytes code from to precise.regs precise.mem actual.mem
  pub lock : actual.lock ≡ precise.lock
  pub count : actual.count ≡ precise.count
  pub logged : actual.logged ≡ precise.logged
  pub unique : actual.unique ≡ precise.unique
