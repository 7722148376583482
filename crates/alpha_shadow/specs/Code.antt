-- The columns of a program's words by place. Places are word numbers from 0; a place past the last word holds no word.
use Rattle.std.specs.Prelude.{◌≡◌, ◌<◌, ◌≤◌, ℕ, Option, Some, List, IsTrue}
use Rattle.alpha_table.specs.declared.columns.InsnKind.{InsnKind}
use Rattle.alpha_table.specs.declared.columns.MemAccess.{MemAccess}
use Rattle.alpha_table.specs.Code.{class_at, kind, trap_rc}
use Rattle.alpha_table.specs.Uses.{sets, uses, access}

abbrev pub kind_at : List ℕ → ℕ → Option InsnKind
kind_at code i = kind (class_at code i)

-- the destination of the trigger at a place, register 31 too
abbrev pub destination_at : List ℕ → ℕ → Option ℕ
destination_at code i = trap_rc (class_at code i)

abbrev pub access_at : List ℕ → ℕ → Option MemAccess
access_at code i = access (class_at code i)

-- the word at i sets a register, which never is 31
abbrev pub Sets : List ℕ → ℕ → ℕ → Type 0
Sets code i r = sets (class_at code i) ≡ Some r

-- the word at i uses a register, which never is 31
abbrev pub Uses : List ℕ → ℕ → ℕ → Type 0
Uses code i r = IsTrue (uses (class_at code i) r)

-- some word in [from, to) sets the register
pub record SetIn (code : List ℕ) (from to r : ℕ) : Type 0 where
  pub place : ℕ
  pub above : from ≤ place
  pub below : place < to
  pub sets : Sets code place r

-- some word in [from, to) uses the register before any word there sets it
pub record ExposedIn (code : List ℕ) (from to r : ℕ) : Type 0 where
  pub place : ℕ
  pub above : from ≤ place
  pub below : place < to
  pub uses : Uses code place r
  pub unset : SetIn code from place r → ⊥

-- the register that the word at a place sets, where there is one
abbrev pub sets_at : List ℕ → ℕ → Option ℕ
sets_at code i = sets (class_at code i)
