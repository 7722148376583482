-- What the scan finds, as a relation.
use Rattle.std.specs.Prelude.{◌≡◌, ◌<◌, ◌≤◌, ℕ, Some, List}
use Rattle.alpha_words.specs.Regs.{Has}
use Rattle.alpha_table.specs.declared.columns.InsnKind.TheVariants as kinds
use Rattle.alpha_table.specs.Code.{class_at, kind, trap_rc, Straight}
use Rattle.alpha_image.specs.Parts.{Parts}
use Rattle.alpha_trap.specs.Scan.{place_or_end}

-- each register of the mask is the destination of a trigger in [from, to)
abbrev pub Covers : List ℕ → ℕ → ℕ → ℕ → Type 0
Covers code mask from to =
    (r : ℕ) → r < 31 → Has mask r → (k : ℕ) × (from ≤ k) × (k < to) × (trap_rc (class_at code k) ≡ Some r)

-- The word at a place may have made a trap that was reported before the word at another: it is a trigger, it and the
-- triggers behind it have every register of the mask as a destination, and the program ran straight on between.
pub record Fits (code : List ℕ) (mask at to : ℕ) : Type 0 where
  pub before : at < to
  pub trigger : kind (class_at code at) ≡ Some kinds.Trigger
  pub covers : Covers code mask at to
  pub straight : Straight code at to

-- the scan finds a place: the greatest one that fits; it finds none for no registers, or for an address elsewhere
pub record Finds (image : Parts) (pc mask at : ℕ) : Type 0 where
  pub some : 0 < mask
  pub to : ℕ
  pub reported : place_or_end image pc ≡ Some to
  pub fits : Fits image.words mask at to
  pub greatest : (k : ℕ) → Fits image.words mask k to → k ≤ at
