-- Steps that only go on, or pass a barrier which is no PAL call where such barriers are passed, many behind one
-- another.
use Rattle.std.specs.Prelude.{◌≡◌, ℕ, zero, suc, ◌+◌, ◌%◌, ◌^◌, ◌<◌, ◌⊎◌, Bool, true, List, length, None, Some, IfSome}
use Rattle.alpha_table.specs.Class.{barrier}
use Rattle.alpha_table.specs.Code.{class_at}
use Rattle.alpha_mem.specs.Block.{Block}
use Rattle.alpha_pal.specs.Call.{Silent}
use Rattle.alpha_image.specs.Parts.{Parts}
use Rattle.alpha_seq.specs.declared.machine.Machine.{Machine}
use Rattle.alpha_seq.specs.State.{Barriered}
use Rattle.alpha_seq.specs.Machine.{class_here}
use Rattle.alpha_seq.specs.Executed.{ExecutesWord, Retires}
use Rattle.alpha_seq.specs.FastSteps.{machine_at}
use Rattle.alpha_rows.specs.declared.program_rows.ProgramRows.{ProgramRows}
use Rattle.alpha_rows.specs.Rows.{IsRows, ExecutesRow}

-- The step of the definition passed a barrier that is no PAL call, and nothing passed in it.
pub record PassesBarrier (old new : Machine) : Type 0 where
  pub here : class_here old ≡ Some (barrier None)
  pub does : ExecutesWord (Barriered Silent new.pc new.regs) (barrier None) old new

-- a step that only went on, or that passed such a barrier where these are passed
abbrev pub GoesOn : Bool → Machine → Machine → Type 0
GoesOn barriers old new = Retires old new ⊎ ((barriers ≡ true) × PassesBarrier old new)

-- so many of them
abbrev pub PassingSteps : Bool → ℕ → Machine → Machine → Type 0
PassingSteps barriers zero old new = new ≡ old
PassingSteps barriers (suc n) old new = (mid : Machine) × PassingSteps barriers n old mid × GoesOn barriers mid new

-- The word at a place is a barrier that is no PAL call: behind it come the same registers and memory, at the next
-- place.
pub record PassesRow (p : Parts) (regs : List ℕ) (mem : List Block) (k : ℕ)
    (regs' : List ℕ) (mem' : List Block) (k' : ℕ) : Type 0 where
  pub class : class_at p.words k ≡ Some (barrier None)
  pub below : k < length p.words
  pub same_regs : regs' ≡ regs
  pub same_memory : mem' ≡ mem
  pub next : k' ≡ (k + 1) % 2 ^ 64

-- The word there only goes on, or is such a barrier where these are passed.
abbrev pub GoesOnRow : Bool → Parts → List ℕ → List Block → ℕ → List ℕ → List Block → ℕ → Type 0
GoesOnRow barriers p regs mem k regs' mem' k' =
    ExecutesRow p regs mem k regs' mem' k' ⊎ ((barriers ≡ true) × PassesRow p regs mem k regs' mem' k')

-- the rows that are kept of a program, if they are made
abbrev pub AreRowsOf : Parts → ProgramRows → Type 0
AreRowsOf p kept = IfSome kept.rows (λ rows. IsRows p rows.items)

-- So many words do that behind one another, from these registers, this memory and this place to those.
pub record RunsOn (barriers : Bool) (n : ℕ) (image : Parts) (regs : List ℕ) (mem : List Block) (place : ℕ)
    (regs' : List ℕ) (mem' : List Block) (place' : ℕ) : Type 0 where
  pub made : (m : Machine) → m.image ≡ image
      → PassingSteps barriers n (machine_at m regs mem place) (machine_at m regs' mem' place')
