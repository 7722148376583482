-- Steps of the machine that only go on, many behind one another.
use Rattle.std.specs.Prelude.{◌≡◌, ℕ, zero, suc, ◌+◌, ◌*◌, ◌%◌, ◌^◌, List}
use Rattle.alpha_table.specs.Class.{Class}
use Rattle.alpha_mem.specs.Block.{Block}
use Rattle.alpha_image.specs.Parts.{Parts}
use Rattle.alpha_seq.specs.declared.machine.Machine.{Machine}
use Rattle.alpha_seq.specs.State.{Went}
use Rattle.alpha_seq.specs.Executed.{ExecutesWord, Retires}

-- so many steps of the definition, each of which only went on
abbrev pub FastSteps : ℕ → Machine → Machine → Type 0
FastSteps zero old new = new ≡ old
FastSteps (suc n) old new = (mid : Machine) × FastSteps n old mid × Retires mid new

-- a machine with these registers and this memory, at the word of a place; the place counts modulo 2 ^ 62
abbrev pub machine_at : Machine → List ℕ → List Block → ℕ → Machine
machine_at m regs mem place = record m { regs = regs; memory = mem; pc = (m.image.code_base + 4 * place) % 2 ^ 64 }

-- On each machine of this image a word of this class only goes on: from these registers, this memory and this place to
-- those.
pub record ExecutesFast (image : Parts) (class : Class) (regs : List ℕ) (mem : List Block) (place : ℕ)
    (regs' : List ℕ) (mem' : List Block) (place' : ℕ) : Type 0 where
  pub does : (m : Machine) → m.image ≡ image
      → ExecutesWord Went class (machine_at m regs mem place) (machine_at m regs' mem' place')

-- So many words do that behind one another.
pub record RunsFast (n : ℕ) (image : Parts) (regs : List ℕ) (mem : List Block) (place : ℕ)
    (regs' : List ℕ) (mem' : List Block) (place' : ℕ) : Type 0 where
  pub made : (m : Machine) → m.image ≡ image
      → FastSteps n (machine_at m regs mem place) (machine_at m regs' mem' place')
