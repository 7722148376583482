-- What the columns by which the checker judges say of a step: the registers that it may change, and those on which it
-- depends.
use Rattle.std.specs.Prelude.{◌≡◌, ◌⊎◌, ℕ, IsTrue, List, [], ◌∷◌, length, Option, Some, ◌==◌}
use Rattle.std.specs.List.{list_any}
use Rattle.alpha_words.specs.Regs.{reg}
use Rattle.alpha_table.specs.Class.{Class, barrier}
use Rattle.alpha_table.specs.Uses.{sets, uses}
use Rattle.alpha_seq.specs.State.{Event, Barriered, Stepped}

-- A PALcode call, which has no columns since no shadow goes past it, answers in R0 and R19, and reads R0 and R16 to
-- R18.
abbrev pub answer_registers : Option Class → List ℕ
answer_registers (Some (barrier (Some call))) = 0 ∷ 19 ∷ []
answer_registers class = []

abbrev pub argument_registers : Option Class → List ℕ
argument_registers (Some (barrier (Some call))) = 0 ∷ 16 ∷ 17 ∷ 18 ∷ []
argument_registers class = []

abbrev pub MayWrite : Option Class → ℕ → Type 0
MayWrite class r = (sets class ≡ Some r) ⊎ IsTrue (list_any (λ x. x == r) (answer_registers class))

abbrev pub MayRead : Option Class → ℕ → Type 0
MayRead class r = IsTrue (uses class r) ⊎ IsTrue (list_any (λ x. x == r) (argument_registers class))

-- files of 32 registers that have the same in R31, and in each register that a word of the class may read
pub record AgreeFor (class : Option Class) (regs other : List ℕ) : Type 0 where
  pub size : length regs ≡ 32
  pub size_too : length other ≡ 32
  pub zero : reg other 31 ≡ reg regs 31
  pub read : (r : ℕ) → MayRead class r → reg other r ≡ reg regs r

-- how a step went, where a barrier left these registers
abbrev pub leaving : List ℕ → Event → Event
leaving regs (Barriered traffic pc old) = Barriered traffic pc regs
leaving regs event = event

-- Steps from states that have these registers, and are the same otherwise. They go in the same way and leave the same
-- states but for registers; each register has the same value behind both, or neither changed it.
pub record GoAlike (regs other : List ℕ) (t u : Stepped) : Type 0 where
  pub event : leaving t.state.regs u.event ≡ t.event
  pub state : record u.state { regs = t.state.regs } ≡ t.state
  pub registers : (r : ℕ) → (reg u.state.regs r ≡ reg t.state.regs r)
      ⊎ ((reg u.state.regs r ≡ reg other r) × (reg t.state.regs r ≡ reg regs r))
