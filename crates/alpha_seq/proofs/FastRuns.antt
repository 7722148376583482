-- What steps leave that only go on, many behind one another.
use Rattle.std.proofs.Common.{◌≡◌, ℕ, true, refl, sym, ◌∙◌}
use Rattle.alpha_mem.specs.Block.{shapes}
use Rattle.alpha_seq.specs.declared.machine.Machine.{Machine}
use Rattle.alpha_seq.specs.State.{Went}
use Rattle.alpha_seq.specs.Machine.{program_of, Stays}
use Rattle.alpha_seq.specs.FastSteps.{FastSteps}
use Rattle.alpha_seq.proofs.ExecutedInsns.{ExecutesWord-user, Retires-shapes}
use Rattle.alpha_seq.proofs.FastStepLaws.{FastSteps-fold}

pub FastSteps-shapes : (n : ℕ) (old new : Machine) → FastSteps n old new → shapes new.memory ≡ shapes old.memory
FastSteps-shapes n old new fast_steps =
    FastSteps-fold (λ i m. shapes m.memory ≡ shapes old.memory)
    (λ i m m' held goes. Retires-shapes m m' goes ∙ held) n 0 old new refl fast_steps

pub FastSteps-program : (n : ℕ) (old new : Machine) → FastSteps n old new → program_of new ≡ program_of old
FastSteps-program n old new fast_steps =
    FastSteps-fold (λ i m. program_of m ≡ program_of old)
    (λ i m m' held goes. goes.does.program ∙ held) n 0 old new refl fast_steps

-- the machine stays in user mode, and its program
pub FastSteps-stays : (n : ℕ) (old new : Machine) → old.kernel.user ≡ true → FastSteps n old new → Stays old new
FastSteps-stays n old new user fast_steps = record {
  program = FastSteps-program n old new fast_steps;
  mode =
      FastSteps-fold (λ i m. m.kernel.user ≡ true)
      (λ i m m' held goes. ExecutesWord-user Went goes.class m m' held goes.does)
      n 0 old new user fast_steps
      ∙ sym user;
}
