-- What steps leave that go on, or pass a barrier.
use Rattle.std.proofs.Common.{◌≡◌, ◌+◌, ℕ, zero, suc, inl, inr, Bool, true, false, None, Some, refl, sym, ap, subst}
use Rattle.std.proofs.Common.{◌∙◌, arith}
use Rattle.alpha_table.specs.Class.{Class, barrier}
use Rattle.alpha_mem.specs.Block.{shapes}
use Rattle.alpha_pal.specs.Call.{Silent}
use Rattle.alpha_image.specs.Parts.{Parts}
use Rattle.alpha_seq.specs.declared.machine.Machine.{Machine}
use Rattle.alpha_seq.specs.State.{Program, Event, Went, Barriered}
use Rattle.alpha_seq.specs.Machine.{program_of, class_here, Stays}
use Rattle.alpha_seq.specs.Executed.{ExecutesWord, Retires}
use Rattle.alpha_seq.specs.FastSteps.{FastSteps}
use Rattle.alpha_seq.proofs.ExecutedInsns.{ExecutesWord-user, ExecutesWord-shapes}
use Rattle.alpha_rows.specs.PassingSteps.{GoesOn, PassingSteps}
use Rattle.alpha_rows.specs.declared.program_rows.ProgramRows.{ProgramRows}
use Rattle.alpha_rows.specs.PassingSteps.{AreRowsOf}

-- the word that a step executed
record IsExecuted (old new : Machine) : Type 0 where
  event : Event
  class : Class
  here : class_here old ≡ Some class
  does : ExecutesWord event class old new

goes_executed : (barriers : Bool) (old new : Machine) → GoesOn barriers old new → IsExecuted old new
goes_executed barriers old new (inl h) = record { event = Went; class = h.class; here = h.here; does = h.does }
goes_executed barriers old new (inr h) = record {
  event = Barriered Silent new.pc new.regs;
  class = barrier None;
  here = h.1.here;
  does = h.1.does;
}

-- what holds of each number of steps, held of some, if each step leaves it to the next
pub PassingSteps-fold : (barriers : Bool) (P : ℕ → Machine → Type 0)
    → ((k : ℕ) (mid new : Machine) → P k mid → GoesOn barriers mid new → P (k + 1) new)
    → (n k : ℕ) (old new : Machine) → P k old → PassingSteps barriers n old new → P (k + n) new
PassingSteps-fold barriers P more zero k old new held same =
    subst (λ (i : ℕ). P i new) (omega arith) (subst (P k) (sym same) held)
PassingSteps-fold barriers P more (suc n) k old new held steps =
    subst (λ (i : ℕ). P i new) (omega arith)
    (more (k + n) steps.0 new (PassingSteps-fold barriers P more n k old steps.0 held steps.1) steps.2)

pub PassingSteps-shapes : (barriers : Bool) (n : ℕ) (old new : Machine) → PassingSteps barriers n old new
    → shapes new.memory ≡ shapes old.memory
PassingSteps-shapes barriers n old new steps =
    PassingSteps-fold barriers (λ i m. shapes m.memory ≡ shapes old.memory)
    (λ i m m' held goes.
    let x = goes_executed barriers m m' goes in
    ExecutesWord-shapes x.event x.class m m' x.does ∙ held) n 0 old new refl steps

pub PassingSteps-program : (barriers : Bool) (n : ℕ) (old new : Machine) → PassingSteps barriers n old new
    → program_of new ≡ program_of old
PassingSteps-program barriers n old new steps =
    PassingSteps-fold barriers (λ i m. program_of m ≡ program_of old)
    (λ i m m' held goes. (goes_executed barriers m m' goes).does.program ∙ held) n 0 old new refl steps

-- the machine stays in user mode, and its program
pub PassingSteps-stays : (barriers : Bool) (n : ℕ) (old new : Machine) → old.kernel.user ≡ true
    → PassingSteps barriers n old new → Stays old new
PassingSteps-stays barriers n old new user steps = record {
  program = PassingSteps-program barriers n old new steps;
  mode =
      PassingSteps-fold barriers (λ i m. m.kernel.user ≡ true)
      (λ i m m' held goes.
      let x = goes_executed barriers m m' goes in
      ExecutesWord-user x.event x.class m m' held x.does)
      n 0 old new user steps
      ∙ sym user;
}

-- the rows stay those of the program
pub AreRowsOf-stays : (barriers : Bool) (n : ℕ) (old new : Machine) (rows : ProgramRows)
    → PassingSteps barriers n old new → AreRowsOf old.image rows → AreRowsOf new.image rows
AreRowsOf-stays barriers n old new rows steps held =
    subst (λ (p : Parts). AreRowsOf p rows)
    (sym (ap (λ (g : Program). g.image) (PassingSteps-program barriers n old new steps))) held

-- steps that only go on are such steps
pub FastSteps-passing : (barriers : Bool) (n : ℕ) (old new : Machine) → FastSteps n old new
    → PassingSteps barriers n old new
FastSteps-passing barriers zero old new same = same
FastSteps-passing barriers (suc n) old new steps =
    (steps.0, FastSteps-passing barriers n old steps.0 steps.1, inl steps.2)

-- and these are all where no barrier is passed
pub PassingSteps-fast : (n : ℕ) (old new : Machine) → PassingSteps false n old new → FastSteps n old new
PassingSteps-fast zero old new same = same
PassingSteps-fast (suc n) old new steps = (steps.0, PassingSteps-fast n old steps.0 steps.1, by steps.2)
  where
    by : GoesOn false steps.0 new → Retires steps.0 new
    by (inl goes) = goes
    by (inr h) = absurd (let no = h.0 in cc)
