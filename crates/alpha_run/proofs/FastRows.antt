-- The machines' steps that only go on or pass a barrier, as those of a run.
use Rattle.std.proofs.Common.{◌≡◌, ◌+◌, ℕ, inl, inr, Bool, true, false, cond, List, [], ◌∷◌, ◌++◌, length, Option, None}
use Rattle.std.proofs.Common.{refl, sym, ap, ◌∙◌, length-append, arith}
use Rattle.alpha_pal.specs.Call.{Silent}
use Rattle.alpha_pal.specs.declared.pal_end.Passed.TheVariants.{Nothing}
use Rattle.alpha_table.specs.Class.{Class, barrier}
use Rattle.alpha_seq.specs.declared.machine.Machine.{Machine}
use Rattle.alpha_seq.specs.declared.event.Event.TheVariants as events
use Rattle.alpha_seq.specs.State.{Went, Barriered}
use Rattle.alpha_seq.specs.Step.{step}
use Rattle.alpha_seq.specs.Machine.{program_of, state_of, class_here}
use Rattle.alpha_seq.specs.StepLabel.{StepLabel}
use Rattle.alpha_seq.specs.Executed.{Retires}
use Rattle.alpha_seq.specs.Sequential.{SeqStep}
use Rattle.alpha_seq.proofs.ExecutedInsns.{ExecutesWord-kernel, Retires-kernel}
use Rattle.alpha_rows.specs.PassingSteps.{PassesBarrier, GoesOn, PassingSteps}
use Rattle.alpha_rows.proofs.PassingRuns.{PassingSteps-fold}
use Rattle.alpha_imprecise.specs.declared.pending.Pending.{Pending}
use Rattle.alpha_imprecise.specs.StepResult.{Precisely}
use Rattle.alpha_imprecise.specs.Step.{triggers}
use Rattle.alpha_imprecise.specs.Run.{unit_of}
use Rattle.alpha_imprecise.specs.Chosen.{first_word, reporting, triggering, draw}
use Rattle.alpha_imprecise.specs.ImpreciseState.{ImpreciseState, trap_in, waited_in}
use Rattle.alpha_imprecise.specs.ImpreciseStepEffect.{ImpreciseStep, ImpreciseRetires}
use Rattle.alpha_imprecise.specs.ImpreciseFastSteps.{ImprecisePassesBarrier, ImpreciseGoesOn, ImprecisePassingSteps}
use Rattle.alpha_imprecise.proofs.ImpreciseFastStepLaws.{ImprecisePassingSteps-fold}
use Rattle.alpha_run.specs.Row.{Row, OnlyPassed, ArePassed, FastSteps}
use Rattle.alpha_run.proofs.StepRows.{Row-append}

-- a step that only went on, and one that passed a barrier
abbrev went_to : Machine → StepLabel
went_to core = record { units = 1; words = []; seen = Went ∷ []; event = events.Went; core = core }

abbrev barrier_to : Machine → StepLabel
barrier_to core = record {
  units = 1;
  words = [];
  seen = Barriered Silent core.pc core.regs ∷ [];
  event = events.Barrier Nothing;
  core = core;
}

only_went : (barriers : Bool) (core : Machine) → OnlyPassed barriers (went_to core)
only_went barriers core =
    record { event = inl refl; units = refl; words = refl; happened = Went; seen = refl; silent = refl }

only_passed : (barriers : Bool) (core : Machine) → barriers ≡ true → OnlyPassed barriers (barrier_to core)
only_passed barriers core e = record {
  event = inr (e, refl);
  units = refl;
  words = refl;
  happened = Barriered Silent core.pc core.regs;
  seen = refl;
  silent = refl;
}

-- so many such steps
record Ones {M : Type 0} (steps_to : M → StepLabel → M → Type 0) (barriers : Bool) (n : ℕ) (old new : M) : Type 0 where
  labels : List StepLabel
  row : Row steps_to old labels new
  passed : ArePassed barriers labels
  count : length labels ≡ n

ones_none : {M : Type 0} (steps_to : M → StepLabel → M → Type 0) (barriers : Bool) (m : M)
    → Ones steps_to barriers 0 m m
ones_none steps_to barriers m = record { labels = []; row = refl; passed = tt; count = refl }

ArePassed-last : (barriers : Bool) (ps : List StepLabel) (p : StepLabel) → ArePassed barriers ps
    → OnlyPassed barriers p → ArePassed barriers (ps ++ p ∷ [])
ArePassed-last barriers [] p passed one = (one, tt)
ArePassed-last barriers (q ∷ ps) p passed one = (passed.0, ArePassed-last barriers ps p passed.1 one)

ones_more : {M : Type 0} (steps_to : M → StepLabel → M → Type 0) (barriers : Bool) (n : ℕ) (p : StepLabel)
    (old mid new : M)
    → Ones steps_to barriers n old mid → OnlyPassed barriers p → steps_to mid p new
    → Ones steps_to barriers (n + 1) old new
ones_more steps_to barriers n p old mid new ones one is = record {
  labels = ones.labels ++ p ∷ [];
  row = Row-append steps_to ones.labels (p ∷ []) old mid new ones.row (new, is, refl);
  passed = ArePassed-last barriers ones.labels p ones.passed one;
  count = omega (arith, length-append ones.labels (p ∷ []), ones.count);
}

FastSteps-by : {M : Type 0} (steps_to : M → StepLabel → M → Type 0) (barriers : Bool) (n : ℕ) (old new : M)
    → Ones steps_to barriers (0 + n) old new
    → FastSteps steps_to barriers n old new
FastSteps-by steps_to barriers n old new one = (one.labels, one.row, one.passed, omega (arith, one.count))

-- ---- the sequential machine

seq_goes : (old new : Machine) → Retires old new → SeqStep old (went_to new) new
seq_goes old new h = record {
  last_event = Went;
  passed = Nothing;
  seen = refl;
  event = refl;
  units = refl;
  words = refl;
  core = refl;
  is = ap (λ (class : Option Class). step (program_of old) class (state_of old) []) h.here ∙ h.does.is [];
  passes = (refl, refl);
  kernel = Retires-kernel old new h;
  program = h.does.program;
}

seq_passes : (old new : Machine) → PassesBarrier old new → SeqStep old (barrier_to new) new
seq_passes old new h = record {
  last_event = Barriered Silent new.pc new.regs;
  passed = Nothing;
  seen = refl;
  event = refl;
  units = refl;
  words = refl;
  core = refl;
  is = ap (λ (class : Option Class). step (program_of old) class (state_of old) []) h.here ∙ h.does.is [];
  passes = (refl, refl);
  kernel = ExecutesWord-kernel (Barriered Silent new.pc new.regs) (barrier None) old new h.here h.does;
  program = h.does.program;
}

seq_more : (barriers : Bool) (n : ℕ) (old mid new : Machine) → Ones SeqStep barriers n old mid
    → GoesOn barriers mid new → Ones SeqStep barriers (n + 1) old new
seq_more barriers n old mid new ones (inl h) =
    ones_more SeqStep barriers n (went_to new) old mid new ones (only_went barriers new) (seq_goes mid new h)
seq_more barriers n old mid new ones (inr h) =
    ones_more SeqStep barriers n (barrier_to new) old mid new ones (only_passed barriers new h.0)
    (seq_passes mid new h.1)

pub seq_run_fast-FastSteps : (barriers : Bool) (n : ℕ) (old new : Machine) → PassingSteps barriers n old new
    → FastSteps SeqStep barriers n old new
seq_run_fast-FastSteps barriers n old new steps = FastSteps-by SeqStep barriers n old new
    (PassingSteps-fold barriers (λ i m. Ones SeqStep barriers i old m)
    (λ i mid m ones goes. seq_more barriers i old mid m ones goes) n 0 old new
    (ones_none SeqStep barriers old) steps)

-- ---- the imprecise machine

-- with nothing pending a word that doesn't overflow draws nothing
fast_draws-none : (m : Machine) (o : Option Pending) (coming : List ℕ) → o ≡ None
    → triggers (class_here m) (state_of m) ≡ false
    → draw (program_of m) (state_of m) (trap_in o) (waited_in o) coming ≡ reporting 0
fast_draws-none m o coming calm exact =
    ap (λ (p : Option Pending). draw (program_of m) (state_of m) (trap_in p) (waited_in p) coming) calm
    ∙ ap (λ (b : Bool). cond b (triggering (first_word coming)) (reporting 0)) exact

imprecise_goes : (old new : ImpreciseState) → ImpreciseRetires old new → ImpreciseStep old (went_to new.machine) new
imprecise_goes old new h = record {
  choice = (reporting 0).choice;
  step = record {
    last_event = Precisely Went;
    passed = Nothing;
    seen = refl;
    event = refl;
    units = sym (ap (λ (p : Option Pending). unit_of (trap_in p)) h.nothing_pending);
    core = refl;
    is = h.step.is;
    passes = (refl, refl);
    waited = h.step.waited;
    kernel = h.step.kernel;
    program = h.step.program;
  };
  draws = λ coming. fast_draws-none old.machine old.pending coming h.nothing_pending h.exact;
}

imprecise_passes : (old new : ImpreciseState) → ImprecisePassesBarrier old new
    → ImpreciseStep old (barrier_to new.machine) new
imprecise_passes old new h = record {
  choice = (reporting 0).choice;
  step = record {
    last_event = Precisely (Barriered Silent new.machine.pc new.machine.regs);
    passed = Nothing;
    seen = refl;
    event = refl;
    units = sym (ap (λ (p : Option Pending). unit_of (trap_in p)) h.nothing_pending);
    core = refl;
    is = h.step.is;
    passes = (refl, refl);
    waited = h.step.waited;
    kernel = h.step.kernel;
    program = h.step.program;
  };
  draws = λ coming. fast_draws-none old.machine old.pending coming h.nothing_pending h.exact;
}

imprecise_more : (barriers : Bool) (n : ℕ) (old mid new : ImpreciseState) → Ones ImpreciseStep barriers n old mid
    → ImpreciseGoesOn barriers mid new → Ones ImpreciseStep barriers (n + 1) old new
imprecise_more barriers n old mid new ones (inl h) =
    ones_more ImpreciseStep barriers n (went_to new.machine) old mid new ones (only_went barriers new.machine)
    (imprecise_goes mid new h)
imprecise_more barriers n old mid new ones (inr h) =
    ones_more ImpreciseStep barriers n (barrier_to new.machine) old mid new ones
    (only_passed barriers new.machine h.0) (imprecise_passes mid new h.1)

pub imprecise_run_fast-FastSteps : (barriers : Bool) (n : ℕ) (old new : ImpreciseState)
    → ImprecisePassingSteps barriers n old new → FastSteps ImpreciseStep barriers n old new
imprecise_run_fast-FastSteps barriers n old new steps = FastSteps-by ImpreciseStep barriers n old new
    (ImprecisePassingSteps-fold barriers (λ i w. Ones ImpreciseStep barriers i old w)
    (λ i mid w ones goes. imprecise_more barriers i old mid w ones goes) n 0 old new
    (ones_none ImpreciseStep barriers old) steps)
