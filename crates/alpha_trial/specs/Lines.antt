-- What the two runs of a trial have in common.
use Rattle.std.specs.Prelude.{◌≡◌, ◌≤◌, ◌+◌, ◌*◌, ℕ, List, ◌++◌, length, codes}
use Rattle.alpha_seq.specs.declared.end.End.TheVariants.{Exit}
use Rattle.alpha_seq.specs.State.{Ends}
use Rattle.alpha_seq.specs.Run.{Run, output}
use Rattle.alpha_imprecise.specs.StepResult.{Precisely}
use Rattle.alpha_imprecise.specs.Run.{seen}
use Rattle.alpha_imprecise.specs.ChosenRun.{ChosenRun}
use Rattle.alpha_trial.specs.Words.{program_words}
use Rattle.alpha_trial.specs.Report.{Tally, line}

-- the run exits with 0 after so many steps, and has put eight bytes
pub record Exits (steps : ℕ) (r : Run) : Type 0 where
  pub last : r.at.event ≡ Ends (Exit 0)
  pub steps_are : length r.events ≡ steps
  pub eight : length (output r.events) ≡ 8

-- The imprecise run ends as the sequential run does, after as many units, with the same events and in the same state:
-- with the same count of overflows and the same output. It draws a word at least for each overflow.
pub record EndsAlike (r : Run) (k : ChosenRun) : Type 0 where
  pub last : k.run.at.last_event ≡ Precisely r.at.event
  pub units : k.run.units ≡ length r.events
  pub events : seen k.run.steps ≡ r.events
  pub state : k.run.at.state ≡ r.at.state
  pub drawn : k.run.at.state.count ≤ k.count

-- the tally of a run with a step for each word of n blocks and the ending
abbrev pub tally : ℕ → ℕ → List ℕ → ℕ → Tally
tally n overflows output drawn =
    record { overflows = overflows; steps = 9 * n + 10; output = output; drawn = drawn }

-- Both lines have a step for each word, the same number of overflows and the same eight bytes, and the second one has a
-- drawn word at least for each overflow.
pub record HasLines (n : ℕ) (text : List ℕ) : Type 0 where
  pub overflows : ℕ
  pub output : List ℕ
  pub drawn : ℕ
  pub is : text
      ≡ line (codes "sequential") (program_words n) (tally n overflows output 0)
      ++ line (codes "imprecise") (program_words n) (tally n overflows output drawn)
  pub eight : length output ≡ 8
  pub enough : overflows ≤ drawn
