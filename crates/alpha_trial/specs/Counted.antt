-- What the code's runs did, and how many units they used.
use Rattle.std.specs.Prelude.{◌≡◌, ◌≤◌, ◌%◌, ◌^◌, ℕ, List, []}
use Rattle.alpha_seq.specs.declared.machine.Machine.{Machine}
use Rattle.alpha_seq.specs.Run.{after}
use Rattle.alpha_seq.specs.Machine.{program_of, state_of}
use Rattle.alpha_imprecise.specs.ChosenRun.{chosen_run, first_words, most_words}
use Rattle.alpha_imprecise.specs.ImpreciseState.{ImpreciseState, begun_at}
use Rattle.alpha_trial.specs.declared.report.Counts.{Counts}
use Rattle.alpha_trial.specs.Report.{Tally, run_tally, making_tally}

-- The run of at most n steps, over an empty input: it made so many steps, and put these bytes.
pub record RunsTo (n : ℕ) (old new : Machine) (bytes : List ℕ) (steps : ℕ) : Type 0 where
  pub is : run_tally (after (program_of old) (state_of old) [] n)
      ≡ record { overflows = new.overflows; steps = steps; output = bytes; drawn = 0 }
  pub program : program_of new ≡ program_of old

-- The imprecise run of at most n units, over an empty input, by words that are told: it used so many units, drew so
-- many words, modulo 2 ^ 64, and put these bytes.
pub record MakesTo (n : ℕ) (ahead : ℕ → ℕ) (old new : ImpreciseState) (bytes : List ℕ) (units count : ℕ) : Type 0 where
  pub drawn : ℕ
  pub is : making_tally (chosen_run (program_of old.machine) (begun_at old [] (first_words (most_words n) ahead)) n)
      ≡ record { overflows = new.machine.overflows; steps = units; output = bytes; drawn = drawn }
  pub few : drawn ≤ most_words n
  pub counted : count % 2 ^ 64 ≡ drawn % 2 ^ 64
  pub program : program_of new.machine ≡ program_of old.machine

-- the tally that counts and an output make
abbrev pub tally_of : Counts → List ℕ → Tally
tally_of counts output =
    record { overflows = counts.overflows; steps = counts.steps; output = output; drawn = counts.drawn }
