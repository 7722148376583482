-- What is told of a run that a device's fault cut short.
use Rattle.std.specs.Prelude.{ℕ, Bool, List, ◌++◌}
use Rattle.alpha_io.specs.SinkChange.{SinkChange}
use Rattle.alpha_io.specs.Written.{WritesPrefix}
use Rattle.alpha_seq.specs.State.{Went}
use Rattle.alpha_seq.specs.Run.{output, notes}
use Rattle.alpha_seq.specs.Machine.{program_of}
use Rattle.alpha_imprecise.specs.StepResult.{ImpreciseEvent, Precisely, StepResult}
use Rattle.alpha_imprecise.specs.Run.{seen, RunsImprecisely, units}
use Rattle.alpha_imprecise.specs.Used.{HasUsed}
use Rattle.alpha_imprecise.specs.Chosen.{Draws}
use Rattle.alpha_imprecise.specs.Oracle.{Oracle, OracleDraws}
use Rattle.alpha_imprecise.specs.ImpreciseState.{ImpreciseState, waited_in, step_result_of}

-- the output and the notes are fronts of what a run of so many units, or to its end, shows by these words
pub record IsFrontBy (n : ℕ) (watch : Bool) (w : ImpreciseState) (words : List ℕ) (out sink : SinkChange) : Type 0 where
  pub steps : List ImpreciseEvent
  pub at : StepResult
  pub rest : List ℕ
  pub runs : RunsImprecisely (program_of w.machine) (step_result_of w (Precisely Went)) steps at
  pub draws : Draws (program_of w.machine) (step_result_of w (Precisely Went)) (waited_in w.pending) words steps rest
  pub used : HasUsed n (units (program_of w.machine) (step_result_of w (Precisely Went)) steps) at
  pub bytes : WritesPrefix out.old out.new (output (seen steps))
  pub lines : WritesPrefix sink.old sink.new (notes watch (seen steps))

-- by the words that the chooser went on by and others behind them
pub record IsFreeFront (n : ℕ) (watch : Bool) (old : ImpreciseState) (before after : Oracle)
    (out sink : SinkChange) : Type 0 where
  pub words : List ℕ
  pub drew : OracleDraws before after words
  pub fronts : (coming : List ℕ) → IsFrontBy n watch old (words ++ coming) out sink
