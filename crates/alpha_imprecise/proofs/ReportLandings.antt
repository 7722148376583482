-- A report by the place that a scan found, of which proofs go by cases.
use Rattle.std.specs.Prelude.{ℕ, Option, Some}
use Rattle.std.specs.Option.{option_map_or}
use Rattle.alpha_seq.specs.State.{Program, State}
use Rattle.alpha_imprecise.specs.StepResult.{Trap, Lost, StepResult, step_result}
use Rattle.alpha_imprecise.specs.Step.{landed}

abbrev pub report_at : Program → State → Trap → Option ℕ → StepResult
report_at g s t found = option_map_or (landed g s) found (step_result s (Some t) (Lost s.pc t.mask))
