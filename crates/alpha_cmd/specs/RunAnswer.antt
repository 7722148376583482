-- What the run of an image's program has as its answer.
use Rattle.std.specs.Prelude.{ℕ, List, Option, Some, None, option_map}
use Rattle.alpha_image.specs.Parts.{Parts}
use Rattle.alpha_request.specs.declared.options.RunOptions.{RunOptions}
use Rattle.alpha_seq.specs.declared.end.End.{End}
use Rattle.alpha_seq.specs.declared.end.End.TheVariants as ends
use Rattle.alpha_seq.specs.Notes.{end_line}
use Rattle.alpha_seq.specs.State.{Program, Event, Stepped}
use Rattle.alpha_seq.specs.Start.{start}
use Rattle.alpha_seq.specs.Run.{begins, Runs as RunsBy, Shown}
use Rattle.alpha_seq.specs.Fronts.{HasMade}
use Rattle.alpha_cmd.specs.declared.status.Status.{Status}
use Rattle.alpha_cmd.specs.declared.status.Status.TheVariants.{Done, Stopped, StepsSpent}
use Rattle.alpha_cmd.specs.SpentLine.{spent_line}
use Rattle.alpha_cmd.specs.Kept.{nothing}
use Rattle.alpha_cmd.specs.Answer.{Answer}

-- the status of a run by how the program ended, if it has: by the system call exit it did what was asked
abbrev pub run_status : Option End → Status
run_status None = StepsSpent
run_status (Some (ends.Exit v)) = Done 0
run_status (Some end) = Stopped end

-- its last line
abbrev pub run_line : Option End → List ℕ
run_line None = spent_line
run_line (Some end) = end_line end

-- an image with the options' way to complete an overflow
abbrev pub program_by : RunOptions → Parts → Program
program_by options image = record { image = image; completion = options.complete }

-- what a run shows
abbrev pub answer_shown : Option (List ℕ) → Shown → Answer
answer_shown input s = record {
  status = run_status s.end;
  output = s.output;
  trace = s.notes;
  line = run_line s.end;
  left = option_map (λ bytes. s.left) input;
  kept = nothing;
}

-- A run from the start with as many steps as were asked for, or to the program's end, whatever each read was given: a
-- source that tells nothing may answer each of them anew.
pub record RunByReads (options : RunOptions) (image : Parts) : Type 0 where
  pub events : List Event
  pub at : Stepped
  pub runs : RunsBy (program_by options image) (begins (start (program_by options image))) events at
  pub made : HasMade options.steps events at
