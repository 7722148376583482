-- What a run of the imprecise machine shows where the verdict is passed over, by the bytes that the calls of its
-- devices gave and took, whatever these tell beforehand.
use Rattle.std.specs.Prelude.{◌≡◌, ℕ, ◌%◌, ◌^◌, List, [], ◌++◌}
use Rattle.alpha_io.specs.SinkChange.{SinkChange, Puts}
use Rattle.alpha_request.specs.declared.options.RunOptions.{RunOptions}
use Rattle.alpha_seq.specs.Run.{output, notes}
use Rattle.alpha_seq.specs.Devices.{Drawn, AnswersEach}
use Rattle.alpha_imprecise.specs.Run.{seen}
use Rattle.alpha_imprecise.specs.ChosenRun.{end_of_imprecise_event, lost_trap}
use Rattle.alpha_cmd.specs.declared.decision.Decision.{Decision}
use Rattle.alpha_cmd.specs.declared.status.Status.{Status}
use Rattle.alpha_cmd.specs.Call.{Call}
use Rattle.alpha_cmd.specs.Commands.Imprecise.{Plan, MadeByReads, imprecise_status, imprecise_line}

-- A run of the imprecise machine from the start, by the words of a plan, for as many units as were asked for or until
-- it is over. Its reads are what the calls of the source gave, each behind the one before, and the source was asked for
-- nothing else.
pub record ImpreciseOnReplies (options : RunOptions) (plan : Plan) (d : Drawn) : Type 0 where
  pub run : MadeByReads options plan
  pub answers : AnswersEach d.old.replies (seen run.steps) d.new.replies

-- the status and the last line of its end; of the number of words the status has what stands in 64 bits
abbrev pub status_on : {options : RunOptions} {plan : Plan} {d : Drawn} → ImpreciseOnReplies options plan d → Status
status_on r =
    imprecise_status (end_of_imprecise_event r.run.at.last_event) (lost_trap r.run.at.last_event) (r.run.drawn % 2 ^ 64)

abbrev pub line_on : {options : RunOptions} {plan : Plan} {d : Drawn} → ImpreciseOnReplies options plan d → List ℕ
line_on r = imprecise_line (end_of_imprecise_event r.run.at.last_event) (lost_trap r.run.at.last_event)

-- The status is that of its end, with the number of its words. Its output and its notes were written, all of them and
-- nothing else.
pub record ShowsImprecise (options : RunOptions) (plan : Plan) (status : Status) (c : Call) : Type 0 where
  pub ran : ImpreciseOnReplies options plan c.input
  pub status_is : status ≡ status_on ran
  pub put : Puts c.out (output (seen ran.run.steps))
  pub noted : Puts c.notes (notes options.watch (seen ran.run.steps) ++ line_on ran)

-- its output and its lines were written, and its status and its last line are still to be said
pub record DecidesImprecise (options : RunOptions) (plan : Plan) (decision : Decision) (d : Drawn)
    (out sink : SinkChange) : Type 0 where
  pub ran : ImpreciseOnReplies options plan d
  pub status_is : decision.status ≡ status_on ran
  pub no_more : decision.output ≡ []
  pub line_is : decision.line ≡ line_on ran
  pub put : Puts out (output (seen ran.run.steps))
  pub noted : Puts sink (notes options.watch (seen ran.run.steps))
