-- What a call of `record FILE OUT` shows, by the bytes that the calls of its devices gave and took, whatever these tell
-- beforehand.
use Rattle.std.specs.Prelude.{◌≡◌, ℕ, ◌%◌, ◌^◌, Bool, false, true, List, [], ◌∷◌, ◌++◌, Some}
use Rattle.alpha_io.specs.Files.{HasFile}
use Rattle.alpha_io.specs.History.{Reply, Kept}
use Rattle.alpha_io.specs.ShelfChange.{ShelfChange}
use Rattle.alpha_io.specs.SinkChange.{SinkChange, Puts}
use Rattle.alpha_image.specs.Parts.{image_spelling}
use Rattle.alpha_shadow.specs.Broken.{IsAccepted}
use Rattle.alpha_request.specs.declared.options.RunOptions.{RunOptions}
use Rattle.alpha_request.specs.Origin.{Origin}
use Rattle.alpha_seq.specs.Run.{output, notes}
use Rattle.alpha_seq.specs.Devices.{Drawn, AnswersEach}
use Rattle.alpha_imprecise.specs.Run.{seen}
use Rattle.alpha_imprecise.specs.ChosenRun.{end_of_imprecise_event, lost_trap}
use Rattle.alpha_replay.specs.Journal.{Parts, IsJournal}
use Rattle.alpha_replay.specs.Journal as journals
use Rattle.alpha_cmd.specs.declared.decision.Decision.{Decision}
use Rattle.alpha_cmd.specs.declared.status.Status.{Status}
use Rattle.alpha_cmd.specs.Call.{Call}
use Rattle.alpha_cmd.specs.Commands.Imprecise.{Plan, imprecise_status, imprecise_line}
use Rattle.alpha_cmd.specs.Commands.Record.{RecordedByReads, HasRecorded, HasJournal}
use Rattle.alpha_cmd.specs.PlanRead.{IsPlanRead}

-- A run by the words of a plan that has this journal. Its reads are what the calls of the source gave, each behind the
-- one before, and the source was asked for nothing else. Where the input is told, the journal is that of the run over
-- it.
pub record RecordOnReplies (options : RunOptions) (plan : Plan) (p : Parts) (d : Drawn) : Type 0 where
  pub run : RecordedByReads options plan
  pub has : HasRecorded options plan p run
  pub answers : AnswersEach d.old.replies (seen run.steps) d.new.replies
  pub told : (input : List ℕ) → d.old.left ≡ Some input → HasJournal options (Some input) plan p

-- the status and the last line of its end; of the number of words the status has what stands in 64 bits
abbrev pub status_recorded : {options : RunOptions} {plan : Plan} {p : Parts} {d : Drawn}
    → RecordOnReplies options plan p d → Status
status_recorded r =
    imprecise_status (end_of_imprecise_event r.run.at.last_event) (lost_trap r.run.at.last_event) (r.run.drawn % 2 ^ 64)

abbrev pub line_recorded : {options : RunOptions} {plan : Plan} {p : Parts} {d : Drawn}
    → RecordOnReplies options plan p d → List ℕ
line_recorded r = imprecise_line (end_of_imprecise_event r.run.at.last_event) (lost_trap r.run.at.last_event)

-- The image is accepted, unless the verdict is passed over. The status is that of the run's end, with the number of its
-- words. Its output and its notes were written, all of them and nothing else.
pub record ShowsRecord (options : RunOptions) (force : Bool) (plan : Plan) (p : Parts) (status : Status)
    (c : Call) : Type 0 where
  pub accepted : force ≡ false → IsAccepted plan.image.words
  pub ran : RecordOnReplies options plan p c.input
  pub status_is : status ≡ status_recorded ran
  pub put : Puts c.out (output (seen ran.run.steps))
  pub noted : Puts c.notes (notes false (seen ran.run.steps) ++ line_recorded ran)

-- The shelf was asked for the image and the words of a plan, and then to keep a good journal under this name, which it
-- did. They have P. Where files are told, the image is the file's.
pub record ReadsAndKeeps (s : ShelfChange) (choices : Origin) (file out : List ℕ)
    (P : Plan → Parts → Type 0) : Type 0 where
  pub plan : Plan
  pub journal : Parts
  pub middle : List Reply
  pub is : IsPlanRead s.past middle choices file plan
  pub told : HasFile s.old file (image_spelling plan.image)
  pub good : IsJournal journal
  pub kept : s.history ≡ middle ++ Kept out (journals.spelling journal) true ∷ []
  pub has : P plan journal

-- These replies are one alone, to the call that was to keep a good journal under this name, which was done or not.
pub record AsksToKeep (out : List ℕ) (done : Bool) (replies : List Reply) : Type 0 where
  pub journal : Parts
  pub good : IsJournal journal
  pub is : replies ≡ Kept out (journals.spelling journal) done ∷ []

-- its output and its lines were written, and its status and its last line are still to be said
pub record DecidesRecord (options : RunOptions) (force : Bool) (plan : Plan) (p : Parts) (decision : Decision)
    (d : Drawn) (out sink : SinkChange) : Type 0 where
  pub accepted : force ≡ false → IsAccepted plan.image.words
  pub ran : RecordOnReplies options plan p d
  pub status_is : decision.status ≡ status_recorded ran
  pub no_more : decision.output ≡ []
  pub line_is : decision.line ≡ line_recorded ran
  pub put : Puts out (output (seen ran.run.steps))
  pub noted : Puts sink (notes false (seen ran.run.steps))
