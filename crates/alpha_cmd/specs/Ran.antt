-- What a call of the plain words `run FILE` or `run --imprecise FILE` shows, by the bytes that the calls of its devices
-- gave and took, whatever these tell beforehand.
use Rattle.std.specs.Prelude.{◌≡◌, ◌⊎◌, ℕ, List, [], ◌∷◌, ◌++◌, Option, codes}
use Rattle.alpha_io.specs.History.{IsReadWhole}
use Rattle.alpha_io.specs.ShelfChange.{ShelfChange}
use Rattle.alpha_io.specs.SinkChange.{Puts}
use Rattle.alpha_image.specs.Parts.{Parts, IsImage, image_spelling}
use Rattle.alpha_shadow.specs.Broken.{IsAccepted}
use Rattle.alpha_request.specs.Plain.{IsPlain, defaults}
use Rattle.alpha_request.specs.declared.options.RunOptions.{RunOptions}
use Rattle.alpha_seq.specs.declared.end.End.{End}
use Rattle.alpha_seq.specs.Run.{end_of, output, notes}
use Rattle.alpha_seq.specs.Devices.{Drawn, AnswersEach}
use Rattle.alpha_cmd.specs.declared.status.Status.{Status}
use Rattle.alpha_cmd.specs.declared.status.Status.TheVariants.{InputFault, SinkFault, NoMemory}
use Rattle.alpha_cmd.specs.Call.{Call}
use Rattle.alpha_cmd.specs.Checked.{ReadsImage}
use Rattle.alpha_cmd.specs.Drawn.{but_drawn}
use Rattle.alpha_cmd.specs.RunAnswer.{RunByReads, run_status, run_line}

-- A run of the sequential machine from the start, of as many steps as were asked for or to the program's end. Its reads
-- are what the calls of the source gave, each behind the one before, and the source was asked for nothing else.
pub record RunOnReplies (options : RunOptions) (image : Parts) (d : Drawn) : Type 0 where
  pub run : RunByReads options image
  pub answers : AnswersEach d.old.replies run.events d.new.replies

-- how it ended
abbrev pub end_on : {options : RunOptions} {image : Parts} {d : Drawn} → RunOnReplies options image d → Option End
end_on r = end_of r.run.at.event

-- The status is that of its end, but for the number of words that the imprecise machine drew. Its output and its notes
-- were written, all of them and nothing else.
pub record ShowsRun (options : RunOptions) (image : Parts) (status : Status) (c : Call) : Type 0 where
  pub ran : RunOnReplies options image c.input
  pub status_is : but_drawn status ≡ run_status (end_on ran)
  pub put : Puts c.out (output ran.run.events)
  pub noted : Puts c.notes (notes options.watch ran.run.events ++ run_line (end_on ran))

-- the status of a run's end, whatever the number of words
abbrev pub IsRunEnd : Status → Type 0
IsRunEnd status = (end : Option End) × (but_drawn status ≡ run_status end)

-- ---- and a run there is

-- memory ran out, or the input or a sink failed
abbrev pub FailsOnTheWay : Status → Type 0
FailsOnTheWay status = (status ≡ NoMemory) ⊎ ((status ≡ InputFault) ⊎ (status ≡ SinkFault))

-- Where the bytes that the shelf's calls gave of this file, from its start to its end and nothing else, spell an image
-- that has P, the status is that of a run's end, but for such a failure.
abbrev pub EndsWhere : (Parts → Type 0) → List ℕ → Status → ShelfChange → Type 0
EndsWhere P file status s =
    (image : Parts) → IsImage image → P image → IsReadWhole s.past s.history file (image_spelling image)
    → IsRunEnd status ⊎ FailsOnTheWay status

-- ---- the clause

-- The first says what a run's end shows, and the second when there is one, of an image that has P.
pub record RanBy (P : Parts → Type 0) (file : List ℕ) (status : Status) (c : Call) : Type 0 where
  pub shows : IsRunEnd status → ReadsImage c.shelf file (λ image. P image × ShowsRun defaults image status c)
  pub ends : EndsWhere P file status c.shelf

-- So it is of plain words, without options. The imprecise machine runs an image that is accepted.
abbrev pub Ran : List (List ℕ) → Status → Call → Type 0
Ran words status c = (file : List ℕ) → IsPlain file
    → (words ≡ codes "run" ∷ file ∷ [] → RanBy (λ image. Unit {0}) file status c)
    × (words ≡ codes "run" ∷ codes "--imprecise" ∷ file ∷ [] → RanBy (λ image. IsAccepted image.words) file status c)
