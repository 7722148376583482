-- What a run of an accepted image over a told input answers, by either machine.
use Rattle.std.specs.Prelude.{◌≡◌, ◌⊎◌, ℕ, false, List, [], ◌∷◌, Some, IsSome, codes}
use Rattle.alpha_words.specs.declared.Completion.TheVariants.{Wrap}
use Rattle.alpha_io.specs.Files.{HasFile}
use Rattle.alpha_image.specs.Parts.{Parts, IsImage, image_spelling}
use Rattle.alpha_shadow.specs.Broken.{IsAccepted}
use Rattle.alpha_request.specs.declared.options.RunOptions.{RunOptions}
use Rattle.alpha_request.specs.Plain.{IsPlain}
use Rattle.alpha_seq.specs.Run.{sequential}
use Rattle.alpha_cmd.specs.declared.status.Status.{Status}
use Rattle.alpha_cmd.specs.Answer.{Answer}
use Rattle.alpha_cmd.specs.Call.{Call, NoDeviceFault}
use Rattle.alpha_cmd.specs.RunAnswer.{program_by, answer_shown}
use Rattle.alpha_cmd.specs.Drawn.{but_drawn}
use Rattle.alpha_cmd.specs.Answered.{Answered}

-- the status, the output and the notes of the sequential run of the image over the input, and the input that it leaves
abbrev pub answer_told : RunOptions → Parts → List ℕ → Answer
answer_told options image input =
    answer_shown (Some input) (sequential (program_by options image) input options.steps options.watch)

-- the shelf tells that the file spells this accepted image, and the source that its input is these bytes
pub record TellsAccepted (image : Parts) (file bytes : List ℕ) (c : Call) : Type 0 where
  pub good : IsImage image
  pub accepted : IsAccepted image.words
  pub told : IsSome c.shelf.old
  pub there : HasFile c.shelf.old file (image_spelling image)
  pub input : c.input.old.left ≡ Some bytes

-- plain words that ask for a run of the file, by either machine
abbrev pub AskRun : List (List ℕ) → List ℕ → Type 0
AskRun words file = (words ≡ codes "run" ∷ file ∷ []) ⊎ (words ≡ codes "run" ∷ codes "--imprecise" ∷ file ∷ [])

-- the same without options: an overflow wraps, 100,000,000 steps are made at most, and no barrier is noted
abbrev pub answer_plain : Parts → List ℕ → Answer
answer_plain image input =
    answer_shown (Some input) (sequential (record { image = image; completion = Wrap }) input 100000000 false)

-- Where no device fails, such words give the answer of the sequential run, whichever machine they ask for. Only the
-- number of words that the imprecise machine draws, which its status carries where the program has exited, is its own.
abbrev pub RanTold : List (List ℕ) → Status → Call → Type 0
RanTold words status c = (file bytes : List ℕ) (image : Parts) → AskRun words file → IsPlain file
    → TellsAccepted image file bytes c → NoDeviceFault c → Answered (answer_plain image bytes) (but_drawn status) c
