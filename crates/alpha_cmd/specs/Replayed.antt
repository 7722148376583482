-- What a call of `replay` that is done shows.
use Rattle.std.specs.Prelude.{◌≡◌, ℕ, List, Ok}
use Rattle.alpha_io.specs.Files.{Files, HasFile}
use Rattle.alpha_image.specs.Parts.{Parts as Image, IsImage, image_spelling}
use Rattle.alpha_shadow.specs.Broken.{IsAccepted}
use Rattle.alpha_replay.specs.declared.replaying.Replayed.{Replayed}
use Rattle.alpha_replay.specs.Journal.{Parts, IsJournal}
use Rattle.alpha_replay.specs.Journal as journals
use Rattle.alpha_replay.specs.Replay.{replayed, IsRun, IsSequential}
use Rattle.alpha_request.specs.Commands.Replay as replay_words
use Rattle.alpha_cmd.specs.declared.status.Status.{Status}
use Rattle.alpha_cmd.specs.declared.status.Status.TheVariants.{Done}

-- The file spells an image and the journal's file a journal, which lists a run of the imprecise machine on it: it takes
-- the journal's whole input, puts its output and ends as it says. Where the image is accepted too, the sequential
-- machine does the same over that input in as many steps.
pub record ShowsRun (file journal : List ℕ) (files : Files) : Type 0 where
  pub image : Image
  pub listed : Parts
  pub answer : Replayed
  pub good : IsImage image
  pub read : HasFile files file (image_spelling image)
  pub is_journal : IsJournal listed
  pub read_journal : HasFile files journal (journals.spelling listed)
  pub replays : replayed image listed ≡ Ok answer
  pub runs : IsRun image listed answer.units
  pub alike : IsAccepted image.words → IsSequential image listed answer.units

abbrev pub ShowsRuns : List (List ℕ) → Status → Files → Type 0
ShowsRuns words status files = (file journal : List ℕ) → replay_words.AsksToReplay words file journal → status ≡ Done 0
    → ShowsRun file journal files
