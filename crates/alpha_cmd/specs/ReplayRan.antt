-- What a call of `replay FILE JOURNAL` has read, and how it ends, by the bytes that the shelf's calls gave, whatever it
-- tells beforehand.
use Rattle.std.specs.Prelude.{◌≡◌, ℕ, List, Result, Ok, Err}
use Rattle.alpha_io.specs.History.{Reply, IsReadWhole}
use Rattle.alpha_io.specs.ShelfChange.{ShelfChange}
use Rattle.alpha_image.specs.Parts.{Parts as Image, IsImage, image_spelling}
use Rattle.alpha_shadow.specs.Broken.{IsAccepted}
use Rattle.alpha_replay.specs.declared.replay_fault.ReplayFault.{ReplayFault}
use Rattle.alpha_replay.specs.declared.replaying.Replayed.{Replayed}
use Rattle.alpha_replay.specs.Journal.{Parts, IsJournal}
use Rattle.alpha_replay.specs.Journal as journals
use Rattle.alpha_replay.specs.Replay.{replayed, IsRun, IsSequential}
use Rattle.alpha_cmd.specs.declared.status.Status.{Status}
use Rattle.alpha_cmd.specs.declared.status.Status.TheVariants.{Done, NotARun}
use Rattle.alpha_cmd.specs.ShowsDone.{IsOrFails}

-- The shelf was asked for the file alone, from its start to its end, and then so for the journal's. The bytes that it
-- gave spell an image and a journal, which lists a run of the imprecise machine on it: it takes the journal's whole
-- input, puts its output and ends as it says. Where the image is accepted too, the sequential machine does the same
-- over that input in as many steps. Its numbers have P.
pub record ReplaysFiles (s : ShelfChange) (file journal : List ℕ) (P : Replayed → Type 0) : Type 0 where
  pub image : Image
  pub listed : Parts
  pub answer : Replayed
  pub middle : List Reply
  pub good : IsImage image
  pub read : IsReadWhole s.past middle file (image_spelling image)
  pub is_journal : IsJournal listed
  pub read_journal : IsReadWhole middle s.history journal (journals.spelling listed)
  pub replays : replayed image listed ≡ Ok answer
  pub runs : IsRun image listed answer.units
  pub alike : IsAccepted image.words → IsSequential image listed answer.units
  pub has : P answer

-- The shelf was asked for the file alone, from its start to its end, and then so for the journal's. The bytes that it
-- gave are the spellings of a good image and of a good journal.
pub record IsReplayRead (old new : List Reply) (file journal : List ℕ) (image : Image) (listed : Parts) : Type 0 where
  pub middle : List Reply
  pub good : IsImage image
  pub read : IsReadWhole old middle file (image_spelling image)
  pub is_journal : IsJournal listed
  pub read_journal : IsReadWhole middle new journal (journals.spelling listed)

-- the status of a replay: it is done, or the journal is no run of the image, by its first fault
abbrev pub status_replayed : Result Replayed ReplayFault → Status
status_replayed (Ok r) = Done 0
status_replayed (Err fault) = NotARun fault

-- Where the bytes that the shelf's calls gave of these files spell an image and a journal, the status is that of the
-- journal's replay on the image, but where memory ran out or a sink failed.
abbrev pub EndsWhereReplay : List ℕ → List ℕ → Status → ShelfChange → Type 0
EndsWhereReplay file journal status s =
    (image : Image) (listed : Parts) → IsReplayRead s.past s.history file journal image listed
    → IsOrFails (status_replayed (replayed image listed)) status
