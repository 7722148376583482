-- What a call of `replay` that is done shows.
use Rattle.std.proofs.Common.{◌≡◌, ℕ, List, ap, subst}
use Rattle.alpha_io.specs.Files.{HasFile}
use Rattle.alpha_request.specs.Command.{replay}
use Rattle.alpha_restart.proofs.Agreement.{IsAccepted-IsRestartable}
use Rattle.alpha_replay.proofs.ItemEffects.{replayed-IsRun, replayed-IsSequential}
use Rattle.alpha_cmd.specs.declared.status.Status.TheVariants.{Done}
use Rattle.alpha_cmd.specs.Status.{class_of}
use Rattle.alpha_cmd.specs.Asks.{AsksFor}
use Rattle.alpha_cmd.specs.Answer.{Answer}
use Rattle.alpha_cmd.specs.AnswerBy.{World}
use Rattle.alpha_cmd.specs.Commands.Replay.{form, there}
use Rattle.alpha_cmd.specs.Replayed.{ShowsRun}
use Rattle.alpha_cmd.specs.Tried.{AttemptedBy}
use Rattle.alpha_cmd.proofs.FormLaws.{AnswerBy-done}
use Rattle.alpha_cmd.proofs.Commands.Replay.{replay_form-lawful}
use Rattle.alpha_cmd.proofs.AttemptedBy.{AttemptedBy-done}

pub shows_run : (shelf input : Type 0) (words : List (List ℕ)) (file journal : List ℕ) (w : World) (t : Answer)
    → AsksFor words (replay file journal)
    → AttemptedBy shelf input words w t → t.status ≡ Done 0 → ShowsRun file journal w.files
shows_run shelf input words file journal w t asks tried e =
    let a = AttemptedBy-done shelf input words (replay file journal) w t asks tried e in
    let (r, (image, (bytes, read, (good, spells)), (p, (told, taken, (is, spelled)), replays)), shown) =
    AnswerBy-done (form file journal) (there file journal) w (replay_form-lawful file journal w) t a (ap class_of e) in
    record {
      image = image;
      listed = p;
      answer = r;
      good = good;
      read = subst (HasFile w.files file) spells read.0;
      is_journal = is;
      read_journal = subst (HasFile w.files journal) spelled taken.0;
      replays = replays;
      runs = replayed-IsRun image p r replays;
      alike = λ safe. replayed-IsSequential image p r replays (IsAccepted-IsRestartable image good safe);
    }
