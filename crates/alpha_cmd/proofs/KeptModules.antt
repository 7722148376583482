-- The file that `module` leaves where it is done.
use Rattle.std.proofs.Common.{◌≡◌, ℕ, List, ap, subst}
use Rattle.alpha_io.specs.Files.{HasFile}
use Rattle.alpha_io.specs.ShelfChange.{ShelfChange}
use Rattle.alpha_request.specs.declared.request.SourceCommand.TheVariants.{Module}
use Rattle.alpha_request.specs.Command.{make_module}
use Rattle.alpha_cmd.specs.declared.status.Status.TheVariants.{Done}
use Rattle.alpha_cmd.specs.Answer.{Answer}
use Rattle.alpha_cmd.specs.AnswerBy.{World}
use Rattle.alpha_cmd.specs.Asks.{AsksFor}
use Rattle.alpha_cmd.specs.SourceCommands.Module.{KeepsModule}
use Rattle.alpha_cmd.specs.SourceCommands.{form, there}
use Rattle.alpha_cmd.specs.Kept.{Kept, HasKept}
use Rattle.alpha_cmd.specs.Status.{class_of}
use Rattle.alpha_cmd.specs.Tried.{AttemptedBy}
use Rattle.alpha_cmd.proofs.FormLaws.{AnswerBy-done}
use Rattle.alpha_cmd.proofs.SourceCommands.{source_form-lawful}
use Rattle.alpha_cmd.proofs.AttemptedBy.{AttemptedBy-done}

pub kept_module : (shelf input : Type 0) (words : List (List ℕ))
    (file out : List ℕ) (w : World) (t : Answer) (s : ShelfChange)
    → AsksFor words (make_module file out)
    → AttemptedBy shelf input words w t → t.status ≡ Done 0 → HasKept t.kept s → KeepsModule file out w.files s.new
kept_module shelf input words file out w t s asks tried e has =
    let a = AttemptedBy-done shelf input words (make_module file out) w t asks tried e in
    let (bytes, (source, read, (m, made, (accepted, is))), (taken, kept)) =
    AnswerBy-done (form Module file out) (there Module file out) w (source_form-lawful Module file out w) t a
    (ap class_of e) in
    record {
      source = source;
      parts = m;
      read = read.0;
      made = made;
      accepted = accepted;
      kept = subst (HasFile s.new out) is (subst (λ (k : Kept). HasKept k s) (ap (λ (x : Answer). x.kept) kept) has).0;
    }
