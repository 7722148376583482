-- What a call of `fix` that is done keeps.
use Rattle.std.proofs.Common.{◌≡◌, ℕ, List, ap, subst}
use Rattle.alpha_io.specs.Files.{HasFile}
use Rattle.alpha_io.specs.ShelfChange.{ShelfChange}
use Rattle.alpha_request.specs.declared.request.SourceCommand.TheVariants.{Fix}
use Rattle.alpha_request.specs.Command.{fix}
use Rattle.alpha_restart.proofs.Agreement.{IsAccepted-IsRestartable}
use Rattle.alpha_fix.specs.Fix.{IsFixedSource}
use Rattle.alpha_fix.proofs.FixedSources.{IsFixedSource-accepted, IsFixedSource-needed, IsFixedSource-unchanged}
use Rattle.alpha_cmd.specs.declared.status.Status.TheVariants.{Done}
use Rattle.alpha_cmd.specs.Status.{class_of}
use Rattle.alpha_cmd.specs.Asks.{AsksFor}
use Rattle.alpha_cmd.specs.Answer.{Answer}
use Rattle.alpha_cmd.specs.AnswerBy.{World}
use Rattle.alpha_cmd.specs.SourceCommands.{form, there}
use Rattle.alpha_cmd.specs.Fixed.{IsFixed}
use Rattle.alpha_cmd.specs.Kept.{HasKept}
use Rattle.alpha_cmd.specs.Tried.{AttemptedBy}
use Rattle.alpha_cmd.proofs.FormLaws.{AnswerBy-done}
use Rattle.alpha_cmd.proofs.SourceCommands.{source_form-lawful}
use Rattle.alpha_cmd.proofs.AttemptedBy.{AttemptedBy-done}

fixed_by : (source text : List ℕ) → IsFixedSource source text → IsFixed source text
fixed_by source text f = record {
  is = f;
  accepted = IsFixedSource-accepted source text f;
  restarts = IsAccepted-IsRestartable f.fixed f.has_image.good (IsFixedSource-accepted source text f);
  needed = IsFixedSource-needed source text f;
  unchanged = IsFixedSource-unchanged source text f;
}

pub tried_fixed : (shelf input : Type 0) (words : List (List ℕ))
    (file out : List ℕ) (w : World) (t : Answer) (s : ShelfChange)
    → AsksFor words (fix file out)
    → AttemptedBy shelf input words w t → t.status ≡ Done 0 → HasKept t.kept s
    → (source text : List ℕ) × HasFile w.files file source × HasFile s.new out text × IsFixed source text
tried_fixed shelf input words file out w t s asks tried e kept =
    let is = AttemptedBy-done shelf input words (fix file out) w t asks tried e in
    let (text, made, keeps) =
    AnswerBy-done (form Fix file out) (there Fix file out) w (source_form-lawful Fix file out w) t is (ap class_of e) in
    let (source, read, fixed) = made in
    let has = subst (λ (a : Answer). HasKept a.kept s) keeps.1 kept in
    (source, text, read.0, has.0, fixed_by source text fixed)
