-- The law of `check`.
use Rattle.std.proofs.Common.{ℕ, List, ap}
use Rattle.alpha_cmd.specs.Outcome.{Gives}
use Rattle.alpha_cmd.specs.Image.{Judges}
use Rattle.alpha_cmd.specs.Answer.{Answer}
use Rattle.alpha_cmd.specs.AnswerBy.{World}
use Rattle.alpha_cmd.specs.Form.{IsThere, reads}
use Rattle.alpha_cmd.specs.OfImage.Check.{accepted, Checks}
use Rattle.alpha_cmd.proofs.FormLaws.{IsLawfulForm, is_fault, form_of_file, of_file_lawful}
use Rattle.alpha_cmd.proofs.Lawful.{Then-lawful, Gives-lawful}
use Rattle.alpha_cmd.proofs.StageLaws.{Judges-lawful}

pub check_form-lawful : (file : List ℕ) (w : World) → IsLawfulForm (form_of_file Checks reads file) (IsThere file) w
check_form-lawful file w =
    of_file_lawful Checks reads file w (λ h. h)
    (λ image. Then-lawful {R = Judges image} {S = λ same. Gives (accepted w.input)} (Judges-lawful _ _ _ image)
    (λ same judged. Gives-lawful (accepted w.input)))
    (λ image a h. (ap (λ (x : Answer). is_fault x.status) h.2, ap (λ (x : Answer). x.status) h.2))
