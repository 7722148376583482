-- The law of `dis`, and that what it writes is a source of the image of its file.
use Rattle.std.proofs.Common.{◌≡◌, ℕ, List, sym, ap, subst}
use Rattle.alpha_image.specs.Parts.{Parts}
use Rattle.alpha_dis.specs.Listing.{listing}
use Rattle.alpha_round.specs.Source.{IsSourceOf}
use Rattle.alpha_round.proofs.SameImage.{IsSourceOf-listing}
use Rattle.alpha_cmd.specs.declared.status.Status.TheVariants.{Done}
use Rattle.alpha_cmd.specs.Outcome.{continues}
use Rattle.alpha_cmd.specs.Status.{class_of}
use Rattle.alpha_cmd.specs.Image.{ImageOf}
use Rattle.alpha_cmd.specs.Answer.{Answer}
use Rattle.alpha_cmd.specs.AnswerBy.{World, AnswerBy, done_with}
use Rattle.alpha_cmd.specs.Form.{IsThere, reads}
use Rattle.alpha_cmd.specs.OfImage.Dis.{Lists, steps}
use Rattle.alpha_cmd.proofs.FormLaws.{IsLawfulForm, is_fault, AnswerBy-done, form_of_file, of_file_lawful}
use Rattle.alpha_cmd.proofs.Lawful.{Gives-lawful}

pub dis_form-lawful : (file : List ℕ) (w : World) → IsLawfulForm (form_of_file Lists reads file) (IsThere file) w
dis_form-lawful file w =
    of_file_lawful Lists reads file w (λ h. h) (λ image. Gives-lawful (done_with w.input (listing image)))
    (λ image a h. (ap (λ (x : Answer). is_fault x.status) h, ap (λ (x : Answer). x.status) h))

pub dis_source : (file : List ℕ) (w : World) (a : Answer) → AnswerBy (steps file) w a → a.status ≡ Done 0
    → (image : Parts) × ImageOf w.files file (continues image) × IsSourceOf a.output image
dis_source file w a h is =
    let (image, found, given) =
    AnswerBy-done (form_of_file Lists reads file) (IsThere file) w (dis_form-lawful file w) a h (ap class_of is) in (
      image,
      found,
      subst (λ s. IsSourceOf s image) (sym (ap (λ (x : Answer). x.output) given)) (IsSourceOf-listing image found.2.0),
    )
