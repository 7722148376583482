-- The laws of what is asked of an image.
use Rattle.std.proofs.Common.{◌≡◌, ℕ, List, refl}
use Rattle.alpha_io.specs.ShelfChange.{ShelfChange}
use Rattle.alpha_shadow.specs.Broken.{IsAccepted}
use Rattle.alpha_request.specs.declared.request.ImageCommand.{ImageCommand}
use Rattle.alpha_request.specs.declared.request.ImageCommand.TheVariants as asked
use Rattle.alpha_request.specs.Command.{of_image}
use Rattle.alpha_cmd.specs.AnswerBy.{World}
use Rattle.alpha_cmd.specs.Checked.{ReadsImage}
use Rattle.alpha_cmd.specs.OfImage.{form, there}
use Rattle.alpha_cmd.specs.Replied.{Replied}
use Rattle.alpha_cmd.proofs.FormLaws.{IsLawfulForm}
use Rattle.alpha_cmd.proofs.OfImage.Check as checks
use Rattle.alpha_cmd.proofs.OfImage.Debug as sessions
use Rattle.alpha_cmd.proofs.OfImage.Dis as listings
pub mod Check
pub mod Debug
pub mod Dis

pub of_image_form-lawful : (command : ImageCommand) (file : List ℕ) (w : World)
    → IsLawfulForm (form command file) (there file) w
of_image_form-lawful asked.Check = checks.check_form-lawful
of_image_form-lawful asked.Dis = listings.dis_form-lawful
of_image_form-lawful asked.Debug = sessions.debug_form-lawful

-- what the shelf replied to a check, and to no other
pub of_image_replied : (command : ImageCommand) (file : List ℕ) (s : ShelfChange)
    → (command ≡ asked.Check → ReadsImage s file (λ image. IsAccepted image.words)) → Replied (of_image command file) s
of_image_replied asked.Check file s h = h refl
of_image_replied asked.Dis file s h = tt
of_image_replied asked.Debug file s h = tt
