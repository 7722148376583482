-- The laws of `asm`.
use Rattle.std.proofs.Common.{◌≡◌, ◌∙◌, ℕ, List, Result, Ok, Err, refl, sym, ap}
use Rattle.alpha_image.specs.Parts.{image_spelling}
use Rattle.alpha_asm.specs.declared.fault.AsmFault.{AsmFault}
use Rattle.alpha_asm.specs.Program.{Program}
use Rattle.alpha_asm.specs.Assembled.{assembled}
use Rattle.alpha_round.proofs.SameImage.{IsSourceOf-unique}
use Rattle.alpha_round.proofs.UnrefusedSources.{IsSourceOf-exists}
use Rattle.alpha_cmd.specs.declared.status.Status.TheVariants.{BadSource}
use Rattle.alpha_cmd.specs.Status.{status_line}
use Rattle.alpha_cmd.specs.Outcome.{continues, stops}
use Rattle.alpha_cmd.specs.SourceCommands.Asm.{IsMade, Assembles}
use Rattle.alpha_cmd.proofs.Lawful.{Lawful, HasOutcome, Faults-lawful}

same_made : (source a b : List ℕ) → IsMade source a → IsMade source b → a ≡ b
same_made source a b (p, x, s) (q, y, t) = s ∙ (ap image_spelling (IsSourceOf-unique source p q x y) ∙ sym t)

assembles_some : (source : List ℕ) (r : Result Program AsmFault) → assembled source ≡ r → HasOutcome (Assembles source)
assembles_some source (Ok p) e =
    let (image, is) = IsSourceOf-exists source p e in
    (continues (image_spelling image), (image, is, refl))
assembles_some source (Err fault) e =
    (stops (BadSource fault) (status_line (BadSource fault)), ((fault, refl, e), refl))

pub Assembles-lawful : (told whole there : Type 0) (source : List ℕ) → Lawful told whole there (Assembles source)
Assembles-lawful told whole there source =
    Faults-lawful (IsMade source) BadSource (assembled source) Err (λ f g e. cc) (λ f. refl) (same_made source)
    (λ a f made none. let some = made.1.1 in cc)
    (λ h. assembles_some source (assembled source) refl)
