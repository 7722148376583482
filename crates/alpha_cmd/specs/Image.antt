-- The stages that lead to a file, to its image and to the verdict on it.
use Rattle.std.specs.Prelude.{◌≡◌, ◌⊎◌, ◌<◌, ◌≤◌, ℕ, List, length, Option, Some}
use Rattle.alpha_io.specs.Files.{Files, IfTold, HasFile, Lacks}
use Rattle.alpha_image.specs.declared.fault.ImageFault.{ImageFault}
use Rattle.alpha_image.specs.Parts.{Parts, IsImage, image_spelling}
use Rattle.alpha_image.specs.ImageFault.{first_fault}
use Rattle.alpha_shadow.specs.declared.broken.Broken.{Broken}
use Rattle.alpha_shadow.specs.Broken.{IsAccepted}
use Rattle.alpha_shadow.specs.Least.{IsLeastBroken}
use Rattle.alpha_verdict.specs.Report.{broken_line}
use Rattle.alpha_cmd.specs.declared.status.Status.{Status}
use Rattle.alpha_cmd.specs.declared.status.Status.TheVariants.{NotRestartable, BadImage, ShelfFault, TooLarge}
use Rattle.alpha_cmd.specs.Outcome.{Outcome, Either, Then}
use Rattle.alpha_cmd.specs.Status.{Says}
use Rattle.alpha_cmd.specs.Answer.{Answer}
use Rattle.alpha_cmd.specs.AnswerBy.{World}

-- why a named file isn't read: files are told and have none of this name, or it has more bytes than the limit
abbrev pub Unread : Files → List ℕ → ℕ → Status → Type 0
Unread files name limit status =
    ((status ≡ ShelfFault) × Lacks files name)
    ⊎ ((status ≡ TooLarge limit) × IfTold files name (λ file. limit < length file))

-- the bytes of a named file, where files are told
abbrev pub Reads : Files → List ℕ → ℕ → Outcome (List ℕ) → Type 0
Reads files name limit =
    Either (λ bytes. HasFile files name bytes × (length bytes ≤ limit)) (Says (Unread files name limit))

-- why bytes are no image: their first fault
abbrev pub NoImage : List ℕ → Status → Type 0
NoImage bytes status = (fault : ImageFault) × (status ≡ BadImage fault) × (first_fault bytes ≡ Some fault)

-- the image that bytes spell
abbrev pub Spells : List ℕ → Outcome Parts → Type 0
Spells bytes = Either (λ image. IsImage image × (bytes ≡ image_spelling image)) (Says (NoImage bytes))

-- the most bytes of an image file
abbrev pub image_limit : ℕ
image_limit = 18874368

-- the image of a named file
abbrev pub ImageOf : Files → List ℕ → Outcome Parts → Type 0
ImageOf files name = Then (Reads files name image_limit) Spells

-- what is answered of that image, over the input that is told
abbrev pub OfFile : (Option (List ℕ) → Parts → Outcome Answer → Type 0) → List ℕ → World → Outcome Answer → Type 0
OfFile Answers file w = Then (ImageOf w.files file) (Answers w.input)

-- why an image is refused, with the line that says it: its least broken place
abbrev pub IsRefused : Parts → Status → List ℕ → Type 0
IsRefused image status line =
    (b : Broken) × (status ≡ NotRestartable b) × (IsLeastBroken image.words b × (line ≡ broken_line b image.code_base))

-- the verdict lets an accepted image through
abbrev pub Judges : Parts → Outcome Parts → Type 0
Judges image = Either (λ same. IsAccepted image.words × (same ≡ image)) (IsRefused image)
