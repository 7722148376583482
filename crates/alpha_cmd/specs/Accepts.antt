-- When a call of `check FILE` is done.
use Rattle.std.specs.Prelude.{◌≡◌, ◌⊎◌, ℕ, List, IsSome}
use Rattle.alpha_io.specs.Files.{HasFile}
use Rattle.alpha_image.specs.Parts.{Parts, IsImage, image_spelling}
use Rattle.alpha_shadow.specs.Broken.{IsAccepted}
use Rattle.alpha_request.specs.declared.request.ImageCommand.TheVariants.{Check}
use Rattle.alpha_request.specs.Commands.OfImage as image_words
use Rattle.alpha_cmd.specs.declared.status.Status.{Status}
use Rattle.alpha_cmd.specs.declared.status.Status.TheVariants.{Done, NoMemory}
use Rattle.alpha_cmd.specs.Call.{Call, NoDeviceFault}

-- where the shelf tells that the file spells an accepted image and no device fails, it is done, or memory ran out
abbrev pub Accepts : List (List ℕ) → Status → Call → Type 0
Accepts words status c = (image : Parts) (file : List ℕ) → image_words.AsksOfImage Check words file
    → IsImage image → IsAccepted image.words → IsSome c.shelf.old → HasFile c.shelf.old file (image_spelling image)
    → NoDeviceFault c → (status ≡ Done 0) ⊎ (status ≡ NoMemory)
