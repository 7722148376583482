-- `asm`: the image of a source.
use Rattle.std.specs.Prelude.{◌≡◌, ℕ, List, Err}
use Rattle.alpha_image.specs.Parts.{Parts, image_spelling}
use Rattle.alpha_asm.specs.declared.fault.AsmFault.{AsmFault}
use Rattle.alpha_asm.specs.Assembled.{assembled}
use Rattle.alpha_round.specs.Source.{IsSourceOf}
use Rattle.alpha_cmd.specs.declared.status.Status.{Status}
use Rattle.alpha_cmd.specs.declared.status.Status.TheVariants.{BadSource}
use Rattle.alpha_cmd.specs.Outcome.{Outcome, Either}
use Rattle.alpha_cmd.specs.Status.{Says}

-- why a source defines no image: its first refusal
abbrev pub NoProgram : List ℕ → Status → Type 0
NoProgram source status = (fault : AsmFault) × (status ≡ BadSource fault) × (assembled source ≡ Err fault)

-- bytes are the spelling of the image that a source defines
abbrev pub IsMade : List ℕ → List ℕ → Type 0
IsMade source bytes = (image : Parts) × IsSourceOf source image × (bytes ≡ image_spelling image)

-- the bytes that a source makes
abbrev pub Assembles : List ℕ → Outcome (List ℕ) → Type 0
Assembles source = Either (IsMade source) (Says (NoProgram source))
