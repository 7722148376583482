-- `fix`: a source with a barrier wherever its code needs one.
use Rattle.std.specs.Prelude.{◌≡◌, ◌⊎◌, ℕ, List}
use Rattle.alpha_image.specs.Parts.{Parts}
use Rattle.alpha_shadow.specs.declared.broken.Broken.{Broken}
use Rattle.alpha_asm.specs.declared.fault.AsmFault.{AsmFault}
use Rattle.alpha_fix.specs.declared.fault.FixFault.TheVariants as faults
use Rattle.alpha_fix.specs.Fix.{HasImage, IsFixedSource, IsLeastAlone, Refuses}
use Rattle.alpha_cmd.specs.declared.status.Status.{Status}
use Rattle.alpha_cmd.specs.declared.status.Status.TheVariants.{Unfixable, FixedLine, Far}
use Rattle.alpha_cmd.specs.Outcome.{Outcome, Either}
use Rattle.alpha_cmd.specs.Status.{Says, unfixable_line}
use Rattle.alpha_cmd.specs.SourceCommands.Asm.{NoProgram}

-- Why no barrier helps the code of a source, with the line that says it: the first trigger that is broken at its own
-- place, by its first condition.
abbrev pub IsUnfixable : List ℕ → Status → List ℕ → Type 0
IsUnfixable source status line =
    (image : Parts) × HasImage source image
    × ((b : Broken) × (status ≡ Unfixable b) × (IsLeastAlone image.words b × (line ≡ unfixable_line b image.code_base)))

-- why no barrier is put into a source: it defines no image, its first fixed line, or the first refusal of what it would
-- become
abbrev pub Unfixed : List ℕ → Status → Type 0
Unfixed source status =
    NoProgram source status
    ⊎ (((line : ℕ) × (status ≡ FixedLine line) × Refuses source (faults.Fixed line))
    ⊎ ((fault : AsmFault) × (status ≡ Far fault) × Refuses source (faults.Far fault)))

abbrev pub Unfixes : List ℕ → Status → List ℕ → Type 0
Unfixes source status line = IsUnfixable source status line ⊎ Says (Unfixed source) status line

-- the source with its barriers
abbrev pub Fixes : List ℕ → Outcome (List ℕ) → Type 0
Fixes source = Either (IsFixedSource source) (Unfixes source)
