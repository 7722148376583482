-- The fixed source of a source, or why there is none.
use Rattle.std.specs.Prelude.{◌≡◌, ◌≢◌, ◌<◌, ◌≤◌, ◌⊎◌, ℕ, List, [], None, Some, Ok, Err}
use Rattle.alpha_image.specs.Parts.{Parts, IsImage}
use Rattle.alpha_shadow.specs.declared.broken.Condition.{Condition}
use Rattle.alpha_shadow.specs.declared.broken.Broken.{Broken}
use Rattle.alpha_shadow.specs.Least.{condition_number}
use Rattle.alpha_asm.specs.Program.{program_of}
use Rattle.alpha_asm.specs.Assembled.{assembled}
use Rattle.alpha_fix.specs.declared.fault.CutFault.{CutFault}
use Rattle.alpha_fix.specs.declared.fault.CutFault.TheVariants as cut_faults
use Rattle.alpha_fix.specs.declared.fault.FixFault.{FixFault}
use Rattle.alpha_fix.specs.declared.fault.FixFault.TheVariants.{Source, Unfixable, Fixed, Far, NoMemory}
use Rattle.alpha_fix.specs.Cuts.{AreCuts, IsBrokenAlone, NoneAlone}
use Rattle.alpha_fix.specs.FixedSource.{fixed_source}
use Rattle.alpha_fix.specs.FixedLines.{fixed_line}

-- the first trigger that is broken at its own place, by its first condition
pub record IsLeastAlone (code : List ℕ) (b : Broken) : Type 0 where
  pub place : b.at ≡ b.trigger
  pub broken : IsBrokenAlone code b.trigger b.condition
  pub least : (place : ℕ) (condition : Condition) → IsBrokenAlone code place condition
      → (b.trigger < place) ⊎ ((b.trigger ≡ place) × (condition_number b.condition ≤ condition_number condition))

-- why code has no cuts
abbrev pub IsCutFault : List ℕ → CutFault → Type 0
IsCutFault code (cut_faults.Unfixable b) = IsLeastAlone code b
IsCutFault code cut_faults.NoMemory = Unit {0}

-- a source has an image
pub record HasImage (source : List ℕ) (image : Parts) : Type 0 where
  pub good : IsImage image
  pub assembles : assembled source ≡ Ok (program_of image)

-- and that has these cuts, and no trigger that is broken at its own place
pub record HasCuts (source : List ℕ) (image : Parts) (cuts : List ℕ) : Type 0 where
  pub has_image : HasImage source image
  pub sound : NoneAlone image.words
  pub are_cuts : AreCuts image.words cuts

-- the source with a barrier at each cut, none of which a fixed line forbids, and it has an image
pub record IsFixedSource (source text : List ℕ) : Type 0 where
  pub image : Parts
  pub cuts : List ℕ
  pub has_cuts : HasCuts source image cuts
  pub free : (cuts ≡ []) ⊎ (fixed_line source ≡ None)
  pub text_is : text ≡ fixed_source source cuts
  pub fixed : Parts
  pub has_image : HasImage text fixed

-- why a source has no fixed source
abbrev pub Refuses : List ℕ → FixFault → Type 0
Refuses source (Source fault) = assembled source ≡ Err fault
Refuses source (Unfixable b base) =
    (image : Parts) × HasImage source image × IsLeastAlone image.words b × (base ≡ image.code_base)
Refuses source (Fixed line) =
    (image : Parts) × (cuts : List ℕ) × HasCuts source image cuts × (cuts ≢ []) × (fixed_line source ≡ Some line)
Refuses source (Far fault) =
    (image : Parts) × (cuts : List ℕ) × HasCuts source image cuts × (cuts ≢ []) × (fixed_line source ≡ None)
    × (assembled (fixed_source source cuts) ≡ Err fault)
Refuses source NoMemory = Unit {0}

-- why a text has no image
abbrev pub IsFar : List ℕ → FixFault → Type 0
IsFar text (Source fault) = ⊥
IsFar text (Unfixable b base) = ⊥
IsFar text (Fixed line) = ⊥
IsFar text (Far fault) = assembled text ≡ Err fault
IsFar text NoMemory = Unit {0}
