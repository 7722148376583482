-- What words ask for.
use Rattle.std.specs.Prelude.{ℕ, List, Bool}
use Rattle.alpha_request.specs.declared.request.ImageCommand.{ImageCommand}
use Rattle.alpha_request.specs.declared.request.ImageCommand.TheVariants as images
use Rattle.alpha_request.specs.declared.request.SourceCommand.{SourceCommand}
use Rattle.alpha_request.specs.declared.request.SourceCommand.TheVariants as sources
use Rattle.alpha_request.specs.declared.options.RunOptions.{RunOptions}
use Rattle.alpha_request.specs.Origin.{Origin}

pub data Command : Type 0 where
  of_image : ImageCommand → List ℕ → Command
  -- what is made of a source, and the name of what is kept
  make : SourceCommand → List ℕ → List ℕ → Command
  -- the entry, the name of what is kept, and those of the modules
  link : List ℕ → List ℕ → List (List ℕ) → Command
  replay : List ℕ → List ℕ → Command
  -- the choices, whether the verdict is passed over, and the name of the journal
  record_run : RunOptions → Origin → Bool → List ℕ → List ℕ → Command
  run : RunOptions → List ℕ → Command
  -- the choices, and whether the verdict is passed over
  imprecise : RunOptions → Origin → Bool → List ℕ → Command
  trial : ℕ → Command

-- those of an image and of a source by their names
abbrev pub check : List ℕ → Command
check = of_image images.Check

abbrev pub dis : List ℕ → Command
dis = of_image images.Dis

abbrev pub debug : List ℕ → Command
debug = of_image images.Debug

abbrev pub asm : List ℕ → List ℕ → Command
asm = make sources.Asm

abbrev pub fix : List ℕ → List ℕ → Command
fix = make sources.Fix

abbrev pub make_module : List ℕ → List ℕ → Command
make_module = make sources.Module
