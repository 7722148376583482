-- `module`: the module of a source, and what is left of it where it is kept.
use Rattle.std.specs.Prelude.{◌≡◌, ℕ, List, Ok, Err}
use Rattle.alpha_io.specs.Files.{Files, HasFile}
use Rattle.alpha_asm.specs.declared.fault.AsmFault.{AsmFault}
use Rattle.alpha_shadow.specs.declared.broken.Broken.{Broken}
use Rattle.alpha_shadow.specs.Broken.{IsAccepted}
use Rattle.alpha_shadow.specs.Least.{IsLeastBroken}
use Rattle.alpha_verdict.specs.Report.{broken_line}
use Rattle.alpha_link.specs.Parts.{ModuleParts}
use Rattle.alpha_link.specs.Spelled.{spelling}
use Rattle.alpha_link.specs.Made.{made_module}
use Rattle.alpha_asm.specs.Program.{code_base}
use Rattle.alpha_request.specs.declared.request.SourceCommand.TheVariants.{Module}
use Rattle.alpha_request.specs.Commands.Make as source_words
use Rattle.alpha_cmd.specs.declared.status.Status.{Status}
use Rattle.alpha_cmd.specs.declared.status.Status.TheVariants.{Done, NotRestartable, BadSource}
use Rattle.alpha_cmd.specs.Outcome.{Outcome, Either, Then}
use Rattle.alpha_cmd.specs.Status.{Says}

-- why a source makes no module: its first refusal
abbrev pub NoModule : List ℕ → Status → Type 0
NoModule source status = (fault : AsmFault) × (status ≡ BadSource fault) × (made_module source ≡ Err fault)

-- the module that a source makes
abbrev pub ModuleOf : List ℕ → Outcome ModuleParts → Type 0
ModuleOf source = Either (λ m. made_module source ≡ Ok m) (Says (NoModule source))

-- why a module is refused, with the line that says it: the least broken place of its code, with addresses as those of
-- the first module that is linked
abbrev pub IsBroken : ModuleParts → Status → List ℕ → Type 0
IsBroken m status line =
    (b : Broken) × (status ≡ NotRestartable b) × (IsLeastBroken m.words b × (line ≡ broken_line b code_base))

-- the verdict lets the spelling of an accepted module through
abbrev pub Spells : ModuleParts → Outcome (List ℕ) → Type 0
Spells m = Either (λ bytes. IsAccepted m.words × (bytes ≡ spelling m)) (IsBroken m)

-- the bytes that a source makes
abbrev pub Modules : List ℕ → Outcome (List ℕ) → Type 0
Modules source = Then (ModuleOf source) Spells

-- where the old files are told, the source of one makes a module whose code has no broken place, and where the new ones
-- are, another has its spelling
pub record KeepsModule (file out : List ℕ) (old new : Files) : Type 0 where
  pub source : List ℕ
  pub parts : ModuleParts
  pub read : HasFile old file source
  pub made : made_module source ≡ Ok parts
  pub accepted : IsAccepted parts.words
  pub kept : HasFile new out (spelling parts)

-- it is kept where the command is done
abbrev pub KeepsModules : List (List ℕ) → Status → Files → Files → Type 0
KeepsModules words status old new =
    (file out : List ℕ) → source_words.AsksToMake Module words file out → status ≡ Done 0
    → KeepsModule file out old new
