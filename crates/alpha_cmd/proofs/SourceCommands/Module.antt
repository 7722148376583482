-- The laws of `module`, and what it leaves.
use Rattle.std.proofs.Common.{◌≡◌, ℕ, List, Result, Ok, Err, refl}
use Rattle.alpha_asm.specs.declared.fault.AsmFault.{AsmFault}
use Rattle.alpha_asm.specs.Program.{code_base}
use Rattle.alpha_link.specs.Parts.{ModuleParts}
use Rattle.alpha_link.specs.Spelled.{spelling}
use Rattle.alpha_link.specs.Made.{made_module}
use Rattle.alpha_cmd.specs.declared.status.Status.TheVariants.{BadSource}
use Rattle.alpha_cmd.specs.Status.{status_line}
use Rattle.alpha_cmd.specs.Outcome.{continues, stops}
use Rattle.alpha_cmd.specs.SourceCommands.Module.{ModuleOf, Spells, Modules}
use Rattle.alpha_cmd.proofs.Lawful.{Lawful, HasOutcome, Faults-lawful, Then-lawful}
use Rattle.alpha_cmd.proofs.StageLaws.{Verdict-lawful}

module_some : (source : List ℕ) (r : Result ModuleParts AsmFault) → made_module source ≡ r
    → HasOutcome (ModuleOf source)
module_some source (Ok m) e = (continues m, e)
module_some source (Err fault) e = (stops (BadSource fault) (status_line (BadSource fault)), ((fault, refl, e), refl))

ModuleOf-lawful : (told whole there : Type 0) (source : List ℕ) → Lawful told whole there (ModuleOf source)
ModuleOf-lawful told whole there source =
    Faults-lawful (λ m. made_module source ≡ Ok m) BadSource (made_module source) Err (λ f g e. cc) (λ f. refl)
    (λ m n h g. cc) (λ m f h none. cc)
    (λ h. module_some source (made_module source) refl)

pub Modules-lawful : (told whole there : Type 0) (source : List ℕ) → Lawful told whole there (Modules source)
Modules-lawful told whole there source =
    Then-lawful {R = ModuleOf source} {S = Spells} (ModuleOf-lawful told whole there source)
    (λ m made. Verdict-lawful m.words code_base (spelling m))
