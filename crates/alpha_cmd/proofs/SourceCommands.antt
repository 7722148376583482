-- The laws of the commands that make something of a source.
use Rattle.std.proofs.Common.{ℕ, List, [], ◌∷◌, IsSome}
use Rattle.alpha_io.specs.Files.{Files, IfTold}
use Rattle.alpha_request.specs.declared.request.SourceCommand.{SourceCommand}
use Rattle.alpha_request.specs.declared.request.SourceCommand.TheVariants as asked
use Rattle.alpha_cmd.specs.AnswerBy.{World}
use Rattle.alpha_cmd.specs.declared.status.Status.{Status}
use Rattle.alpha_cmd.specs.Image.{Reads}
use Rattle.alpha_cmd.specs.Outcome.{stops}
use Rattle.alpha_cmd.specs.SourceCommands.{source_limit, Bytes, MakesOfSource, form, there}
use Rattle.alpha_cmd.proofs.SourceCommands.Asm.{Assembles-lawful}
use Rattle.alpha_cmd.proofs.SourceCommands.Fix.{Fixes-lawful}
use Rattle.alpha_cmd.proofs.SourceCommands.Module.{Modules-lawful}
use Rattle.alpha_cmd.proofs.FormLaws.{IsLawfulForm, making_lawful}
use Rattle.alpha_cmd.proofs.Lawful.{Lawful, IsRefusal, Then-lawful}
use Rattle.alpha_cmd.proofs.StageLaws.{Reads-lawful}
pub mod Asm
pub mod Fix
pub mod Module

Bytes-lawful : (told whole there : Type 0) (command : SourceCommand) (source : List ℕ)
    → Lawful told whole there (Bytes command source)
Bytes-lawful told whole there asked.Asm source = Assembles-lawful told whole there source
Bytes-lawful told whole there asked.Fix source = Fixes-lawful told whole there source
Bytes-lawful told whole there asked.Module source = Modules-lawful told whole there source

MakesOfSource-lawful : (told whole there : Type 0) (command : SourceCommand) (files : Files) (name : List ℕ)
    → (told → IsSome files) → (whole → IsSome files)
    → (there → IfTold files name (λ bytes. Unit {0})) → Lawful told whole there (MakesOfSource command files name)
MakesOfSource-lawful told whole there command files name is_told is_whole has =
    Then-lawful {R = Reads files name source_limit} {S = Bytes command}
    (Reads-lawful told whole there files name source_limit is_told is_whole has)
    (λ source read. Bytes-lawful told whole there command source)

-- it never stops with a device's fault
pub makes_plain : (command : SourceCommand) (files : Files) (name : List ℕ) (s : Status) (line : List ℕ)
    → MakesOfSource command files name (stops s line) → IsRefusal ⊥ s
makes_plain command files name =
    (MakesOfSource-lawful ⊥ ⊥ ⊥ command files name (λ no. absurd no) (λ no. absurd no) (λ no. absurd no)).plain

pub source_form-lawful : (command : SourceCommand) (file out : List ℕ) (w : World)
    → IsLawfulForm (form command file out) (there command file out) w
source_form-lawful command file out w =
    making_lawful (file ∷ []) (λ w. MakesOfSource command w.files file) out w
    (MakesOfSource-lawful _ _ _ command w.files file (λ h. h) (λ h. h.0) (λ h. h.0.0))
