-- `asm FILE OUT`, `fix FILE OUT` and `module FILE OUT`: what a source makes, kept as a file.
use Rattle.std.specs.Prelude.{ℕ, List, [], ◌∷◌}
use Rattle.alpha_io.specs.Files.{Files}
use Rattle.alpha_request.specs.declared.request.SourceCommand.{SourceCommand}
use Rattle.alpha_request.specs.declared.request.SourceCommand.TheVariants as asked
use Rattle.alpha_cmd.specs.Outcome.{Outcome, Then}
use Rattle.alpha_cmd.specs.Image.{Reads}
use Rattle.alpha_cmd.specs.AnswerBy.{World}
use Rattle.alpha_cmd.specs.Form.{Form, Kind, keeps_last, making_form, making_there}
use Rattle.alpha_cmd.specs.SourceCommands.Asm.{Assembles}
use Rattle.alpha_cmd.specs.SourceCommands.Fix.{Fixes}
use Rattle.alpha_cmd.specs.SourceCommands.Module.{Modules}
pub mod Asm
pub mod Fix
pub mod Module

-- the most bytes of a source
abbrev pub source_limit : ℕ
source_limit = 16777216

-- the bytes that a source makes: a row a command
abbrev pub Bytes : SourceCommand → List ℕ → Outcome (List ℕ) → Type 0
Bytes asked.Asm = Assembles
Bytes asked.Fix = Fixes
Bytes asked.Module = Modules

-- those that a named source makes
abbrev pub MakesOfSource : SourceCommand → Files → List ℕ → Outcome (List ℕ) → Type 0
MakesOfSource command files name = Then (Reads files name source_limit) (Bytes command)

abbrev pub kind : List ℕ → Kind
kind out = keeps_last out

abbrev pub form : SourceCommand → List ℕ → List ℕ → Form
form command file out = making_form (λ w. MakesOfSource command w.files file) out

abbrev pub there : SourceCommand → List ℕ → List ℕ → World → Type 0
there command file out = making_there (file ∷ []) (λ w. MakesOfSource command w.files file) out
