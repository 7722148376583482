-- `check FILE`, `dis FILE` and `debug FILE`: what is asked of an image.
use Rattle.std.specs.Prelude.{ℕ, List, Option}
use Rattle.alpha_image.specs.Parts.{Parts}
use Rattle.alpha_request.specs.declared.request.ImageCommand.{ImageCommand}
use Rattle.alpha_request.specs.declared.request.ImageCommand.TheVariants as asked
use Rattle.alpha_cmd.specs.Outcome.{Outcome}
use Rattle.alpha_cmd.specs.Answer.{Answer}
use Rattle.alpha_cmd.specs.AnswerBy.{World}
use Rattle.alpha_cmd.specs.OfImage.Check.{Checks}
use Rattle.alpha_cmd.specs.OfImage.Debug.{Debugs, IsEndStatus}
use Rattle.alpha_cmd.specs.OfImage.Dis.{Lists}
use Rattle.alpha_cmd.specs.Form.{Form, Kind, IsThere, needs_by, reads, streams}
use Rattle.alpha_cmd.specs.Image.{OfFile}
pub mod Check
pub mod Debug
pub mod Dis

-- a row a command: what is answered of an image, over this input
abbrev pub Answers : ImageCommand → Option (List ℕ) → Parts → Outcome Answer → Type 0
Answers asked.Check = Checks
Answers asked.Dis = Lists
Answers asked.Debug = Debugs

-- it reads, unless its row says that it takes input
abbrev pub kind : ImageCommand → Kind
kind asked.Debug = streams IsEndStatus
kind _ = reads

-- of an image that was read, and of the one of a named file
abbrev pub on : ImageCommand → Parts → Form
on command image =
    record { steps = λ w. Answers command w.input image; needs = needs_by (kind command); kind = kind command }

abbrev pub form : ImageCommand → List ℕ → Form
form command file =
    record { steps = OfFile (Answers command) file; needs = needs_by (kind command); kind = kind command }

abbrev pub there : List ℕ → World → Type 0
there file = IsThere file
