-- How the stages of a command make its answer, by what the devices tell.
use Rattle.std.specs.Prelude.{◌≡◌, ℕ, List, [], Bool, All, Option, None, Some}
use Rattle.alpha_io.specs.declared.shelf.Shelf as shelves
use Rattle.alpha_io.specs.declared.source.Source as sources
use Rattle.alpha_io.specs.Files.{Files}
use Rattle.alpha_image.specs.Parts.{IsByte}
use Rattle.alpha_cmd.specs.declared.status.Status.{Status}
use Rattle.alpha_cmd.specs.declared.status.Status.TheVariants.{Done}
use Rattle.alpha_cmd.specs.Outcome.{Outcome, continues, stops}
use Rattle.alpha_cmd.specs.Kept.{nothing}
use Rattle.alpha_cmd.specs.Kept as kinds
use Rattle.alpha_cmd.specs.Answer.{Answer}
use Rattle.alpha_cmd.specs.Call.{Call}

-- what the devices tell: the files, which files may be kept, and the input still to come
pub record World : Type 0 where
  pub files : Files
  pub takes : List ℕ → ℕ → Bool
  pub input : Option (List ℕ)

-- by `Shelf.files`, `Shelf.takes` and `Source.left`
abbrev pub world : {H S : Type 0} → shelves.Ghosts H → sources.Ghosts S → H → S → World
world h s shelf input = record { files = h.files shelf; takes = h.takes shelf; input = s.left input }

-- each file that is told is one of bytes
abbrev pub HaveBytes : Files → Type 0
HaveBytes None = Unit {0}
HaveBytes (Some files) = (name file : List ℕ) → files name ≡ Some file → All IsByte file

-- what the devices of a call told before it
abbrev pub told : Call → World
told c = record { files = c.shelf.old; takes = c.shelf.took; input = c.input.old.left }

-- a status that is said by its line alone, with the input as it is
abbrev pub status_answer : Option (List ℕ) → Status → List ℕ → Answer
status_answer input status line =
    record { status = status; output = []; trace = []; line = line; left = input; kept = nothing }

-- what was asked is done, with these bytes for the output and the input as it is
abbrev pub done_with : Option (List ℕ) → List ℕ → Answer
done_with input output =
    record { status = Done 0; output = output; trace = []; line = []; left = input; kept = nothing }

-- the file of this name is these bytes
abbrev pub kept_as : Option (List ℕ) → List ℕ → List ℕ → Answer
kept_as input name bytes = record (done_with input []) { kept = kinds.file name bytes }

abbrev pub answer_of : Option (List ℕ) → Outcome Answer → Answer
answer_of input (continues a) = a
answer_of input (stops status line) = status_answer input status line

-- an answer of a command with these stages
abbrev pub AnswerBy : (World → Outcome Answer → Type 0) → World → Answer → Type 0
AnswerBy steps w a = (o : Outcome Answer) × steps w o × (a ≡ answer_of w.input o)
