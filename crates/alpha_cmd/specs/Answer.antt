-- What a command has as its answer, where no device fails and memory lasts.
use Rattle.std.specs.Prelude.{◌≡◌, ℕ, List, ◌++◌, Option, Some, IfSome}
use Rattle.alpha_io.specs.ShelfChange.{ShelfChange}
use Rattle.alpha_io.specs.SinkChange.{SinkChange, Puts}
use Rattle.alpha_cmd.specs.declared.status.Status.{Status}
use Rattle.alpha_cmd.specs.Kept.{Kept, HasKept}

-- A status, the bytes for the output, and those for the notes: what is written there while the command works, and the
-- line at its end. Of an input that is told also what is left, and of files which one is kept.
pub record Answer : Type 0 where
  pub status : Status
  pub output : List ℕ
  pub trace : List ℕ
  pub line : List ℕ
  pub left : Option (List ℕ)
  pub kept : Kept

abbrev pub notes_of : Answer → List ℕ
notes_of a = a.trace ++ a.line

-- what a source tells, where an answer says what is left
abbrev pub IsLeft : Answer → Option (List ℕ) → Type 0
IsLeft a left = IfSome a.left (λ rest. left ≡ Some rest)

-- an answer was given: its status, all of its bytes, the input left, and the files
pub record IsAnswered (a : Answer) (status : Status) (left : Option (List ℕ)) (shelf : ShelfChange)
    (out notes : SinkChange) : Type 0 where
  pub status_is : status ≡ a.status
  pub left_is : IsLeft a left
  pub files : HasKept a.kept shelf
  pub output : Puts out a.output
  pub line : Puts notes (notes_of a)
