-- How a call ends: what was tried, and what of it was written.
use Rattle.std.specs.Prelude.{◌≡◌, ◌⊎◌, ◌++◌, ℕ, List, Option, Result, Ok, Err}
use Rattle.alpha_io.specs.declared.Failed.{Failed}
use Rattle.alpha_io.specs.ShelfChange.{ShelfChange}
use Rattle.alpha_io.specs.SinkChange.{SinkChange, Puts, WritesPartly, HasFailed}
use Rattle.alpha_cmd.specs.declared.decision.Decision.{Decision}
use Rattle.alpha_cmd.specs.declared.status.Status.{Status}
use Rattle.alpha_cmd.specs.declared.status.Status.TheVariants.{SinkFault}
use Rattle.alpha_cmd.specs.Answer.{Answer, notes_of, IsLeft}
use Rattle.alpha_cmd.specs.Decision.{answer_in}
use Rattle.alpha_cmd.specs.Kept.{Kept, HasKept}

-- What was tried was written, all of it, its status is the call's, its input left is what the source tells, and the
-- file that it keeps is kept.
pub record EndsCall (P : Answer → Type 0) (status : Status) (left : Option (List ℕ)) (shelf : ShelfChange)
    (out notes : SinkChange) : Type 0 where
  pub tried : Answer
  pub is : P tried
  pub status_is : status ≡ tried.status
  pub left_is : IsLeft tried left
  pub files : HasKept tried.kept shelf
  pub output : Puts out tried.output
  pub line : Puts notes (notes_of tried)

-- a sink failed, and a prefix of what was tried was written
pub record EndsPart (P : Answer → Type 0) (shelf : ShelfChange) (out notes : SinkChange) : Type 0 where
  pub tried : Answer
  pub is : P tried
  pub files : HasKept tried.kept shelf
  pub output : WritesPartly out tried.output
  pub line : WritesPartly notes (notes_of tried)
  pub failed : HasFailed out ⊎ HasFailed notes

-- ---- a command that writes while it works

-- the front of what was tried was written, and this is the rest of it
pub record Leaves (P : Answer → Type 0) (rest : Answer) (shelf : ShelfChange) (out notes : SinkChange) : Type 0 where
  pub tried : Answer
  pub is : P tried
  pub status_is : rest.status ≡ tried.status
  pub left_is : IsLeft tried rest.left
  pub files : HasKept tried.kept shelf
  pub output : List ℕ
  pub put : Puts out output
  pub output_is : output ++ rest.output ≡ tried.output
  pub trace : List ℕ
  pub noted : Puts notes trace
  pub notes_are : trace ++ notes_of rest ≡ notes_of tried

-- it decides, with the rest still to be written, or a sink failed
abbrev pub OutcomeOrFault : (Answer → Type 0) → Result Decision Failed → Option (List ℕ) → ShelfChange → SinkChange
    → SinkChange → Type 0
OutcomeOrFault P (Ok decision) left shelf out notes = Leaves P (answer_in left decision) shelf out notes
OutcomeOrFault P (Err failed) left shelf out notes = EndsPart P shelf out notes

-- one that wrote nothing so far, with what it kept
abbrev pub FinalOutcome : (Answer → Type 0) → Answer → ShelfChange → Type 0
FinalOutcome P rest shelf = (kept : Kept) × P (record rest { kept = kept }) × HasKept kept shelf

-- the status that it answers
abbrev pub status_in : Result Decision Failed → Status
status_in (Ok decision) = decision.status
status_in (Err failed) = SinkFault

-- a sink that is not called, by what it tells and its count
abbrev pub still : Option (List ℕ) → ℕ → SinkChange
still told count = record { old = told; new = told; before = count; now = count }
