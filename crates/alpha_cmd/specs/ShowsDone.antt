-- What a command shows that is done and has put a text, by what its calls gave and took, whatever devices tell.
use Rattle.std.specs.Prelude.{◌≡◌, ◌⊎◌, ◌++◌, ℕ, List, []}
use Rattle.alpha_io.specs.SinkChange.{SinkChange, Puts}
use Rattle.alpha_cmd.specs.declared.decision.Decision.{Decision}
use Rattle.alpha_cmd.specs.declared.status.Status.{Status}
use Rattle.alpha_cmd.specs.declared.status.Status.TheVariants.{Done, SinkFault, NoMemory}
use Rattle.alpha_cmd.specs.Call.{Call}

-- It is done, and just this text was put, all of it, and nothing noted.
pub record ShowsDone (text : List ℕ) (status : Status) (c : Call) : Type 0 where
  pub status_is : status ≡ Done 0
  pub put : Puts c.out text
  pub noted : Puts c.notes []

-- the status is this one, or memory ran out or a sink failed
abbrev pub IsOrFails : Status → Status → Type 0
IsOrFails wanted status = (status ≡ wanted) ⊎ ((status ≡ NoMemory) ⊎ (status ≡ SinkFault))

-- so it is of a command that is done
abbrev pub IsDoneOrFails : Status → Type 0
IsDoneOrFails status = IsOrFails (Done 0) status

-- A front of the text was put and nothing noted, and it is decided to put the rest of it and to note nothing.
pub record DecidesDone (text : List ℕ) (decision : Decision) (out sink : SinkChange) : Type 0 where
  pub status_is : decision.status ≡ Done 0
  pub front : List ℕ
  pub put : Puts out front
  pub noted : Puts sink []
  pub output_is : front ++ decision.output ≡ text
  pub line_is : decision.line ≡ []
