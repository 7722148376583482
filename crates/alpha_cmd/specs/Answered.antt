-- What a call gave.
use Rattle.std.specs.Prelude.{◌≡◌, ◌⊎◌}
use Rattle.alpha_cmd.specs.declared.status.Status.{Status}
use Rattle.alpha_cmd.specs.declared.status.Status.TheVariants.{NoMemory}
use Rattle.alpha_cmd.specs.Answer.{Answer, IsAnswered}
use Rattle.alpha_cmd.specs.Call.{Call}

-- this answer, all of it, with this status; or memory ran out
abbrev pub Answered : Answer → Status → Call → Type 0
Answered a status c = IsAnswered a status c.input.new.left c.shelf c.out c.notes ⊎ (status ≡ NoMemory)
