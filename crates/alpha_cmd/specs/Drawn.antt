-- A status but for the number of words that the imprecise machine drew.
use Rattle.alpha_cmd.specs.declared.status.Status.{Status}
use Rattle.alpha_cmd.specs.declared.status.Status.TheVariants.{Done}

abbrev pub but_drawn : Status → Status
but_drawn (Done n) = Done 0
but_drawn status = status
