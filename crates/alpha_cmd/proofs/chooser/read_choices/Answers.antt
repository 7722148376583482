use Rattle.std.proofs.Common.{◌∙◌, ap}
use Rattle.alpha_cmd.specs.Choosing.{listed_word}
use Rattle.alpha_cmd.proofs.chooser.read_choices.Goals as goal

pub returns-in-Ok-clause-read : goal.returns-in-Ok-clause-read
returns-in-Ok-clause-read g c = (
  c.in_ok-bytes.bytes.items,
  c.in_ok-bytes.ensures.read,
  ap listed_word (c.in-Ok.ensures ∙ c.as_slice.ensures.value),
)
