use Rattle.std.proofs.Common.{arith, ◌∙◌, ap}
use Rattle.std.proofs.lemmas.Int.{to_z-of_z}
use Rattle.alpha_values.specs.Numbers.{register_of}
use Rattle.alpha_values.proofs.MachineWords.{cast_signed-word}
use Rattle.alpha_rows.proofs.values.sign_extend_word.Goals as goal

pub returns : goal.returns
returns c = c.register.ensures ∙ ap register_of (grind (arith, to_z-of_z, cast_signed-word))
