-- The words that a chooser still has to give.
use Rattle.std.specs.Prelude.{ℕ}
use Rattle.alpha_imprecise.specs.Pcg.{pcg_word}
use Rattle.alpha_cmd.specs.declared.chooser.Choosing.{Choosing}
use Rattle.alpha_cmd.specs.declared.chooser.Choosing.TheVariants.{Seeded, Listed}
use Rattle.alpha_cmd.specs.Choosing.{listed_word}

abbrev pub ahead_in : Choosing → ℕ → ℕ
ahead_in (Seeded generator) = pcg_word generator
ahead_in (Listed bytes) = listed_word bytes
