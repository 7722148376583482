use Rattle.std.proofs.Common.{◌≡◌, ◌++◌, ◌-◌}
use Rattle.std.specs.List.{flat_map}
use Rattle.alpha_image.specs.Layout.{longword}
use Rattle.alpha_trial.specs.Program.{seeded}
use Rattle.alpha_trial.specs.Words.{blocks_words}
use Rattle.alpha_trial.proofs.program.push_blocks.Given as goal

-- what is still to come makes all of the blocks
abbrev pub invariant-loop : goal.invariant-loop
invariant-loop l =
    l.code.items ++ flat_map longword (blocks_words (l.n - l.counter) l.generator)
    ≡ l.initial.code.items ++ flat_map longword (blocks_words l.n (seeded l.n))
