use Rattle.std.proofs.Common.{◌≡◌, take}
use Rattle.std.specs.List.{flat_map}
use Rattle.alpha_image.specs.Layout.{longword}
use Rattle.alpha_samples.proofs.code_of.Given as goal

abbrev pub invariant-loop-word : goal.invariant-loop-word
invariant-loop-word l = l.code.items ≡ flat_map longword (take l.word-index l.words)
