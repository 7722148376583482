use Rattle.std.proofs.Common.{◌≡◌, ◌++◌, map, take}
use Rattle.std.specs.List.{flat_map}
use Rattle.alpha_table.specs.Encoded.{encoded}
use Rattle.alpha_image.specs.Layout.{longword}
use Rattle.alpha_image.proofs.words.push_words.Given as goal

abbrev pub invariant-loop-insn : goal.invariant-loop-insn
invariant-loop-insn l = l.out.items ≡ l.initial.out.items ++ flat_map longword (map encoded (take l.insn-index l.insns))
