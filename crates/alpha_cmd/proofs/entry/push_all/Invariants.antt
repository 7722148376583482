use Rattle.std.proofs.Common.{◌≡◌, map, string_bytes, take}
use Rattle.alpha_cmd.proofs.entry.push_all.Given as goal

abbrev pub invariant-loop-word : goal.invariant-loop-word
invariant-loop-word l = l.words ≡ map (λ word. string_bytes word) (take l.word-index l.rest)
