use Rattle.alpha_image.specs.Reading.{words_of}
use Rattle.alpha_image.proofs.CodeWords.{AreInsideLevel}
use Rattle.alpha_image.proofs.words.fault_without_memory.Given as goal

abbrev pub invariant-loop-place : goal.invariant-loop-place
invariant-loop-place l = AreInsideLevel l.level (words_of l.code) l.place
