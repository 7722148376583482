use Rattle.std.proofs.Common.{All}
use Rattle.alpha_words.specs.declared.Level.TheVariants.{One}
use Rattle.alpha_image.specs.Insns.{IsCodeInsn}
use Rattle.alpha_link.proofs.JoinedModules.{Joined}
use Rattle.alpha_link.proofs.linker.join_modules.Given as goal

abbrev pub invariant-loop-located : goal.invariant-loop-located
invariant-loop-located l = record {
  joined : Joined l.places l.located-index l.output.code.items l.output.bytes.items;
  insns : All (IsCodeInsn One) l.output.code.items;
}
