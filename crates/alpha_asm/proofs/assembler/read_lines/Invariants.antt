use Rattle.std.proofs.Common.{◌≡◌, ◌++◌, true, length}
use Rattle.alpha_asm.proofs.PassUnderway.{PassUnderway, kinds_in}
use Rattle.alpha_asm.proofs.assembler.read_lines.Given as goal

abbrev pub decreases-loop-rest : goal.decreases-loop-rest
decreases-loop-rest l = length l.rest

abbrev pub invariant-loop-rest : goal.invariant-loop-rest
invariant-loop-rest l = record {
  pass : PassUnderway l.kind l.source l.rest l.pass;
  gathers : l.kinds.gathers ≡ l.initial.kinds.gathers;
  kinds : l.initial.kinds.gathers ≡ true
      → l.kinds.items.items ++ kinds_in l.rest ≡ l.initial.kinds.items.items ++ kinds_in l.source;
}
