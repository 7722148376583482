use Rattle.std.proofs.Common.{length}
use Rattle.std.specs.Str.Lines.{lines}
use Rattle.alpha_asm.specs.declared.kind.SourceKind.TheVariants.{Program}
use Rattle.alpha_asm.specs.KnownLines.{AreKnown}
use Rattle.alpha_asm.proofs.PassUnderway.{PassUnderway}
use Rattle.alpha_asm.proofs.known_lines.read_known_lines.Given as goal

abbrev pub decreases-loop-rest : goal.decreases-loop-rest
decreases-loop-rest l = length l.rest

abbrev pub invariant-loop-rest : goal.invariant-loop-rest
invariant-loop-rest l = record {
  pass : PassUnderway Program l.source l.rest l.pass;
  known : AreKnown l.left (lines l.rest);
}
