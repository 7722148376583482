use Rattle.std.proofs.Common.{◌≡◌, length}
use Rattle.alpha_asm.specs.SourceLines.{source_lines}
use Rattle.alpha_fix.specs.FixedSource.{is_cut, fixed_lines}
use Rattle.alpha_fix.proofs.FixedText.{TextUnderway}
use Rattle.alpha_fix.proofs.KnownLines.{IsTextKnownSoFar, insns_from}
use Rattle.alpha_fix.proofs.LineRoles.{kinds_from}
use Rattle.alpha_fix.proofs.barriers.with_barriers.Given as goal

abbrev pub decreases-loop-rest : goal.decreases-loop-rest
decreases-loop-rest l = length l.rest

abbrev pub invariant-loop-rest : goal.invariant-loop-rest
invariant-loop-rest l = record {
  text : TextUnderway l.source l.cuts l.words l.base l.rest l.text.items l.left l.number l.place;
  kinds : l.kinds ≡ kinds_from (source_lines l.rest);
  code : l.code ≡ insns_from (source_lines l.rest);
  known : IsTextKnownSoFar l.known.items (fixed_lines (is_cut l.cuts) l.words l.place (source_lines l.rest))
      (fixed_lines (is_cut l.cuts) l.words 0 (source_lines l.source));
}
