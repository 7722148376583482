use Rattle.std.proofs.Common.{length, ap, ◌∙◌, arith}
use Rattle.alpha_asm.proofs.unlinked.Unlinked.of_pass.Goals as goal

pub returns-clause-makes : goal.returns-clause-makes
returns-clause-makes c = λ is s. record {
  code = s.code;
  filled = c.len-filled.ensures.value ∙ ap length s.bytes;
  bytes = λ few. c.in_ok-bytes.ensures.value (omega (arith, c.len-filled.ensures.value)) ∙ s.bytes;
  zeroed = ap (λ p. p.last.zeroed) s.place;
  labels = s.labels;
  patches = s.patches;
}
