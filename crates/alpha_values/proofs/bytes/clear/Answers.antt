use Rattle.std.proofs.Common.{◌≡◌, ◌∙◌, refl, ap, arith}
use Rattle.alpha_values.proofs.PlaceLemmas.{zapped_from, zapped_from-all, zapped_from-more}
use Rattle.alpha_words.specs.Digits.{number, digits}
use Rattle.alpha_values.specs.Bits.{pairwise}
use Rattle.alpha_values.proofs.bytes.clear.Goals as goal

pub loop-k-init : goal.loop-k-init
unfolding zapped_from number pairwise digits
loop-k-init c = (refl, omega arith)

pub loop-k-preserved : goal.loop-k-preserved
loop-k-preserved c =
    zapped_from-more c.args.marks c.args.a c.loop-k.k c.loop-k.left c.byte_left.result (omega arith)
    (omega arith) c.loop-k.invariant.0 c.loop-k.invariant.1 c.byte_left.ensures.left c.byte_left.ensures.byte

pub returns : goal.returns
returns c =
    let none : c.loop-k.k ≡ 0 = omega arith in
    c.loop-k.invariant.0 ∙ (ap (zapped_from c.args.marks c.args.a) none ∙ zapped_from-all c.args.marks c.args.a)
