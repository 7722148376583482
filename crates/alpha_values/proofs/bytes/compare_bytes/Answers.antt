use Rattle.std.proofs.Common.{◌≡◌, ◌∙◌, refl, ap, arith}
use Rattle.alpha_values.proofs.PlaceLemmas.{compared_from, compared_from-all, compared_from-more}
use Rattle.alpha_words.specs.Digits.{number, digits}
use Rattle.alpha_values.specs.Bits.{pairwise}
use Rattle.alpha_values.proofs.bytes.compare_bytes.Goals as goal

pub loop-k-init : goal.loop-k-init
unfolding compared_from number pairwise digits
loop-k-init c = (refl, omega arith)

pub loop-k-preserved : goal.loop-k-preserved
loop-k-preserved c =
    compared_from-more c.args.a c.args.b c.loop-k.k c.loop-k.answers c.at_least.result (omega arith)
    (omega arith) c.loop-k.invariant.0 c.loop-k.invariant.1 c.at_least.ensures.answer c.at_least.ensures.bit

pub returns : goal.returns
returns c =
    let none : c.loop-k.k ≡ 0 = omega arith in
    c.loop-k.invariant.0 ∙ (ap (compared_from c.args.a c.args.b) none ∙ compared_from-all c.args.a c.args.b)
