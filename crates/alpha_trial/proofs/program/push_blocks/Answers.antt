use Rattle.std.proofs.Common.{◌≡◌, ◌+◌, ◌-◌, ◌++◌, ℕ, List, sym, ap, ◌∙◌, arith, append-nil}
use Rattle.std.specs.List.{flat_map}
use Rattle.rand_pcg.specs.Lcg.{Lcg}
use Rattle.rand_pcg.specs.Pcg.{pcg32}
use Rattle.alpha_image.specs.Layout.{longword}
use Rattle.alpha_trial.specs.Words.{blocks_words}
use Rattle.alpha_trial.proofs.BlockBytes.{blocks_next}
use Rattle.alpha_trial.proofs.program.push_blocks.Goals as goal

pub loop-preserved : goal.loop-preserved
loop-preserved c =
    let m = c.args.n - (c.loop.counter + 1) in
    ap (λ (g : Lcg). c.push_block.new.code.items ++ flat_map longword (blocks_words m g))
    c.in_ok-push_block.ensures.generator
    ∙ (ap (λ (l : List ℕ). l ++ flat_map longword (blocks_words m (pcg32 (pcg32 c.loop.generator).1).1))
    c.in_ok-push_block.ensures.ok
    ∙ (sym (blocks_next c.args.n c.loop.counter c.loop.generator c.loop.code.items c.loop-test.true)
    ∙ c.loop.invariant))

pub returns : goal.returns
returns c =
    let none : c.args.n - c.loop.counter ≡ 0 = omega arith in
    sym (append-nil c.loop.code.items)
    ∙ (ap (λ (m : ℕ). c.loop.code.items ++ flat_map longword (blocks_words m c.loop.generator)) (sym none)
    ∙ c.loop.invariant)
