use Rattle.std.proofs.Common.{◌≡◌, ◌+◌, ◌-◌, ◌++◌, length, replicate, ap, ◌∙◌, arith}
use Rattle.alpha_asm.specs.declared.data.Gap.{Gap}
use Rattle.alpha_asm.specs.Data.{DataBytes, before_gaps, zeros_of_gaps, spread}
use Rattle.alpha_asm.proofs.DataGaps.{before-snoc, zeros-snoc, spread-gap}
use Rattle.alpha_asm.proofs.data.Data.push_zeros.Goals as goal

pub invariant_of-self-2 : goal.invariant_of-self-2
invariant_of-self-2 c =
    let gaps = c.self.inside.gaps.items in
    let gap : Gap = record { before = c.len.result - c.self.inside.covered; zeros = c.args.count } in
    let before = ap before_gaps c.in_ok-push.ensures.items ∙ before-snoc gaps gap in
    let zeros = ap zeros_of_gaps c.in_ok-push.ensures.items ∙ zeros-snoc gaps gap in
    let size = c.self.inside.bytes.ok.0 in
    (omega (arith, before, size), omega (arith, size), omega (arith, zeros, size), omega (arith, size))

pub returns : goal.returns
returns c =
    let gaps = c.self.inside.gaps.items in
    let bytes = c.self.inside.bytes.items in
    let gap : Gap = record { before = c.len.result - c.self.inside.covered; zeros = c.args.count } in
    let size = c.self.inside.bytes.ok.0 in
    let all : before_gaps gaps + gap.before ≡ length bytes = omega (arith, size) in
    ap (λ l. spread l bytes) c.in_ok-push.ensures.items
    ∙ (spread-gap gaps gap bytes all ∙ ap (λ (d : DataBytes). d.items ++ replicate c.args.count 0) c.self.view_is)
