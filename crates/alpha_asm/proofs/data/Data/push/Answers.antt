use Rattle.std.proofs.Common.{◌≤◌, [], ◌∷◌, ◌++◌, length, ap, ◌∙◌, arith}
use Rattle.alpha_asm.specs.Data.{DataBytes, before_gaps, spread}
use Rattle.alpha_asm.proofs.DataGaps.{spread-more}
use Rattle.alpha_asm.proofs.data.Data.push.Goals as goal

pub returns : goal.returns
returns c =
    let gaps = c.self.inside.gaps.items in
    let bytes = c.self.inside.bytes.items in
    let low : before_gaps gaps ≤ length bytes = omega (arith, c.self.invariant.0, c.self.invariant.1) in
    ap (spread gaps) c.in_ok-push.ensures.items
    ∙ (spread-more gaps bytes (c.args.byte ∷ []) low
    ∙ ap (λ (d : DataBytes). d.items ++ c.args.byte ∷ []) c.self.view_is)
