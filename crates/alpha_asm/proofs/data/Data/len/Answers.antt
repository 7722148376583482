use Rattle.std.proofs.Common.{◌≤◌, length, sym, ap, ◌∙◌, arith}
use Rattle.alpha_asm.specs.Data.{DataBytes, before_gaps}
use Rattle.alpha_asm.proofs.DataGaps.{length-spread}
use Rattle.alpha_asm.proofs.data.Data.len.Goals as goal

pub returns-clause-value : goal.returns-clause-value
returns-clause-value c =
    let gaps = c.self.inside.gaps.items in
    let bytes = c.self.inside.bytes.items in
    let low : before_gaps gaps ≤ length bytes = omega (arith, c.self.invariant.0, c.self.invariant.1) in
    c.self.invariant.2 ∙ (sym (length-spread gaps bytes low) ∙ ap (λ (d : DataBytes). length d.items) c.self.view_is)
