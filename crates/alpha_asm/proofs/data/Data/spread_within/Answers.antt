use Rattle.std.proofs.Common.{◌≡◌, ◌≤◌, ◌+◌, length, ap, arith}
use Rattle.alpha_asm.specs.Data.{DataBytes, before_gaps, zeros_of_gaps, spread}
use Rattle.alpha_asm.proofs.DataGaps.{length-spread}
use Rattle.alpha_asm.proofs.FinishedProgram.{IfOk-map}
use Rattle.alpha_asm.proofs.data.Data.spread_within.Goals as goal

pub returns-then-self-most-clause-bound : goal.returns-then-self-most-clause-bound
returns-then-self-most-clause-bound c = IfOk-map c.spread.result c.spread.ensures (λ all e. omega (arith, ap length e))

pub returns-else-self-most : goal.returns-else-self-most
returns-else-self-most c =
    let gaps = c.self.inside.gaps.items in
    let bytes = c.self.inside.bytes.items in
    let low : before_gaps gaps ≤ length bytes = omega (arith, c.self.invariant.0, c.self.invariant.1) in
    let size : length (spread gaps bytes) ≡ length bytes + zeros_of_gaps gaps = length-spread gaps bytes low in
    let same : length (spread gaps bytes) ≡ length c.args.self.items =
    ap (λ (d : DataBytes). length d.items) c.self.view_is in
    record {
      value = λ few. absurd (omega (arith, few, size, same, c.self.invariant.2));
      bound = omega (arith, size, same);
    }
