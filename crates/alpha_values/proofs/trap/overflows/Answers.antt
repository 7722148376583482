use Rattle.std.proofs.Common.{arith, FitsSigned}
use Rattle.std.specs.Bool.{FalseIff}
use Rattle.std.specs.Int.{w32, w64}
use Rattle.std.proofs.lemmas.Int.{to_z-of_z}
use Rattle.alpha_table.specs.declared.op.TrapOp.TheVariants.{SublV, SubqV}
use Rattle.alpha_values.specs.TrapOp.{exact, overflow_of}
use Rattle.alpha_values.proofs.SignedRanges.{overflow_out_of_range}
use Rattle.alpha_values.proofs.trap.overflows.Goals as goal

pub returns-in-SublV : goal.returns-in-SublV
unfolding overflow_of
returns-in-SublV c =
    let outside : FalseIff c.overflowing_sub.result.1 (FitsSigned w32 (exact SublV c.args.a c.args.b)) =
    grind (arith, to_z-of_z) in
    rw c.in-SublV.is (overflow_out_of_range _ w32 (exact SublV c.args.a c.args.b) outside)

pub returns-in-SubqV : goal.returns-in-SubqV
unfolding overflow_of
returns-in-SubqV c =
    let outside : FalseIff c.overflowing_sub-in-SubqV.result.1 (FitsSigned w64 (exact SubqV c.args.a c.args.b)) =
    grind (arith, to_z-of_z) in
    rw c.in-SubqV.is (overflow_out_of_range _ w64 (exact SubqV c.args.a c.args.b) outside)
