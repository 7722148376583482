use Rattle.std.proofs.Common.{◌<◌, sym, subst, arith}
use Rattle.alpha_table.specs.declared.op.OpRow.{OpRow}
use Rattle.alpha_table.proofs.Lookups.{opcode-operate, function-operate}
use Rattle.alpha_table.proofs.op.Op.row.Goals as goal

pub returns-clause-opcode : goal.returns-clause-opcode
returns-clause-opcode c =
    let within = opcode-operate c.args.self in
    subst (λ (row : OpRow). row.opcode < 64) (sym c.columns.ensures) (omega (arith, within.1))

pub returns-clause-function : goal.returns-clause-function
returns-clause-function c =
    subst (λ (row : OpRow). row.function < 128) (sym c.columns.ensures) (function-operate c.args.self)
