use Rattle.std.proofs.Common.{arith}
use Rattle.alpha_table.proofs.DecodedInsns.{Row-no_format}
use Rattle.alpha_table.proofs.decoder.row_by_opcode.Goals as goal

pub returns-in_default-clause-none : goal.returns-in_default-clause-none
returns-in_default-clause-none c =
    let opcode = c.opcode.ensures in
    Row-no_format c.args.w.0 c.requires (λ e. omega arith) (λ e. omega arith)
