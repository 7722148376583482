use Rattle.alpha_text.specs.Statements.{stmt_of}
use Rattle.alpha_asm.specs.Statement.{cells}
use Rattle.alpha_asm.proofs.NextItem.{raw_cells-added_length}
use Rattle.alpha_asm.proofs.pass.Pass.add_other.Goals as goal

pub go_on-requires-clause-added : goal.go_on-requires-clause-added
go_on-requires-clause-added c =
    raw_cells-added_length _ _ _
    (cells (stmt_of c.args.item.now.statement)) c.filled_pad.result _ c.len.result c.len-filled.result
    c.in_ok-push_data.ensures.bytes c.in_ok-push_zeros.ensures c.len.ensures.value
    c.len-filled.ensures.value (c.filled_pad.ensures 0)
