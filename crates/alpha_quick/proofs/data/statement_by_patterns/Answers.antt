use Rattle.std.proofs.Common.{sym}
use Rattle.alpha_text.specs.declared.head.Head.TheVariants as heads
use Rattle.alpha_text.specs.Statements.{stmt_of}
use Rattle.alpha_text.proofs.Lines.{statement_of-operands}
use Rattle.alpha_quick.proofs.data.statement_by_patterns.Goals as goal

pub returns-in-Ok : goal.returns-in-Ok
returns-in-Ok c =
    let (o, h, says) =
    statement_of-operands (heads.PseudoOp c.args.pseudo_op) c.args.text.now _
    (stmt_of c.in-Ok.statement) c.in-Ok.ensures in
    (o, h, sym says)
