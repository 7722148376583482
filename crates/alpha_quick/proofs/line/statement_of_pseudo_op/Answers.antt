use Rattle.alpha_text.specs.declared.head.Head.TheVariants as heads
use Rattle.alpha_text.specs.Statements.{stmt_of}
use Rattle.alpha_text.specs.SuffixWords.{SaysBy}
use Rattle.alpha_quick.specs.Parts.{SaysNamed}
use Rattle.alpha_quick.proofs.LexemeMeanings.{IfSome-implied}
use Rattle.alpha_quick.proofs.line.statement_of_pseudo_op.Goals as goal

pub returns : goal.returns
returns c =
    IfSome-implied (λ s. SaysBy (heads.PseudoOp c.in_ok-pseudo_op.pseudo_op) c.args.lexeme.now.rest.now (stmt_of s))
    (λ s. SaysNamed c.args.lexeme.now.name.now c.args.lexeme.now.rest.now (stmt_of s)) c.of_directive.result
    (λ s h. (heads.PseudoOp c.in_ok-pseudo_op.pseudo_op, c.in_ok-pseudo_op.ensures, c.in_ok-words.ensures.0, h))
    c.of_directive.ensures
