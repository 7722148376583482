use Rattle.std.proofs.Common.{◌++◌, refl}
use Rattle.alpha_text.specs.Statements.{stmt_of}
use Rattle.alpha_quick.specs.Parts.{SaysNamed}
use Rattle.alpha_quick.specs.InsnPrefix.{Reaches, HasStatement}
use Rattle.alpha_quick.proofs.LexemeMeanings.{IfSome-implied}
use Rattle.alpha_quick.proofs.Parts.{line_of-named}
use Rattle.alpha_quick.proofs.line.Unparsed.statement.Goals as goal

pub returns-then-self : goal.returns-then-self
returns-then-self c =
    IfSome-implied (λ s. Reaches c.in-Some.insn c.args.self.now.left.now (stmt_of s))
    (λ s. HasStatement (c.args.self.now.lexeme.name.now ++ c.args.self.now.lexeme.rest.now) (stmt_of s))
    c.with_label.result
    (λ s h. (rw c.in-Some.is at c.requires.left) c.if-self.true (stmt_of s) h) c.with_label.ensures

pub returns-else-is_empty : goal.returns-else-is_empty
returns-else-is_empty c =
    IfSome-implied (λ s. SaysNamed c.args.self.now.lexeme.name.now c.args.self.now.lexeme.rest.now (stmt_of s))
    (λ s. HasStatement (c.args.self.now.lexeme.name.now ++ c.args.self.now.lexeme.rest.now) (stmt_of s))
    c.statement_of_pseudo_op.result
    (λ s h. line_of-named (c.args.self.now.lexeme.name.now ++ c.args.self.now.lexeme.rest.now)
    c.args.self.now.lexeme.name.now c.args.self.now.lexeme.rest.now (stmt_of s) refl h) c.statement_of_pseudo_op.ensures
