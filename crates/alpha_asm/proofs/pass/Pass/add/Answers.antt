use Rattle.std.proofs.Common.{refl, sym, ◌∙◌}
use Rattle.std.proofs.lemmas.Result.{on_ok_weaker}
use Rattle.alpha_text.specs.Reading.{line_stmt_of}
use Rattle.alpha_asm.specs.Patches.{coded_of}
use Rattle.alpha_asm.proofs.ItemsWithoutEffect.{adds_insn, adds_nothing}
use Rattle.alpha_asm.proofs.pass.Pass.add.Goals as goal

pub returns-in-Some-clause-ok : goal.returns-in-Some-clause-ok
returns-in-Some-clause-ok c =
    on_ok_weaker c.add_insn.result
    (λ a. adds_insn (line_stmt_of c.args.item.now) (coded_of c.in-Some.coded) _ _ c.in-Some.ensures a)
    c.add_insn.ensures.ok

pub returns-in-None-2-clause-ok : goal.returns-in-None-2-clause-ok
returns-in-None-2-clause-ok c =
    adds_nothing (line_stmt_of c.args.item.now) c.args.self.now _
    (sym c.is_statement.ensures ∙ c.if-is_statement.false) refl
