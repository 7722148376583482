use Rattle.std.proofs.Common.{sym, subst}
use Rattle.alpha_text.specs.declared.head.PseudoOp.TheVariants as owns
use Rattle.alpha_quick.specs.Parts.{StandsFor}
use Rattle.alpha_quick.proofs.LexemeMeanings.{stands_nop}
use Rattle.alpha_quick.proofs.forms.nop.Goals as goal

pub returns-then-is_end : goal.returns-then-is_end
returns-then-is_end c =
    subst (StandsFor owns.Nop c.args.words.now) (sym c.clear_insn.ensures)
    (stands_nop c.args.words.now (c.is_end.ensures c.if-is_end.true))
