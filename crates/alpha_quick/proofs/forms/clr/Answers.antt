use Rattle.std.proofs.Common.{sym, subst}
use Rattle.alpha_text.specs.declared.head.PseudoOp.TheVariants as owns
use Rattle.alpha_quick.specs.Parts.{StandsFor}
use Rattle.alpha_quick.proofs.LexemeMeanings.{stands_clear}
use Rattle.alpha_quick.proofs.forms.clr.Goals as goal

pub returns : goal.returns
returns c =
    subst (StandsFor owns.Clr c.args.words.now) (sym c.clear_insn.ensures)
    (stands_clear c.in_ok-rc.rc c.args.words.now c.in_ok-rc.ensures)
