use Rattle.std.proofs.Common.{sym, subst}
use Rattle.alpha_quick.specs.Parts.{StandsFor}
use Rattle.alpha_quick.proofs.LexemeMeanings.{stands_pair}
use Rattle.alpha_quick.proofs.forms.pair_insn.Goals as goal

pub of_zero-requires : goal.of_zero-requires
of_zero-requires c = rw c.in_ok-op.ensures.rule tt

pub returns : goal.returns
returns c =
    subst (StandsFor c.args.pseudo_op c.args.words.now) (sym c.of_zero.ensures)
    (stands_pair c.args.pseudo_op c.in_ok-op.op c.in_ok-registers.registers.rb c.in_ok-registers.registers.rc
    c.args.words.now
    (sym c.in_ok-op.ensures.value) c.in_ok-registers.ensures)
