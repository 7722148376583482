use Rattle.alpha_quick.proofs.LexemeMeanings.{if-insn, says_alone}
use Rattle.alpha_quick.proofs.forms.name_alone.Goals as goal

pub returns-then-is_end : goal.returns-then-is_end
returns-then-is_end c =
    if-insn c.args.row c.args.words.now c.args.form c.of.result
    (says_alone c.args.row c.args.form c.args.words.now c.requires (c.is_end.ensures c.if-is_end.true))
    c.of.ensures.found
