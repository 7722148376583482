use Rattle.alpha_table.specs.declared.names.Mnemonic.TheVariants as mnemonics
use Rattle.alpha_table.specs.declared.form.Form.TheVariants.{Jump}
use Rattle.alpha_quick.proofs.LexemeMeanings.{if-insn, says_jump}
use Rattle.alpha_quick.proofs.forms.jump_insn.Goals as goal

pub returns : goal.returns
returns c =
    if-insn (mnemonics.Jump c.args.kind) c.args.words.now
    (Jump c.args.kind c.in_ok-operands.operands.ra c.in_ok-operands.operands.rb c.in_ok-operands.operands.hint)
    c.of.result
    (says_jump c.args.kind c.in_ok-operands.operands.ra c.in_ok-operands.operands.rb c.in_ok-operands.operands.hint
    c.args.words.now c.in_ok-operands.ensures) c.of.ensures.found
