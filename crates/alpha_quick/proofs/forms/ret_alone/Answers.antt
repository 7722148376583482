use Rattle.std.proofs.Common.{◌≡◌, sym, ◌∙◌, ap}
use Rattle.alpha_table.specs.declared.names.Mnemonic.TheVariants as mnemonics
use Rattle.alpha_table.specs.declared.rows.JumpKind.TheVariants as jumps
use Rattle.alpha_table.specs.declared.form.Form.TheVariants.{Jump}
use Rattle.alpha_quick.proofs.LexemeMeanings.{if-insn, says_return}
use Rattle.alpha_quick.proofs.forms.ret_alone.Goals as goal

pub returns-then-is_end : goal.returns-then-is_end
returns-then-is_end c =
    let same : Jump jumps.Ret 31 26 1 ≡ Jump c.args.kind 31 c.return_register-rb.result 1 =
    ap (λ k. Jump k 31 26 1) (sym c.in-Ret.is) ∙ ap (λ n. Jump c.args.kind 31 n 1) (sym c.return_register-rb.ensures) in
    if-insn (mnemonics.Jump c.args.kind) c.args.words.now
    (Jump c.args.kind 31 c.return_register-rb.result 1) c.of.result
    (rw (← same, c.in-Ret.is) (says_return c.args.words.now (c.is_end.ensures c.if-is_end.true))) c.of.ensures.found
