use Rattle.std.proofs.Common.{◌≡◌, ◌+◌, ◌++◌, ◌∷◌, [], All, take, subst, sym, ◌∙◌, ap, arith}
use Rattle.std.proofs.lemmas.Grind.{common_steps}
use Rattle.std.proofs.lemmas.List.{take_more}
use Rattle.std.proofs.lemmas.List.Elements.{All-append, All-cons, All-nil}
use Rattle.alpha_table.specs.Row.{IsInsn}
use Rattle.alpha_asm.proofs.program.insns_fit.Goals as goal

pub loop-insn-preserved : goal.loop-insn-preserved
loop-insn-preserved c =
    let before = take c.loop-insn.insn-index c.args.code.now in
    let t : take (c.loop-insn.insn-index + 1) c.args.code.now ≡ before ++ c.insn-item.result ∷ [] =
    take_more c.args.code.now c.loop-insn.insn-index c.insn-item.result c.loop-insn-test.true
    ∙ ap (λ x. before ++ x ∷ []) (sym c.insn-item.is) in
    subst (All IsInsn) (sym t)
    (All-append IsInsn before (c.insn-item.result ∷ []) c.loop-insn.invariant
    (All-cons IsInsn c.insn-item.result [] c.form-form.ensures.good (All-nil IsInsn)))

pub returns : goal.returns
returns c =
    let whole : take c.loop-insn.insn-index c.args.code.now ≡ c.args.code.now = grind (arith, common_steps) in
    subst (All IsInsn) whole c.loop-insn.invariant
