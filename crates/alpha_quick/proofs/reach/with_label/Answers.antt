use Rattle.std.proofs.Common.{◌≡◌, ℕ, ℤ, List, sym, ◌∙◌}
use Rattle.alpha_table.specs.declared.form.Form.TheVariants.{Mem}
use Rattle.alpha_text.specs.Statements.{stmt_of, target}
use Rattle.alpha_quick.specs.Words.{HasTarget}
use Rattle.alpha_quick.specs.InsnPrefix.{Reaches}
use Rattle.alpha_quick.proofs.LexemeMeanings.{IfSome-implied, branch_reaches}
use Rattle.alpha_quick.proofs.reach.with_label.Goals as goal

pub returns-in-Mem : goal.returns-in-Mem
returns-in-Mem c =
    let same : c.args.insn ≡ Mem c.in-Mem.op c.in-Mem.ra c.in-Mem.rb c.in-Mem.disp =
    sym c.form.ensures.value ∙ c.in-Mem.is in
    IfSome-implied
    (λ s. (rb : ℕ) (disp : ℤ) → Reaches (Mem c.in-Mem.op c.in-Mem.ra rb disp) c.args.left.now (stmt_of s))
    (λ s. Reaches c.args.insn c.args.left.now (stmt_of s)) c.with_address.result
    (λ s h. rw same (h c.in-Mem.rb c.in-Mem.disp)) c.with_address.ensures

pub returns-in-Branch : goal.returns-in-Branch
returns-in-Branch c =
    IfSome-implied (λ s. (label : List ℕ) × (offset : ℤ) × HasTarget c.args.left.now label offset
    × (target c.args.insn label offset ≡ stmt_of s))
    (λ s. Reaches c.args.insn c.args.left.now (stmt_of s)) c.with_target.result
    (λ s h. branch_reaches c.args.insn c.in-Branch.op c.in-Branch.ra c.in-Branch.disp c.args.left.now (stmt_of s)
    (sym c.form.ensures.value ∙ c.in-Branch.is) h) c.with_target.ensures
