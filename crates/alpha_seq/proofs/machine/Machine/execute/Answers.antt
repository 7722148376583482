use Rattle.std.proofs.Common.{refl, sym, subst, ◌∙◌, rules}
use Rattle.alpha_table.specs.ClassOf.{class_of}
use Rattle.alpha_seq.specs.declared.machine.Machine.{Machine}
use Rattle.alpha_seq.specs.State.{Went}
use Rattle.alpha_seq.specs.Executed.{ExecutesWord}
use Rattle.alpha_seq.proofs.ExecutedInsns.{ExecutesWord-plain, ExecutesWord-barrier, ExecutesWord-idle}
use Rattle.alpha_seq.proofs.machine.Machine.execute.Goals as goal
use Rattle.alpha_seq.proofs.machine.Machine.execute.Goals.{in-Operate+in-None, in-Mem+in_default, in-Branch, in-Jump}
use Rattle.alpha_seq.proofs.machine.Machine.execute.Goals.{in-Misc+in_default-kind, in-Fetch}

pub returns : goal.returns
returns c =
    let insn = c.args.insn.now in
    let old = c.args.self.now in
    elim c.match-form.branch [
      | in-Operate+in-None w ↦
          (let i = w.in-Operate in
          subst (λ (m : Machine). ExecutesWord Went (class_of insn) old m) (sym w.self-is)
          (ExecutesWord-plain i.op i.ra i.src i.rc insn old w.operate.new.self
          (sym w.trap.ensures ∙ w.in-None.is) i.ensures.value
          w.operate.ensures))
      | in-Mem+in_default w ↦ search rules
      | in-Branch w ↦ search rules
      | in-Jump w ↦ search rules
      | in-Misc+in_default-kind w ↦
          rw w.self-is
          (ExecutesWord-idle w.in-Misc.field-0 insn old w.idle.new.self w.in-Misc.ensures.value
          (λ e. w.in_default-kind.not-Barrier (w.kind.ensures ∙ e)) w.idle.ensures)
      | in-Fetch w ↦ search rules
    ]

pub returns-in-Barrier : goal.returns-in-Barrier
returns-in-Barrier c = (
  refl,
  ExecutesWord-barrier c.in-Misc.field-0 c.args.insn.now c.args.self.now c.advance.new.self c.in-Misc.ensures.value
      (sym c.kind.ensures ∙ c.in-Barrier.is) c.advance.ensures,
)
