use Rattle.std.proofs.Common.{◌≡◌, Some, FitsSigned, to_z, of_z, sym, subst, ◌∙◌, rules}
use Rattle.std.specs.Int.{w16}
use Rattle.std.proofs.lemmas.Int.{to_z-of_z}
use Rattle.alpha_table.specs.declared.form.Form.{Form}
use Rattle.alpha_table.specs.declared.form.Form.TheVariants.{Mem}
use Rattle.alpha_table.specs.ClassOf.{class_of}
use Rattle.alpha_table.specs.Rows.{mem_row}
use Rattle.alpha_seq.specs.declared.end.Next.TheVariants.{Faults}
use Rattle.alpha_seq.specs.Step.{step}
use Rattle.alpha_seq.specs.Next.{by_class}
use Rattle.alpha_seq.specs.Machine.{program_of, state_of}
use Rattle.alpha_seq.specs.Executed.{row_access}
use Rattle.alpha_seq.proofs.NextInsns.{by_class-memory}
use Rattle.alpha_seq.proofs.machine.Machine.next_at.Goals as goal

pub returns-in-Some : goal.returns-in-Some
returns-in-Some c = λ input.
    let m = c.args.self.now in
    let i = c.in-Mem in
    let form = Mem i.op i.ra i.rb i.disp in
    let event = (step (program_of m) (Some (class_of form)) (state_of m) input).event in
    let same = by_class-memory (mem_row i.op).role i.op (row_access i.op i.rb i.disp) i.ra form event in
    let fits : FitsSigned w16 i.disp = search rules in
    let plain : to_z w16 (of_z w16 i.disp) ≡ i.disp = to_z-of_z w16 i.disp fits in
    let answer = rw plain at (c.in-Some.ensures form input) in
    subst (λ (f : Form). Faults c.in-Some.end
    ≡ by_class (class_of f) f (step (program_of m) (Some (class_of f)) (state_of m) input).event)
    c.in-Mem.ensures.value (sym (same ∙ answer))
