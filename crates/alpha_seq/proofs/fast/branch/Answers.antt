use Rattle.std.proofs.Common.{◌≡◌, ◌+◌, ◌*◌, ◌%◌, ◌^◌, ℕ, ℤ, ◌+ℤ◌, pos, true, false, Option, Some, None, refl, sym, ap}
use Rattle.std.proofs.Common.{subst, ◌∙◌}
use Rattle.std.specs.Int.{w32}
use Rattle.std.proofs.lemmas.Int.{to_z-of_z}
use Rattle.alpha_words.specs.Regs.{reg, put}
use Rattle.alpha_table.specs.declared.op.Cond.{Cond}
use Rattle.alpha_table.specs.declared.rows.BranchRow.{BranchRow}
use Rattle.alpha_table.specs.Rows.{branch_row}
use Rattle.alpha_table.specs.Class.{branch}
use Rattle.alpha_values.specs.Numbers.{register_of}
use Rattle.alpha_values.specs.Cond.{is_taken}
use Rattle.alpha_seq.specs.FastSteps.{ExecutesFast}
use Rattle.alpha_seq.proofs.FastStepLaws.{ExecutesFast-turn, ExecutesFast-branch, ExecutesFast-to}
use Rattle.alpha_seq.proofs.fast.branch.Goals as goal

pub returns-in-None : goal.returns-in-None
returns-in-None c = λ mem.
    let a = c.args in
    let image = a.image.now in
    let regs = a.regs.now in
    let place = a.place.now in
    let next = c.address_of.result in
    let plain : (branch_row a.op).condition ≡ None =
    sym (ap (λ (r : BranchRow). r.condition) c.row.ensures) ∙ c.in-None.is in
    let left : next ≡ (image.code_base + 4 * ((place + 1) % 2 ^ 64)) % 2 ^ 64 =
    c.address_of.ensures ∙ ap (λ (p : ℕ). (image.code_base + 4 * p) % 2 ^ 64) c.advance.ensures in
    let to : c.displace.result ≡ register_of (pos ((place + 1) % 2 ^ 64) +ℤ a.disp) = c.displace.ensures
    ∙ (ap (λ (d : ℤ). register_of (pos c.advance.new.place +ℤ d)) (to_z-of_z w32 a.disp c.ranges.disp)
    ∙ ap (λ (p : ℕ). register_of (pos p +ℤ a.disp)) c.advance.ensures) in
    subst (λ (o : Option Cond).
    ExecutesFast image (branch o a.ra a.disp) regs mem place c.set.new.self mem c.displace.result)
    (sym plain)
    (ExecutesFast-to image (branch None a.ra a.disp) regs mem place
    (put regs a.ra next) c.set.new.self mem mem _ c.displace.result c.set.ensures.value refl to
    (ExecutesFast-turn a.ra a.disp regs mem place next image c.ranges.disp left))

pub returns-then-taken : goal.returns-then-taken
returns-then-taken c = λ mem.
    let a = c.args in
    let image = a.image.now in
    let regs = a.regs.now in
    let place = a.place.now in
    let test = c.in-Some.condition in
    let tests : (branch_row a.op).condition ≡ Some test =
    sym (ap (λ (r : BranchRow). r.condition) c.row.ensures) ∙ c.in-Some.is in
    let takes : is_taken test (reg regs a.ra) ≡ true =
    ap (is_taken test) (sym c.get.ensures.value) ∙ (sym c.taken.ensures ∙ c.if-taken.true) in
    let to : c.displace-then-taken.result ≡ register_of (pos ((place + 1) % 2 ^ 64) +ℤ a.disp) =
    c.displace-then-taken.ensures
    ∙ (ap (λ (d : ℤ). register_of (pos c.advance-in-Some.new.place +ℤ d)) (to_z-of_z w32 a.disp c.ranges.disp)
    ∙ ap (λ (p : ℕ). register_of (pos p +ℤ a.disp)) c.advance-in-Some.ensures) in
    subst (λ (o : Option Cond).
    ExecutesFast image (branch o a.ra a.disp) regs mem place regs mem c.displace-then-taken.result)
    (sym tests)
    (ExecutesFast-branch test a.ra a.disp regs mem place c.displace-then-taken.result true image c.ranges.disp takes
    to)

pub returns-else-taken : goal.returns-else-taken
returns-else-taken c = λ mem.
    let a = c.args in
    let image = a.image.now in
    let regs = a.regs.now in
    let place = a.place.now in
    let test = c.in-Some.condition in
    let tests : (branch_row a.op).condition ≡ Some test =
    sym (ap (λ (r : BranchRow). r.condition) c.row.ensures) ∙ c.in-Some.is in
    let takes : is_taken test (reg regs a.ra) ≡ false =
    ap (is_taken test) (sym c.get.ensures.value) ∙ (sym c.taken.ensures ∙ c.if-taken.false) in
    subst
    (λ (o : Option Cond). ExecutesFast image (branch o a.ra a.disp) regs mem place regs mem c.advance-in-Some.new.place)
    (sym tests)
    (ExecutesFast-branch test a.ra a.disp regs mem place c.advance-in-Some.new.place false image c.ranges.disp takes
    c.advance-in-Some.ensures)
