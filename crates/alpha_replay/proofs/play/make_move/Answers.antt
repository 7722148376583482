use Rattle.std.proofs.Common.{rules, ◌≡◌, ◌++◌, ℕ, List, false, sym, ap, subst, ◌∙◌}
use Rattle.alpha_seq.specs.StepLabel.{is_over}
use Rattle.alpha_seq.specs.declared.machine.Machine.{Machine}
use Rattle.alpha_replay.specs.Compared.{Sees}
use Rattle.alpha_replay.specs.Events.{move_by, put_by}
use Rattle.alpha_replay.proofs.MoveRows.{fails_fitting, did_move}
use Rattle.alpha_replay.proofs.play.make_move.Goals as goal

pub returns-then-ne-clause-refused : goal.returns-then-ne-clause-refused
returns-then-ne-clause-refused c =
    fails_fitting c.args.m.now c.args.wild.now c.args.input.now.left c.args.from.now c.step-last.new.wild
    c.step-last.new.input.left c.step-last.result c.step-last.ensures
    (λ (is : move_by c.step-last.result ≡ c.args.m.now). let other : (c.of.result ≡ c.args.m.now → ⊥) = search rules in
    other (c.of.ensures ∙ is))

pub returns-clause-made : goal.returns-clause-made
returns-clause-made c =
    let last = c.step-last.result in
    let new = c.step-last.new.wild in
    let goes : is_over c.args.from.now.last ≡ false = sym c.is_over.ensures ∙ c.if-is_over.false in
    did_move c.args.m.now c.args.wild.now c.args.input.now.left c.args.from.now new c.step-last.new.input.left last
    c.step-last.ensures c.args.expected.now c.with-seen.result goes
    (let same : c.of.result ≡ c.args.m.now = search rules in sym c.of.ensures ∙ same)
    (λ output before.
    subst (λ (l : List ℕ). Sees c.args.expected.now c.with-seen.result (output ++ l))
    (c.bytes_put.ensures ∙ ap (λ (m : Machine). put_by last m.memory) c.machine.ensures)
    (c.with-seen.ensures.sees output before))
