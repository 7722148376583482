use Rattle.std.proofs.Common.{◌≡◌, ◌++◌, ℕ, List, codes, sym, ap, subst, ◌∙◌}
use Rattle.alpha_seq.specs.declared.machine.Machine.{Machine}
use Rattle.alpha_seq.specs.State.{Program}
use Rattle.alpha_seq.specs.Start.{start}
use Rattle.alpha_seq.specs.Machine.{program_of, state_of}
use Rattle.alpha_trial.specs.Report.{Tally, line, wrapping}
use Rattle.alpha_trial.proofs.RunTotals.{sequential_counted}
use Rattle.alpha_trial.proofs.trials.push_sequential.Goals as goal

pub returns-clause-text : goal.returns-clause-text
returns-clause-text c =
    let old = c.new-by_rows.result in
    let new = c.run_sequential.new.machine in
    let written = c.run_sequential.new.out.written in
    let steps = c.in_ok-steps.steps in
    let r = c.in_ok-steps.ensures.counts in
    let program : program_of old ≡ wrapping c.args.image =
    ap program_of c.new-by_rows.ensures ∙ c.in_ok-new.ensures.program in
    let begins : state_of old ≡ start (program_of old) =
    subst (λ (m : Machine). state_of m ≡ start (program_of m)) (sym c.new-by_rows.ensures) c.in_ok-new.ensures.start in
    let tally = sequential_counted c.args.units c.args.image old new written steps program begins r in
    let words : new.image.words ≡ c.args.image.words =
    ap (λ (g : Program). g.image.words) (r.program ∙ program) in
    let mode = codes "sequential" in
    c.in_ok-push_line.ensures
    ∙ (ap (λ (m : Machine). c.args.text.now.items ++ line mode m.image.words
    (record { overflows = m.overflows; steps = steps; output = c.bytes.result.now; drawn = 0 }))
    c.into_machine-machine.ensures
    ∙ (ap (λ (b : List ℕ). c.args.text.now.items
    ++ line mode new.image.words (record { overflows = new.overflows; steps = steps; output = b; drawn = 0 }))
    c.bytes.ensures
    ∙ (ap (λ (ws : List ℕ). c.args.text.now.items
    ++ line mode ws (record { overflows = new.overflows; steps = steps; output = written; drawn = 0 }))
    words
    ∙ ap (λ (t : Tally). c.args.text.now.items ++ line mode c.args.image.words t) (sym tally))))
