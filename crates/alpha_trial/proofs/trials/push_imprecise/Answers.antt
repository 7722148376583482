use Rattle.std.proofs.Common.{◌≡◌, ◌<◌, ◌^◌, ◌++◌, ℕ, List, codes, sym, ap, subst, ◌∙◌}
use Rattle.rand_pcg.specs.Lcg.{Lcg}
use Rattle.alpha_seq.specs.declared.machine.Machine.{Machine}
use Rattle.alpha_seq.specs.State.{Program}
use Rattle.alpha_seq.specs.Start.{start}
use Rattle.alpha_seq.specs.Machine.{program_of, state_of}
use Rattle.alpha_imprecise.specs.Pcg.{pcg_word}
use Rattle.alpha_trial.specs.Counted.{MakesTo}
use Rattle.alpha_trial.specs.Report.{Tally, line, wrapping}
use Rattle.alpha_trial.proofs.RunTotals.{imprecise_counted}
use Rattle.alpha_trial.proofs.trials.push_imprecise.Goals as goal

pub returns : goal.returns
returns c =
    let old = c.with_rows-wild.result in
    let new = c.run_imprecise.new.wild in
    let written = c.run_imprecise.new.out.written in
    let count = c.run_imprecise.new.chooser.drawn in
    let steps = c.in_ok-steps.steps in
    let r = subst (λ (g : Lcg). MakesTo c.args.units (pcg_word g) old new written steps count)
    (c.new-chooser.ensures.chooser ∙ c.new-2.ensures) c.in_ok-steps.ensures.counts in
    let program : program_of old.machine ≡ wrapping c.args.image =
    ap program_of c.with_rows-wild.ensures.machine ∙ c.in_ok-new.ensures.program in
    let begins : state_of old.machine ≡ start (program_of old.machine) =
    subst (λ (m : Machine). state_of m ≡ start (program_of m))
    (sym c.with_rows-wild.ensures.machine) c.in_ok-new.ensures.start in
    let small : count < 2 ^ 64 = subst (λ n. n < 2 ^ 64) c.drawn.ensures c.drawn.type_inv in
    let tally = imprecise_counted c.args.units c.args.image c.args.seed old new written steps count program begins
    c.with_rows-wild.ensures.pending c.requires.few small r in
    let words : new.machine.image.words ≡ c.args.image.words =
    ap (λ (g : Program). g.image.words) (r.program ∙ program) in
    let mode = codes "imprecise" in
    record {
      text = c.in_ok-push_line.ensures
          ∙ (ap (λ (m : Machine). c.args.text.now.items ++ line mode m.image.words
          (record { overflows = m.overflows; steps = steps; output = c.bytes.result.now; drawn = c.drawn.result }))
          c.machine-machine.ensures
          ∙ (ap (λ (b : List ℕ). c.args.text.now.items ++ line mode new.machine.image.words
          (record { overflows = new.machine.overflows; steps = steps; output = b; drawn = c.drawn.result }))
          c.bytes.ensures
          ∙ (ap (λ (n : ℕ). c.args.text.now.items ++ line mode new.machine.image.words
          (record { overflows = new.machine.overflows; steps = steps; output = written; drawn = n }))
          c.drawn.ensures
          ∙ (ap (λ (ws : List ℕ). c.args.text.now.items ++ line mode ws
          (record { overflows = new.machine.overflows; steps = steps; output = written; drawn = count }))
          words
          ∙ ap (λ (t : Tally). c.args.text.now.items ++ line mode c.args.image.words t) (sym tally)))));
    }
