-- The imprecise run of a trial ends as the sequential run does, and the lines say so.
use Rattle.std.proofs.Common.{◌≡◌, ◌≤◌, ◌+◌, ◌*◌, ◌++◌, ℕ, List, [], Some, None, refl, sym, ap, subst, ◌∙◌, arith}
use Rattle.std.specs.Prelude.{codes}
use Rattle.alpha_seq.specs.declared.end.End.{End}
use Rattle.alpha_seq.specs.declared.end.End.TheVariants.{Exit}
use Rattle.alpha_words.specs.declared.Completion.TheVariants.{Wrap}
use Rattle.alpha_seq.specs.State.{State, Event, Went, Barriered, Overflowed, Ends, Stepped}
use Rattle.alpha_seq.specs.Start.{start}
use Rattle.alpha_seq.specs.Run.{Run, output, end_of, begins, Runs, after}
use Rattle.alpha_seq.proofs.RunSequence.{Runs-deterministic, after-fed}
use Rattle.alpha_imprecise.specs.StepResult.{ImpreciseEvent, Precisely, Triggered, Waited, Reported, Lost}
use Rattle.alpha_imprecise.specs.Run.{seen, imprecise_start, RunsOver}
use Rattle.alpha_imprecise.specs.Pcg.{pcg_word, seeded}
use Rattle.alpha_imprecise.specs.ChosenRun.{ChosenRun, begun, chosen_run, end_of_imprecise_event, first_words}
use Rattle.alpha_imprecise.specs.ChosenRun.{most_words}
use Rattle.alpha_imprecise.specs.Restart.{IsRestartable, Agrees}
use Rattle.alpha_imprecise.specs.Shown.{SameRun}
use Rattle.alpha_imprecise.proofs.DrawnRuns.{chosen_run-over}
use Rattle.alpha_imprecise.proofs.EventCounts.{RunsImprecisely-nothing_pending}
use Rattle.alpha_imprecise.proofs.PendingTraps.{made_is}
use Rattle.alpha_imprecise.proofs.ShownRuns.{choices_alike}
use Rattle.alpha_restart.proofs.Agreement.{IsAccepted-IsRestartable}
use Rattle.alpha_trial.specs.Words.{program_words, trial_image}
use Rattle.alpha_trial.specs.Report.{Tally, run_tally, making_tally, line, sequential_run, imprecise_run, text_within}
use Rattle.alpha_trial.specs.Report.{trial_text}
use Rattle.alpha_trial.specs.Lines.{Exits, EndsAlike, tally, HasLines}
use Rattle.alpha_trial.proofs.TrialShadows.{program_accepted}
use Rattle.alpha_trial.proofs.GoodImage.{trial_image-IsImage}
use Rattle.alpha_trial.proofs.RunStages.{trial_program}
use Rattle.alpha_trial.proofs.ExitBlock.{sequential_run-Exits}
use Rattle.alpha_trial.proofs.OverflowDraws.{log_count-at_most_overflows}

IsRestartable-trial_image : (n : ℕ) → n ≤ 20000 → IsRestartable (trial_image n)
IsRestartable-trial_image n most =
    IsAccepted-IsRestartable (trial_image n) (trial_image-IsImage n most) (program_accepted n)

ends_by : (event : Event) (e : End) → end_of event ≡ Some e → event ≡ Ends e
ends_by Went e h = cc
ends_by (Barriered traffic pc regs) e h = cc
ends_by (Overflowed at) e h = cc
ends_by (Ends end) e h = cc

ends_so : (h : ImpreciseEvent) (e : End) → end_of_imprecise_event h ≡ Some e → h ≡ Precisely (Ends e)
ends_so (Precisely event) e end = ap Precisely (ends_by event e end)
ends_so (Triggered value) e end = cc
ends_so (Waited adds value bytes) e end = cc
ends_so (Reported at) e end = cc
ends_so (Lost pc mask) e end = cc

-- what the law of restarts says of this run
record Restarted (n units : ℕ) (k : ChosenRun) : Type 0 where
  same : SameRun (after (trial_program n) (start (trial_program n)) [] units) k.run
  over : RunsOver (trial_program n) (start (trial_program n)) [] k.run
  agrees : Agrees (trial_program n) (start (trial_program n)) (seen k.run.steps) k.run.at

restarted : (n units : ℕ) (words : List ℕ) → n ≤ 20000
    → Restarted n units (chosen_run (trial_program n) (begun (start (trial_program n)) [] None 0 words) units)
restarted n units words most =
    let g = trial_program n in
    let s = start g in
    let k = begun s [] None 0 words in
    let w = (chosen_run g k units).run in
    let h = IsRestartable-trial_image n most in
    let over = (chosen_run-over g s [] words units).0 in
    record {
      same = choices_alike (trial_image n) h Wrap [] w units over (made_is g k units refl refl);
      over = over;
      agrees = h Wrap w.steps w.at over.runs;
    }

-- a run that ends where the sequential run does
ends_alike : (n units : ℕ) (r : Run) (k : ChosenRun) → Exits (9 * n + 10) r
    → r ≡ after (trial_program n) (start (trial_program n)) [] units
    → Restarted n units k → k.run.at.state.count ≤ k.count → EndsAlike r k
ends_alike n units r k exits is h drawn =
    let g = trial_program n in
    let s = start g in
    let same = subst (λ (q : Run). SameRun q k.run) (sym is) h.same in
    let last = ends_so k.run.at.last_event (Exit 0) (same.end ∙ ap end_of exits.last) in
    let calm = RunsImprecisely-nothing_pending g k.run.steps (imprecise_start s) k.run.at (λ event e. refl) h.over.runs
    (Ends (Exit 0)) last in
    let follows = h.agrees.follows calm in
    let runs = subst (λ (q : Run). Runs g (begins s) q.events q.at) (sym is) (after-fed g s [] units).runs in
    let at : r.at ≡ follows.last = Runs-deterministic g r.events (begins s) r.at follows.last runs
    (subst (λ (l : List Event). Runs g (begins s) l follows.last) same.events follows.runs) in
    record {
      last = last ∙ ap Precisely (sym exits.last);
      units = same.steps;
      events = same.events;
      state = sym (follows.ended (Exit 0) last (λ at e. cc)) ∙ ap (λ (t : Stepped). t.state) (sym at);
      drawn = drawn;
    }

pub run_alike : (n units seed : ℕ) → n ≤ 20000 → 9 * n + 10 ≤ units
    → EndsAlike (sequential_run units (trial_image n)) (imprecise_run units (trial_image n) seed)
unfolding sequential_run imprecise_run
run_alike n units seed most enough =
    let words = first_words (most_words units) (pcg_word (seeded seed)) in
    let g = trial_program n in
    let few = log_count-at_most_overflows g (start g) [] words units in
    ends_alike n units (sequential_run units (trial_image n)) (chosen_run g (begun (start g) [] None 0 words) units)
    (sequential_run-Exits n units most enough) refl (restarted n units words most) (omega arith)

lines_of : (n : ℕ) (r : Run) (k : ChosenRun) → Exits (9 * n + 10) r → EndsAlike r k
    → HasLines n
    (line (codes "sequential") (program_words n) (run_tally r)
    ++ line (codes "imprecise") (program_words n) (making_tally k))
lines_of n r k exits h =
    let first : run_tally r ≡ tally n r.at.state.count (output r.events) 0 =
    ap (λ (m : ℕ). record (run_tally r) { steps = m }) exits.steps_are in
    let second : making_tally k ≡ tally n r.at.state.count (output r.events) k.count =
    ap (λ (m : ℕ). record (making_tally k) { steps = m }) (h.units ∙ exits.steps_are)
    ∙ (ap (λ (s : State). tally n s.count (output (seen k.run.steps)) k.count) h.state
    ∙ ap (λ (l : List Event). tally n r.at.state.count (output l) k.count) h.events) in
    record {
      overflows = r.at.state.count;
      output = output r.events;
      drawn = k.count;
      is =
          ap (λ (t : Tally). line (codes "sequential") (program_words n) t
          ++ line (codes "imprecise") (program_words n) (making_tally k))
          first
          ∙ ap
          (λ (t : Tally). line (codes "sequential") (program_words n) (tally n r.at.state.count (output r.events) 0)
          ++ line (codes "imprecise") (program_words n) t)
          second;
      eight = exits.eight;
      enough = subst (λ (m : ℕ). m ≤ k.count) (ap (λ (s : State). s.count) h.state) h.drawn;
    }

pub text_lines : (n : ℕ) → n ≤ 20000 → HasLines n (trial_text n)
unfolding trial_text text_within
text_lines n most =
    lines_of n (sequential_run 100000000 (trial_image n)) (imprecise_run 100000000 (trial_image n) n)
    (sequential_run-Exits n 100000000 most (omega arith)) (run_alike n 100000000 n most (omega arith))
