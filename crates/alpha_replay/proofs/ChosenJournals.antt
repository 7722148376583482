-- Steps that words choose, that an input feeds and before each of which a run goes on, are the run with its journal.
use Rattle.std.proofs.Common.{◌≡◌, ◌+◌, ℕ, zero, suc, Bool, cond, List, [], ◌∷◌, ◌++◌, length, drop, refl, sym, ap, ◌∙◌}
use Rattle.alpha_seq.specs.State.{Program}
use Rattle.alpha_seq.specs.Run.{Fed}
use Rattle.alpha_imprecise.specs.StepResult.{ImpreciseEvent, StepResult}
use Rattle.alpha_imprecise.specs.Run.{seen, next_step_result, RunsImprecisely, unit_of}
use Rattle.alpha_imprecise.specs.Chosen.{Draw, draw, chosen, waited_after, Draws}
use Rattle.alpha_imprecise.specs.ChosenRun.{ChosenRun, advance_chosen_run, steps_of_chosen_run}
use Rattle.alpha_imprecise.proofs.PendingTraps.{advance_chosen_run-going}
use Rattle.alpha_imprecise.proofs.StepBounds.{steps-first}
use Rattle.alpha_imprecise.proofs.EffectiveChoices.{next_step_result-by, imprecise_step-over_input, left_behind}
use Rattle.alpha_imprecise.proofs.EffectiveChoices.{Fed-split_event}
use Rattle.alpha_imprecise.proofs.DrawnRuns.{chosen_run_with}
use Rattle.alpha_replay.specs.Journaled.{advance_journaled, steps_journaled, GoesOver}

first_journaled : (n : ℕ) (g : Program) (k : ChosenRun) (m : ℕ)
    → steps_journaled n g (advance_journaled n g k) m ≡ advance_journaled n g (steps_journaled n g k m)
first_journaled n g k zero = refl
first_journaled n g k (suc m) = ap (advance_journaled n g) (first_journaled n g k m)

pub steps_journaled-chosen_run : (n : ℕ) (g : Program) (hs : List ImpreciseEvent) (k : ChosenRun) (b : StepResult)
    (left rest : List ℕ)
    → RunsImprecisely g k.run.at hs b → Draws g k.run.at k.waited k.words hs rest → Fed k.run.left (seen hs) left
    → GoesOver n g k.run.units k.run.steps k.run.at hs
    → steps_journaled n g k (length hs) ≡ steps_of_chosen_run g k (length hs)
steps_journaled-chosen_run n g [] k b left rest run draws fed goes = refl
steps_journaled-chosen_run n g (h ∷ hs) k b left rest run draws fed goes =
    let a = k.run.at in
    let d : Draw = draw g a.state a.pending k.waited k.words in
    let gave = Fed-split_event h (seen hs) k.run.left left fed in
    let to : chosen g a.state a.pending k.waited k.words k.run.left ≡ next_step_result g a h =
    imprecise_step-over_input g a d.choice h k.run.left draws.0 gave.0
    ∙ sym (next_step_result-by g a d.choice h draws.0) in
    let next : ChosenRun = chosen_run_with (next_step_result g a h) (k.run.steps ++ h ∷ []) (left_behind h k.run.left)
    (k.run.units + unit_of a.pending) (waited_after h k.waited) (drop d.count k.words) (k.count + d.count) in
    let one : advance_chosen_run g k ≡ next =
    advance_chosen_run-going g k run.0
    ∙ (ap
    (λ (m : StepResult). chosen_run_with m (k.run.steps ++ m.last_event ∷ []) (left_behind m.last_event k.run.left)
    (k.run.units + unit_of a.pending) (waited_after m.last_event k.waited) (drop d.count k.words) (k.count + d.count))
    to
    ∙ ap
    (λ (x : ImpreciseEvent). chosen_run_with (next_step_result g a h) (k.run.steps ++ x ∷ []) (left_behind x k.run.left)
    (k.run.units + unit_of a.pending) (waited_after x k.waited) (drop d.count k.words) (k.count + d.count)) run.1) in
    let open_still : advance_journaled n g k ≡ next =
    ap (λ (c : Bool). cond c k (advance_chosen_run g k)) goes.0 ∙ one in
    sym (first_journaled n g k (length hs))
    ∙ (ap (λ (j : ChosenRun). steps_journaled n g j (length hs)) open_still
    ∙ (steps_journaled-chosen_run n g hs next b left rest run.2 draws.1 gave.1 goes.1
    ∙ (ap (λ (j : ChosenRun). steps_of_chosen_run g j (length hs)) (sym one) ∙ steps-first g k (length hs))))
