-- Runs of the imprecise machine: one step more, fronts, and what is read off them.
use Rattle.std.proofs.Common.{◌≡◌, ◌+◌, ℕ, false, List, [], ◌∷◌, ◌++◌, refl, sym, ap, subst, ◌∙◌, arith}
use Rattle.std.proofs.lemmas.Grind.{flat_map-append}
use Rattle.alpha_seq.specs.State.{Program}
use Rattle.alpha_seq.specs.Run.{Fed}
use Rattle.alpha_imprecise.specs.StepResult.{Choice, ImpreciseEvent, StepResult}
use Rattle.alpha_imprecise.specs.Step.{imprecise_step}
use Rattle.alpha_imprecise.specs.Run.{seen_of, seen, finished, next_step_result, RunsImprecisely, units}
use Rattle.alpha_imprecise.proofs.EffectiveChoices.{next_step_result-same, given_to-take_asked, Fed-join_event}
use Rattle.alpha_imprecise.proofs.EffectiveChoices.{left_behind}

pub seen_steps-append : (xs ys : List ImpreciseEvent) → seen (xs ++ ys) ≡ seen xs ++ seen ys
seen_steps-append xs ys = flat_map-append seen_of xs ys

pub RunsImprecisely-append : (g : Program) (xs ys : List ImpreciseEvent) (a b c : StepResult) → RunsImprecisely g a xs b
    → RunsImprecisely g b ys c → RunsImprecisely g a (xs ++ ys) c
RunsImprecisely-append g [] ys a b c one two = subst (λ (m : StepResult). RunsImprecisely g m ys c) (sym one) two
RunsImprecisely-append g (x ∷ xs) ys a b c one two =
    (one.0, one.1, RunsImprecisely-append g xs ys (next_step_result g a x) b c one.2 two)

pub RunsImprecisely-split : (g : Program) (xs ys : List ImpreciseEvent) (a c : StepResult)
    → RunsImprecisely g a (xs ++ ys) c → (b : StepResult) × RunsImprecisely g a xs b × RunsImprecisely g b ys c
RunsImprecisely-split g [] ys a c run = (a, refl, run)
RunsImprecisely-split g (x ∷ xs) ys a c run =
    let rest = RunsImprecisely-split g xs ys (next_step_result g a x) c run.2 in
    (rest.0, (run.0, run.1, rest.1), rest.2)

-- one step more, by any choice and whatever it is given
pub RunsImprecisely-one : (g : Program) (a : StepResult) (c : Choice) (input : List ℕ) → finished a.last_event ≡ false
    → let m = imprecise_step g a.state a.pending c input in RunsImprecisely g a (m.last_event ∷ []) m
RunsImprecisely-one g a c input going =
    let same = next_step_result-same g a c input in
    (going, ap (λ (m : StepResult). m.last_event) same, same)

pub units_of_steps-append : (g : Program) (xs ys : List ImpreciseEvent) (a b : StepResult) → RunsImprecisely g a xs b
    → units g a (xs ++ ys) ≡ units g a xs + units g b ys
units_of_steps-append g [] ys a b run =
    ap (λ (m : StepResult). units g m ys) run ∙ (let e : units g b ys ≡ 0 + units g b ys = omega arith in e)
units_of_steps-append g (x ∷ xs) ys a b run =
    let rest = units_of_steps-append g xs ys (next_step_result g a x) b run.2 in
    omega (arith, rest)

-- the input that fed the steps so far feeds one more
pub Fed-next_event : (g : Program) (a : StepResult) (c : Choice) (input : List ℕ)
    → let h = (imprecise_step g a.state a.pending c input).last_event in
    Fed input (seen_of h ++ []) (left_behind h input)
Fed-next_event g a c input =
    Fed-join_event (imprecise_step g a.state a.pending c input).last_event [] input _
    (given_to-take_asked g a c input) refl
