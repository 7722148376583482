-- On an image that `check` accepts, a run of the imprecise machine has the answer of the sequential run, but for the
-- number of words that it draws.
use Rattle.std.proofs.Common.{◌≡◌, ◌∙◌, ℕ, Bool, true, false, List, Option, None, Some, IsSome, refl, sym, ap, subst}
use Rattle.alpha_io.specs.Files.{Files}
use Rattle.alpha_image.specs.Parts.{Parts}
use Rattle.alpha_shadow.specs.Broken.{IsAccepted}
use Rattle.alpha_request.specs.Command.{run}
use Rattle.alpha_request.specs.declared.options.RunOptions.{RunOptions}
use Rattle.alpha_request.specs.Origin.{Origin}
use Rattle.alpha_restart.proofs.Agreement.{IsAccepted-IsRestartable}
use Rattle.alpha_seq.specs.declared.end.End.{End}
use Rattle.alpha_seq.specs.declared.end.End.TheVariants as ends
use Rattle.alpha_seq.specs.State.{Program}
use Rattle.alpha_seq.specs.Run.{Shown, sequential}
use Rattle.alpha_imprecise.specs.Run.{seen}
use Rattle.alpha_imprecise.specs.ChosenRun.{ShownImprecise, LostTrap, first_words, most_words}
use Rattle.alpha_imprecise.specs.Restart.{IsRestartable}
use Rattle.alpha_imprecise.specs.Shown.{ShowsSame}
use Rattle.alpha_imprecise.proofs.ShownRuns.{runs_alike}
use Rattle.alpha_cmd.specs.Status.{class_of}
use Rattle.alpha_cmd.specs.Outcome.{Outcome, continues, stops, Then}
use Rattle.alpha_cmd.specs.Image.{ImageOf}
use Rattle.alpha_cmd.specs.Answer.{Answer}
use Rattle.alpha_cmd.specs.AnswerBy.{World, AnswerBy, answer_of}
use Rattle.alpha_cmd.specs.Form.{IsThere, reads}
use Rattle.alpha_cmd.specs.OfImage.Check.{Checks}
use Rattle.alpha_cmd.specs.Commands.Run as runs
use Rattle.alpha_cmd.specs.Commands.Run.{shown_by, MayShow}
use Rattle.alpha_cmd.specs.RunAnswer.{program_by, answer_shown}
use Rattle.alpha_cmd.specs.Commands.Imprecise as wilds
use Rattle.alpha_cmd.specs.Commands.Imprecise.{Plan, plan_by, PlanOf, Passes, with_drawn, run_by, shown_imprecise}
use Rattle.alpha_cmd.specs.Commands.Imprecise.{MayShowImprecise, answer_imprecise, RunsImprecise}
use Rattle.alpha_cmd.specs.AlikeByAnswers.{undrawn, IsChecked, HasWords}
use Rattle.alpha_cmd.proofs.FormLaws.{AnswerBy-done, form_of_file}
use Rattle.alpha_cmd.proofs.OfImage.Check.{check_form-lawful}
use Rattle.alpha_cmd.proofs.Commands.Run.{shown_answer}
use Rattle.alpha_cmd.proofs.Commands.Imprecise.{Planned-lawful, accepted-Passes, some_shown, imprecise_answer-some}
use Rattle.alpha_cmd.proofs.Lawful.{Then-found}
use Rattle.alpha_cmd.proofs.AttemptedBy.{AnswerOf-single}
use Rattle.alpha_cmd.proofs.HasShown.{MadeByReads-SameOf, same_may}

-- ---- an accepted file

-- the image of a file that is accepted
pub record IsAcceptedFile (file : List ℕ) (files : Files) : Type 0 where
  pub image : Parts
  pub found : ImageOf files file (continues image)
  pub accepted : IsAccepted image.words

pub IsChecked-IsAcceptedFile : (file : List ℕ) (w : World) → IsChecked file w → IsAcceptedFile file w.files
IsChecked-IsAcceptedFile file w h =
    let (image, found, (same, judged, is)) =
    AnswerBy-done (form_of_file Checks reads file) (IsThere file) w (check_form-lawful file w) h.answer h.is
    (ap class_of h.done) in
    record { image = image; found = found; accepted = judged.0 }

pub IsAcceptedFile-IsRestartable : (file : List ℕ) (files : Files) (h : IsAcceptedFile file files)
    → IsRestartable h.image
IsAcceptedFile-IsRestartable file files h = IsAccepted-IsRestartable h.image h.found.2.0 h.accepted

-- ---- the two runs

-- the answer of a run that shows these
answer_by : Option (List ℕ) → Option End → Option LostTrap → List ℕ → List ℕ → List ℕ → ℕ → Answer
answer_by input end lost output left notes drawn =
    undrawn (answer_imprecise input
    (record { end = end; lost = lost; units = 0; output = output; left = left; notes = notes; drawn = drawn }))

sequential_by : (input : Option (List ℕ)) (end : Option End) (steps : ℕ) (output left notes : List ℕ) (drawn : ℕ)
    → answer_by input end None output left notes drawn
    ≡ answer_shown input (record { end = end; steps = steps; output = output; left = left; notes = notes })
unfolding answer_by
sequential_by input None steps output left notes drawn = refl
sequential_by input (Some (ends.Exit v)) steps output left notes drawn = refl
sequential_by input (Some end) steps output left notes drawn = refl

answers_alike : (input : Option (List ℕ)) (s : Shown) (t : ShownImprecise) → ShowsSame s t
    → undrawn (answer_imprecise input t) ≡ answer_shown input s
unfolding answer_by
answers_alike input s t h =
    let same : answer_by input t.end t.lost t.output t.left t.notes t.drawn
    ≡ answer_by input s.end None s.output s.left s.notes t.drawn =
    λ i. answer_by input (h.end i) (h.lost i) (h.output i) (h.left i) (h.notes i) t.drawn in
    same ∙ sequential_by input s.end s.steps s.output s.left s.notes t.drawn

runs_same : (force : Bool) (g : Program) (input : List ℕ) (ahead : ℕ → ℕ) (n : ℕ) (watch : Bool) → IsRestartable g.image
    → ShowsSame (sequential g input n watch) (run_by force g input ahead n watch)
runs_same true g input ahead n watch h =
    runs_alike g.image h g.completion input (first_words (most_words n) ahead) n watch
runs_same false g input ahead n watch h =
    record { end = refl; lost = refl; steps = refl; output = refl; left = refl; notes = refl }

-- a run of the sequential machine that shows what this one does
record IsShown (options : RunOptions) (input : Option (List ℕ)) (image : Parts) (t : ShownImprecise) : Type 0 where
  shown : Shown
  may : MayShow options input image shown
  same : undrawn (answer_imprecise input t) ≡ answer_shown input shown

is_shown : (options : RunOptions) (force : Bool) (input : Option (List ℕ)) (plan : Plan) (t : ShownImprecise)
    → IsRestartable plan.image
    → MayShowImprecise options force input plan t → IsShown options input plan.image t
is_shown options true None plan t restarts (m, is) =
    let q = MadeByReads-SameOf options plan restarts m in
    let s = shown_by options.watch (seen m.steps) q.last in
    record {
      shown = s;
      may = same_may options plan m q;
      same =
          ap (λ (u : ShownImprecise). undrawn (answer_imprecise None u)) is
          ∙ answers_alike None s (shown_imprecise options plan m)
          (record { end = q.end; lost = q.lost; steps = q.count; output = refl; left = refl; notes = refl });
    }
is_shown options false None plan t restarts (m, (s, may, is)) = record {
  shown = s;
  may = may;
  same =
      ap (λ (u : ShownImprecise). undrawn (answer_imprecise None u)) is
      ∙ answers_alike None s (with_drawn s m.drawn)
      (record { end = refl; lost = refl; steps = refl; output = refl; left = refl; notes = refl });
}
is_shown options force (Some input) plan t restarts is =
    let g = program_by options plan.image in
    let s = sequential g input options.steps options.watch in
    record {
      shown = s;
      may = refl;
      same =
          ap (λ (u : ShownImprecise). undrawn (answer_imprecise (Some input) u)) is
          ∙ answers_alike (Some input) s (run_by force g input plan.ahead options.steps options.watch)
          (runs_same force g input plan.ahead options.steps options.watch restarts);
    }

-- ---- the answers

-- each answer of the imprecise run is one of the sequential run, but for the number
pub AnswerBy-imprecise_as_run : (options : RunOptions) (choices : Origin) (force : Bool) (file : List ℕ) (w : World)
    (b : Answer)
    → IsSome w.files → HasWords w.files choices → IsChecked file w
    → AnswerBy (wilds.steps options choices force file) w b → AnswerBy (runs.steps options file) w (undrawn b)
AnswerBy-imprecise_as_run options choices force file w b files words checked (o, h, is) =
    by (IsChecked-IsAcceptedFile file w checked) o is h
  where
    shows : (good : IsAcceptedFile file w.files) (o : Outcome Answer) → b ≡ answer_of w.input o
        → RunsImprecise options force w.input (plan_by good.image words.0) o
        → AnswerBy (runs.steps options file) w (undrawn b)
    shows good (continues a) is (t, may, wild) =
        let s = is_shown options force w.input (plan_by good.image words.0) t
        (IsAcceptedFile-IsRestartable file w.files good) may in
        subst (AnswerBy (runs.steps options file) w) (sym (ap undrawn (is ∙ wild) ∙ s.same))
        (shown_answer w options file good.image s.shown good.found s.may)
    shows good (stops status line) is never = absurd never

    by : (good : IsAcceptedFile file w.files) (o : Outcome Answer) → b ≡ answer_of w.input o
        → wilds.steps options choices force file w o → AnswerBy (runs.steps options file) w (undrawn b)
    by good o is h =
        let plan = plan_by good.image words.0 in
        let found : PlanOf w.files file choices (continues plan) = (good.image, good.found, (words.0, words.1, refl)) in
        let law = Planned-lawful (IsSome w.files) ⊥ ⊥ w choices force file (λ e. e) (λ no. absurd no) (λ no. absurd no)
        (λ no. absurd no) in
        shows good o is
        (Then-found (Then (PlanOf w.files file choices) (Passes force)) (RunsImprecise options force w.input)
        (law.single files) plan
        (plan, found, accepted-Passes force plan (λ judges. good.accepted)) o h)

-- it has an answer, whatever the input tells
pub AnswerBy-imprecise_exists : (options : RunOptions) (choices : Origin) (force : Bool) (file : List ℕ) (w : World)
    → HasWords w.files choices → IsChecked file w
    → (b : Answer) × AnswerBy (wilds.steps options choices force file) w b
AnswerBy-imprecise_exists options choices force file w words checked =
    let good = IsChecked-IsAcceptedFile file w checked in
    let plan = plan_by good.image words.0 in
    let (s, may) = some_shown options force w.input plan in (
      answer_imprecise w.input s,
      imprecise_answer-some w options choices force file plan s (good.image, good.found, (words.0, words.1, refl))
          (accepted-Passes force plan (λ judges. good.accepted)) may,
    )

-- the answers are the same but for the number, where the input is told
pub AnswerBy-imprecise_undrawn : (options : RunOptions) (choices : Origin) (force : Bool) (file : List ℕ) (w : World)
    (a b : Answer)
    → IsSome w.files → IsSome w.input
    → HasWords w.files choices → IsChecked file w → AnswerBy (runs.steps options file) w a
    → AnswerBy (wilds.steps options choices force file) w b → undrawn b ≡ a
AnswerBy-imprecise_undrawn options choices force file w a b files input words checked is other =
    AnswerOf-single (run options file) w (undrawn b) a (files, input)
    (AnswerBy-imprecise_as_run options choices force file w b files words checked other) is
