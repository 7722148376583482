-- The laws of `run --imprecise`, and what leads to its answers.
use Rattle.std.proofs.Common.{◌≡◌, ◌∙◌, ℕ, ◌%◌, ◌^◌, Bool, true, false, List, [], Option, None, Some, IsSome, refl, sym}
use Rattle.std.proofs.Common.{ap, subst, inl, arith}
use Rattle.alpha_io.specs.Files.{Files}
use Rattle.alpha_image.specs.Parts.{Parts}
use Rattle.alpha_shadow.specs.Broken.{IsAccepted}
use Rattle.alpha_request.specs.declared.options.RunOptions.{RunOptions}
use Rattle.alpha_request.specs.Origin.{Origin}
use Rattle.alpha_request.specs.Origin as choices_of
use Rattle.alpha_seq.specs.declared.end.End.{End}
use Rattle.alpha_seq.specs.declared.end.End.TheVariants as ends
use Rattle.alpha_seq.specs.Start.{start}
use Rattle.alpha_trap.specs.declared.handler.Lost.{Lost}
use Rattle.alpha_imprecise.specs.Pcg.{pcg_word, seeded}
use Rattle.alpha_imprecise.specs.Used.{HasUsed}
use Rattle.alpha_imprecise.specs.ChosenRun.{begun, chosen_run, ShownImprecise, LostTrap, first_words, most_words}
use Rattle.alpha_imprecise.proofs.WordDraws.{words_drawn}
use Rattle.alpha_imprecise.proofs.DrawnRuns.{chosen_run_with-chosen_run, begun-chosen_run, chosen_run-draws}
use Rattle.alpha_imprecise.proofs.ExactDraws.{drawn_exactly}
use Rattle.alpha_imprecise.proofs.PendingTraps.{made_is}
use Rattle.alpha_cmd.specs.declared.status.Status.TheVariants as statuses
use Rattle.alpha_cmd.specs.declared.status.Status.{Status}
use Rattle.alpha_cmd.specs.Outcome.{continues, stops, Then, Gives}
use Rattle.alpha_cmd.specs.Image.{Reads, ImageOf, Judges}
use Rattle.alpha_cmd.specs.Choosing.{listed_word, ChoicesOf}
use Rattle.alpha_cmd.specs.ChoicesLimit.{choices_limit}
use Rattle.alpha_cmd.specs.Answer.{Answer}
use Rattle.alpha_cmd.specs.AnswerBy.{World, AnswerBy, HaveBytes}
use Rattle.alpha_cmd.specs.Form.{IsThere}
use Rattle.alpha_cmd.specs.RunAnswer.{program_by}
use Rattle.alpha_cmd.specs.Commands.Imprecise.{Plan, plan_by, PlanOf, Passes, Planned, MayRun, with_drawn, run_by}
use Rattle.alpha_cmd.specs.Commands.Imprecise.{begins_plan, MadeByReads, shown_imprecise, MayShowImprecise}
use Rattle.alpha_cmd.specs.Commands.Imprecise.{drawn_status}
use Rattle.alpha_cmd.specs.Commands.Imprecise.{imprecise_status, answer_imprecise, RunsImprecise, MayLose, IsEndStatus}
use Rattle.alpha_cmd.specs.Commands.Imprecise.{HasChoices}
use Rattle.alpha_cmd.specs.Commands.Imprecise.{steps, form, there}
use Rattle.alpha_cmd.proofs.Lawful.{IsRefusal, Lawful, Then-lawful, Goes-lawful, Gives-lawful}
use Rattle.alpha_cmd.proofs.StageLaws.{Reads-lawful, ImageOf-lawful, Judges-lawful}
use Rattle.alpha_cmd.proofs.FormLaws.{IsLawfulForm, is_fault}
use Rattle.alpha_cmd.proofs.Commands.Run.{some_shown as some_run}

-- ---- the stages

pub ChoicesOf-lawful : (told whole : Type 0) (w : World) (choices : Origin) → (told → IsSome w.files)
    → (whole → IsSome w.files) → (there : Type 0) → (there → HasChoices choices w)
    → Lawful told whole there (ChoicesOf w.files choices)
ChoicesOf-lawful told whole w (choices_of.seed n) is_told is_whole there has = Gives-lawful (pcg_word (seeded n))
ChoicesOf-lawful told whole w (choices_of.file name) is_told is_whole there has =
    Then-lawful {R = Reads w.files name choices_limit} {S = λ bytes. Gives (listed_word bytes)}
    (Reads-lawful told whole there w.files name choices_limit is_told is_whole has)
    (λ bytes read. Gives-lawful (listed_word bytes))

pub Passes-lawful : (told whole there : Type 0) (force : Bool) (plan : Plan)
    → Lawful told whole there (Passes force plan)
Passes-lawful told whole there true plan = Gives-lawful plan
Passes-lawful told whole there false plan =
    Then-lawful {R = Judges plan.image} {S = λ image. Gives plan} (Judges-lawful told whole there plan.image)
    (λ image judged. Gives-lawful plan)

-- what leads to a plan that the verdict lets through
pub Planned-lawful : (told whole there : Type 0) (w : World) (choices : Origin) (force : Bool) (file : List ℕ)
    → (told → IsSome w.files) → (whole → IsSome w.files × HaveBytes w.files)
    → (there → IsThere file w) → (there → HasChoices choices w)
    → Lawful told whole there (Then (PlanOf w.files file choices) (Passes force))
Planned-lawful told whole there w choices force file is_told is_whole has_file has_choices =
    Then-lawful {R = PlanOf w.files file choices} {S = Passes force}
    (Then-lawful {R = ImageOf w.files file}
    {S = λ image. Then (ChoicesOf w.files choices) (λ ahead. Gives (plan_by image ahead))}
    (ImageOf-lawful told whole there w.files file is_told is_whole has_file)
    (λ image found.
    Then-lawful {R = ChoicesOf w.files choices} {S = λ ahead. Gives (plan_by image ahead)}
    (ChoicesOf-lawful told whole w choices is_told (λ h. (is_whole h).0) there has_choices)
    (λ ahead given. Gives-lawful (plan_by image ahead))))
    (λ plan found. Passes-lawful told whole there force plan)

-- where it stops it is refused
pub planned_plain : (choices : Origin) (force : Bool) (file : List ℕ) (files : Files) (s : Status) (line : List ℕ)
    → Planned choices force file files (stops s line) → IsRefusal ⊥ s
planned_plain choices force file files =
    (Planned-lawful ⊥ ⊥ ⊥ (record { files = files; takes = λ name n. true; input = None }) choices force file
    (λ no. absurd no) (λ no. absurd no) (λ no. absurd no) (λ no. absurd no)).plain

-- a run by the plan's words over no input
some_made : (options : RunOptions) (plan : Plan) → MadeByReads options plan
some_made options plan =
    let n = options.steps in
    let g = program_by options plan.image in
    let a = begins_plan options plan in
    let words = first_words (most_words n) plan.ahead in
    let from = begun (start g) [] None 0 words in
    let k = chosen_run g from n in
    let h = chosen_run_with-chosen_run g a [] words 0 from n (begun-chosen_run g (start g) [] words None 0) in
    let most = chosen_run-draws g (start g) [] words n in
    record {
      steps = k.run.steps;
      at = k.run.at;
      drawn = words_drawn g a 0 words k.run.steps;
      runs = h.runs;
      draws = drawn_exactly g k.run.steps a 0 (most_words n) plan.ahead k.words h.draws (omega (arith, h.count, most));
      used = subst (λ u. HasUsed n u k.run.at) (sym h.used) (made_is g from n refl refl);
    }

pub some_shown : (options : RunOptions) (force : Bool) (input : Option (List ℕ)) (plan : Plan)
    → (s : ShownImprecise) × MayShowImprecise options force input plan s
some_shown options true None plan = let m = some_made options plan in (shown_imprecise options plan m, (m, refl))
some_shown options false None plan =
    let m = some_made options plan in
    let t = some_run options None plan.image in
    (with_drawn t.0 m.drawn, (m, (t.0, t.1, refl)))
some_shown options force (Some input) plan =
    (run_by force (program_by options plan.image) input plan.ahead options.steps options.watch, refl)

-- a trap is lost only where the verdict is passed over
pub MayShowImprecise-MayLose : (options : RunOptions) (force : Bool) (input : Option (List ℕ)) (plan : Plan)
    (s : ShownImprecise)
    → MayShowImprecise options force input plan s → MayLose force s.lost
MayShowImprecise-MayLose options true input plan s may = tt
MayShowImprecise-MayLose options false None plan s may = ap (λ (x : ShownImprecise). x.lost) may.1.2
MayShowImprecise-MayLose options false (Some input) plan s is = ap (λ (x : ShownImprecise). x.lost) is

pub same_shown : (options : RunOptions) (force : Bool) (input : Option (List ℕ)) (plan : Plan) (s t : ShownImprecise)
    → IsSome input → MayShowImprecise options force input plan s
    → MayShowImprecise options force input plan t → s ≡ t
same_shown options force None plan s t told h g = cc
same_shown options force (Some input) plan s t told h g = h ∙ sym g

RunsImprecise-lawful : (told whole there : Type 0) (options : RunOptions)
    (force : Bool) (input : Option (List ℕ)) (plan : Plan)
    → (told → IsSome input)
    → Lawful told whole there (RunsImprecise options force input plan)
RunsImprecise-lawful told whole there options force input plan has =
    Goes-lawful
    (λ (a : Answer). (s : ShownImprecise) × MayShowImprecise options force input plan s
    × (a ≡ answer_imprecise input s))
    (λ h a b p q. p.2
    ∙ (ap (answer_imprecise input) (same_shown options force input plan p.0 q.0 (has h) p.1 q.1) ∙ sym q.2))
    (λ h. let (s, may) = some_shown options force input plan in (answer_imprecise input s, (s, may, refl)))

pub drawn_plain : (n : ℕ) (end : End) → is_fault (drawn_status n end) ≡ false
drawn_plain n (ends.Exit v) = refl
drawn_plain n end = refl

pub imprecise-plain : (end : Option End) (lost : Option LostTrap) (n : ℕ)
    → is_fault (imprecise_status end lost n) ≡ false
imprecise-plain (Some end) lost n = drawn_plain n end
imprecise-plain None (Some t) n = refl
imprecise-plain None None n = refl

pub imprecise_form-lawful : (options : RunOptions) (choices : Origin) (force : Bool) (file : List ℕ) (w : World)
    → IsLawfulForm (form options choices force file) (there choices file) w
imprecise_form-lawful options choices force file w = record {
  stages =
      Then-lawful {R = Then (PlanOf w.files file choices) (Passes force)} {S = RunsImprecise options force w.input}
      (Planned-lawful _ _ _ w choices force file (λ h. h.0) (λ h. h) (λ h. h.0) (λ h. h.1))
      (λ plan passed. RunsImprecise-lawful _ _ _ options force w.input plan (λ h. h.1));
  ends = λ a h.
      inl (ap (λ (x : Answer). is_fault x.status) h.2.2 ∙ imprecise-plain h.2.0.end h.2.0.lost (h.2.0.drawn % 2 ^ 64));
  status = λ a h. (
    h.2.0.end,
    (
      h.2.0.lost,
      (
        h.2.0.drawn % 2 ^ 64,
        MayShowImprecise-MayLose options force w.input h.0 h.2.0 h.2.1,
        ap (λ (x : Answer). x.status) h.2.2,
      ),
    ),
  );
}

-- ---- its answers

pub imprecise_answer-some : (w : World) (options : RunOptions) (choices : Origin)
    (force : Bool) (name : List ℕ) (plan : Plan) (s : ShownImprecise)
    → PlanOf w.files name choices (continues plan)
    → Passes force plan (continues plan) → MayShowImprecise options force w.input plan s
    → AnswerBy (steps options choices force name) w (answer_imprecise w.input s)
imprecise_answer-some w options choices force name plan s found passes may =
    (continues (answer_imprecise w.input s), (plan, (plan, found, passes), (s, may, refl)), refl)

pub accepted-Passes : (force : Bool) (plan : Plan) → (force ≡ false → IsAccepted plan.image.words)
    → Passes force plan (continues plan)
accepted-Passes true plan good = refl
accepted-Passes false plan good = (plan.image, (good refl, refl), refl)

passed_same : (force : Bool) (q plan : Plan) → Passes force q (continues plan) → plan ≡ q
passed_same true q plan h = h
passed_same false q plan h = h.2

passed_good : (force : Bool) (q plan : Plan) → Passes force q (continues plan) → force ≡ false
    → IsAccepted q.image.words
passed_good true q plan h judges = cc
passed_good false q plan h judges = h.1.0

-- the image of a plan that the verdict lets through is the file's
pub planned_image : (force : Bool) (choices : Origin) (file : List ℕ) (files : Files) (plan : Plan)
    → Planned choices force file files (continues plan) → ImageOf files file (continues plan.image)
planned_image force choices file files plan (q, (image, found, (ahead, chosen, is)), passes) =
    subst (λ (i : Parts). ImageOf files file (continues i))
    (sym (ap (λ (x : Plan). x.image) (passed_same force q plan passes ∙ is))) found

-- and it may be run
pub planned_good : (force : Bool) (choices : Origin) (file : List ℕ) (files : Files) (plan : Plan)
    → Planned choices force file files (continues plan) → MayRun force plan
planned_good force choices file files plan h = (
  (planned_image force choices file files plan h).2.0,
  λ judges. subst (λ (x : Plan). IsAccepted x.image.words) (sym (passed_same force h.0 plan h.2))
      (passed_good force h.0 plan h.2 judges),
)

-- ---- the statuses of an end

-- of an unforced run's end no status is that of a trap that was lost
pub found_end : (lost : Lost) → IsEndStatus false (statuses.Lost lost) → ⊥
found_end lost (Some end, (trap, (n, none, is))) = by end is
  where
    by : (end : End) → statuses.Lost lost ≡ drawn_status n end → ⊥
    by (ends.Exit v) e = cc
    by end e = cc
found_end lost (None, (trap, (n, none, is))) =
    let spent : imprecise_status None trap n ≡ statuses.StepsSpent =
    ap (λ (t : Option LostTrap). imprecise_status None t n) none in
    let no = is ∙ spent in cc
