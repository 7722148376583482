-- The laws of `record`, and what leads to its answers.
use Rattle.std.proofs.Common.{◌≡◌, ◌⊎◌, ◌∙◌, ◌+◌, ℕ, ◌%◌, ◌^◌, Bool, true, false, List, [], length, Option, None, Some}
use Rattle.std.proofs.Common.{IsSome, refl, sym, ap, subst, inl, inr, arith}
use Rattle.alpha_io.specs.Files.{Files}
use Rattle.alpha_restart.proofs.Agreement.{IsAccepted-IsRestartable}
use Rattle.alpha_request.specs.declared.options.RunOptions.{RunOptions}
use Rattle.alpha_request.specs.Origin.{Origin}
use Rattle.alpha_seq.specs.State.{Program}
use Rattle.alpha_seq.specs.Start.{start}
use Rattle.alpha_seq.specs.Run.{output as output_of, notes as notes_of}
use Rattle.alpha_imprecise.specs.StepResult.{ImpreciseEvent, StepResult}
use Rattle.alpha_imprecise.specs.Run.{seen, RunsImprecisely, units}
use Rattle.alpha_imprecise.specs.Chosen.{Draws}
use Rattle.alpha_imprecise.specs.ChosenRun.{ChosenRun, begun, first_words, most_words, ShownImprecise}
use Rattle.alpha_imprecise.specs.Restart.{IsRestartable}
use Rattle.alpha_imprecise.proofs.WordDraws.{words_drawn, draws_most}
use Rattle.alpha_imprecise.proofs.ExactDraws.{drawn_exactly}
use Rattle.alpha_replay.specs.Journal.{Parts, spelling}
use Rattle.alpha_replay.specs.Journaled.{journal_of, journal_at, is_within, stops_at, GoesOver}
use Rattle.alpha_replay.specs.JournalEnd.{StopsAt, IsRecorded, IsPast}
use Rattle.alpha_replay.proofs.JournaledSteps.{stopped_used, units_over, EndsJournal-some}
use Rattle.alpha_replay.proofs.JournaledRuns.{IsJournaled-single}
use Rattle.alpha_replay.proofs.JournalBounds.{IsJournaled-exists}
use Rattle.alpha_cmd.specs.Outcome.{continues}
use Rattle.alpha_cmd.specs.Answer.{Answer}
use Rattle.alpha_cmd.specs.AnswerBy.{World}
use Rattle.alpha_cmd.specs.Keeping.{Untaken}
use Rattle.alpha_cmd.specs.RunAnswer.{program_by}
use Rattle.alpha_cmd.specs.Commands.Imprecise.{Plan, begins_plan, MadeByReads, MayShowBy, MayShowImprecise}
use Rattle.alpha_cmd.specs.Commands.Imprecise.{answer_imprecise}
use Rattle.alpha_cmd.specs.Commands.Imprecise.{Planned}
use Rattle.alpha_cmd.specs.Commands.Record.{unwatched, RecordedByReads, HasRecorded, HasJournal, ShowsRecorded}
use Rattle.alpha_cmd.specs.Commands.Record.{HasItsJournal, IsStopped, KeepsBehind, IsKeptRun, full_answer, IsFullRun}
use Rattle.alpha_cmd.specs.Commands.Record.{Records, IsEndStatus, form, there}
use Rattle.alpha_cmd.proofs.HasShown.{reads_show}
use Rattle.alpha_cmd.proofs.Lawful.{Lawful, Then-lawful, Goes-lawful}
use Rattle.alpha_cmd.proofs.StageLaws.{Refuses-decided, Refuses-not_taken}
use Rattle.alpha_cmd.proofs.FormLaws.{IsPlain, IsLawfulForm, is_fault}
use Rattle.alpha_cmd.proofs.Commands.Imprecise.{Planned-lawful, planned_good, some_shown, same_shown}
use Rattle.alpha_cmd.proofs.Commands.Imprecise.{MayShowImprecise-MayLose}
use Rattle.alpha_cmd.proofs.Commands.Imprecise.{imprecise-plain}

-- ---- the place where a run stops

module _ (n : ℕ) (g : Program) (bytes : List ℕ) (ahead : ℕ → ℕ) where
  abbrev from : ChosenRun
  from = begun (start g) bytes None 0 (first_words (most_words n) ahead)

  same_place : (k l : ChosenRun) → StopsAt n g bytes ahead k → StopsAt n g bytes ahead l → k ≡ l
  same_place k l h i = IsJournaled-single n g from k l h i

  same_journal : (p q : Parts) → IsRecorded n g bytes ahead p → IsRecorded n g bytes ahead q → p ≡ q
  same_journal p q h i = h.is ∙ (ap (journal_at g.completion) (same_place h.place i.place h.stops i.stops) ∙ sym i.is)

  same_past : (k l : ChosenRun) → IsPast n g bytes ahead k → IsPast n g bytes ahead l → k ≡ l
  same_past k l h i = same_place k l h.stops i.stops

  pub IsRecorded-not_IsPast : (p : Parts) (k : ChosenRun) → IsRecorded n g bytes ahead p → IsPast n g bytes ahead k → ⊥
  IsRecorded-not_IsPast p k h i =
      let no : true ≡ false = sym h.within
      ∙ (ap (λ (x : ChosenRun). is_within (journal_at g.completion x)) (same_place h.place k h.stops i.stops)
      ∙ i.past) in
      cc

  -- the run has a journal, or is stopped
  pub some_end : ((p : Parts) × IsRecorded n g bytes ahead p) ⊎ ((k : ChosenRun) × IsPast n g bytes ahead k)
  some_end =
      let (k, stops) = IsJournaled-exists n g (start g) bytes (first_words (most_words n) ahead) in
      at k stops (is_within (journal_at g.completion k)) refl
    where
      at : (k : ChosenRun) → StopsAt n g bytes ahead k → (b : Bool) → is_within (journal_at g.completion k) ≡ b
          → ((p : Parts) × IsRecorded n g bytes ahead p) ⊎ ((k : ChosenRun) × IsPast n g bytes ahead k)
      at k is true e = inl (journal_at g.completion k, record { place = k; stops = is; within = e; is = refl })
      at k is false e = inr (k, record { stops = is; past = e })

-- ---- the keep

keeps_one : (w : World) (out bytes : List ℕ) (a b c : Answer) → KeepsBehind w out bytes a b
    → KeepsBehind w out bytes a c → b ≡ c
keeps_one w out bytes a b c (inl h) (inl g) = h.1 ∙ sym g.1
keeps_one w out bytes a b c (inl h) (inr g) = absurd (h.0 g.0)
keeps_one w out bytes a b c (inr h) (inl g) = absurd (g.0 h.0)
keeps_one w out bytes a b c (inr h) (inr g) = h.1 ∙ sym g.1

pub keeps_some : (w : World) (out bytes : List ℕ) (a : Answer)
    → (b : Answer) × KeepsBehind w out bytes a b × (b.output ≡ a.output) × (b.trace ≡ a.trace)
keeps_some w out bytes a = by (Refuses-decided w.files (w.takes out (length bytes)))
  where
    by : Untaken w out bytes ⊎ ¬ Untaken w out bytes
        → (b : Answer) × KeepsBehind w out bytes a b × (b.output ≡ a.output) × (b.trace ≡ a.trace)
    by (inl h) = (_, inr (h, refl), refl, refl)
    by (inr h) = (_, inl (h, refl), refl, refl)

-- ---- the stage

-- steps by the words of a plan, before each of which the run goes on and behind which it has stopped
unfoldable pub recorded_by : (options : RunOptions) (plan : Plan)
    (steps : List ImpreciseEvent) (at : StepResult) (rest : List ℕ)
    → RunsImprecisely (program_by options plan.image) (begins_plan options plan) steps at
    → Draws (program_by options plan.image) (begins_plan options plan) 0
    (first_words (most_words options.steps) plan.ahead) steps rest
    → GoesOver options.steps (program_by options plan.image) 0 [] (begins_plan options plan) steps
    → stops_at options.steps options.complete (units (program_by options plan.image) (begins_plan options plan) steps)
    steps at ≡ true → RecordedByReads options plan
recorded_by options plan steps at rest runs draws over stopped =
    let n = options.steps in
    let g = program_by options plan.image in
    let a = begins_plan options plan in
    let words = first_words (most_words n) plan.ahead in
    let most = units_over n g steps 0 [] a (omega arith) over in
    let few = draws_most g steps a at 0 words rest refl runs draws in
    record {
      steps = steps;
      at = at;
      drawn = words_drawn g a 0 words steps;
      runs = runs;
      draws = drawn_exactly g steps a 0 (most_words n) plan.ahead rest draws (omega (arith, few, most));
      goes_over = over;
      stopped = stopped;
      most = omega (arith, most);
    }

recorded_any : (options : RunOptions) (plan : Plan) → RecordedByReads options plan
recorded_any options plan =
    let n = options.steps in
    let g = program_by options plan.image in
    let a = begins_plan options plan in
    let e = EndsJournal-some n g 0 [] a 0 (first_words (most_words n) plan.ahead) (omega arith) in
    recorded_by options plan e.steps e.at e.rest e.runs e.draws e.goes_over
    (subst (λ u. stops_at n options.complete u e.steps e.at ≡ true)
    (let s : 0 + units g a e.steps ≡ units g a e.steps = omega arith in s) e.stopped)

-- within the limits it is a run of all its units, or to its end
pub made_recorded : (options : RunOptions) (plan : Plan) (r : RecordedByReads options plan)
    → is_within (journal_of options.complete r.at.last_event r.steps) ≡ true
    → MadeByReads (unwatched options) plan
made_recorded options plan r within = record {
  steps = r.steps;
  at = r.at;
  drawn = r.drawn;
  runs = r.runs;
  draws = r.draws;
  used =
      stopped_used options.steps options.complete
      (units (program_by options plan.image) (begins_plan options plan) r.steps) r.steps r.at r.most within r.stopped;
}

-- what it may show, and its journal
pub record Journals (options : RunOptions) (force : Bool) (plan : Plan)
    (r : RecordedByReads options plan) : Type 0 where
  pub shown : ShownImprecise
  pub may : MayShowBy (unwatched options) force plan shown
  pub shows : ShowsRecorded options plan shown r
  pub has : HasRecorded options plan (journal_of options.complete r.at.last_event r.steps) r

pub Journals-by_reads : (options : RunOptions) (force : Bool) (plan : Plan) (r : RecordedByReads options plan)
    → is_within (journal_of options.complete r.at.last_event r.steps) ≡ true
    → (force ≡ false → IsRestartable plan.image) → Journals options force plan r
unfolding made_recorded
Journals-by_reads options force plan r within alone =
    let s = reads_show (unwatched options) force plan (made_recorded options plan r within) alone in
    record {
      shown = s.shown;
      may = s.may;
      shows = record {
        end = sym s.has.end;
        lost = sym s.has.lost;
        output = sym s.has.output;
        notes = sym s.has.notes;
        drawn = sym s.has.drawn;
      };
      has = record { within = within; is = refl };
    }

pub has_of : (options : RunOptions) (input : Option (List ℕ)) (plan : Plan) (s : ShownImprecise) (p : Parts)
    → HasItsJournal options input plan s p → HasJournal options input plan p
has_of options None plan s p (r, has, shows) = (r, has)
has_of options (Some input) plan s p has = has

pub kept_same : (options : RunOptions) (input : Option (List ℕ)) (plan : Plan) (p q : Parts) → IsSome input
    → HasJournal options input plan p → HasJournal options input plan q → p ≡ q
kept_same options None plan p q told h g = cc
kept_same options (Some input) plan p q told h g =
    same_journal options.steps (program_by options plan.image) input plan.ahead p q h g

stopped_same : (options : RunOptions) (input : Option (List ℕ)) (plan : Plan) (x y : List ImpreciseEvent) (l m : List ℕ)
    → IsSome input → IsStopped options input plan x l
    → IsStopped options input plan y m → full_answer input x l ≡ full_answer input y m
stopped_same options None plan x y l m told h g = cc
stopped_same options (Some input) plan x y l m told h g =
    let one : full_answer (Some input) x l ≡ full_answer (Some input) h.0.run.steps h.0.run.left =
    λ i. full_answer (Some input) (h.2 i) (h.3 i) in
    let two : full_answer (Some input) y m ≡ full_answer (Some input) g.0.run.steps g.0.run.left =
    λ i. full_answer (Some input) (g.2 i) (g.3 i) in
    let same = same_past options.steps (program_by options plan.image) input plan.ahead h.0 g.0 h.1 g.1 in
    one ∙ (ap (λ (k : ChosenRun). full_answer (Some input) k.run.steps k.run.left) same ∙ sym two)

IsStopped-has_no_journal : (options : RunOptions) (input : Option (List ℕ))
    (plan : Plan) (p : Parts) (x : List ImpreciseEvent) (l : List ℕ)
    → IsSome input → HasJournal options input plan p
    → IsStopped options input plan x l → ⊥
IsStopped-has_no_journal options None plan p x l told h g = cc
IsStopped-has_no_journal options (Some input) plan p x l told h g =
    IsRecorded-not_IsPast options.steps (program_by options plan.image) input plan.ahead p g.0 h g.1

module _ (options : RunOptions) (force : Bool) (out : List ℕ) (w : World) (plan : Plan) where
  kept_one : IsSome w.input → (a b : Answer) → IsKeptRun options force out w plan a
      → IsKeptRun options force out w plan b → a ≡ b
  kept_one told a b h g =
      let shown : h.shown ≡ g.shown =
      same_shown (unwatched options) force w.input plan h.shown g.shown told h.may g.may in
      let journal : h.journal ≡ g.journal = kept_same options w.input plan h.journal g.journal told
      (has_of options w.input plan h.shown h.journal h.has) (has_of options w.input plan g.shown g.journal g.has) in
      keeps_one w out (spelling g.journal) (answer_imprecise w.input g.shown) a b
      (subst (λ (p : Parts). KeepsBehind w out (spelling p) (answer_imprecise w.input g.shown) a) journal
      (subst (λ (s : ShownImprecise). KeepsBehind w out (spelling h.journal) (answer_imprecise w.input s) a) shown
      h.keeps))
      g.keeps

  one : IsSome w.input → (a b : Answer) → IsKeptRun options force out w plan a ⊎ IsFullRun options w plan a
      → IsKeptRun options force out w plan b ⊎ IsFullRun options w plan b → a ≡ b
  one told a b (inl h) (inl g) = kept_one told a b h g
  one told a b (inl h) (inr g) =
      absurd (IsStopped-has_no_journal options w.input plan h.journal g.steps g.left told
      (has_of options w.input plan h.shown h.journal h.has) g.stopped)
  one told a b (inr h) (inl g) =
      absurd (IsStopped-has_no_journal options w.input plan g.journal h.steps h.left told
      (has_of options w.input plan g.shown g.journal g.has) h.stopped)
  one told a b (inr h) (inr g) =
      h.is ∙ (stopped_same options w.input plan h.steps g.steps h.left g.left told h.stopped g.stopped ∙ sym g.is)

  -- an answer, and what its output and its notes are
  pub record HasAnswer (output trace : List ℕ) : Type 0 where
    pub answer : Answer
    pub run : IsKeptRun options force out w plan answer ⊎ IsFullRun options w plan answer
    pub output_is : answer.output ≡ output
    pub trace_is : answer.trace ≡ trace

  -- that of a run that shows this, with such a journal
  pub kept_answer : (s : ShownImprecise) (p : Parts) → MayShowImprecise (unwatched options) force w.input plan s
      → HasItsJournal options w.input plan s p → HasAnswer s.output s.notes
  kept_answer s p may has =
      let a = keeps_some w out (spelling p) (answer_imprecise w.input s) in
      record {
        answer = a.0;
        run = inl (record { shown = s; may = may; journal = p; has = has; keeps = a.1 });
        output_is = a.2;
        trace_is = a.3;
      }

  -- of one that was stopped
  pub stopped_answer : (steps : List ImpreciseEvent) (left : List ℕ) → IsStopped options w.input plan steps left
      → HasAnswer (output_of (seen steps)) (notes_of false (seen steps))
  stopped_answer steps left stopped =
      record {
        answer = full_answer w.input steps left;
        run = inr (record { steps = steps; left = left; stopped = stopped; is = refl });
        output_is = refl;
        trace_is = refl;
      }

  -- and of one whose reads were given whatever a source gave, where the input isn't told
  pub untold_answer : w.input ≡ None → (force ≡ false → IsRestartable plan.image) → (r : RecordedByReads options plan)
      → HasAnswer (output_of (seen r.steps)) (notes_of false (seen r.steps))
  untold_answer untold alone r = by (is_within (journal_of options.complete r.at.last_event r.steps)) refl
    where
      by : (b : Bool) → is_within (journal_of options.complete r.at.last_event r.steps) ≡ b
          → HasAnswer (output_of (seen r.steps)) (notes_of false (seen r.steps))
      by true within =
          let j = Journals-by_reads options force plan r within alone in
          let p = journal_of options.complete r.at.last_event r.steps in
          let may =
          subst (λ (o : Option (List ℕ)). MayShowImprecise (unwatched options) force o plan j.shown)
          (sym untold) j.may in
          let a = kept_answer j.shown p may
          (subst (λ (o : Option (List ℕ)). HasItsJournal options o plan j.shown p) (sym untold) (r, j.has, j.shows)) in
          record {
            answer = a.answer;
            run = a.run;
            output_is = a.output_is ∙ j.shows.output;
            trace_is = a.trace_is ∙ j.shows.notes;
          }
      by false past =
          stopped_answer r.steps []
          (subst (λ (o : Option (List ℕ)). IsStopped options o plan r.steps []) (sym untold) (r, past, refl))

  some : (force ≡ false → IsRestartable plan.image)
      → (a : Answer) × (IsKeptRun options force out w plan a ⊎ IsFullRun options w plan a)
  some alone = by w.input refl
    where
      told : (bytes : List ℕ) → w.input ≡ Some bytes
          → ((p : Parts) × IsRecorded options.steps (program_by options plan.image) bytes plan.ahead p)
          ⊎ ((k : ChosenRun) × IsPast options.steps (program_by options plan.image) bytes plan.ahead k)
          → (a : Answer) × (IsKeptRun options force out w plan a ⊎ IsFullRun options w plan a)
      told bytes is (inl h) =
          let shown = some_shown (unwatched options) force w.input plan in
          let a = kept_answer shown.0 h.0 shown.1
          (subst (λ (o : Option (List ℕ)). HasItsJournal options o plan shown.0 h.0) (sym is) h.1) in
          (a.answer, a.run)
      told bytes is (inr h) =
          let steps = h.0.run.steps in
          let left = h.0.run.left in
          let a = stopped_answer steps left
          (subst (λ (o : Option (List ℕ)). IsStopped options o plan steps left) (sym is) (h.0, h.1, refl, refl)) in
          (a.answer, a.run)

      by : (input : Option (List ℕ)) → w.input ≡ input
          → (a : Answer) × (IsKeptRun options force out w plan a ⊎ IsFullRun options w plan a)
      by None is =
          let r = recorded_any options plan in
          let a = untold_answer is alone r in (a.answer, a.run)
      by (Some bytes) is = told bytes is (some_end options.steps (program_by options plan.image) bytes plan.ahead)

  Records-lawful : (told whole there : Type 0) → (told → IsSome w.input) → (force ≡ false → IsRestartable plan.image)
      → Lawful told whole there (Records options force out w plan)
  Records-lawful told whole there has alone =
      Goes-lawful (λ (a : Answer). IsKeptRun options force out w plan a ⊎ IsFullRun options w plan a)
      (λ h a b p q. one (has h) a b p q) (λ h. some alone)

  -- ---- its statuses

  kept_plain : (there : Type 0)
      → ((p : Parts) → HasJournal options w.input plan p → there → w.takes out (length (spelling p)) ≡ true)
      → (a : Answer) (h : IsKeptRun options force out w plan a)
      → KeepsBehind w out (spelling h.journal) (answer_imprecise w.input h.shown) a → IsPlain there a.status
  kept_plain there has a h (inl k) =
      inl
      (ap (λ (x : Answer). is_fault x.status) k.1 ∙ imprecise-plain h.shown.end h.shown.lost (h.shown.drawn % 2 ^ 64))
  kept_plain there has a h (inr k) =
      inr (
        ap (λ (x : Answer). x.status) k.1,
        λ t. Refuses-not_taken w.files (w.takes out (length (spelling h.journal))) k.0
            (has h.journal (has_of options w.input plan h.shown h.journal h.has) t),
      )

  plain : (there : Type 0)
      → ((p : Parts) → HasJournal options w.input plan p → there → w.takes out (length (spelling p)) ≡ true)
      → (a : Answer) → IsKeptRun options force out w plan a ⊎ IsFullRun options w plan a → IsPlain there a.status
  plain there has a (inl h) = kept_plain there has a h h.keeps
  plain there has a (inr h) = inl (ap (λ (x : Answer). is_fault x.status) h.is)

  kept_status : (a : Answer) (h : IsKeptRun options force out w plan a)
      → KeepsBehind w out (spelling h.journal) (answer_imprecise w.input h.shown) a → IsEndStatus force a.status
  kept_status a h (inl k) =
      inl (
        h.shown.end,
        (
          h.shown.lost,
          (
            h.shown.drawn % 2 ^ 64,
            MayShowImprecise-MayLose (unwatched options) force w.input plan h.shown h.may,
            ap (λ (x : Answer). x.status) k.1,
          ),
        ),
      )
  kept_status a h (inr k) = inr (inr (ap (λ (x : Answer). x.status) k.1))

  has_status : (a : Answer) → IsKeptRun options force out w plan a ⊎ IsFullRun options w plan a
      → IsEndStatus force a.status
  has_status a (inl h) = kept_status a h h.keeps
  has_status a (inr h) = inr (inl (ap (λ (x : Answer). x.status) h.is))

-- a plan that the verdict lets through runs as the sequential machine does
planned_restarts : (force : Bool) (choices : Origin) (file : List ℕ) (files : Files) (plan : Plan)
    → Planned choices force file files (continues plan) → force ≡ false → IsRestartable plan.image
planned_restarts force choices file files plan planned judges =
    let may = planned_good force choices file files plan planned in
    IsAccepted-IsRestartable plan.image may.0 (may.1 judges)

pub record_form-lawful : (options : RunOptions) (choices : Origin) (force : Bool) (file out : List ℕ) (w : World)
    → IsLawfulForm (form options choices force file out) (there options choices force file out) w
record_form-lawful options choices force file out w = record {
  stages =
      Then-lawful {R = Planned choices force file w.files} {S = Records options force out w}
      (Planned-lawful _ _ _ w choices force file (λ h. h.0) (λ h. h) (λ h. h.0) (λ h. h.1))
      (λ plan passed. Records-lawful options force out w plan _ _ _ (λ h. h.1)
      (planned_restarts force choices file w.files plan passed));
  ends = λ a h.
      plain options force out w h.0 (there options choices force file out w) (λ p has t. t.2 h.0 p h.1 has) a h.2;
  status = λ a h. has_status options force out w h.0 a h.2;
}
