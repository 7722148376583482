-- How a run that gets a journal goes on, whatever its steps are given, to where it stops.
use Rattle.std.proofs.Common.{◌≡◌, ◌≤◌, ◌+◌, ◌-◌, ◌==◌, ◌&&◌, ◌||◌, not, ℕ, Bool, true, false, List, [], ◌∷◌, ◌++◌}
use Rattle.std.proofs.Common.{drop, is_none, refl, sym, ap, subst, ◌∙◌, append_assoc, append-nil, arith}
use Rattle.std.proofs.lemmas.Bool.{eq-eqb, eqb-true}
use Rattle.alpha_words.specs.declared.Completion.{Completion}
use Rattle.alpha_seq.specs.State.{Program}
use Rattle.alpha_imprecise.specs.StepResult.{ImpreciseEvent, StepResult}
use Rattle.alpha_imprecise.specs.Run.{finished, next_step_result, RunsImprecisely, unit_of, units}
use Rattle.alpha_imprecise.specs.Used.{HasUsed}
use Rattle.alpha_imprecise.specs.Chosen.{draw, waited_after, Draws}
use Rattle.alpha_run.proofs.ImpreciseShown.{FurtherDraws-step}
use Rattle.alpha_replay.specs.Journaled.{journal_of, is_within, stops_at, GoesOver}
use Rattle.alpha_replay.proofs.JournalBounds.{stop_by, or_false-last, units-room}

-- ---- where it has used its units it has stopped

used_stops : (n : ℕ) (completion : Completion) (used : ℕ) (steps : List ImpreciseEvent) (at : StepResult)
    → HasUsed n used at → stops_at n completion used steps at ≡ true
used_stops n completion used steps at h =
    stop_by (is_within (journal_of completion at.last_event steps)) (finished at.last_event) (is_none at.pending)
    (used == n) h.settled (λ going. eq-eqb used n (h.full going))

used_there : (w f c e : Bool) → w ≡ true → (not w || (f || (c && e))) ≡ true
    → ((f || c) ≡ true) × (f ≡ false → e ≡ true)
used_there false f c e h k = cc
used_there true true c e h k = (refl, λ no. cc)
used_there true false true e h k = (refl, λ no. k)
used_there true false false e h k = cc

-- and where it has stopped within the limits it has used them
pub stopped_used : (n : ℕ) (completion : Completion) (used : ℕ) (steps : List ImpreciseEvent) (at : StepResult)
    → used ≤ n → is_within (journal_of completion at.last_event steps) ≡ true
    → stops_at n completion used steps at ≡ true → HasUsed n used at
stopped_used n completion used steps at most within stopped =
    let there = used_there (is_within (journal_of completion at.last_event steps)) (finished at.last_event)
    (is_none at.pending) (used == n) within stopped in
    record { settled = there.0; most = most; full = λ going. eqb-true used n (there.1 going) }

-- it uses no more than its units
pub units_over : (n : ℕ) (g : Program) (hs : List ImpreciseEvent)
    (used : ℕ) (before : List ImpreciseEvent) (a : StepResult)
    → used ≤ n → GoesOver n g used before a hs → used + units g a hs ≤ n
units_over n g [] used before a most goes = omega (arith, most)
units_over n g (h ∷ hs) used before a most goes =
    let rest = units_over n g hs (used + unit_of a.pending) (before ++ h ∷ []) (next_step_result g a h)
    (units-room n a.pending used (or_false-last _ _ _ goes.0) most) goes.1 in
    omega (arith, rest)

-- ---- steps behind others

stops_at-regrouped : (n : ℕ) (completion : Completion) (u v w : ℕ) (before : List ImpreciseEvent) (h : ImpreciseEvent)
    (hs : List ImpreciseEvent) (b : StepResult)
    → stops_at n completion (u + (v + w)) (before ++ h ∷ hs) b
    ≡ stops_at n completion ((u + v) + w) ((before ++ h ∷ []) ++ hs) b
stops_at-regrouped n completion u v w before h hs b =
    ap (λ k. stops_at n completion k (before ++ h ∷ hs) b) (let e : u + (v + w) ≡ (u + v) + w = omega arith in e)
    ∙ ap (λ l. stops_at n completion ((u + v) + w) l b) (sym (append_assoc before (h ∷ []) hs))

pub GoesOver-append : (n : ℕ) (g : Program) (xs ys : List ImpreciseEvent)
    (used : ℕ) (before : List ImpreciseEvent) (a b : StepResult)
    → RunsImprecisely g a xs b → GoesOver n g used before a xs
    → GoesOver n g (used + units g a xs) (before ++ xs) b ys → GoesOver n g used before a (xs ++ ys)
GoesOver-append n g [] ys used before a b run one two =
    subst (λ (m : StepResult). GoesOver n g used before m ys) (sym run)
    (subst (λ l. GoesOver n g used l b ys) (append-nil before)
    (subst (λ u. GoesOver n g u (before ++ []) b ys) (let e : used + 0 ≡ used = omega arith in e) two))
GoesOver-append n g (x ∷ xs) ys used before a b run one two =
    let u = unit_of a.pending in
    let m = units g (next_step_result g a x) xs in (
      one.0,
      GoesOver-append n g xs ys (used + u) (before ++ x ∷ []) (next_step_result g a x) b run.2 one.1
          (subst (λ l. GoesOver n g ((used + u) + m) l b ys) (sym (append_assoc before (x ∷ []) xs))
          (subst (λ k. GoesOver n g k (before ++ x ∷ xs) b ys)
          (let e : used + (u + m) ≡ (used + u) + m = omega arith in e) two)),
    )

-- ---- where it stops

-- Behind so many units and these steps it goes on over others, and has stopped behind them.
pub record EndsJournal (n : ℕ) (g : Program) (used : ℕ) (before : List ImpreciseEvent) (a : StepResult) (waited : ℕ)
    (words : List ℕ) : Type 0 where
  pub steps : List ImpreciseEvent
  pub at : StepResult
  pub rest : List ℕ
  pub runs : RunsImprecisely g a steps at
  pub draws : Draws g a waited words steps rest
  pub goes_over : GoesOver n g used before a steps
  pub stopped : stops_at n g.completion (used + units g a steps) (before ++ steps) at ≡ true

stops_here : (n : ℕ) (g : Program) (used : ℕ) (before : List ImpreciseEvent)
    (a : StepResult) (waited : ℕ) (words : List ℕ)
    → stops_at n g.completion used before a ≡ true → EndsJournal n g used before a waited words
stops_here n g used before a waited words e = record {
  steps = [];
  at = a;
  rest = words;
  runs = refl;
  draws = refl;
  goes_over = tt;
  stopped =
      subst (λ l. stops_at n g.completion (used + 0) l a ≡ true) (sym (append-nil before))
      (subst (λ u. stops_at n g.completion u before a ≡ true) (let s : used ≡ used + 0 = omega arith in s) e);
}

first_stop : (n : ℕ) (g : Program) (hs : List ImpreciseEvent) (used : ℕ)
    (before : List ImpreciseEvent) (a b : StepResult) (waited : ℕ) (words rest : List ℕ)
    → RunsImprecisely g a hs b
    → Draws g a waited words hs rest → stops_at n g.completion (used + units g a hs) (before ++ hs) b ≡ true
    → EndsJournal n g used before a waited words
first_stop n g [] used before a b waited words rest run draws stopped =
    record { steps = []; at = b; rest = rest; runs = run; draws = draws; goes_over = tt; stopped = stopped }
first_stop n g (h ∷ hs) used before a b waited words rest run draws stopped =
    let n1 = (draw g a.state a.pending waited words).count in
    by (stops_at n g.completion used before a) refl
    (first_stop n g hs (used + unit_of a.pending) (before ++ h ∷ []) (next_step_result g a h) b (waited_after h waited)
    (drop n1 words) rest run.2 draws.1
    (sym
    (stops_at-regrouped n g.completion used (unit_of a.pending) (units g (next_step_result g a h) hs) before h hs b)
    ∙ stopped))
  where
    by : (c : Bool) → stops_at n g.completion used before a ≡ c
        → EndsJournal n g (used + unit_of a.pending) (before ++ h ∷ []) (next_step_result g a h) (waited_after h waited)
        (drop (draw g a.state a.pending waited words).count words)
        → EndsJournal n g used before a waited words
    by true e r = stops_here n g used before a waited words e
    by false e r = record {
      steps = h ∷ r.steps;
      at = r.at;
      rest = r.rest;
      runs = (run.0, run.1, r.runs);
      draws = (draws.0, r.draws);
      goes_over = (e, r.goes_over);
      stopped =
          stops_at-regrouped n g.completion used (unit_of a.pending)
          (units g (next_step_result g a h) r.steps) before h r.steps r.at
          ∙ r.stopped;
    }

pub EndsJournal-some : (n : ℕ) (g : Program) (used : ℕ) (before : List ImpreciseEvent)
    (a : StepResult) (waited : ℕ) (words : List ℕ)
    → used ≤ n → EndsJournal n g used before a waited words
EndsJournal-some n g used before a waited words most =
    let more = FurtherDraws-step g (n - used) a.state a.pending a.last_event waited words in
    let all : HasUsed n (used + units g a more.steps) more.at = record {
      settled = more.used.settled;
      most = omega (arith, more.used.most, most);
      full = λ going. omega (arith, more.used.full going, most);
    } in
    first_stop n g more.steps used before a more.at waited words more.rest more.runs more.draws
    (used_stops n g.completion (used + units g a more.steps) (before ++ more.steps) more.at all)
