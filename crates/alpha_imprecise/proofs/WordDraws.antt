-- How many words steps draw at most.
use Rattle.std.proofs.Common.{◌≡◌, ◌<◌, ◌≤◌, ◌+◌, ◌-◌, ◌*◌, ◌%◌, ℕ, zero, suc, Bool, true, false, cond, leb, eqb, not}
use Rattle.std.proofs.Common.{List, [], ◌∷◌, ◌++◌, length, drop, Option, Some, None, refl, sym, ap, subst, ◌∙◌, arith}
use Rattle.std.proofs.Common.{append-nil, length-append, length-drop}
use Rattle.std.proofs.lemmas.Bool.{leb-false, or_parts}
use Rattle.alpha_table.specs.Class.{Class}
use Rattle.alpha_seq.specs.State.{Program, State}
use Rattle.alpha_seq.specs.Step.{next_class, step}
use Rattle.alpha_imprecise.specs.StepResult.{Trap, ImpreciseEvent, StepResult}
use Rattle.alpha_imprecise.specs.Step.{triggers, triggered, precisely, can_wait}
use Rattle.alpha_imprecise.specs.Run.{finished, given_to, next_step_result, RunsImprecisely, unit_of, units}
use Rattle.alpha_imprecise.specs.Chosen.{most_waited, first_word, Draw, reporting, triggering, executing, must_report}
use Rattle.alpha_imprecise.specs.Chosen.{draw_at, draw, chosen, waited_after, Draws}
use Rattle.alpha_imprecise.specs.ChosenRun.{most_words}
use Rattle.alpha_imprecise.proofs.ChosenRuns.{BecomesSettled, none, over, longer, chosen_settles}
use Rattle.alpha_imprecise.proofs.EffectiveChoices.{next_step_result-by}

-- ---- one step

-- with a trap pending two words are drawn at most, and none where it has waited long enough
two_most : (o : Option Class) (s : State) (t : Trap) (n : ℕ) (words : List ℕ) → n ≤ most_waited
    → (draw_at o s (Some t) n words).count ≤ 2 * (most_waited - n)
two_most o s t n words most = by (must_report o s n) refl
  where
    drawn : (b : Bool) → n < most_waited
        → (cond b (reporting 1) (executing (first_word words) (first_word (drop 1 words)))).count
        ≤ 2 * (most_waited - n)
    drawn true low = omega arith
    drawn false low = omega arith

    by : (b : Bool) → must_report o s n ≡ b
        → (cond b (reporting 0) (cond (eqb (first_word words % 4) 0) (reporting 1)
        (executing (first_word words) (first_word (drop 1 words))))).count
        ≤ 2 * (most_waited - n)
    by true e = omega arith
    by false e =
        drawn (eqb (first_word words % 4) 0)
        (leb-false most_waited n (or_parts (not (can_wait o s)) (leb most_waited n) e).1)

two_words : (o : Option Class) (s : State) (t : Trap) (n : ℕ) (words : List ℕ)
    → (draw_at o s (Some t) n words).count ≤ 2
two_words o s t n words = by (must_report o s n) (eqb (first_word words % 4) 0)
  where
    by : (b c : Bool)
        → (cond b (reporting 0) (cond c (reporting 1) (executing (first_word words) (first_word (drop 1 words))))).count
        ≤ 2
    by true c = omega arith
    by false true = omega arith
    by false false = omega arith

-- with nothing pending one word is drawn at most
pub one_word : (o : Option Class) (s : State) (n : ℕ) (words : List ℕ) → (draw_at o s None n words).count ≤ 1
one_word o s n words = by (triggers o s)
  where
    by : (b : Bool) → (cond b (triggering (first_word words)) (reporting 0)).count ≤ 1
    by true = omega arith
    by false = omega arith

-- ---- steps in a row

-- how many words they draw of these
abbrev pub words_drawn : Program → StepResult → ℕ → List ℕ → List ImpreciseEvent → ℕ
words_drawn g a waited words [] = 0
words_drawn g a waited words (h ∷ hs) =
    let n = (draw g a.state a.pending waited words).count in
    n + words_drawn g (next_step_result g a h) (waited_after h waited) (drop n words) hs

-- What was drawn is no more than the units draw; while a trap is pending, not even with the words for which it may
-- still wait.
data IsWithinUnits (a : StepResult) (waited count used : ℕ) : Type 0 where
  ended : finished a.last_event ≡ true → count ≤ 2049 * used → IsWithinUnits a waited count used
  low_with_nothing_pending : a.pending ≡ None → count ≤ 2049 * used → IsWithinUnits a waited count used
  waits : (t : Trap) → a.pending ≡ Some t → waited ≤ most_waited → count + 2 * (most_waited - waited) ≤ 2049 * used
      → IsWithinUnits a waited count used

low_most : (a : StepResult) (waited count used : ℕ) → IsWithinUnits a waited count used → count ≤ 2049 * used
low_most a waited count used (ended e low) = low
low_most a waited count used (low_with_nothing_pending e low) = low
low_most a waited count used (waits t e below low) = omega (arith, low)

-- whatever is pending, if it may still wait as long
low_by : (a : StepResult) (waited count used : ℕ) → waited ≤ most_waited
    → count + 2 * (most_waited - waited) ≤ 2049 * used → IsWithinUnits a waited count used
low_by a waited count used below low = by a.pending refl
  where
    by : (p : Option Trap) → a.pending ≡ p → IsWithinUnits a waited count used
    by None e = low_with_nothing_pending e (omega (arith, low))
    by (Some t) e = waits t e below low

module _ (g : Program) where
  -- a step with nothing pending begins to count
  fresh : (s : State) (waited : ℕ) (words input : List ℕ)
      → waited_after (chosen g s None waited words input).last_event waited ≡ 0
  fresh s waited words input = by (triggers (next_class g s.pc) s)
    where
      by : (b : Bool) → waited_after (cond b (triggered g (next_class g s.pc) s (draw g s None waited words).choice)
          (precisely (step g (next_class g s.pc) s input))).last_event waited ≡ 0
      by true = refl
      by false = refl

  low_more : (s : State) (p : Option Trap) (happened : ImpreciseEvent) (waited count used : ℕ) (words input : List ℕ)
      → finished happened ≡ false
      → IsWithinUnits (record { state = s; pending = p; last_event = happened }) waited count used
      → let m = chosen g s p waited words input in
      IsWithinUnits m (waited_after m.last_event waited) (count + (draw g s p waited words).count) (used + unit_of p)
  low_more s None happened waited count used words input going low =
      let one = one_word (next_class g s.pc) s waited words in
      let start = fresh s waited words input in
      let least = low_most _ waited count used low in
      low_by _ _ _ _ (omega arith) (omega arith)
  low_more s (Some t) happened waited count used words input going (ended e low) =
      absurd (let no : true ≡ false = sym e ∙ going in cc)
  low_more s (Some t) happened waited count used words input going (low_with_nothing_pending e low) = absurd cc
  low_more s (Some t) happened waited count used words input going (waits u e below low) =
      by (chosen_settles g s t waited words input)
    where
      m : StepResult
      m = chosen g s (Some t) waited words input

      by : BecomesSettled waited m
          → IsWithinUnits m (waited_after m.last_event waited) (count + (draw g s (Some t) waited words).count)
          (used + 0)
      by (none q) =
          let most = two_most (next_class g s.pc) s t waited words below in
          low_with_nothing_pending q (omega arith)
      by (over q) = let most = two_most (next_class g s.pc) s t waited words below in ended q (omega arith)
      by (longer adds value bytes q less) =
          let two = two_words (next_class g s.pc) s t waited words in
          let more : waited_after m.last_event waited ≡ waited + 1 =
          ap (λ (x : ImpreciseEvent). waited_after x waited) q in
          low_by _ _ _ _ (omega arith) (omega arith)

  all_low : (hs : List ImpreciseEvent) (a b : StepResult) (waited count used : ℕ) (words rest : List ℕ)
      → RunsImprecisely g a hs b → Draws g a waited words hs rest → IsWithinUnits a waited count used
      → count + words_drawn g a waited words hs ≤ 2049 * (used + units g a hs)
  all_low [] a b waited count used words rest run draws low = let most = low_most a waited count used low in omega arith
  all_low (h ∷ hs) a b waited count used words rest run draws low =
      let d = draw g a.state a.pending waited words in
      let m : StepResult = chosen g a.state a.pending waited words (given_to h) in
      let same : next_step_result g a h ≡ m = next_step_result-by g a d.choice h draws.0 in
      let more = low_more a.state a.pending a.last_event waited count used words (given_to h) run.0 low in
      let here =
      subst (λ (n : StepResult). IsWithinUnits n (waited_after h waited) (count + d.count) (used + unit_of a.pending))
      (sym same)
      (subst
      (λ (x : ImpreciseEvent). IsWithinUnits m (waited_after x waited) (count + d.count) (used + unit_of a.pending))
      draws.0 more) in
      let all = all_low hs (next_step_result g a h) b (waited_after h waited) (count + d.count)
      (used + unit_of a.pending) (drop d.count words) rest run.2 draws.1 here in
      omega arith

  -- from a moment with nothing pending steps draw no more than their units do
  pub draws_most : (hs : List ImpreciseEvent) (a b : StepResult) (waited : ℕ) (words rest : List ℕ) → a.pending ≡ None
      → RunsImprecisely g a hs b → Draws g a waited words hs rest
      → words_drawn g a waited words hs ≤ most_words (units g a hs)
  draws_most hs a b waited words rest nothing run draws =
      let all = all_low hs a b waited 0 0 words rest run draws (low_with_nothing_pending nothing (omega arith)) in
      omega arith

  -- what is left is behind as many words
  draws_left : (hs : List ImpreciseEvent) (a : StepResult) (waited : ℕ) (words rest : List ℕ)
      → Draws g a waited words hs rest → length rest ≡ length words - words_drawn g a waited words hs
  draws_left [] a waited words rest draws = let same = ap (λ (l : List ℕ). length l) draws in omega arith
  draws_left (h ∷ hs) a waited words rest draws =
      let n = (draw g a.state a.pending waited words).count in
      let rest_left = draws_left hs (next_step_result g a h) (waited_after h waited) (drop n words) rest draws.1 in
      omega (arith, length-drop n words)

  -- these words draw steps whatever comes behind them: there are no more of them than the units draw
  pub words_most : (hs : List ImpreciseEvent) (a b : StepResult) (waited : ℕ) (words : List ℕ) → a.pending ≡ None
      → RunsImprecisely g a hs b
      → ((coming : List ℕ) → Draws g a waited (words ++ coming) hs coming) → length words ≤ most_words (units g a hs)
  words_most hs a b waited words nothing run draws =
      let one = draws_left hs a waited (words ++ 0 ∷ []) (0 ∷ []) (draws (0 ∷ [])) in
      let most = draws_most hs a b waited (words ++ 0 ∷ []) (0 ∷ []) nothing run (draws (0 ∷ [])) in
      let size = length-append words (0 ∷ []) in
      omega arith

  -- ---- words that are all that steps draw

  -- behind the last one come zeros, so that these lists are the same words
  abbrev SameWords : List ℕ → List ℕ → Type 0
  SameWords l m = (i : ℕ) → first_word (drop i l) ≡ first_word (drop i m)

  drop_none : (i : ℕ) → first_word (drop i []) ≡ 0
  drop_none zero = refl
  drop_none (suc i) = refl

  one_zero : (l : List ℕ) → SameWords (l ++ 0 ∷ []) l
  one_zero [] zero = refl
  one_zero [] (suc i) = drop_none i
  one_zero (x ∷ l) zero = refl
  one_zero (x ∷ l) (suc i) = one_zero l i

  drop_empty : (k : ℕ) → let none : List ℕ = [] in drop k none ≡ none
  drop_empty zero = refl
  drop_empty (suc k) = refl

  drop_twice : (n i : ℕ) (l : List ℕ) → drop i (drop n l) ≡ drop (n + i) l
  drop_twice zero i l = ap (λ k. drop k l) (let e : i ≡ 0 + i = omega arith in e)
  drop_twice (suc n) i [] = drop_empty i ∙ sym (drop_empty (suc n + i))
  drop_twice (suc n) i (x ∷ l) =
      drop_twice n i l ∙ ap (λ k. drop k (x ∷ l)) (let e : suc (n + i) ≡ suc n + i = omega arith in e)

  same_behind : (n : ℕ) (l m : List ℕ) → SameWords l m → SameWords (drop n l) (drop n m)
  same_behind n l m same =
      λ i. ap first_word (drop_twice n i l) ∙ (same (n + i) ∙ ap first_word (sym (drop_twice n i m)))

  same_draw : (o : Option Class) (s : State) (p : Option Trap) (n : ℕ) (l m : List ℕ) → SameWords l m
      → draw_at o s p n l ≡ draw_at o s p n m
  same_draw o s None n l m same = ap (λ a. cond (triggers o s) (triggering a) (reporting 0)) (same 0)
  same_draw o s (Some t) n l m same =
      ap (λ a.
      cond (must_report o s n) (reporting 0) (cond (eqb (a % 4) 0) (reporting 1) (executing a (first_word (drop 1 l)))))
      (same 0)
      ∙ ap (λ b. cond (must_report o s n) (reporting 0)
      (cond (eqb (first_word m % 4) 0) (reporting 1) (executing (first_word m) b)))
      (same 1)

  same_drawn : (hs : List ImpreciseEvent) (a : StepResult) (waited : ℕ) (l m : List ℕ) → SameWords l m
      → words_drawn g a waited l hs ≡ words_drawn g a waited m hs
  same_drawn [] a waited l m same = refl
  same_drawn (h ∷ hs) a waited l m same =
      let one = ap (λ (d : Draw). d.count) (same_draw (next_class g a.state.pc) a.state a.pending waited l m same) in
      let n = (draw g a.state a.pending waited m).count in
      ap (λ k. k + words_drawn g (next_step_result g a h) (waited_after h waited) (drop k l) hs) one
      ∙ ap (λ k. n + k)
      (same_drawn hs (next_step_result g a h) (waited_after h waited) (drop n l) (drop n m) (same_behind n l m same))

  -- steps that these words choose, whatever comes behind them, draw them all
  words_some : (hs : List ImpreciseEvent) (a : StepResult) (waited : ℕ) (words : List ℕ) (x : ℕ) (coming : List ℕ)
      → ((more : List ℕ) → Draws g a waited (words ++ more) hs more)
      → words_drawn g a waited (words ++ x ∷ coming) hs ≡ length words
  words_some hs a waited words x coming draws =
      let left = draws_left hs a waited (words ++ x ∷ coming) (x ∷ coming) (draws (x ∷ coming)) in
      let size = length-append words (x ∷ coming) in
      omega arith

  pub words_all : (hs : List ImpreciseEvent) (a : StepResult) (waited : ℕ) (words coming : List ℕ)
      → ((more : List ℕ) → Draws g a waited (words ++ more) hs more)
      → words_drawn g a waited (words ++ coming) hs ≡ length words
  words_all hs a waited words [] draws =
      same_drawn hs a waited (words ++ []) (words ++ 0 ∷ [])
      (λ i. ap (λ l. first_word (drop i l)) (append-nil words) ∙ sym (one_zero words i))
      ∙ words_some hs a waited words 0 [] draws
  words_all hs a waited words (x ∷ coming) draws = words_some hs a waited words x coming draws
