-- Words that steps draw, no more of them and no fewer.
use Rattle.std.proofs.Common.{◌≡◌, ◌∙◌, ◌≤◌, ◌+◌, ◌%◌, ℕ, zero, suc, Bool, true, false, cond, eqb, List, [], ◌∷◌, ◌++◌}
use Rattle.std.proofs.Common.{length, take, drop, Option, Some, None, refl, sym, ap, subst, append-nil, length-append}
use Rattle.std.proofs.Common.{length-drop, arith}
use Rattle.alpha_table.specs.Class.{Class}
use Rattle.alpha_seq.specs.State.{Program, State}
use Rattle.alpha_seq.specs.Step.{next_class}
use Rattle.alpha_imprecise.specs.StepResult.{Trap, ImpreciseEvent, StepResult}
use Rattle.alpha_imprecise.specs.Step.{triggers, imprecise_step}
use Rattle.alpha_imprecise.specs.Run.{given_to, next_step_result}
use Rattle.alpha_imprecise.specs.Chosen.{first_word, Draw, reporting, triggering, executing, must_report, draw_at, draw}
use Rattle.alpha_imprecise.specs.Chosen.{waited_after, Draws}
use Rattle.alpha_imprecise.specs.ChosenRun.{first_words}
use Rattle.alpha_imprecise.specs.Oracle.{Oracle, OracleDraws}
use Rattle.alpha_imprecise.proofs.WordDraws.{words_drawn}
use Rattle.alpha_imprecise.proofs.FreshRuns.{OracleDraws-Starts}

-- ---- the words that are told

length-first : (n : ℕ) (ahead : ℕ → ℕ) → length (first_words n ahead) ≡ n
unfolding first_words
length-first zero ahead = refl
length-first (suc n) ahead = let rest = length-first n (λ k. ahead (suc k)) in omega (arith, rest)

take-first : (m n : ℕ) (ahead : ℕ → ℕ) → m ≤ n → take m (first_words n ahead) ≡ first_words m ahead
unfolding first_words
take-first zero n ahead low = refl
take-first (suc m) zero ahead low = absurd (omega (arith, low))
take-first (suc m) (suc n) ahead low = ap (λ l. ahead 0 ∷ l) (take-first m n (λ k. ahead (suc k)) (omega (arith, low)))

empty-from_length : (l : List ℕ) → length l ≡ 0 → l ≡ []
empty-from_length [] e = refl
empty-from_length (x ∷ l) e = absurd (omega (arith, e))

-- those that a chooser went on by are the first ones that it tells
pub OracleDraws-first_words : (before after : Oracle) (ahead : ℕ → ℕ) (words : List ℕ) → before.ahead ≡ Some ahead
    → OracleDraws before after words → first_words (length words) ahead ≡ words
OracleDraws-first_words before after ahead words tells drew =
    let s = OracleDraws-Starts before after ahead words (length words) tells drew (omega arith) in
    let size = ap (λ (l : List ℕ). length l) s.is in
    let none =
    empty-from_length s.coming (omega (arith, length-append words s.coming, length-first (length words) ahead, size)) in
    s.is ∙ (ap (λ l. words ++ l) none ∙ append-nil words)

-- ---- what a draw looks at

-- by whether it must be reported, and whether it is
abbrev draw_while_pending : Bool → Bool → ℕ → ℕ → Draw
draw_while_pending must report x y = cond must (reporting 0) (cond report (reporting 1) (executing x y))

draw_front : (o : Option Class) (s : State) (p : Option Trap) (n : ℕ) (front x y : List ℕ)
    → (draw_at o s p n (front ++ x)).count ≤ length front
    → draw_at o s p n (front ++ x) ≡ draw_at o s p n (front ++ y)
draw_front o s None n [] x y low = by (triggers o s) low
  where
    by : (b : Bool) → (cond b (triggering (first_word x)) (reporting 0)).count ≤ 0
        → cond b (triggering (first_word x)) (reporting 0) ≡ cond b (triggering (first_word y)) (reporting 0)
    by true low = absurd (omega (arith, low))
    by false low = refl
draw_front o s (Some t) n [] x y low = by (must_report o s n) (eqb (first_word x % 4) 0) low
  where
    by : (b c : Bool) → (draw_while_pending b c (first_word x) (first_word (drop 1 x))).count ≤ 0
        → draw_while_pending b c (first_word x) (first_word (drop 1 x))
        ≡ draw_while_pending b (eqb (first_word y % 4) 0) (first_word y) (first_word (drop 1 y))
    by true c low = refl
    by false true low = absurd (omega (arith, low))
    by false false low = absurd (omega (arith, low))
draw_front o s None n (z ∷ l) x y low = refl
draw_front o s (Some t) n (z ∷ []) x y low = by (must_report o s n) (eqb (z % 4) 0) low
  where
    by : (b c : Bool) → (draw_while_pending b c z (first_word x)).count ≤ 1
        → draw_while_pending b c z (first_word x) ≡ draw_while_pending b c z (first_word y)
    by true c low = refl
    by false true low = refl
    by false false low = absurd (omega (arith, low))
draw_front o s (Some t) n (z ∷ v ∷ l) x y low = refl

-- ---- steps in a row

split_at : (k : ℕ) (l : List ℕ) → l ≡ take k l ++ drop k l
split_at zero l = refl
split_at (suc k) [] = refl
split_at (suc k) (x ∷ l) = ap (λ m. x ∷ m) (split_at k l)

length-take : (k : ℕ) (l : List ℕ) → k ≤ length l → length (take k l) ≡ k
length-take zero l low = refl
length-take (suc k) [] low = absurd (omega (arith, low))
length-take (suc k) (x ∷ l) low = let rest = length-take k l (omega (arith, low)) in omega (arith, rest)

drop-front : (n m k : ℕ) (l coming : List ℕ) → k ≡ n + m → k ≤ length l
    → drop n (take k l ++ coming) ≡ take m (drop n l) ++ coming
drop-front zero m k l coming is low = ap (λ j. take j l ++ coming) (let e : k ≡ m = omega (arith, is) in e)
drop-front (suc n) m zero l coming is low = absurd (omega (arith, is))
drop-front (suc n) m (suc k) [] coming is low = absurd (omega (arith, low))
drop-front (suc n) m (suc k) (x ∷ l) coming is low = drop-front n m k l coming (omega (arith, is)) (omega (arith, low))

-- where there are as many words as steps draw, the first of these draw them, whatever comes behind
draws_front : (g : Program) (hs : List ImpreciseEvent) (a : StepResult) (waited : ℕ) (words rest : List ℕ)
    → Draws g a waited words hs rest → words_drawn g a waited words hs ≤ length words
    → (coming : List ℕ) → Draws g a waited (take (words_drawn g a waited words hs) words ++ coming) hs coming
draws_front g [] a waited words rest draws low coming = refl
draws_front g (h ∷ hs) a waited words rest draws low coming =
    let n = (draw g a.state a.pending waited words).count in
    let m = words_drawn g (next_step_result g a h) (waited_after h waited) (drop n words) hs in
    let front = take (n + m) words in
    let size = length-take (n + m) words low in
    let split = split_at (n + m) words in
    let o = next_class g a.state.pc in
    let few : (draw_at o a.state a.pending waited (front ++ drop (n + m) words)).count ≤ length front =
    subst (λ l. (draw_at o a.state a.pending waited l).count ≤ length front) split (omega (arith, size)) in
    let same : draw g a.state a.pending waited words ≡ draw g a.state a.pending waited (front ++ coming) =
    ap (λ l. draw_at o a.state a.pending waited l) split
    ∙ draw_front o a.state a.pending waited front (drop (n + m) words) coming few in
    let behind = draws_front g hs (next_step_result g a h) (waited_after h waited) (drop n words) rest draws.1
    (omega (arith, low, length-drop n words)) coming in (
      ap (λ (d : Draw). (imprecise_step g a.state a.pending d.choice (given_to h)).last_event) (sym same) ∙ draws.0,
      subst (λ (d : Draw).
          Draws g (next_step_result g a h) (waited_after h waited) (drop d.count (front ++ coming)) hs coming)
          same
          (subst (λ l. Draws g (next_step_result g a h) (waited_after h waited) l hs coming)
          (sym (drop-front n m (n + m) words coming refl low)) behind),
    )

pub drawn_exactly : (g : Program) (hs : List ImpreciseEvent)
    (a : StepResult) (waited n : ℕ) (ahead : ℕ → ℕ) (rest : List ℕ)
    → Draws g a waited (first_words n ahead) hs rest
    → words_drawn g a waited (first_words n ahead) hs ≤ n → (coming : List ℕ)
    → Draws g a waited (first_words (words_drawn g a waited (first_words n ahead) hs) ahead ++ coming) hs coming
drawn_exactly g hs a waited n ahead rest draws low coming =
    let d = words_drawn g a waited (first_words n ahead) hs in
    subst (λ l. Draws g a waited (l ++ coming) hs coming) (take-first d n ahead low)
    (draws_front g hs a waited (first_words n ahead) rest draws (omega (arith, low, length-first n ahead)) coming)
