-- Moves that the code made, and rows of them.
use Rattle.std.proofs.Common.{◌≡◌, ◌<◌, ◌+◌, ◌-◌, ◌&&◌, not, ℕ, zero, suc, Bool, true, false, cond, List, [], ◌∷◌, ◌++◌}
use Rattle.std.proofs.Common.{length, take, drop, Option, Some, None, Result, refl, sym, ap, subst, ◌∙◌, append_assoc}
use Rattle.std.proofs.Common.{append-nil, option_and_then, arith, add-one}
use Rattle.alpha_seq.specs.declared.event.Event.{Event}
use Rattle.alpha_seq.specs.State.{Program, Event as Happened}
use Rattle.alpha_seq.specs.Run.{taken, output, Fed}
use Rattle.alpha_seq.specs.Machine.{program_of, state_of, class_here}
use Rattle.alpha_seq.specs.StepLabel.{StepLabel, is_over}
use Rattle.alpha_imprecise.specs.StepResult.{Choice, ImpreciseEvent, StepResult}
use Rattle.alpha_imprecise.specs.Step.{imprecise_step}
use Rattle.alpha_imprecise.specs.Run.{seen_of, seen, finished, given_to, unit_of}
use Rattle.alpha_imprecise.specs.Chosen.{waited_after}
use Rattle.alpha_imprecise.specs.ChoiceSource.{asked}
use Rattle.alpha_imprecise.specs.ImpreciseState.{ImpreciseState, trap_in, waited_in, step_result_of}
use Rattle.alpha_replay.specs.declared.compare.Compared.{Compared}
use Rattle.alpha_replay.specs.declared.item.Item.{Item}
use Rattle.alpha_replay.specs.declared.moves.Move.{Move}
use Rattle.alpha_replay.specs.declared.moves.Move.TheVariants.{One}
use Rattle.alpha_replay.specs.declared.play.Cursor.{Cursor}
use Rattle.alpha_replay.specs.Compared.{Sees}
use Rattle.alpha_replay.specs.Events.{move_by, put_by}
use Rattle.alpha_replay.specs.FixedChoice.{given_choice}
use Rattle.alpha_replay.specs.Moves.{choice_of, move_applies}
use Rattle.alpha_replay.specs.Listed.{Played, played_by, move, units, item, listed_then, listed_from}
use Rattle.alpha_replay.specs.ReplayEffect.{Place, place, program_at, IsLast, played_at, ReplayEffect, Fails, Plays}
use Rattle.alpha_replay.specs.ReplayEffect.{StopsAt, Moved}
use Rattle.alpha_imprecise.proofs.EffectiveChoices.{asked_for, left_behind, imprecise_step-over_input, Fed-split_event}
use Rattle.alpha_imprecise.proofs.ImpreciseSequence.{seen_steps-append}
use Rattle.alpha_run.proofs.StepRows.{output-append}
use Rattle.std.proofs.lemmas.List.{length-drop}
use Rattle.alpha_replay.proofs.MovesOfSteps.{MoveFits, given-fits, IsLast-shown_as}
use Rattle.alpha_replay.proofs.StepBytes.{passed-took}

-- ---- one move

-- the next move, by the tests that it must pass
abbrev move_if : Bool → Bool → Played → Option Played
move_if over suit p = cond (not over && suit) (Some p) None

tested_suits : (over : Bool) (p : Played) → move_if over false p ≡ None
tested_suits true p = refl
tested_suits false p = refl

module _ (m : Move) (old : ImpreciseState) (input : List ℕ) (from : Cursor) where
  abbrev g : Program
  g = program_of old.machine

  abbrev from_place : Place
  from_place = place old input from

  abbrev suits_here : Bool
  suits_here =
      move_applies (class_here old.machine) (state_of old.machine) (trap_in old.pending) (waited_in old.pending) m

  abbrev moved_here : ImpreciseEvent → List ImpreciseEvent → ℕ → Played
  moved_here h before n =
      played_by (played_at from_place h before n)
      (imprecise_step g (state_of old.machine) (trap_in old.pending) (choice_of m) input)

  pub fails_over : is_over from.last ≡ true → Fails (λ g p. move g p m) from_place
  fails_over e = λ h last before n. ap (λ (b : Bool). move_if b suits_here (moved_here h before n)) (sym last.over ∙ e)

  module _ (new : ImpreciseState) (left : List ℕ) (last : Event) (moved : Moved m last old new input left) where
    abbrev c : Choice
    c = given_choice m (asked old)

    abbrev p : StepLabel
    p = moved.label

    abbrev went : ImpreciseEvent
    went = moved.is.last_event

    -- whether the step that was made is this move
    fits_as : MoveFits g (class_here old.machine) (state_of old.machine) (trap_in old.pending)
        (waited_in old.pending) c m
        (move_by p.event)
    fits_as = given-fits old p new m moved.is

    pub fails_fitting : (move_by last ≡ m → ⊥) → Fails (λ g p. move g p m) from_place
    fails_fitting other = λ h is before n.
        ap (λ (b : Bool). move_if (finished h) b (moved_here h before n))
        (fits_as.other (λ (is : move_by p.event ≡ m). other (ap move_by (sym moved.event_is) ∙ is)))
        ∙ tested_suits (finished h) (moved_here h before n)

    pub last_so : IsLast last went
    last_so = IsLast-shown_as last moved.is.passed went (sym moved.event_is ∙ moved.is.event)

    -- what it was given, and what it left
    answer_is : (given_to went ≡ take (asked_for went) input) × (left_behind went input ≡ left)
    answer_is =
        let fed : Fed input (seen_of went ++ []) left =
        subst (λ (l : List Happened). Fed input l left) (moved.is.seen ∙ sym (append-nil (seen_of went))) moved.fed in
        let split = Fed-split_event went [] input left fed in (split.0, split.1)

    -- the step of the definition
    steps_so : imprecise_step g (state_of old.machine) (trap_in old.pending) c input ≡ step_result_of new went
    steps_so =
        imprecise_step-over_input g (step_result_of old went) c went input
        (ap (λ (x : StepResult). x.last_event) moved.is.is) answer_is.0
        ∙ moved.is.is

    -- what was put stands in memory
    bytes_are : output (seen (went ∷ [])) ≡ put_by last new.machine.memory
    bytes_are =
        ap output (append-nil (seen_of went) ∙ sym moved.is.seen)
        ∙ ((passed-took p.event p.core.memory (taken p.seen) (output p.seen) moved.is.passes).1
        ∙ (ap (λ (e : Event). put_by e p.core.memory) moved.event_is
        ∙ ap (λ core. put_by last core.memory) moved.is.core))

    pub did_move : (expected : List ℕ) (seen_so : Compared) → is_over from.last ≡ false → move_by last ≡ m
        → ((put : List ℕ) → Sees expected from.seen put → Sees expected seen_so (put ++ put_by last new.machine.memory))
        → ReplayEffect expected (λ g p. move g p m) from_place (place new left (record { last = last; seen = seen_so }))
    did_move expected seen_so goes same sees = record {
      used = unit_of (trap_in old.pending);
      steps = went ∷ [];
      program = moved.is.program;
      fewer =
          let size = length-drop (length (given_to went)) input in
          let rest = ap (λ (l : List ℕ). length l) answer_is.1 in
          omega (arith, size, rest);
      is = λ h is before n.
          let suit = fits_as.same (ap move_by moved.event_is ∙ same) in
          let to = imprecise_step g (state_of old.machine) (trap_in old.pending) (choice_of m) input in
          let played : List ℕ → ℕ → Played = λ l waited.
          record {
            run = record {
              at = step_result_of new went;
              steps = before ++ went ∷ [];
              left = l;
              units = n + unit_of (trap_in old.pending);
            };
            waited = waited;
          } in (
            went,
            last_so,
            ap (λ (b : Bool). move_if b suits_here (moved_here h before n)) (sym is.over ∙ goes)
                ∙ (ap (λ (b : Bool). move_if false b (moved_here h before n)) suit.0
                ∙ (ap (λ (t : StepResult). Some (played_by (played_at from_place h before n) t))
                (suit.1 input ∙ steps_so)
                ∙ (ap (λ (l : List ℕ). Some (played l (waited_after went (waited_in old.pending)))) answer_is.1
                ∙ ap (λ (w : ℕ). Some (played left w)) (sym moved.is.waited)))),
          );
      sees = λ put before. subst (λ (l : List ℕ). Sees expected seen_so (put ++ l)) (sym bytes_are) (sees put before);
    }

-- ---- steps in a row

put_append : (xs ys : List ImpreciseEvent) → output (seen (xs ++ ys)) ≡ output (seen xs) ++ output (seen ys)
put_append xs ys = ap output (seen_steps-append xs ys) ∙ output-append (seen xs) (seen ys)

module _ (expected : List ℕ) where
  same_place : (a : Place) (h : ImpreciseEvent) (before : List ImpreciseEvent) (n : ℕ)
      → played_at a h before n ≡ played_at a h (before ++ []) (n + 0)
  same_place a h before n =
      ap (λ (k : ℕ). played_at a h before k) (let e : n ≡ n + 0 = omega arith in e)
      ∙ ap (λ (l : List ImpreciseEvent). played_at a h l (n + 0)) (sym (append-nil before))

  pub did_none : (a : Place) → ReplayEffect expected (λ g p. units g 0 p) a a
  did_none a = record {
    used = 0;
    steps = [];
    program = refl;
    fewer = omega arith;
    is = λ h is before n. (h, is, ap (λ (p : Played). Some p) (same_place a h before n));
    sees = λ put before. subst (λ (l : List ℕ). Sees expected a.cursor.seen l) (sym (append-nil put)) before;
  }

  -- where two parts lead one after the other, in one row
  joined_place : (c : Place) (h : ImpreciseEvent) (n i j : ℕ) (t u v : List ImpreciseEvent)
      → played_at c h ((t ++ u) ++ v) ((n + i) + j) ≡ played_at c h (t ++ (u ++ v)) (n + (i + j))
  joined_place c h n i j t u v =
      ap (λ (k : ℕ). played_at c h ((t ++ u) ++ v) k) (let e : (n + i) + j ≡ n + (i + j) = omega arith in e)
      ∙ ap (λ (l : List ImpreciseEvent). played_at c h l (n + (i + j))) (append_assoc t u v)

  sees_then : (a b c : Compared) (xs ys : List ImpreciseEvent)
      → ((put : List ℕ) → Sees expected a put → Sees expected b (put ++ output (seen xs)))
      → ((put : List ℕ) → Sees expected b put → Sees expected c (put ++ output (seen ys)))
      → (put : List ℕ) → Sees expected a put → Sees expected c (put ++ output (seen (xs ++ ys)))
  sees_then a b c xs ys one two put before =
      subst (λ (l : List ℕ). Sees expected c l)
      (append_assoc put (output (seen xs)) (output (seen ys)) ∙ ap (λ (l : List ℕ). put ++ l) (sym (put_append xs ys)))
      (two (put ++ output (seen xs)) (one put before))

  pub did_next : (n : ℕ) (a b c : Place) → ReplayEffect expected (λ g p. units g n p) a b
      → ReplayEffect expected (λ g p. move g p One) b c → ReplayEffect expected (λ g p. units g (n + 1) p) a c
  did_next n a b c one two = record {
    used = one.used + two.used;
    steps = one.steps ++ two.steps;
    program = two.program ∙ one.program;
    fewer = let a = one.fewer in let b = two.fewer in omega (arith, a, b);
    is = λ h last before k.
        let g = program_at a in
        let x = one.is h last before k in
        let y = two.is x.0 x.1 (before ++ one.steps) (k + one.used) in (
          y.0,
          y.1,
          ap (λ (i : ℕ). units g i (played_at a h before k)) (add-one n)
              ∙ (ap (λ (q : Option Played). option_and_then (λ (p : Played). move g p One) q) x.2
              ∙ (ap (λ (f : Program). move f (played_at b x.0 (before ++ one.steps) (k + one.used)) One)
              (sym one.program)
              ∙ (y.2
              ∙ ap (λ (p : Played). Some p) (joined_place c y.0 k one.used two.used before one.steps two.steps)))),
        );
    sees = sees_then a.cursor.seen b.cursor.seen c.cursor.seen one.steps two.steps one.sees two.sees;
  }

  -- steps that are impossible stay so
  none_more : (g : Program) (k more : ℕ) (p : Played) → units g k p ≡ None → units g (more + k) p ≡ None
  none_more g k zero p e = let same : 0 + k ≡ k = omega arith in ap (λ (i : ℕ). units g i p) same ∙ e
  none_more g k (suc more) p e =
      let same : suc more + k ≡ suc (more + k) = omega arith in
      ap (λ (i : ℕ). units g i p) same
      ∙ ap (λ (q : Option Played). option_and_then (λ (r : Played). move g r One) q) (none_more g k more p e)

  pub fails_next : (n all : ℕ) (a b : Place) → n < all → ReplayEffect expected (λ g p. units g n p) a b
      → Fails (λ g p. move g p One) b → Fails (λ g p. units g all p) a
  fails_next n all a b less one stop = λ h last before k.
      let g = program_at a in
      let p = played_at a h before k in
      let x = one.is h last before k in
      let stops : units g (suc n) p ≡ None =
      ap (λ (q : Option Played). option_and_then (λ (r : Played). move g r One) q) x.2
      ∙ (ap (λ (f : Program). move f (played_at b x.0 (before ++ one.steps) (k + one.used)) One) (sym one.program)
      ∙ stop x.0 x.1 (before ++ one.steps) (k + one.used)) in
      let size : all ≡ (all - (n + 1)) + suc n = omega arith in
      ap (λ (i : ℕ). units g i p) size ∙ none_more g (suc n) (all - (n + 1)) p stops

  -- ---- items in a row

  pub plays_none : (items : List Item) (a : Place) → Plays expected items 0 a a
  plays_none items a = record {
    used = 0;
    steps = [];
    program = refl;
    fewer = omega arith;
    is = λ h is before n. (h, is, ap (λ (p : Played). listed_from (program_at a) 0 items p) (same_place a h before n));
    sees = λ put before. subst (λ (l : List ℕ). Sees expected a.cursor.seen l) (sym (append-nil put)) before;
  }

  pub plays_next : (items : List Item) (n : ℕ) (i : Item) (a b c : Place) → drop n items ≡ i ∷ drop (n + 1) items
      → Plays expected items n a b → ReplayEffect expected (λ g p. item g i p) b c → Plays expected items (n + 1) a c
  plays_next items n i a b c there one two = record {
    used = one.used + two.used;
    steps = one.steps ++ two.steps;
    program = two.program ∙ one.program;
    fewer = let a = one.fewer in let b = two.fewer in omega (arith, a, b);
    is = λ h last before k.
        let g = program_at a in
        let x = one.is h last before k in
        let y = two.is x.0 x.1 (before ++ one.steps) (k + one.used) in
        let q = played_at b x.0 (before ++ one.steps) (k + one.used) in
        let rest : Played → Result Played ℕ = λ (p : Played). listed_from g (n + 1) (drop (n + 1) items) p in (
          y.0,
          y.1,
          x.2
              ∙ (ap (λ (l : List Item). listed_from g n l q) there
              ∙ (ap (λ (f : Program). listed_then n rest (item f i q)) (sym one.program)
              ∙ (ap (λ (o : Option Played). listed_then n rest o) y.2
              ∙ ap rest (joined_place c y.0 k one.used two.used before one.steps two.steps)))),
        );
    sees = sees_then a.cursor.seen b.cursor.seen c.cursor.seen one.steps two.steps one.sees two.sees;
  }

  pub stops_at : (items : List Item) (n : ℕ) (i : Item) (a b : Place) → drop n items ≡ i ∷ drop (n + 1) items
      → Plays expected items n a b → Fails (λ g p. item g i p) b → StopsAt items n a
  stops_at items n i a b there one stop = λ h last before k.
      let g = program_at a in
      let x = one.is h last before k in
      let q = played_at b x.0 (before ++ one.steps) (k + one.used) in
      let rest : Played → Result Played ℕ = λ (p : Played). listed_from g (n + 1) (drop (n + 1) items) p in
      x.2
      ∙ (ap (λ (l : List Item). listed_from g n l q) there
      ∙ (ap (λ (f : Program). listed_then n rest (item f i q)) (sym one.program)
      ∙ ap (λ (o : Option Played). listed_then n rest o) (stop x.0 x.1 (before ++ one.steps) (k + one.used))))
