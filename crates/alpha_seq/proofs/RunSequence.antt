-- Runs: one event more, fronts, and what is left of an input.
use Rattle.std.proofs.Common.{◌≡◌, ◌≤◌, ◌+◌, ℕ, zero, suc, Bool, true, false, cond, List, [], ◌∷◌, ◌++◌, length, None}
use Rattle.std.proofs.Common.{refl, sym, ap, subst, ◌∙◌, ⊎_elim, append_assoc, append-nil, length-append, arith}
use Rattle.std.proofs.lemmas.Bool.{cases_Bool}
use Rattle.alpha_seq.specs.State.{Program, State, Event, Went, Barriered, Overflowed, Ends, Stepped}
use Rattle.alpha_seq.specs.Step.{step_from}
use Rattle.alpha_seq.specs.Run.{begins, next, Runs, left_by, Fed, Run, started, extended_by, advance, after, end_of}
use Rattle.alpha_seq.specs.Run.{is_over}
use Rattle.alpha_seq.specs.Fronts.{HasMade}
use Rattle.alpha_seq.proofs.InputRequests.{step-over_given, step-over_enough, step-given_taken}

-- ---- rows

pub Runs-append : (g : Program) (xs ys : List Event) (a b c : Stepped) → Runs g a xs b → Runs g b ys c
    → Runs g a (xs ++ ys) c
Runs-append g [] ys a b c one two = subst (λ m. Runs g m ys c) (sym one) two
Runs-append g (x ∷ xs) ys a b c one two = (one.0, one.1, Runs-append g xs ys (next g a x) b c one.2 two)

-- a run that was cut is a front: each front of a run is a run, and the rest goes on from there
pub Runs-split : (g : Program) (xs ys : List Event) (a c : Stepped) → Runs g a (xs ++ ys) c
    → (b : Stepped) × Runs g a xs b × Runs g b ys c
Runs-split g [] ys a c run = (a, refl, run)
Runs-split g (x ∷ xs) ys a c run =
    let rest = Runs-split g xs ys (next g a x) c run.2 in
    (rest.0, (run.0, run.1, rest.1), rest.2)

-- events determine a run
pub Runs-deterministic : (g : Program) (xs : List Event) (a b c : Stepped) → Runs g a xs b → Runs g a xs c → b ≡ c
Runs-deterministic g [] a b c one two = sym one ∙ two
Runs-deterministic g (x ∷ xs) a b c one two = Runs-deterministic g xs (next g a x) b c one.2 two.2

-- one step more over an input
pub Runs-one_more : (g : Program) (a : Stepped) (input : List ℕ) → is_over a.event ≡ false
    → let b = step_from g a.state input in Runs g a (b.event ∷ []) b
Runs-one_more g a input going =
    let same = step-over_given g a.state input in
    (going, ap (λ (t : Stepped). t.event) same, same)

pub Fed-append : (input mid left : List ℕ) (xs ys : List Event) → Fed input xs mid → Fed mid ys left
    → Fed input (xs ++ ys) left
Fed-append input mid left [] ys one two = subst (λ m. Fed m ys left) (sym one) two
Fed-append input mid left (x ∷ xs) ys one two = (one.0, Fed-append (left_by x input) mid left xs ys one.1 two)

-- ---- the run over an input

-- so many steps more
abbrev pub advance_by : Program → ℕ → Run → Run
advance_by g zero r = r
advance_by g (suc n) r = advance_by g n (advance g r)

advance_by-last : (g : Program) (n : ℕ) (r : Run) → advance_by g n (advance g r) ≡ advance g (advance_by g n r)
advance_by-last g zero r = refl
advance_by-last g (suc n) r = advance_by-last g n (advance g r)

pub advance_by-after : (g : Program) (s : State) (input : List ℕ) (n : ℕ)
    → advance_by g n (started s input) ≡ after g s input n
advance_by-after g s input zero = refl
advance_by-after g s input (suc n) =
    advance_by-last g n (started s input) ∙ ap (advance g) (advance_by-after g s input n)

pub advance_by-sum : (g : Program) (n k : ℕ) (r : Run) → advance_by g (n + k) r ≡ advance_by g k (advance_by g n r)
advance_by-sum g zero k r = ap (λ m. advance_by g m r) (let e : 0 + k ≡ k = omega arith in e)
advance_by-sum g (suc n) k r =
    ap (λ m. advance_by g m r) (let e : suc n + k ≡ suc (n + k) = omega arith in e) ∙ advance_by-sum g n k (advance g r)

pub advance-going : (g : Program) (r : Run) → is_over r.at.event ≡ false
    → advance g r ≡ extended_by r (step_from g r.at.state r.left)
advance-going g r going = ap (λ b. cond b r (extended_by r (step_from g r.at.state r.left))) going

pub advance-over : (g : Program) (r : Run) → is_over r.at.event ≡ true → advance g r ≡ r
advance-over g r ended = ap (λ b. cond b r (extended_by r (step_from g r.at.state r.left))) ended

pub advance_by-over : (g : Program) (n : ℕ) (r : Run) → is_over r.at.event ≡ true → advance_by g n r ≡ r
advance_by-over g zero r ended = refl
advance_by-over g (suc n) r ended = ap (advance_by g n) (advance-over g r ended) ∙ advance_by-over g n r ended

-- a list of events that was fed by an input is the run over it
pub fed-advance_by : (g : Program) (events before : List Event) (a b : Stepped) (input left : List ℕ)
    → Runs g a events b → Fed input events left
    → advance_by g (length events) (record { at = a; events = before; left = input })
    ≡ record { at = b; events = before ++ events; left = left }
fed-advance_by g [] before a b input left run fed =
    ap (λ (c : Stepped). let r : Run = record { at = c; events = before; left = input } in r) run
    ∙ (ap (λ l. let r : Run = record { at = b; events = l; left = input } in r) (sym (append-nil before))
    ∙ ap (λ l. let r : Run = record { at = b; events = before ++ []; left = l } in r) fed)
fed-advance_by g (e ∷ events) before a b input left run fed =
    let r : Run = record { at = a; events = before; left = input } in
    let same : step_from g a.state input ≡ next g a e = step-over_enough g a.state e input run.1 fed.0 in
    let here : advance g r ≡ record { at = next g a e; events = before ++ e ∷ []; left = left_by e input } =
    advance-going g r run.0 ∙ (ap (extended_by r) same ∙ ap (λ (x : Event).
    let q : Run = record { at = next g a e; events = before ++ x ∷ []; left = left_by x input } in q) run.1) in
    ap (advance_by g (length events)) here
    ∙ (fed-advance_by g events (before ++ e ∷ []) (next g a e) b (left_by e input) left run.2 fed.1
    ∙ ap (λ l. let q : Run = record { at = b; events = l; left = left } in q) (append_assoc before (e ∷ []) events))

pub fed-after : (g : Program) (s : State) (events : List Event) (b : Stepped) (input left : List ℕ)
    → Runs g (begins s) events b → Fed input events left
    → after g s input (length events) ≡ record { at = b; events = events; left = left }
fed-after g s events b input left run fed =
    sym (advance_by-after g s input (length events)) ∙ fed-advance_by g events [] (begins s) b input left run fed

-- and the run over an input is such a list
pub record IsFedRun (g : Program) (a : Stepped) (input : List ℕ) (n : ℕ) (r : Run) : Type 0 where
  pub runs : Runs g a r.events r.at
  pub fed : Fed input r.events r.left
  pub most : length r.events ≤ n
  pub full : is_over r.at.event ≡ false → length r.events ≡ n

pub after-fed : (g : Program) (s : State) (input : List ℕ) (n : ℕ) → IsFedRun g (begins s) input n (after g s input n)
after-fed g s input zero = record { runs = refl; fed = refl; most = omega arith; full = λ going. refl }
after-fed g s input (suc n) = by (after-fed g s input n) (is_over (after g s input n).at.event) refl
  where
    r : Run
    r = after g s input n

    by : IsFedRun g (begins s) input n r → (b : Bool) → is_over r.at.event ≡ b
        → IsFedRun g (begins s) input (suc n) (advance g r)
    by before true ended = subst (IsFedRun g (begins s) input (suc n)) (sym (advance-over g r ended)) (record {
      runs = before.runs;
      fed = before.fed;
      most = omega (arith, before.most);
      full = λ going. absurd (let no : true ≡ false = sym ended ∙ going in cc);
    })
    by before false going =
        let t : Stepped = step_from g r.at.state r.left in
        let count = length-last r.events t.event in
        subst (IsFedRun g (begins s) input (suc n)) (sym (advance-going g r going)) (record {
          runs =
              Runs-append g r.events (t.event ∷ []) (begins s) r.at t before.runs (Runs-one_more g r.at r.left going);
          fed =
              Fed-append input r.left (left_by t.event r.left) r.events (t.event ∷ []) before.fed
              (step-given_taken g r.at.state r.left, refl);
          most = omega (arith, count, before.most);
          full = λ going_too. omega (arith, count, before.full going);
        })
      where
        length-last : (xs : List Event) (x : Event) → length (xs ++ x ∷ []) ≡ length xs + 1
        length-last [] x = refl
        length-last (y ∷ xs) x = let e = length-last xs x in omega (arith, e)

-- ---- a run that was cut, over an input

advance-more : (g : Program) (r : Run) → (rest : List Event) × ((advance g r).events ≡ r.events ++ rest)
advance-more g r = by (is_over r.at.event)
  where
    by : (b : Bool)
        → (rest : List Event) × ((cond b r (extended_by r (step_from g r.at.state r.left))).events ≡ r.events ++ rest)
    by true = ([], sym (append-nil r.events))
    by false = ((step_from g r.at.state r.left).event ∷ [], refl)

advance_by-more : (g : Program) (n : ℕ) (r : Run) → (rest : List Event) × ((advance_by g n r).events ≡ r.events ++ rest)
advance_by-more g zero r = ([], sym (append-nil r.events))
advance_by-more g (suc n) r =
    let one = advance-more g r in
    let two = advance_by-more g n (advance g r) in
    (one.0 ++ two.0, two.1 ∙ (ap (λ l. l ++ two.0) one.1 ∙ append_assoc r.events one.0 two.0))

-- its events are a front of those of the whole run
pub after-events_prefix : (g : Program) (s : State) (events : List Event) (b : Stepped) (input left : List ℕ) (k : ℕ)
    → Runs g (begins s) events b → Fed input events left
    → (rest : List Event) × ((after g s input (length events + k)).events ≡ events ++ rest)
after-events_prefix g s events b input left k run fed =
    let here = advance_by-after g s input (length events) ∙ fed-after g s events b input left run fed in
    let more = advance_by-more g k (advance_by g (length events) (started s input)) in (
      more.0,
      ap (λ (r : Run). r.events)
          (sym (advance_by-after g s input (length events + k)) ∙ advance_by-sum g (length events) k (started s input))
          ∙ (more.1 ∙ ap (λ (r : Run). r.events ++ more.0) here),
    )

-- ---- a run that goes on to its last step

over-no_end : (event : Event) → is_over event ≡ true → end_of event ≡ None → ⊥
over-no_end Went over e = cc
over-no_end (Barriered traffic pc regs) over e = cc
over-no_end (Overflowed at) over e = cc
over-no_end (Ends end) over e = cc

-- so many steps more, each with no input
pub record Filled (n : ℕ) (g : Program) (from : Stepped) (events : List Event) (a : Stepped) : Type 0 where
  pub more : List Event
  pub at : Stepped
  pub runs : Runs g from (events ++ more) at
  pub made : HasMade n (events ++ more) at

pub Runs-Filled : (g : Program) (n k : ℕ) (from : Stepped) (events : List Event) (a : Stepped) → Runs g from events a
    → length events + k ≡ n → Filled n g from events a
Runs-Filled g n zero from events a run e =
    let none = append-nil events in
    record {
      more = [];
      at = a;
      runs = subst (λ l. Runs g from l a) (sym none) run;
      made = record { most = omega (arith, ap length none); full = λ end. omega (arith, ap length none) };
    }
Runs-Filled g n (suc k) from events a run e =
    ⊎_elim
    (λ (ended : is_over a.event ≡ true).
    let none = append-nil events in
    record {
      more = [];
      at = a;
      runs = subst (λ l. Runs g from l a) (sym none) run;
      made = record { most = omega (arith, ap length none); full = λ end. absurd (over-no_end a.event ended end) };
    })
    (λ (going : is_over a.event ≡ false).
    let t : Stepped = step_from g a.state [] in
    let one = Runs-append g events (t.event ∷ []) from a t run (Runs-one_more g a [] going) in
    let rest =
    Runs-Filled g n k from (events ++ t.event ∷ []) t one (omega (arith, length-append events (t.event ∷ []))) in
    let same = append_assoc events (t.event ∷ []) rest.more in
    record {
      more = t.event ∷ rest.more;
      at = rest.at;
      runs = subst (λ l. Runs g from l rest.at) same rest.runs;
      made = subst (λ l. HasMade n l rest.at) same rest.made;
    })
    (cases_Bool (is_over a.event))
