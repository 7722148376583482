-- What the items of a journal lead to.
use Rattle.std.proofs.Common.{◌≡◌, ◌+◌, ◌&&◌, ◌||◌, not, ℕ, zero, suc, Bool, true, false, cond, eqb, List, [], ◌∷◌}
use Rattle.std.proofs.Common.{◌++◌, length, Option, Some, None, is_none, Result, Ok, Err, refl, sym, ap, subst}
use Rattle.std.proofs.Common.{append_assoc, append-nil, ◌∙◌, option_and_then, arith, add-one}
use Rattle.std.proofs.lemmas.Bool.{eqb-true, and_parts}
use Rattle.alpha_image.specs.Parts.{Parts as Image}
use Rattle.alpha_image.specs.FirstOf.{unless}
use Rattle.std.specs.Option.{option_map}
use Rattle.std.proofs.lemmas.List.Sums.{sum_by-cons}
use Rattle.alpha_table.specs.Class.{Class}
use Rattle.alpha_seq.specs.State.{Program, State, Event, Went, Barriered, Overflowed, Ends}
use Rattle.alpha_seq.specs.Start.{start}
use Rattle.alpha_seq.specs.Step.{next_class}
use Rattle.alpha_seq.specs.Run.{output, Fed}
use Rattle.alpha_seq.proofs.RunSequence.{Fed-append}
use Rattle.alpha_imprecise.specs.StepResult.{Trap, ImpreciseEvent, Precisely, Triggered, Waited, Reported, Lost}
use Rattle.alpha_imprecise.specs.Step.{imprecise_step}
use Rattle.alpha_imprecise.specs.Run.{seen, ImpreciseRun, RunsOver, RunsImprecisely, imprecise_start, finished, unit_of}
use Rattle.alpha_imprecise.specs.Run.{units as units_by}
use Rattle.alpha_imprecise.specs.ChosenRun.{end_of_imprecise_event, lost_trap}
use Rattle.alpha_imprecise.specs.Restart.{IsRestartable}
use Rattle.alpha_imprecise.proofs.ShownRuns.{choices_alike}
use Rattle.alpha_imprecise.proofs.ImpreciseSequence.{seen_steps-append, RunsImprecisely-append, RunsImprecisely-one}
use Rattle.alpha_imprecise.proofs.ImpreciseSequence.{units_of_steps-append, Fed-next_event}
use Rattle.alpha_replay.specs.declared.ending.Ending.{Ending}
use Rattle.alpha_replay.specs.declared.ending.Ending.TheVariants as endings
use Rattle.alpha_replay.specs.declared.item.Item.{Item}
use Rattle.alpha_replay.specs.declared.item.Item.TheVariants.{Units, Trigger, Wait, Report}
use Rattle.alpha_replay.specs.declared.moves.Move.{Move}
use Rattle.alpha_replay.specs.declared.moves.Move.TheVariants.{One, Trips, Waits, Reports}
use Rattle.alpha_replay.specs.declared.replay_fault.ReplayFault.{ReplayFault}
use Rattle.alpha_replay.specs.declared.replay_fault.ReplayFault.TheVariants as faults
use Rattle.alpha_replay.specs.declared.replaying.Replayed.{Replayed}
use Rattle.alpha_replay.specs.Compared.{first_difference}
use Rattle.alpha_replay.specs.Endings.{ending_kind, ending_first, ending_second, ending_in}
use Rattle.alpha_replay.specs.Items.{item_units, units_of}
use Rattle.alpha_replay.specs.Journal.{Parts}
use Rattle.alpha_replay.specs.Moves.{choice_of, move_applies, fits, may_add}
use Rattle.alpha_replay.specs.Listed.{Played, played_by, move, units, item, listed_then, listed_from, listed, unplayed}
use Rattle.alpha_replay.specs.Replay.{ending_of, same_ending, ends_as, reports_of, program_by, run_fault, answer_by}
use Rattle.alpha_replay.specs.Replay.{answered, replayed, IsRun, ending_at, IsSequential}
use Rattle.alpha_image.proofs.FieldRules.{option_or-both_none}
use Rattle.alpha_image.proofs.CodeWords.{option_map-none}
use Rattle.alpha_replay.proofs.HeaderFields.{ending_in-numbers}

-- ---- the moves are steps

-- steps lead from one run to the other, and this many units are used
pub record LeadsToPlayed (g : Program) (n : ℕ) (from to : Played) : Type 0 where
  pub steps : List ImpreciseEvent
  pub runs : RunsImprecisely g from.run.at steps to.run.at
  pub all : to.run.steps ≡ from.run.steps ++ steps
  pub fed : Fed from.run.left (seen steps) to.run.left
  pub counted : to.run.units ≡ from.run.units + units_by g from.run.at steps
  pub used : to.run.units ≡ from.run.units + n

-- a move that is made passes both tests
made_by : (over fit : Bool) (p q : Played) → cond (not over && fit) (Some p) None ≡ Some q
    → (over ≡ false) × ((fit ≡ true) × (p ≡ q))
made_by true fit p q e = absurd cc
made_by false true p q e = (refl, (refl, (cc)))
made_by false false p q e = absurd cc

-- the units of a move
abbrev move_units : Move → ℕ
move_units One = 1
move_units (Trips value) = 1
move_units (Waits adds value) = 0
move_units Reports = 0

-- units are used with nothing pending
unit_is : (o : Option Class) (s : State) (p : Option Trap) (n : ℕ) (m : Move) → fits o s p n m ≡ true
    → unit_of p ≡ move_units m
unit_is o s None n One e = refl
unit_is o s None n (Trips value) e = refl
unit_is o s None n (Waits adds value) e = absurd cc
unit_is o s None n Reports e = absurd cc
unit_is o s (Some t) n One e = absurd cc
unit_is o s (Some t) n (Trips value) e = absurd cc
unit_is o s (Some t) n (Waits adds value) e = refl
unit_is o s (Some t) n Reports e = refl

move_leads : (g : Program) (m : Move) (p q : Played) → move g p m ≡ Some q → LeadsToPlayed g (move_units m) p q
move_leads g m p q e =
    let a = p.run.at in
    let o = next_class g a.state.pc in
    let t = imprecise_step g a.state a.pending (choice_of m) p.run.left in
    let h = t.last_event in
    let did = made_by (finished a.last_event) (move_applies o a.state a.pending p.waited m) (played_by p t) q e in
    let unit =
    unit_is o a.state a.pending p.waited m (and_parts (may_add o m) (fits o a.state a.pending p.waited m) did.1.0).1 in
    subst (λ (r : Played). LeadsToPlayed g (move_units m) p r) did.1.1 (record {
      steps = h ∷ [];
      runs = RunsImprecisely-one g a (choice_of m) p.run.left did.0;
      all = refl;
      fed = Fed-next_event g a (choice_of m) p.run.left;
      counted = omega arith;
      used = ap (λ (k : ℕ). p.run.units + k) unit;
    })

leads_then : (g : Program) (n k : ℕ) (p q r : Played) → LeadsToPlayed g n p q → LeadsToPlayed g k q r
    → LeadsToPlayed g (n + k) p r
leads_then g n k p q r one two = record {
  steps = one.steps ++ two.steps;
  runs = RunsImprecisely-append g one.steps two.steps p.run.at q.run.at r.run.at one.runs two.runs;
  all =
      two.all
      ∙ (ap (λ (l : List ImpreciseEvent). l ++ two.steps) one.all ∙ append_assoc p.run.steps one.steps two.steps);
  fed = subst (λ (l : List Event). Fed p.run.left l r.run.left) (sym (seen_steps-append one.steps two.steps))
      (Fed-append p.run.left q.run.left r.run.left (seen one.steps) (seen two.steps) one.fed two.fed);
  counted =
      let both = units_of_steps-append g one.steps two.steps p.run.at q.run.at one.runs in
      omega (arith, both, one.counted, two.counted);
  used = let a = one.used in let b = two.used in omega (arith, a, b);
}

leads_none : (g : Program) (p : Played) → LeadsToPlayed g 0 p p
leads_none g p = record {
  steps = [];
  runs = refl;
  all = sym (append-nil p.run.steps);
  fed = refl;
  counted = omega arith;
  used = omega arith;
}

units_lead : (g : Program) (n : ℕ) (p q : Played) → units g n p ≡ Some q → LeadsToPlayed g n p q
units_lead g zero p q e = subst (λ (r : Played). LeadsToPlayed g 0 p r) (let same : p ≡ q = cc in same) (leads_none g p)
units_lead g (suc n) p q e = by (λ r f. units_lead g n p r f) (units g n p) refl e
  where
    by : ((r : Played) → units g n p ≡ Some r → LeadsToPlayed g n p r) → (o : Option Played) → units g n p ≡ o
        → option_and_then (λ (r : Played). move g r One) o ≡ Some q → LeadsToPlayed g (suc n) p q
    by before None f h = absurd cc
    by before (Some r) f h =
        subst (λ (k : ℕ). LeadsToPlayed g k p q) (add-one n)
        (leads_then g n 1 p r q (before r f) (move_leads g One r q h))

item_leads : (g : Program) (i : Item) (p q : Played) → item g i p ≡ Some q → LeadsToPlayed g (item_units i) p q
item_leads g (Units n) p q e = units_lead g n p q e
item_leads g (Trigger value) p q e = move_leads g (Trips value) p q e
item_leads g (Wait adds value) p q e = move_leads g (Waits adds value) p q e
item_leads g Report p q e = move_leads g Reports p q e

listed_leads : (g : Program) (n : ℕ) (items : List Item) (p q : Played) → listed_from g n items p ≡ Ok q
    → LeadsToPlayed g (units_of items) p q
listed_leads g n [] p q e =
    subst (λ (r : Played). LeadsToPlayed g 0 p r) (let same : p ≡ q = cc in same) (leads_none g p)
listed_leads g n (i ∷ items) p q e =
    subst (λ (k : ℕ). LeadsToPlayed g k p q) (sym (sum_by-cons item_units i items))
    (by (λ r h. listed_leads g (n + 1) items r q h) (item g i p) refl e)
  where
    by : ((r : Played) → listed_from g (n + 1) items r ≡ Ok q → LeadsToPlayed g (units_of items) r q)
        → (o : Option Played)
        → item g i p ≡ o → listed_then n (λ (r : Played). listed_from g (n + 1) items r) o ≡ Ok q
        → LeadsToPlayed g (item_units i + units_of items) p q
    by rest None f h = absurd cc
    by rest (Some r) f h = leads_then g (item_units i) (units_of items) p r q (item_leads g i p r f) (rest r h)

pub listed-RunsOver : (g : Program) (input : List ℕ) (items : List Item) (q : Played) → listed g input items ≡ Ok q
    → RunsOver g (start g) input q.run
listed-RunsOver g input items q e =
    let h = listed_leads g 0 items (unplayed (start g) input) q e in
    record {
      runs =
          subst (λ (l : List ImpreciseEvent). RunsImprecisely g (imprecise_start (start g)) l q.run.at)
          (sym h.all) h.runs;
      fed = subst (λ (l : List ImpreciseEvent). Fed input (seen l) q.run.left) (sym h.all) h.fed;
      used = ap (units_by g (imprecise_start (start g))) h.all ∙ (let c = h.counted in omega (arith, c));
    }

pub listed_units : (g : Program) (input : List ℕ) (items : List Item) (q : Played) → listed g input items ≡ Ok q
    → q.run.units ≡ units_of items
listed_units g input items q e =
    let h = listed_leads g 0 items (unplayed (start g) input) q e in
    let u = h.used in
    omega (arith, u)

-- ---- an answer without a fault

none_differs : (n : ℕ) (xs ys : List ℕ) → first_difference n xs ys ≡ None → xs ≡ ys
none_differs n [] [] e = refl
none_differs n [] (y ∷ ys) e = absurd cc
none_differs n (x ∷ xs) [] e = absurd cc
none_differs n (x ∷ xs) (y ∷ ys) e = by (λ h. none_differs (n + 1) xs ys h) (eqb x y) refl e
  where
    by : (first_difference (n + 1) xs ys ≡ None → xs ≡ ys) → (b : Bool) → eqb x y ≡ b
        → cond b (first_difference (n + 1) xs ys) (Some n) ≡ None → (x ∷ xs) ≡ (y ∷ ys)
    by rest true f h = ap (λ (k : ℕ). k ∷ xs) (eqb-true x y f) ∙ ap (λ (l : List ℕ). y ∷ l) (rest h)
    by rest false f h = absurd cc

unless-None : {X : Type 0} (ok : Bool) (x : X) → unless ok x ≡ None → ok ≡ true
unless-None true x e = refl
unless-None false x e = absurd cc

no_bytes : (l : List ℕ) → eqb (length l) 0 ≡ true → l ≡ []
no_bytes [] e = refl
no_bytes (x ∷ l) e = absurd (let h = eqb-true (length (x ∷ l)) 0 e in omega (arith, h))

same_is : (a b : Ending) → same_ending a b ≡ true → b ≡ a
same_is a b e =
    let one = and_parts (eqb (ending_kind a) (ending_kind b) && eqb (ending_first a) (ending_first b))
    (eqb (ending_second a) (ending_second b)) e in
    let two = and_parts (eqb (ending_kind a) (ending_kind b)) (eqb (ending_first a) (ending_first b)) one.0 in
    sym (ending_in-numbers b)
    ∙ (ap (λ (k : ℕ). ending_in k (ending_first b) (ending_second b))
    (sym (eqb-true (ending_kind a) (ending_kind b) two.0))
    ∙ (ap (λ (k : ℕ). ending_in (ending_kind a) k (ending_second b))
    (sym (eqb-true (ending_first a) (ending_first b) two.1))
    ∙ (ap (λ (k : ℕ). ending_in (ending_kind a) (ending_first a) k)
    (sym (eqb-true (ending_second a) (ending_second b) one.1))
    ∙ ending_in-numbers a)))

-- what no fault says
record Faultless (p : Parts) (w : ImpreciseRun) : Type 0 where
  puts : output (seen w.steps) ≡ p.output
  ends : ending_of w.at.last_event ≡ p.ending
  settled : (finished w.at.last_event || is_none w.at.pending) ≡ true
  left : w.left ≡ []

faultless : (p : Parts) (w : ImpreciseRun) → run_fault p w ≡ None → Faultless p w
faultless p w e =
    let bytes = output (seen w.steps) in
    let one = option_or-both_none (option_map faults.Output (first_difference 0 bytes p.output)) _ e in
    let two = option_or-both_none (unless (ends_as p.ending w) faults.End) _ one.1 in
    let three = option_or-both_none (unless (eqb (length w.left) 0) (faults.Input (length w.left))) None two.1 in
    let end = and_parts (same_ending p.ending (ending_of w.at.last_event))
    (finished w.at.last_event || is_none w.at.pending) (unless-None (ends_as p.ending w) faults.End two.0) in
    record {
      puts = none_differs 0 bytes p.output (option_map-none faults.Output (first_difference 0 bytes p.output) one.0);
      ends = same_is p.ending (ending_of w.at.last_event) end.0;
      settled = end.1;
      left = no_bytes w.left (unless-None (eqb (length w.left) 0) (faults.Input (length w.left)) three.0);
    }

answer_ok : (o : Option ReplayFault) (a r : Replayed) → answer_by o a ≡ Ok r → (o ≡ None) × (a ≡ r)
answer_ok None a r e = (refl, (cc))
answer_ok (Some fault) a r e = absurd cc

pub replayed-IsRun : (image : Image) (p : Parts) (r : Replayed) → replayed image p ≡ Ok r → IsRun image p r.units
replayed-IsRun image p r e = by (listed (program_by image p) p.input p.items) refl e
  where
    by : (o : Result Played ℕ) → listed (program_by image p) p.input p.items ≡ o → answered p o ≡ Ok r
        → IsRun image p r.units
    by (Err n) f h = absurd cc
    by (Ok q) f h =
        let answer = answer_ok (run_fault p q.run) (record { units = q.run.units; reports = reports_of p.items }) r h in
        let fine = faultless p q.run answer.0 in
        let same : q.run.units ≡ r.units = ap (λ (a : Replayed). a.units) answer.1 in
        record {
          run = q.run;
          over = listed-RunsOver (program_by image p) p.input p.items q f;
          ends = fine.ends;
          used = record { settled = fine.settled; most = omega (arith, same); full = λ going. same };
          units_are = same;
          puts = fine.puts;
          left = fine.left;
        }

-- ---- where the image can be restarted

ends_alike : (h : ImpreciseEvent) → lost_trap h ≡ None → ending_at (end_of_imprecise_event h) ≡ ending_of h
ends_alike (Precisely Went) e = refl
ends_alike (Precisely (Barriered traffic pc regs)) e = refl
ends_alike (Precisely (Overflowed at)) e = refl
ends_alike (Precisely (Ends end)) e = refl
ends_alike (Triggered value) e = refl
ends_alike (Waited adds value bytes) e = refl
ends_alike (Reported at) e = refl
ends_alike (Lost pc mask) e = absurd cc

pub replayed-IsSequential : (image : Image) (p : Parts) (r : Replayed) → replayed image p ≡ Ok r → IsRestartable image
    → IsSequential image p r.units
replayed-IsSequential image p r e h =
    let run = replayed-IsRun image p r e in
    let same = choices_alike image h p.completion p.input run.run r.units run.over run.used in
    record {
      ends = ap ending_at (sym same.end) ∙ (ends_alike run.run.at.last_event same.lost ∙ run.ends);
      steps = sym same.steps ∙ run.units_are;
      output = ap output (sym same.events) ∙ run.puts;
      left = sym same.left ∙ run.left;
    }
