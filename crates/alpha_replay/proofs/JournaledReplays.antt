-- The journal of a run lists it over the input that it took, and so its replay is no refusal.
use Rattle.std.proofs.Common.{◌≡◌, ◌+◌, ◌-◌, take, arith, ◌==◌, ◌&&◌, ◌||◌, not, ℕ, Bool, true, false, cond, List, []}
use Rattle.std.proofs.Common.{◌∷◌, ◌++◌, length, Option, Some, None, is_none, Ok, refl, sym, ap, subst, ◌∙◌}
use Rattle.std.proofs.lemmas.Bool.{eq-eqb}
use Rattle.std.specs.Option.{option_map}
use Rattle.alpha_words.specs.declared.Completion.{Completion}
use Rattle.alpha_image.specs.Parts.{Parts as Image}
use Rattle.alpha_image.specs.FirstOf.{unless, first_of}
use Rattle.alpha_seq.specs.State.{Program}
use Rattle.alpha_seq.specs.Start.{start}
use Rattle.alpha_seq.specs.Run.{taken, output}
use Rattle.alpha_seq.proofs.InputPrefixes.{Fed-taken_append}
use Rattle.alpha_imprecise.specs.Run.{seen, ImpreciseRun, finished, imprecise_start}
use Rattle.alpha_imprecise.specs.ChosenRun.{ChosenRun, begun}
use Rattle.alpha_imprecise.proofs.DrawnRuns.{IsMade, steps-chosen_run, begun-chosen_run}
use Rattle.alpha_replay.specs.declared.ending.Ending.{Ending}
use Rattle.alpha_replay.specs.declared.replay_fault.ReplayFault.TheVariants as faults
use Rattle.alpha_replay.specs.declared.replaying.Replayed.{Replayed}
use Rattle.alpha_replay.specs.Compared.{first_difference}
use Rattle.alpha_replay.specs.Endings.{ending_kind, ending_first, ending_second}
use Rattle.alpha_replay.specs.Journal.{Parts}
use Rattle.alpha_replay.specs.GatheredItems.{no_moves, items_of}
use Rattle.alpha_replay.specs.Journaled.{journal_at, is_within, IsJournaled}
use Rattle.alpha_replay.specs.Listed.{played_over, unplayed, listed}
use Rattle.alpha_replay.specs.Replay.{ending_of, same_ending, ends_as, reports_of, run_fault, answer_by, answered}
use Rattle.alpha_replay.specs.Replay.{replayed}
use Rattle.alpha_replay.proofs.JournaledRuns.{played_in, ListsRun, ListsRun-closed, steps_list, journaled_run}
use Rattle.alpha_replay.proofs.InputPrefixes.{list_feeds}
use Rattle.std.proofs.Math.Seq.{take-append_seam}
use Rattle.std.proofs.lemmas.List.{length-append}

-- ---- no fault of a replay

no_difference : (n : ℕ) (xs : List ℕ) → first_difference n xs xs ≡ None
no_difference n [] = refl
no_difference n (x ∷ xs) =
    ap (λ (b : Bool). cond b (first_difference (n + 1) xs xs) (Some n)) (eq-eqb x x refl) ∙ no_difference (n + 1) xs

all_three : (a b c : Bool) → a ≡ true → b ≡ true → c ≡ true → (a && b && c) ≡ true
all_three a b c e f h = rw (e, f, h) refl

same_self : (e : Ending) → same_ending e e ≡ true
same_self e =
    all_three (ending_kind e == ending_kind e) (ending_first e == ending_first e) (ending_second e == ending_second e)
    (eq-eqb (ending_kind e) (ending_kind e) refl) (eq-eqb (ending_first e) (ending_first e) refl)
    (eq-eqb (ending_second e) (ending_second e) refl)

settled_by : (w f c e : Bool) → w ≡ true → (not w || (f || (c && e))) ≡ true → (f || c) ≡ true
settled_by true true c e h k = refl
settled_by true false true e h k = refl
settled_by true false false e h k = cc
settled_by false f c e h k = cc

-- a run with the output and the end of its journal that has taken its whole input
no_fault : (p : Parts) (w : ImpreciseRun) → output (seen w.steps) ≡ p.output → p.ending ≡ ending_of w.at.last_event
    → (finished w.at.last_event || is_none w.at.pending) ≡ true
    → w.left ≡ [] → run_fault p w ≡ None
no_fault p w puts ending settled left =
    let one : first_difference 0 (output (seen w.steps)) p.output ≡ None =
    ap (λ (l : List ℕ). first_difference 0 (output (seen w.steps)) l) (sym puts)
    ∙ no_difference 0 (output (seen w.steps)) in
    let two : ends_as p.ending w ≡ true =
    ap (λ (e : Ending). same_ending e (ending_of w.at.last_event) && (finished w.at.last_event || is_none w.at.pending))
    ending
    ∙ (ap (λ (b : Bool). b && (finished w.at.last_event || is_none w.at.pending))
    (same_self (ending_of w.at.last_event))
    ∙ settled) in
    let three : length w.left ≡ 0 = ap (λ (l : List ℕ). length l) left in
    let last : ℕ → Bool → Bool → Option ℕ → _ = λ n b c d.
    first_of (option_map faults.Output d ∷ unless b faults.End ∷ unless c (faults.Input n) ∷ []) in
    ap (last (length w.left) (ends_as p.ending w) (length w.left == 0)) one
    ∙ (ap (λ (b : Bool). last (length w.left) b (length w.left == 0) None) two
    ∙ ap (λ (b : Bool). last (length w.left) true b None) (eq-eqb (length w.left) 0 three))

-- ---- the journal of a run

-- from the start, the items list the run
pub journaled_lists : (n : ℕ) (g : Program) (input words : List ℕ) (k : ChosenRun)
    → IsJournaled n g (begun (start g) input None 0 words) k
    → listed g input (items_of k.run.steps) ≡ Ok (played_in k)
journaled_lists n g input words k is =
    let from = begun (start g) input None 0 words in
    let none : ListsRun g (played_in from) no_moves (played_in from) =
    record { mid = played_in from; listed = λ m. refl; ones = refl } in
    let h = ListsRun-closed g (played_in from) _ _ (steps_list n g from is.steps none) 0 in
    subst (λ (x : ChosenRun). listed g input (items_of x.run.steps) ≡ Ok (played_in x)) is.reached h

taken_is : (xs rest : List ℕ) → take (length (xs ++ rest) - length rest) (xs ++ rest) ≡ xs
taken_is xs rest =
    let size = length-append xs rest in
    let front : length (xs ++ rest) - length rest ≡ length xs = omega arith in
    ap (λ (n : ℕ). take n (xs ++ rest)) front ∙ take-append_seam xs rest

same_front : (xs ys rest : List ℕ) → xs ++ rest ≡ ys ++ rest → xs ≡ ys
same_front xs ys rest e =
    sym (taken_is xs rest) ∙ (ap (λ (l : List ℕ). take (length l - length rest) l) e ∙ taken_is ys rest)

module _ (n : ℕ) (image : Image) (completion : Completion) (input words : List ℕ) (k : ChosenRun) where
  abbrev g : Program
  g = record { image = image; completion = completion }

  -- what it took and what is left are the input
  pub journaled_input-taken : IsJournaled n g (begun (start g) input None 0 words) k
      → taken (seen k.run.steps) ++ k.run.left ≡ input
  journaled_input-taken is =
      let from = begun (start g) input None 0 words in
      let run = journaled_run n g from k is in
      let made = subst (IsMade g (imprecise_start (start g)) input words 0) (sym run.1) (steps-chosen_run g
      (imprecise_start (start g)) input words 0 from run.0 (begun-chosen_run g (start g) input words None 0)) in
      Fed-taken_append (seen k.run.steps) input k.run.left made.fed

  -- the items list the run over what it took
  pub listed_taken : IsJournaled n g (begun (start g) input None 0 words) k
      → listed g input (items_of k.run.steps) ≡ Ok (played_in k)
      → listed g (taken (seen k.run.steps)) (items_of k.run.steps) ≡ Ok (played_over [] (played_in k))
  listed_taken is lists =
      let fed =
      list_feeds g 0 (items_of k.run.steps) (unplayed (start g) input) (played_in k) [] k.run.left lists refl in
      let same : taken (seen k.run.steps) ≡ fed.0 =
      same_front (taken (seen k.run.steps)) fed.0 k.run.left (journaled_input-taken is ∙ fed.1) in
      ap (λ (l : List ℕ). listed g l (items_of k.run.steps)) same ∙ fed.2

  pub journaled_replays : IsJournaled n g (begun (start g) input None 0 words) k
      → is_within (journal_at completion k) ≡ true
      → listed g input (items_of k.run.steps) ≡ Ok (played_in k)
      → replayed image (journal_at completion k)
      ≡ Ok (record { units = k.run.units; reports = reports_of (items_of k.run.steps) })
  journaled_replays is within lists =
      let p = journal_at completion k in
      let q = played_over [] (played_in k) in
      let r : Replayed = record { units = k.run.units; reports = reports_of (items_of k.run.steps) } in
      ap (answered p) (listed_taken is lists)
      ∙ ap (λ o. answer_by o r)
      (no_fault p q.run refl refl
      (settled_by (is_within (journal_at completion k)) (finished k.run.at.last_event) (is_none k.run.at.pending)
      (k.run.units == n) within is.stopped) refl)
