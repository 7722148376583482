-- What a replay answers, by what the code found.
use Rattle.std.specs.Prelude.{is_none}
use Rattle.std.proofs.Common.{◌≡◌, ◌≢◌, ⊎_elim, ◌+◌, ◌&&◌, ◌||◌, ℕ, Bool, true, false, eqb, List, [], ◌∷◌, ◌++◌, length}
use Rattle.std.proofs.Common.{Option, Some, None, Result, Ok, Err, refl, sym, ap, ◌∙◌}
use Rattle.std.specs.Option.{option_map}
use Rattle.std.proofs.Math.Seq.{drop-length}
use Rattle.std.proofs.lemmas.Bool.{eq-eqb}
use Rattle.std.proofs.lemmas.Bool.Decides.{eqb_tells}
use Rattle.alpha_words.specs.declared.Completion.{Completion}
use Rattle.alpha_replay.specs.declared.ending.Ending.{Ending}
use Rattle.alpha_image.specs.FirstOf.{unless, first_of}
use Rattle.alpha_image.specs.Parts.{Parts as Image}
use Rattle.alpha_seq.specs.State.{Program, State, Went}
use Rattle.alpha_seq.specs.Start.{start}
use Rattle.alpha_seq.specs.Run.{output}
use Rattle.alpha_seq.specs.Machine.{program_of, state_of}
use Rattle.alpha_imprecise.specs.declared.pending.Pending.{Pending}
use Rattle.alpha_imprecise.specs.StepResult.{ImpreciseEvent, Precisely, step_result}
use Rattle.alpha_imprecise.specs.Run.{seen, finished}
use Rattle.alpha_imprecise.specs.ImpreciseState.{ImpreciseState, trap_in, waited_in}
use Rattle.alpha_replay.specs.declared.item.Item.{Item}
use Rattle.alpha_replay.specs.declared.replay_fault.ReplayFault.{ReplayFault}
use Rattle.alpha_replay.specs.declared.replay_fault.ReplayFault.TheVariants as faults
use Rattle.alpha_replay.specs.declared.replaying.Replayed.{Replayed}
use Rattle.alpha_replay.specs.Compared.{Sees, first_difference}
use Rattle.alpha_replay.specs.Items.{units_of}
use Rattle.alpha_replay.specs.Journal.{Parts, parts}
use Rattle.alpha_replay.specs.Listed.{Played, listed_from, listed, unplayed}
use Rattle.alpha_replay.specs.ReplayEffect.{Begins, Place, place, first_cursor, IsLast, played_at, Plays, StopsAt}
use Rattle.alpha_replay.specs.Replay.{ending_seen, same_ending, ends_as, ends_seen, reports_of, program_by, answer_by}
use Rattle.alpha_replay.specs.Replay.{answered, replayed, Replays}
use Rattle.alpha_replay.proofs.ItemEffects.{listed_units}

-- ---- from the start

abbrev CursorAt-start : State → Option Pending → List ℕ → Played
CursorAt-start s pending input = record {
  run = record { at = step_result s (trap_in pending) (Precisely Went); steps = []; left = input; units = 0 };
  waited = waited_in pending;
}

played_at-begun : (g : Program) (w : ImpreciseState) (input : List ℕ) → Begins g w
    → played_at (place w input first_cursor) (Precisely Went) [] 0 ≡ unplayed (start g) input
played_at-begun g w input h =
    ap (λ (p : Option Pending). CursorAt-start (state_of w.machine) p input) h.fresh.nothing_pending
    ∙ (ap (λ (s : State). CursorAt-start s None input) h.fresh.start
    ∙ ap (λ (f : Program). CursorAt-start (start f) None input) h.program)

first_last : IsLast first_cursor.last (Precisely Went)
first_last = record { over = refl; ending = refl }

-- the items lead to where the code stands
pub record CursorAt (g : Program) (input : List ℕ) (items : List Item) (expected : List ℕ) (b : Place) : Type 0 where
  pub units : ℕ
  pub steps : List ImpreciseEvent
  pub last : ImpreciseEvent
  pub last_is : IsLast b.cursor.last last
  pub is : listed g input items ≡ Ok (played_at b last steps units)
  pub sees : Sees expected b.cursor.seen (output (seen steps))

pub CursorAt-by : (g : Program) (w : ImpreciseState) (input : List ℕ) (items : List Item) (expected : List ℕ)
    (b : Place)
    → Begins g w
    → Plays expected items (length items) (place w input first_cursor) b → CursorAt g input items expected b
CursorAt-by g w input items expected b h plays =
    let x = plays.is (Precisely Went) first_last [] 0 in
    record {
      units = 0 + plays.used;
      steps = [] ++ plays.steps;
      last = x.0;
      last_is = x.1;
      is =
          ap (λ (p : Played). listed_from g 0 items p) (sym (played_at-begun g w input h))
          ∙ (ap (λ (f : Program). listed_from f 0 items (played_at (place w input first_cursor) (Precisely Went) [] 0))
          (sym h.program)
          ∙ (x.2
          ∙ ap (λ (l : List Item). listed_from (program_of w.machine) (length items) l
          (played_at b x.0 ([] ++ plays.steps) (0 + plays.used))) (drop-length items)));
      sees = plays.sees [] (λ more. refl);
    }

pub listed-StopsAt : (g : Program) (w : ImpreciseState) (input : List ℕ) (items : List Item) (n : ℕ) → Begins g w
    → StopsAt items n (place w input first_cursor) → listed g input items ≡ Err n
listed-StopsAt g w input items n h stops =
    ap (λ (p : Played). listed_from g 0 items p) (sym (played_at-begun g w input h))
    ∙ (ap (λ (f : Program). listed_from f 0 items (played_at (place w input first_cursor) (Precisely Went) [] 0))
    (sym h.program)
    ∙ stops (Precisely Went) first_last [] 0)

-- ---- the answer

pub item_fault : (image : Image) (p : Parts) (n : ℕ) → listed (program_by image p) p.input p.items ≡ Err n
    → Err (faults.Item n) ≡ replayed image p
item_fault image p n e = sym (ap (answered p) e)

abbrev end_fault_of : Option ℕ → Bool → ℕ → Option ReplayFault
end_fault_of at ends left =
    first_of (option_map faults.Output at ∷ unless ends faults.End ∷ unless (eqb left 0) (faults.Input left) ∷ [])

module _ (image : Image) (p : Parts) (b : Place) (h : CursorAt (program_by image p) p.input p.items p.output b) where
  abbrev here : Played
  here = played_at b h.last h.steps h.units

  -- what it put
  abbrev bytes : List ℕ
  bytes = output (seen h.steps)

  abbrev at_end : Bool
  at_end = ends_seen p.ending b.cursor.last (is_none (trap_in b.wild.pending))

  same_end : ends_as p.ending here.run ≡ at_end
  same_end =
      ap (λ (e : Ending). same_ending p.ending e && (finished h.last || is_none (trap_in b.wild.pending)))
      (sym h.last_is.ending)
      ∙ ap (λ (o : Bool). same_ending p.ending (ending_seen b.cursor.last) && (o || is_none (trap_in b.wild.pending)))
      (sym h.last_is.over)

  abbrev counts : Replayed
  counts = record { units = h.units; reports = reports_of p.items }

  answer_is : (fault : Option ReplayFault)
      → end_fault_of (first_difference 0 bytes p.output) at_end (length b.input) ≡ fault
      → answer_by fault counts ≡ replayed image p
  answer_is fault e =
      sym (ap (answered p) h.is
      ∙ ap (λ (o : Option ReplayFault). answer_by o counts)
      (ap (λ (x : Bool). end_fault_of (first_difference 0 bytes p.output) x (length b.input)) same_end ∙ e))

  pub output_fault : (at : ℕ) → first_difference 0 (output (seen h.steps)) p.output ≡ Some at
      → Err (faults.Output at) ≡ replayed image p
  output_fault at e =
      answer_is (Some (faults.Output at)) (ap (λ (o : Option ℕ). end_fault_of o at_end (length b.input)) e)

  pub end_fault : first_difference 0 (output (seen h.steps)) p.output ≡ None → at_end ≡ false
      → Err faults.End ≡ replayed image p
  end_fault e f =
      answer_is (Some faults.End)
      (ap (λ (o : Option ℕ). end_fault_of o at_end (length b.input)) e
      ∙ ap (λ (c : Bool). end_fault_of None c (length b.input)) f)

  pub input_fault : first_difference 0 (output (seen h.steps)) p.output ≡ None → at_end ≡ true
      → eqb (length b.input) 0 ≡ false → Err (faults.Input (length b.input)) ≡ replayed image p
  input_fault e f l =
      answer_is (Some (faults.Input (length b.input)))
      (ap (λ (o : Option ℕ). end_fault_of o at_end (length b.input)) e
      ∙ (ap (λ (c : Bool). end_fault_of None c (length b.input)) f
      ∙ ap (λ (c : Bool). first_of (None ∷ None ∷ unless c (faults.Input (length b.input)) ∷ [])) l))

  pub no_fault : first_difference 0 (output (seen h.steps)) p.output ≡ None → at_end ≡ true
      → eqb (length b.input) 0 ≡ true
      → Ok (record { units = units_of p.items; reports = reports_of p.items }) ≡ replayed image p
  no_fault e f l =
      ap (λ (k : ℕ). Ok (record { units = k; reports = reports_of p.items }))
      (sym (listed_units (program_by image p) p.input p.items here h.is))
      ∙ answer_is None
      (ap (λ (o : Option ℕ). end_fault_of o at_end (length b.input)) e
      ∙ (ap (λ (c : Bool). end_fault_of None c (length b.input)) f
      ∙ ap (λ (c : Bool). first_of (None ∷ None ∷ unless c (faults.Input (length b.input)) ∷ [])) l))

-- ---- the bytes that are left

pub eqb-length_not_zero : (l : List ℕ) (n : ℕ) → n ≡ length l → (n ≡ 0 → ⊥) → eqb (length l) 0 ≡ false
eqb-length_not_zero l n same some =
    ⊎_elim
    (λ (t : (eqb (length l) 0 ≡ true) × (length l ≡ 0)). absurd (some (same ∙ t.1)))
    (λ (t : (eqb (length l) 0 ≡ false) × (length l ≢ 0)). t.0)
    (eqb_tells (length l) 0)

pub eqb-length_zero : (l : List ℕ) (n : ℕ) → n ≡ length l → n ≡ 0 → eqb (length l) 0 ≡ true
eqb-length_zero l n same none = eq-eqb (length l) 0 (sym same ∙ none)

-- ---- the parts of a journal

pub of_parts : (image : Image) (p : Parts) (completion : Completion) (ending : Ending) (input output : List ℕ)
    (items : List Item)
    → completion ≡ p.completion → ending ≡ p.ending → input ≡ p.input → output ≡ p.output → items ≡ p.items
    → replayed image (parts completion ending input output items) ≡ replayed image p
of_parts image p completion ending input output items a b c d e =
    ap (λ (x : Completion). replayed image (parts x ending input output items)) a
    ∙ (ap (λ (x : Ending). replayed image (parts p.completion x input output items)) b
    ∙ (ap (λ (x : List ℕ). replayed image (parts p.completion p.ending x output items)) c
    ∙ (ap (λ (x : List ℕ). replayed image (parts p.completion p.ending p.input x items)) d
    ∙ ap (λ (x : List Item). replayed image (parts p.completion p.ending p.input p.output x)) e)))

-- an answer that is the definition's is one that the contract asks for
pub answer-Replays : (r answer : Result Replayed ReplayFault) → r ≡ answer → Replays r answer
answer-Replays (Ok x) answer e = e
answer-Replays (Err (faults.Item n)) answer e = e
answer-Replays (Err (faults.Output n)) answer e = e
answer-Replays (Err faults.End) answer e = e
answer-Replays (Err (faults.Input n)) answer e = e
answer-Replays (Err faults.NoMemory) answer e = tt
