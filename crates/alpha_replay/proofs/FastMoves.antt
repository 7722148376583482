-- Steps that only go on, or pass a barrier, as moves of a replay.
use Rattle.std.proofs.Common.{◌≡◌, ◌+◌, ℕ, zero, suc, inl, inr, Bool, true, false, cond, List, [], ◌∷◌, ◌++◌, Option}
use Rattle.std.proofs.Common.{None, refl, sym, ap, subst, ◌∙◌, append-nil, arith}
use Rattle.alpha_pal.specs.Call.{Silent}
use Rattle.alpha_pal.specs.declared.pal_end.Passed.TheVariants.{Nothing}
use Rattle.alpha_seq.specs.declared.event.Event.TheVariants as events
use Rattle.alpha_seq.specs.declared.event.Event.{Event as SeenEvent}
use Rattle.alpha_seq.specs.State.{Program, Event, Went, Barriered}
use Rattle.alpha_seq.specs.Run.{taken, output, Fed}
use Rattle.alpha_seq.specs.Machine.{program_of, state_of, class_here}
use Rattle.alpha_seq.specs.StepLabel.{StepLabel, is_over, HasPassed}
use Rattle.alpha_seq.specs.Sequential.{seen_as}
use Rattle.alpha_imprecise.specs.declared.pending.Pending.{Pending}
use Rattle.alpha_imprecise.specs.StepResult.{Choice, ImpreciseEvent, Precisely}
use Rattle.alpha_imprecise.specs.Step.{triggers, imprecise_step}
use Rattle.alpha_imprecise.specs.Run.{given_to, unit_of}
use Rattle.alpha_imprecise.specs.Chosen.{reporting}
use Rattle.alpha_imprecise.specs.ChoiceSource.{Unasked, ValueAsked, asked_at, asked}
use Rattle.alpha_imprecise.specs.ImpreciseState.{ImpreciseState, trap_in, waited_in}
use Rattle.alpha_imprecise.specs.ImpreciseStepEffect.{ImpreciseStepBy, StepsBy}
use Rattle.alpha_imprecise.specs.ImpreciseFastSteps.{ImpreciseGoesOn, ImprecisePassingSteps}
use Rattle.alpha_replay.specs.declared.moves.Move.TheVariants.{One}
use Rattle.alpha_replay.specs.declared.play.Cursor.{Cursor}
use Rattle.alpha_replay.specs.Compared.{Sees}
use Rattle.alpha_replay.specs.FixedChoice.{given_choice}
use Rattle.alpha_replay.specs.Listed.{Played, units, move}
use Rattle.alpha_replay.specs.ReplayEffect.{Place, place, IsLast, ReplayEffect, Moved}
use Rattle.alpha_replay.specs.CursorState.{cursor_after}
use Rattle.alpha_replay.proofs.MoveRows.{did_next, did_move}

unfinished : (cursor : Cursor) (n : ℕ) → is_over cursor.last ≡ false → is_over (cursor_after cursor n).last ≡ false
unfinished cursor zero e = e
unfinished cursor (suc n) e = refl

-- With nothing pending a word that doesn't overflow asks nothing. Where nothing passes either, it is the move One.
module _ (old : ImpreciseState) (none : old.pending ≡ None)
    (exact : triggers (class_here old.machine) (state_of old.machine) ≡ false) where
  given_none : (reporting 0).choice ≡ given_choice One (asked old)
  given_none =
      let o = class_here old.machine in
      sym (ap (λ (p : Option Pending).
      given_choice One (asked_at o (state_of old.machine) (trap_in p) (waited_in p))) none
      ∙ ap (λ (b : Bool). given_choice One (cond b ValueAsked Unasked)) exact)

  silent-moved : (last : Event) (event : SeenEvent) (new : ImpreciseState) (input : List ℕ)
      → event ≡ seen_as last Nothing → given_to (Precisely last) ≡ []
      → HasPassed event new.machine.memory (taken (last ∷ [])) (output (last ∷ []))
      → Fed input (last ∷ []) input
      → StepsBy (Precisely last) (reporting 0).choice old new
      → Moved One event old new input input
  silent-moved last event new input is unfed passes fed step =
      let label : StepLabel =
      record { units = 1; words = []; seen = last ∷ []; event = event; core = new.machine } in
      let by : ImpreciseStepBy (reporting 0).choice old label new = record {
        last_event = Precisely last;
        passed = Nothing;
        seen = refl;
        event = is;
        units = sym (ap (λ (p : Option Pending). unit_of (trap_in p)) none);
        core = refl;
        is =
            ap (λ (l : List ℕ). imprecise_step (program_of old.machine) (state_of old.machine) (trap_in old.pending)
            (reporting 0).choice l) unfed
            ∙ step.is;
        passes = passes;
        waited = step.waited;
        kernel = step.kernel;
        program = step.program;
      } in
      record {
        label = label;
        is = subst (λ (c : Choice). ImpreciseStepBy c old label new) given_none by;
        event_is = refl;
        fed = fed;
      }

-- behind a barrier a run is no more over than behind a step that only goes on
barrier-went : (h : ImpreciseEvent) → IsLast (events.Barrier Nothing) h → IsLast events.Went h
barrier-went h is = record { over = is.over; ending = is.ending }

ReplayEffect-went : (expected : List ℕ) (part : Program → Played → Option Played) (a : Place) (new : ImpreciseState)
    (input : List ℕ) (cursor : Cursor)
    → ReplayEffect expected part a (place new input (record cursor { last = events.Barrier Nothing }))
    → ReplayEffect expected part a (place new input (record cursor { last = events.Went }))
ReplayEffect-went expected part a new input cursor one = record {
  used = one.used;
  steps = one.steps;
  program = one.program;
  fewer = one.fewer;
  is = λ h is before n. let x = one.is h is before n in (x.0, barrier-went x.0 x.1, x.2);
  sees = one.sees;
}

-- such a step puts nothing
module _ (expected : List ℕ) (old new : ImpreciseState) (input : List ℕ) (cursor : Cursor)
    (going : is_over cursor.last ≡ false) where
  sees_none : (put : List ℕ) → Sees expected cursor.seen put → Sees expected cursor.seen (put ++ [])
  sees_none put before = subst (λ (l : List ℕ). Sees expected cursor.seen l) (sym (append-nil put)) before

  ReplayEffect-one : ImpreciseGoesOn true old new
      → ReplayEffect expected (λ g p. move g p One) (place old input cursor)
      (place new input (record cursor { last = events.Went }))
  ReplayEffect-one (inl goes) =
      did_move One old input cursor new input events.Went
      (silent-moved old goes.nothing_pending goes.exact Went events.Went new input refl refl (refl, refl)
      (refl, refl) goes.step)
      expected cursor.seen going refl sees_none
  ReplayEffect-one (inr passes) =
      let h = passes.1 in
      ReplayEffect-went expected (λ g p. move g p One) (place old input cursor) new input cursor
      (did_move One old input cursor new input (events.Barrier Nothing)
      (silent-moved old h.nothing_pending h.exact (Barriered Silent new.machine.pc new.machine.regs)
      (events.Barrier Nothing) new input refl refl (refl, refl) (refl, refl) h.step)
      expected cursor.seen going refl sees_none)

went_after : (cursor : Cursor) (n : ℕ)
    → record (cursor_after cursor n) { last = events.Went } ≡ record cursor { last = events.Went }
went_after cursor zero = refl
went_after cursor (suc n) = refl

-- so many behind others
pub ReplayEffect-fast : (expected : List ℕ) (n k : ℕ) (a : Place) (mid new : ImpreciseState) (input : List ℕ)
    (cursor : Cursor)
    → is_over cursor.last ≡ false
    → ReplayEffect expected (λ g p. units g k p) a (place mid input cursor) → ImprecisePassingSteps true n mid new
    → ReplayEffect expected (λ g p. units g (k + n) p) a (place new input (cursor_after cursor n))
ReplayEffect-fast expected zero k a mid new input cursor going one same =
    subst (λ (w : ImpreciseState). ReplayEffect expected (λ g p. units g (k + 0) p) a (place w input cursor)) (sym same)
    (subst (λ (i : ℕ). ReplayEffect expected (λ g p. units g i p) a (place mid input cursor))
    (let e : k ≡ k + 0 = omega arith in e) one)
ReplayEffect-fast expected (suc n) k a mid new input cursor going one rushed =
    let more : k + n + 1 ≡ k + suc n = omega arith in
    subst
    (λ (i : ℕ). ReplayEffect expected (λ g p. units g i p) a (place new input (record cursor { last = events.Went })))
    more
    (did_next expected (k + n) a (place rushed.0 input (cursor_after cursor n))
    (place new input (record cursor { last = events.Went }))
    (ReplayEffect-fast expected n k a mid rushed.0 input cursor going one rushed.1)
    (subst (λ (s : Cursor).
    ReplayEffect expected (λ g p. move g p One) (place rushed.0 input (cursor_after cursor n)) (place new input s))
    (went_after cursor n)
    (ReplayEffect-one expected rushed.0 new input (cursor_after cursor n) (unfinished cursor n going) rushed.2)))

-- none where the run is over
pub ReplayEffect-any : (expected : List ℕ) (n k : ℕ) (a : Place) (mid new : ImpreciseState) (input : List ℕ)
    (cursor : Cursor)
    → (is_over cursor.last ≡ true → n ≡ 0)
    → ReplayEffect expected (λ g p. units g k p) a (place mid input cursor) → ImprecisePassingSteps true n mid new
    → ReplayEffect expected (λ g p. units g (k + n) p) a (place new input (cursor_after cursor n))
ReplayEffect-any expected n k a mid new input cursor none one rushed = by (is_over cursor.last) refl
  where
    none_made : (i : ℕ) → i ≡ 0 → ImprecisePassingSteps true i mid new
        → ReplayEffect expected (λ g p. units g (k + i) p) a (place new input (cursor_after cursor i))
    none_made zero e same =
        subst (λ (w : ImpreciseState). ReplayEffect expected (λ g p. units g (k + 0) p) a (place w input cursor))
        (sym same)
        (subst (λ (j : ℕ). ReplayEffect expected (λ g p. units g j p) a (place mid input cursor))
        (let e : k ≡ k + 0 = omega arith in e) one)
    none_made (suc i) e rushed = absurd (omega arith)

    by : (b : Bool) → is_over cursor.last ≡ b
        → ReplayEffect expected (λ g p. units g (k + n) p) a (place new input (cursor_after cursor n))
    by true e = none_made n (none e) rushed
    by false e = ReplayEffect-fast expected n k a mid new input cursor e one rushed

pub cursor_seen-after : (cursor : Cursor) (n : ℕ) → (cursor_after cursor n).seen ≡ cursor.seen
cursor_seen-after cursor zero = refl
cursor_seen-after cursor (suc n) = refl
