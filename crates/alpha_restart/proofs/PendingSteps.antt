-- A step with a trap pending: the word waits, or the trap is reported and the machines are matched again.
use Rattle.std.proofs.Common.{◌≡◌, ◌+◌, ◌||◌, not, ℕ, List, Bool, true, false, cond, [], ◌∷◌, Option, Some, None, refl}
use Rattle.std.proofs.Common.{sym, ap, subst, ◌∙◌, arith}
use Rattle.alpha_words.specs.Regs.{put}
use Rattle.alpha_table.specs.Class.{Class}
use Rattle.alpha_table.specs.Code.{class_at}
use Rattle.alpha_image.specs.Parts.{IsImage}
use Rattle.alpha_seq.specs.declared.end.End.TheVariants.{Overflow}
use Rattle.alpha_seq.specs.State.{Program, Event, Ends, Stepped}
use Rattle.alpha_seq.specs.Run.{is_over}
use Rattle.alpha_trap.specs.Completed.{completed_regs}
use Rattle.alpha_imprecise.specs.StepResult.{Trap, Choice, Precisely, Reported, StepResult, step_result}
use Rattle.alpha_imprecise.specs.Step.{can_wait, waited, address_at, completed, landed, report, imprecise_step}
use Rattle.alpha_imprecise.specs.Step.{imprecise_step_at}
use Rattle.alpha_imprecise.proofs.ReportLandings.{report_at}
use Rattle.alpha_restart.specs.Safe.{IsSafe}
use Rattle.alpha_restart.specs.Match.{Alike, Match}
use Rattle.alpha_restart.specs.Trigger.{trigger_value}
use Rattle.alpha_restart.specs.Invariant.{Trail, Synced, Window, Stopping, Stopped, Together, synced, window, stopping}
use Rattle.alpha_restart.specs.Invariant.{stopped}
use Rattle.alpha_restart.proofs.Shadows.{report_alike}
use Rattle.alpha_restart.proofs.ImagePlaces.{next_class-class_at, trail_scan}
use Rattle.alpha_restart.proofs.UnpredictableSteps.{waits_window, waits_stopping}

-- a word that isn't reported at can wait
pub can_be_executed : (report can : Bool) → (report || not can) ≡ false → can ≡ true
can_be_executed true can e = cc
can_be_executed false true e = refl
can_be_executed false false e = cc

module _ (g : Program) (good : IsImage g.image) (safe : IsSafe g.image.words) where
  abbrev trap_of : ℕ → ℕ → Trap
  trap_of place mask = record { place = place; mask = mask }

  -- what a wait at a place leaves
  abbrev pub waited_on : StepResult → ℕ → ℕ → ℕ → Choice → StepResult
  waited_on w place at mask c = waited (class_at g.image.words at) w.state (trap_of place mask) c

  -- a step with a trap pending is a wait, or a report that finds its trigger
  module _ (w : StepResult) (c : Choice) (input : List ℕ) (p i : ℕ) (h : Trail g p i w) where
    reports : (P : StepResult → Type 0) → P (landed g w.state p) → P (report g w.state (trap_of p h.mask))
    reports P x =
        subst (λ (o : Option ℕ). P (report_at g w.state (trap_of p h.mask) o)) (sym (trail_scan g p i w good safe h)) x

    pub pending_step : (P : StepResult → Type 0) → P (landed g w.state p)
        → (can_wait (class_at g.image.words i) w.state ≡ true → P (waited_on w p i h.mask c))
        → P (imprecise_step g w.state w.pending c input)
    pending_step P lands stays =
        subst (λ (o : Option Trap). P (imprecise_step g w.state o c input)) (sym h.pending)
        (subst (λ (o : Option Class). P (imprecise_step_at g o w.state (Some (trap_of p h.mask)) c input))
        (sym (next_class-class_at g good i w.state.pc h.pc))
        (by (c.report || not (can_wait (class_at g.image.words i) w.state)) refl))
      where
        by : (b : Bool) → (c.report || not (can_wait (class_at g.image.words i) w.state)) ≡ b
            → P (cond b (report g w.state (trap_of p h.mask))
            (waited (class_at g.image.words i) w.state (trap_of p h.mask) c))
        by true e = reports P lands
        by false e = stays (can_be_executed c.report (can_wait (class_at g.image.words i) w.state) e)

  -- ---- a trap that is completed

  module _ (r : Stepped) (w : StepResult) (h : Window g r w) where
    completed_is : completed_regs g.completion (class_at g.image.words h.place) w.state.regs
        ≡ put w.state.regs h.t.rc (trigger_value g.completion h.t w.state.regs)
    completed_is = ap (λ (o : Option Class). completed_regs g.completion o w.state.regs) h.shadow.word

    matched : Match g.image.words (h.place + 1) h.to r.state (completed g w.state h.place)
    matched = record {
      registers = subst (Alike g.image.words (h.place + 1) h.to r.state.regs) (sym completed_is)
          (report_alike g.image.words safe g.completion h.place h.t h.shadow.word h.at h.to r.state.regs w.state.regs
          h.shadow);
      memory = h.memory;
      lock = sym h.lock;
      count = sym h.count;
      logged = sym h.logged;
      unique = h.unique;
    }

    behind : address_at g.image h.place + 4 ≡ address_at g.image (h.place + 1)
    behind = omega arith

    lands_synced : Synced g r (step_result (completed g w.state h.place) None (Reported (address_at g.image h.place)))
    lands_synced = record {
      at = h.place + 1;
      to = h.to;
      pending = refl;
      pc = h.pc;
      pc_too = behind ∙ sym h.pc;
      shows = ap (λ (e : Event). e ∷ []) (sym h.last);
      going = ap is_over h.last;
      going_too = refl;
      no_barrier = λ traffic pc regs e. cc;
      matched = matched;
    }

    lands_window : Together g r (landed g w.state h.place)
    lands_window = subst (λ b. Together g r
        (cond b
        (step_result (record w.state { pc = address_at g.image h.place }) None
        (Precisely (Ends (Overflow (address_at g.image h.place)))))
        (step_result (completed g w.state h.place) None (Reported (address_at g.image h.place)))))
        (sym h.not_stopping) (synced lands_synced)

  -- ---- a trap that stops the program

  module _ (r : Stepped) (w : StepResult) (h : Stopping g r w) where
    lands_stopped : Stopped r
        (step_result (record w.state { pc = address_at g.image h.place }) None
        (Precisely (Ends (Overflow (address_at g.image h.place)))))
    lands_stopped = record {
      at = address_at g.image h.place;
      pending = refl;
      last = h.last;
      last_too = refl;
      pc = sym h.pc;
      unique = h.unique;
    }

    lands_stopping : Together g r (landed g w.state h.place)
    lands_stopping = subst (λ b. Together g r
        (cond b
        (step_result (record w.state { pc = address_at g.image h.place }) None
        (Precisely (Ends (Overflow (address_at g.image h.place)))))
        (step_result (completed g w.state h.place) None (Reported (address_at g.image h.place)))))
        (sym h.halts) (stopped lands_stopped)

  -- ---- the steps, while the precise machine stands still

  pub from_window : (r : Stepped) (w : StepResult) (c : Choice) (input : List ℕ) → Window g r w
      → Together g r (imprecise_step g w.state w.pending c input)
  from_window r w c input h = pending_step w c input h.place h.at h.trail (λ (v : StepResult). Together g r v)
      (lands_window r w h) (λ can. window (waits_window g good safe r w c h can))

  pub from_stopping : (r : Stepped) (w : StepResult) (c : Choice) (input : List ℕ) → Stopping g r w
      → Together g r (imprecise_step g w.state w.pending c input)
  from_stopping r w c input h = pending_step w c input h.place h.at h.trail (λ (v : StepResult). Together g r v)
      (lands_stopping r w h) (λ can. stopping (waits_stopping g good safe r w c h can))
