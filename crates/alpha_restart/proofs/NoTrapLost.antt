-- An accepted image loses no trap, from any state with nothing pending, whatever is chosen and whatever its steps are
-- given.
use Rattle.std.proofs.Common.{◌≡◌, ◌≢◌, ◌+◌, ℕ, Bool, true, false, cond, List, [], ◌∷◌, Option, None, Some, refl, sym}
use Rattle.std.proofs.Common.{ap, subst, ◌∙◌, option_and_then}
use Rattle.alpha_table.specs.Class.{Class, operate, trigger, address}
use Rattle.alpha_table.specs.Code.{class_at}
use Rattle.alpha_values.specs.TrapOp.{stops}
use Rattle.alpha_image.specs.Parts.{Parts, IsImage, place_of}
use Rattle.alpha_image.proofs.CodePlaces.{place_of-code}
use Rattle.alpha_shadow.specs.Broken.{IsAccepted}
use Rattle.alpha_seq.specs.declared.end.End.TheVariants.{Overflow}
use Rattle.alpha_seq.specs.State.{Program, State, Ends, Stepped}
use Rattle.alpha_seq.specs.Step.{next_class, step}
use Rattle.alpha_seq.specs.Run.{is_over}
use Rattle.alpha_imprecise.specs.StepResult.{Trap, Choice, ImpreciseEvent, Precisely, Reported, Lost, StepResult}
use Rattle.alpha_imprecise.specs.StepResult.{step_result}
use Rattle.alpha_imprecise.specs.Step.{triggers, triggered, precisely, can_wait, address_at, completed, landed}
use Rattle.alpha_imprecise.specs.Step.{imprecise_step}
use Rattle.alpha_imprecise.specs.Run.{finished, choice_of, given_to, imprecise_start, next_step_result, RunsImprecisely}
use Rattle.alpha_imprecise.specs.Restart.{NeverLoses}
use Rattle.alpha_restart.specs.Safe.{IsSafe}
use Rattle.alpha_restart.specs.Trigger.{Trigger}
use Rattle.alpha_restart.specs.Invariant.{Trail}
use Rattle.alpha_restart.proofs.Safety.{safe}
use Rattle.alpha_restart.proofs.Trails.{trail_start, trail_on}
use Rattle.alpha_restart.proofs.UnpredictableSteps.{unpredictable-step, waits_steady, trail_shadowed}
use Rattle.alpha_restart.proofs.PendingSteps.{waited_on, pending_step}

-- the run is over and has lost no trap; or nothing is pending; or the pending trap can be found
data IsSure (g : Program) (w : StepResult) : Type 0 where
  ended : finished w.last_event ≡ true → ((pc mask : ℕ) → w.last_event ≢ Lost pc mask) → IsSure g w
  sure_with_nothing_pending : w.pending ≡ None → finished w.last_event ≡ false → IsSure g w
  trailing : (place at : ℕ) → Trail g place at w → IsSure g w

module _ (g : Program) (good : IsImage g.image) (safety : IsSafe g.image.words) where
  -- ---- with nothing pending

  -- behind a precise step
  sure_precise : (t : Stepped) → IsSure g (precisely t)
  sure_precise t = by (is_over t.event) refl
    where
      by : (b : Bool) → is_over t.event ≡ b → IsSure g (precisely t)
      by true e = ended e (λ pc mask is. cc)
      by false e = sure_with_nothing_pending refl e

  -- the place of the next word
  placed : (s : State) (class : Class) → next_class g s.pc ≡ Some class
      → (q : ℕ) × (class_at g.image.words q ≡ Some class) × (s.pc ≡ address_at g.image q)
  placed s class is = by (place_of g.image s.pc) refl
    where
      by : (p : Option ℕ) → place_of g.image s.pc ≡ p
          → (q : ℕ) × (class_at g.image.words q ≡ Some class) × (s.pc ≡ address_at g.image q)
      by None f =
          let none : next_class g s.pc ≡ None = ap (option_and_then (class_at g.image.words)) f in
          absurd (let no = sym none ∙ is in cc)
      by (Some q) f =
          let there : next_class g s.pc ≡ class_at g.image.words q = ap (option_and_then (class_at g.image.words)) f in
          (q, sym there ∙ is, ((place_of-code g.image good s.pc q).0 f).1)

  -- behind a word that overflows
  sure_triggered : (s : State) (c : Choice) (o : Option Class) → next_class g s.pc ≡ o → triggers o s ≡ true
      → IsSure g (triggered g o s c)
  sure_triggered s c None is over = absurd cc
  sure_triggered s c (Some (operate op ra src rc)) is over = absurd cc
  sure_triggered s c (Some (trigger op ra src rc)) is over =
      let t : Trigger = record { op = op; ra = ra; src = src; rc = rc } in
      let at = placed s (trigger op ra src rc) is in
      trailing at.0 (at.0 + 1) (trail_start g good safety at.0 t s c at.1 at.2)
  sure_triggered s c (Some (address op ra rb disp)) is over = absurd cc
  sure_triggered s c o is over = absurd cc

  sure_calm : (s : State) (c : Choice) (input : List ℕ) → IsSure g (imprecise_step g s None c input)
  sure_calm s c input = by (triggers (next_class g s.pc) s) refl
    where
      by : (b : Bool) → triggers (next_class g s.pc) s ≡ b
          → IsSure g (cond b (triggered g (next_class g s.pc) s c) (precisely (step g (next_class g s.pc) s input)))
      by true e = sure_triggered s c (next_class g s.pc) refl e
      by false e = sure_precise (step g (next_class g s.pc) s input)

  -- ---- with a trap pending

  sure_landed : (s : State) (place : ℕ) → IsSure g (landed g s place)
  sure_landed s place = by (stops g.completion)
    where
      by : (b : Bool) → IsSure g (cond b (step_result (record s { pc = address_at g.image place }) None
          (Precisely (Ends (Overflow (address_at g.image place)))))
          (step_result (completed g s place) None (Reported (address_at g.image place))))
      by true = ended refl (λ pc m is. cc)
      by false = sure_with_nothing_pending refl refl

  sure_waited : (w : StepResult) (c : Choice) (place at : ℕ) (h : Trail g place at w)
      → can_wait (class_at g.image.words at) w.state ≡ true
      → IsSure g (waited_on g good safety w place at h.mask c)
  sure_waited w c place at h can =
      let reach = trail_shadowed g good safety place at w h in
      let steady = waits_steady g.image.words place at w.state safety reach (class_at g.image.words at) refl can in
      let leaves = unpredictable-step g.image.words at w.state c (class_at g.image.words at) refl steady in
      trailing place (at + 1) (trail_on g good safety place at w c h steady leaves.pc)

  -- ---- any step of a run that goes on

  sure_step : (w : StepResult) (h : ImpreciseEvent) → finished w.last_event ≡ false → IsSure g w
      → IsSure g (next_step_result g w h)
  sure_step w h going (ended over never) = absurd (let no : true ≡ false = sym over ∙ going in cc)
  sure_step w h going (sure_with_nothing_pending none goes) =
      subst (λ (o : Option Trap). IsSure g (imprecise_step g w.state o (choice_of h) (given_to h))) (sym none)
      (sure_calm w.state (choice_of h) (given_to h))
  sure_step w h going (trailing place at t) =
      pending_step g good safety w (choice_of h) (given_to h) place at t (IsSure g) (sure_landed w.state place)
      (sure_waited w (choice_of h) place at t)

  sure_run : (hs : List ImpreciseEvent) (a b : StepResult) → IsSure g a → RunsImprecisely g a hs b → IsSure g b
  sure_run [] a b h run = subst (IsSure g) run h
  sure_run (x ∷ hs) a b h run = sure_run hs (next_step_result g a x) b (sure_step a x run.0 h) run.2

not_lost : (h : ImpreciseEvent) (pc mask : ℕ) → finished h ≡ false → h ≢ Lost pc mask
not_lost h pc mask going e = let over = ap finished e in cc

sure_found : (g : Program) (w : StepResult) → IsSure g w → (pc mask : ℕ) → w.last_event ≢ Lost pc mask
sure_found g w (ended over never) pc mask = never pc mask
sure_found g w (sure_with_nothing_pending none going) pc mask = not_lost w.last_event pc mask going
sure_found g w (trailing place at h) pc mask = not_lost w.last_event pc mask h.going

pub IsAccepted-NeverLoses : (image : Parts) → IsImage image → IsAccepted image.words → NeverLoses image
IsAccepted-NeverLoses image good accepted = λ completion s steps w pc mask run.
    let g : Program = record { image = image; completion = completion } in
    sure_found g w
    (sure_run g good (safe image.words accepted) steps (imprecise_start s) w (sure_with_nothing_pending refl refl) run)
    pc mask
