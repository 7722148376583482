-- The machines are together after every step, with just the events that were seen, and so each accepted image can be
-- restarted.
use Rattle.std.proofs.Common.{◌≡◌, ◌≢◌, ◌+◌, ℕ, true, false, List, [], ◌∷◌, ◌++◌, Option, Some, None, refl, sym, ap}
use Rattle.std.proofs.Common.{subst, ◌∙◌, append_assoc, append-nil}
use Rattle.alpha_pal.specs.Call.{Traffic}
use Rattle.alpha_image.specs.Parts.{Parts, IsImage}
use Rattle.alpha_shadow.specs.Broken.{IsAccepted}
use Rattle.alpha_seq.specs.declared.end.End.{End}
use Rattle.alpha_seq.specs.declared.end.End.TheVariants.{Overflow}
use Rattle.alpha_seq.specs.State.{Program, State, Event, Barriered, Ends, Stepped}
use Rattle.alpha_seq.specs.Start.{start}
use Rattle.alpha_seq.specs.Step.{step_from}
use Rattle.alpha_seq.specs.Run.{begins, Runs, is_over}
use Rattle.alpha_seq.proofs.RunSequence.{Runs-append, Runs-one_more}
use Rattle.alpha_trap.specs.Scan.{scan}
use Rattle.alpha_imprecise.specs.StepResult.{Trap, ImpreciseEvent, Precisely, Lost, StepResult}
use Rattle.alpha_imprecise.specs.Step.{imprecise_step}
use Rattle.alpha_imprecise.specs.Run.{seen_of, seen, finished, choice_of, given_to, imprecise_start, next_step_result}
use Rattle.alpha_imprecise.specs.Run.{RunsImprecisely}
use Rattle.alpha_imprecise.specs.Restart.{Follows, Agrees, RestartsFrom, IsRestartable}
use Rattle.alpha_imprecise.proofs.ImpreciseSequence.{seen_steps-append}
use Rattle.alpha_restart.specs.Safe.{IsSafe}
use Rattle.alpha_restart.specs.Invariant.{IsReady, Trail, Together, exact, synced, window, stopping, stopped}
use Rattle.alpha_restart.proofs.Safety.{safe}
use Rattle.alpha_restart.proofs.ImagePlaces.{trail_scan}
use Rattle.alpha_restart.proofs.StartState.{IsReady-start}
use Rattle.alpha_restart.proofs.Together.{from_same}
use Rattle.alpha_restart.proofs.Resynchronization.{from_synced}
use Rattle.alpha_restart.proofs.PendingSteps.{from_window, from_stopping}

-- The precise run of as many steps as units were used. While a trap is pending its last event is one that wasn't seen
-- yet.
record Followed (g : Program) (s : State) (hs : List ImpreciseEvent) (w : StepResult) : Type 0 where
  events : List Event
  last : Stepped
  runs : Runs g (begins s) events last
  together : Together g last w
  none : w.pending ≡ None → events ≡ seen hs
  some : (t : Trap) → w.pending ≡ Some t → events ≡ seen hs ++ last.event ∷ []

-- what was seen of the last step: the precise machine's last event, or nothing while a trap is pending
Together-seen : (g : Program) (r : Stepped) (w : StepResult) → Together g r w
    → (w.pending ≡ None → seen_of w.last_event ≡ r.event ∷ [])
    × ((t : Trap) → w.pending ≡ Some t → seen_of w.last_event ≡ [])
Together-seen g r w (exact x) = (λ none. ap seen_of x.last, λ t some. let k = sym x.pending ∙ some in cc)
Together-seen g r w (synced x) = (λ none. x.shows, λ t some. let k = sym x.pending ∙ some in cc)
Together-seen g r w (window x) = (λ none. (let k = sym x.trail.pending ∙ none in cc), λ t some. x.trail.silent)
Together-seen g r w (stopping x) = (λ none. (let k = sym x.trail.pending ∙ none in cc), λ t some. x.trail.silent)
Together-seen g r w (stopped x) = (
  λ none. ap seen_of x.last_too ∙ ap (λ (e : Event). e ∷ []) (sym x.last),
  λ t some. let k = sym x.pending ∙ some in cc,
)

module _ (g : Program) (good : IsImage g.image) (safety : IsSafe g.image.words) (s : State) where
  module _ (hs : List ImpreciseEvent) (w : StepResult) (h : ImpreciseEvent) (f : Followed g s hs w)
      (going : finished w.last_event ≡ false) (same : (next_step_result g w h).last_event ≡ h) where
    abbrev to : StepResult
    to = next_step_result g w h

    seen_more : seen (hs ++ h ∷ []) ≡ seen hs ++ seen_of to.last_event
    seen_more =
        seen_steps-append hs (h ∷ [])
        ∙ (ap (λ l. seen hs ++ l) (append-nil (seen_of h))
        ∙ ap (λ (x : ImpreciseEvent). seen hs ++ seen_of x) (sym same))

    -- both made a step, with nothing pending before it
    unit_more : w.pending ≡ None → is_over f.last.event ≡ false → Together g (step_from g f.last.state (given_to h)) to
        → Followed g s (hs ++ h ∷ []) to
    unit_more calm goes joined =
        let t : Stepped = step_from g f.last.state (given_to h) in
        let show = Together-seen g t to joined in
        record {
          events = f.events ++ t.event ∷ [];
          last = t;
          runs =
              Runs-append g f.events (t.event ∷ []) (begins s) f.last t f.runs
              (Runs-one_more g f.last (given_to h) goes);
          together = joined;
          none =
              λ none. ap (λ l. l ++ t.event ∷ []) (f.none calm)
              ∙ (ap (λ l. seen hs ++ l) (sym (show.0 none)) ∙ sym seen_more);
          some = λ u some. ap (λ l. l ++ t.event ∷ [])
              (f.none calm
              ∙ (sym (append-nil (seen hs)) ∙ (ap (λ l. seen hs ++ l) (sym (show.1 u some)) ∙ sym seen_more)));
        }

    -- the precise machine stood still, with a trap pending in the other one
    held_more : (u : Trap) → w.pending ≡ Some u → Together g f.last to → Followed g s (hs ++ h ∷ []) to
    held_more u pending joined =
        let show = Together-seen g f.last to joined in
        record {
          events = f.events;
          last = f.last;
          runs = f.runs;
          together = joined;
          none = λ none. f.some u pending ∙ (ap (λ l. seen hs ++ l) (sym (show.0 none)) ∙ sym seen_more);
          some = λ v some. f.some u pending
              ∙ ap (λ l. l ++ f.last.event ∷ [])
              (sym (append-nil (seen hs)) ∙ (ap (λ l. seen hs ++ l) (sym (show.1 v some)) ∙ sym seen_more));
        }

    follow : Followed g s (hs ++ h ∷ []) to
    follow = by f.together
      where
        calmly : w.pending ≡ None → is_over f.last.event ≡ false
            → Together g (step_from g f.last.state (given_to h))
            (imprecise_step g w.state None (choice_of h) (given_to h))
            → Followed g s (hs ++ h ∷ []) to
        calmly calm goes joined =
            unit_more calm goes (subst (λ (o : Option Trap). Together g (step_from g f.last.state (given_to h))
            (imprecise_step g w.state o (choice_of h) (given_to h))) (sym calm) joined)

        by : Together g f.last w → Followed g s (hs ++ h ∷ []) to
        by (exact x) =
            calmly x.pending (sym (ap finished x.last) ∙ going)
            (subst (λ (y : State).
            Together g (step_from g f.last.state (given_to h)) (imprecise_step g y None (choice_of h) (given_to h)))
            (sym x.state)
            (from_same g good safety f.last.state (choice_of h) (given_to h) x.ready))
        by (synced x) = calmly x.pending x.going (from_synced g good safety f.last w (choice_of h) (given_to h) x)
        by (window x) =
            held_more (record { place = x.place; mask = x.trail.mask }) x.trail.pending
            (from_window g good safety f.last w (choice_of h) (given_to h) x)
        by (stopping x) =
            held_more (record { place = x.place; mask = x.trail.mask }) x.trail.pending
            (from_stopping g good safety f.last w (choice_of h) (given_to h) x)
        by (stopped x) = absurd (let over : true ≡ false = ap finished (sym x.last_too) ∙ going in cc)

  follow_all : (rest hs : List ImpreciseEvent) (m b : StepResult) → Followed g s hs m → RunsImprecisely g m rest b
      → Followed g s (hs ++ rest) b
  follow_all [] hs m b f run =
      subst (λ l. Followed g s l b) (sym (append-nil hs)) (subst (λ (x : StepResult). Followed g s hs x) run f)
  follow_all (h ∷ rest) hs m b f run =
      subst (λ l. Followed g s l b) (append_assoc hs (h ∷ []) rest)
      (follow_all rest (hs ++ h ∷ []) (next_step_result g m h) b (follow hs m h f run.0 run.1) run.2)

  begin : IsReady s → Followed g s [] (imprecise_start s)
  begin ready = record {
    events = [];
    last = begins s;
    runs = refl;
    together = exact (record { pending = refl; state = refl; last = refl; ready = ready });
    none = λ none. refl;
    some = λ t some. cc;
  }

  -- ---- they agree

  not_lost : (h : ImpreciseEvent) (pc mask : ℕ) → finished h ≡ false → h ≢ Lost pc mask
  not_lost h pc mask going e = let over = ap finished e in cc

  not_ended : (h : ImpreciseEvent) (e : End) → finished h ≡ false → h ≢ Precisely (Ends e)
  not_ended h e going is = let over = ap finished is in cc

  module _ (hs : List ImpreciseEvent) (w : StepResult) (f : Followed g s hs w) where
    found : (pc mask : ℕ) → w.last_event ≢ Lost pc mask
    found pc mask e = by f.together
      where
        by : Together g f.last w → ⊥
        by (exact x) = let k = sym x.last ∙ e in cc
        by (synced x) = not_lost w.last_event pc mask x.going_too e
        by (window x) = not_lost w.last_event pc mask x.trail.going e
        by (stopping x) = not_lost w.last_event pc mask x.trail.going e
        by (stopped x) = let k = sym x.last_too ∙ e in cc

    trail_scanned : (place at : ℕ) (t : Trap) → Trail g place at w → w.pending ≡ Some t
        → scan g.image w.state.pc t.mask ≡ Some t.place
    trail_scanned place at t x e =
        let same : record { place = place; mask = x.mask } ≡ t = let k = sym x.pending ∙ e in cc in
        subst (λ (u : Trap). scan g.image w.state.pc u.mask ≡ Some u.place) same (trail_scan g place at w good safety x)

    scanned : (t : Trap) → w.pending ≡ Some t → scan g.image w.state.pc t.mask ≡ Some t.place
    scanned t e = by f.together
      where
        by : Together g f.last w → scan g.image w.state.pc t.mask ≡ Some t.place
        by (exact x) = let k = sym x.pending ∙ e in cc
        by (synced x) = let k = sym x.pending ∙ e in cc
        by (window x) = trail_scanned x.place x.at t x.trail e
        by (stopping x) = trail_scanned x.place x.at t x.trail e
        by (stopped x) = let k = sym x.pending ∙ e in cc

    follows : w.pending ≡ None → Follows g s (seen hs) w
    follows none = by f.together
      where
        all : f.last.state.unique ≡ w.state.unique
            → ((traffic : Traffic) (pc : ℕ) (regs : List ℕ) → w.last_event ≡ Precisely (Barriered traffic pc regs)
            → f.last.state ≡ w.state)
            → ((e : End) → w.last_event ≡ Precisely (Ends e) → f.last.state.pc ≡ w.state.pc)
            → ((e : End) → w.last_event ≡ Precisely (Ends e) → ((at : ℕ) → e ≢ Overflow at) → f.last.state ≡ w.state)
            → Follows g s (seen hs) w
        all unique at_barrier at_stop at_end = record {
          last = f.last;
          runs = subst (λ l. Runs g (begins s) l f.last) (f.none none) f.runs;
          unique = unique;
          barrier = at_barrier;
          stopped = at_stop;
          ended = at_end;
        }

        by : Together g f.last w → Follows g s (seen hs) w
        by (exact x) =
            let e = sym x.state in
            all (ap (λ (y : State). y.unique) e) (λ traffic pc regs is. e) (λ end is. ap (λ (y : State). y.pc) e)
            (λ end is n. e)
        by (synced x) =
            all (sym x.matched.unique) (λ traffic pc regs is. absurd (x.no_barrier traffic pc regs is))
            (λ end is. sym x.pc_too)
            (λ end is n. absurd (not_ended w.last_event end x.going_too is))
        by (window x) = let k = sym x.trail.pending ∙ none in cc
        by (stopping x) = let k = sym x.trail.pending ∙ none in cc
        by (stopped x) =
            all (sym x.unique) (λ traffic pc regs is. let k = sym x.last_too ∙ is in cc) (λ end is. sym x.pc)
            (λ end is n. absurd
            (n x.at (let k : Precisely (Ends (Overflow x.at)) ≡ Precisely (Ends end) = sym x.last_too ∙ is in cc)))

    agrees : Agrees g s (seen hs) w
    agrees = record { found = found; scanned = scanned; follows = follows }

  -- from a state that is ready
  pub restarts_from : IsReady s → RestartsFrom g s
  restarts_from ready = λ steps w run. agrees steps w (follow_all steps [] (imprecise_start s) w (begin ready) run)

pub IsAccepted-IsRestartable : (image : Parts) → IsImage image → IsAccepted image.words → IsRestartable image
IsAccepted-IsRestartable image good accepted = λ completion.
    let g : Program = record { image = image; completion = completion } in
    restarts_from g good (safe image.words accepted) (start g) (IsReady-start g good)
