-- A step and what the observer writes of it.
use Rattle.std.proofs.Common.{◌≡◌, ◌<◌, ◌+◌, ◌*◌, ℕ, ◌||◌, Bool, false, List, ◌++◌, Option, None, Result, Ok, Err, IfOk}
use Rattle.std.proofs.Common.{refl, sym, ap, subst, ◌∙◌, append_assoc, append-nil, arith}
use Rattle.alpha_io.specs.Supply.{Supply}
use Rattle.alpha_io.specs.SinkChange.{SinkChange, Puts, WritesPartly, HasFailed}
use Rattle.alpha_io.specs.Written.{WritesPrefix}
use Rattle.alpha_io.proofs.Writes.{WritesPrefix-all}
use Rattle.alpha_seq.specs.declared.machine.Machine.{Machine}
use Rattle.alpha_seq.specs.Devices.{Drawn, LeavesEnd, Feeds, WouldFeed, Idles, drawn_from}
use Rattle.alpha_seq.proofs.RunSteps.{idle-part}
use Rattle.alpha_imprecise.specs.Oracle.{Oracle, OracleDraws}
use Rattle.alpha_seq.specs.declared.event.Event.{Event}
use Rattle.alpha_pal.specs.declared.fault.Fault.{Fault}
use Rattle.alpha_pal.specs.declared.fault.Fault.TheVariants as faults
use Rattle.alpha_seq.specs.StepLabel.{StepLabel, is_over}
use Rattle.alpha_seq.specs.Sequential.{SeqStep, SeqStateAfterFault, one_unit, no_wait, itself, SeqStepEffect}
use Rattle.alpha_seq.specs.Sequential.{FaultedSeqStep}
use Rattle.alpha_imprecise.proofs.ChoicesMade.{OracleDraws-none}
use Rattle.alpha_seq.specs.State.{Event as Happened}
use Rattle.alpha_seq.specs.Run.{taken, output}
use Rattle.alpha_seq.specs.StepEffect.{StepEffect, FaultedStepEffect}
use Rattle.alpha_seq.proofs.InputPrefixes.{Fed-taken_append}
use Rattle.alpha_run.specs.RunEffect.{watching, drawn_to, StateAfterFault, IsObservedStep, FaultedStep}

-- the step was made, and all of its lines are written
pub StepEffect-IsObservedStep : {M O : Type 0} (steps_to : M → StepLabel → M → Type 0) (uses : M → ℕ)
    (core : M → Machine)
    (next : O → Event → Machine → O) (lines : O → Event → Machine → List ℕ) (stops : O → Event → Machine → Bool)
    (event : Event) (stop last : Bool) (old new : M) (m : Machine) (from to : O) (before after : Oracle) (input : Drawn)
    (out notes : SinkChange)
    → StepEffect steps_to uses core (OracleDraws before after) event old new input out → m ≡ core new
    → to ≡ next from event m → Puts notes (lines from event m)
    → stop ≡ stops from event m → last ≡ (stop || is_over event)
    → IsObservedStep steps_to uses (watching next lines stops) event last old new from to before after input out notes
StepEffect-IsObservedStep steps_to uses core next lines stops event stop last old new m from to before after input out
    notes
    one here seen
    wrote stop_is last_is =
    let p = one.label in
    let same : core new ≡ p.core = sym one.core_is in
    record {
      label = p;
      is = one.is;
      units = one.units;
      event_is = one.event_is;
      last_is =
          last_is
          ∙ (ap (λ (b : Bool). b || is_over event) stop_is
          ∙ (ap (λ (x : Machine). stops from event x || is_over event) (here ∙ same)
          ∙ ap (λ (e : Event). stops from e p.core || is_over e) (sym one.event_is)));
      effect = record {
        seen = seen ∙ (ap (next from event) (here ∙ same) ∙ ap (λ e. next from e p.core) (sym one.event_is));
        drew = subst (OracleDraws before after) (sym (append-nil p.words)) one.drew;
        fed = subst (Feeds input) (sym (append-nil p.seen)) one.fed;
        same = one.same;
        wrote = subst (λ l. Puts out (output l)) (sym (append-nil p.seen)) one.wrote;
        lines =
            subst (Puts notes)
            (ap (lines from event) (here ∙ same)
            ∙ (ap (λ e. lines from e p.core) (sym one.event_is) ∙ sym (append-nil (lines from p.event p.core))))
            wrote;
      };
    }

would_of : (input : Drawn) (events : List Happened) → Feeds input events → WouldFeed input events
would_of input events fed = λ bytes is. let f = fed.told bytes is in (f.0, f.1)

pub Feeds-LeavesEnd : (input : Drawn) (events : List Happened) → Feeds input events → LeavesEnd input
Feeds-LeavesEnd input events fed =
    λ bytes is. let f = fed.told bytes is in
    (taken events, f.0, sym (Fed-taken_append events bytes f.0 f.1), f.2)

-- steps left this of it, and one that was cut short an end of that
pub Feeds-LeavesEnd_cut_short : (input : Drawn) (left : Supply) (events : List Happened)
    → Feeds (drawn_to input left) events
    → LeavesEnd (drawn_from input left input.before) → LeavesEnd input
Feeds-LeavesEnd_cut_short input left events fed more = λ bytes is.
    let one = fed.told bytes is in
    let two = more one.0 one.2 in (
      taken events ++ two.0,
      two.1,
      sym (Fed-taken_append events bytes one.0 one.1)
          ∙ (ap (λ l. taken events ++ l) two.2 ∙ sym (append_assoc (taken events) two.0 two.1)),
      two.3,
    )

-- the step was made, and its lines failed
pub notes-Idles : {M O : Type 0} (steps_to : M → StepLabel → M → Type 0) (uses : M → ℕ) (core : M → Machine)
    (leaves : Fault → M → M → Drawn → SinkChange → Type 0) (next : O → Event → Machine → O)
    (lines : O → Event → Machine → List ℕ) (stops : O → Event → Machine → Bool)
    (event : Event) (old new : M) (m : Machine) (from : O) (before after : Oracle) (input : Drawn)
    (out notes : SinkChange)
    → StepEffect steps_to uses core (OracleDraws before after) event old new input out → m ≡ core new
    → WritesPartly notes (lines from event m) → HasFailed notes
    → FaultedStep steps_to uses leaves
    (watching next lines stops) faults.Notes old new from before after input out notes
notes-Idles steps_to uses core leaves next lines stops event old new m from before after input out notes one here wrote
    failed =
    let p = one.label in
    record {
      intended = new;
      label = p;
      is = one.is;
      units = one.units;
      drew = one.drew;
      would_feed = would_of input p.seen one.fed;
      leaves_end = Feeds-LeavesEnd input p.seen one.fed;
      bytes = WritesPrefix-all out.old out.new (output p.seen) one.wrote.written;
      lines =
          subst (WritesPrefix notes.old notes.new)
          (ap (lines from event) (here ∙ sym one.core_is) ∙ ap (λ e. lines from e p.core) (sym one.event_is))
          wrote.prefix;
      after_fault = record { is = refl; fed = one.fed; wrote = one.wrote };
      cause = record { source = one.same; sink = one.wrote.same; later = wrote.later; lines = failed };
    }

-- a step writes no notes
no_notes : SinkChange
no_notes = record { old = None; new = None; before = 0; now = 0 }

behind_step : {M : Type 0} (steps_to : M → StepLabel → M → Type 0) (uses : M → ℕ) (core : M → Machine)
    (leaves : Fault → M → M → Drawn → SinkChange → Type 0) (draws : List ℕ → Type 0)
    (fault : Fault) (old new : M) (input : Drawn) (out notes : SinkChange) → Idles notes
    → (one : FaultedStepEffect steps_to uses core leaves draws fault old new input out)
    → StateAfterFault leaves fault one.label old one.intended new input out notes
unfolding no_notes
behind_step steps_to uses core leaves draws faults.Input old new input out notes idle one = (one.after_fault, idle)
behind_step steps_to uses core leaves draws faults.Output old new input out notes idle one = (one.after_fault, idle)
behind_step steps_to uses core leaves draws faults.Notes old new input out notes idle one =
    absurd (let cause = one.cause no_notes refl in omega (arith, cause.lines))

-- the step was cut short
pub FaultedStepEffect-FaultedStep : {M O : Type 0} (steps_to : M → StepLabel → M → Type 0) (uses : M → ℕ)
    (core : M → Machine)
    (leaves : Fault → M → M → Drawn → SinkChange → Type 0)
    (next : O → Event → Machine → O) (lines : O → Event → Machine → List ℕ) (stops : O → Event → Machine → Bool)
    (fault : Fault) (old new : M) (from : O) (before after : Oracle) (input : Drawn) (out : SinkChange)
    (told : Option (List ℕ)) (count : ℕ)
    → FaultedStepEffect steps_to uses core leaves (OracleDraws before after) fault old new input out
    → let notes : SinkChange = record { old = told; new = told; before = count; now = count } in
    FaultedStep steps_to uses leaves (watching next lines stops) fault old new from before after input out notes
FaultedStepEffect-FaultedStep steps_to uses core leaves next lines stops fault old new from before after input out told
    count one =
    let notes : SinkChange = record { old = told; new = told; before = count; now = count } in
    let p = one.label in
    record {
      intended = one.intended;
      label = p;
      is = one.is;
      units = one.units;
      drew = one.drew;
      would_feed = one.fed;
      leaves_end = one.left;
      bytes = one.wrote;
      lines = idle-part notes (lines from p.event p.core) (record { written = refl; same = refl });
      after_fault =
          behind_step steps_to uses core leaves (OracleDraws before after) fault old new input out notes
          (record { written = refl; same = refl }) one;
      cause = one.cause notes refl;
    }

-- ---- the sequential machine asks no chooser

pub oracle_StepMade : (event : Event) (old new : Machine) (t : Oracle) (input : Drawn) (out : SinkChange)
    → SeqStepEffect event old new input out
    → StepEffect SeqStep one_unit itself (OracleDraws t t) event old new input out
oracle_StepMade event old new t input out made = record {
  label = made.label;
  is = made.is;
  units = made.units;
  event_is = made.event_is;
  core_is = made.core_is;
  drew = subst (OracleDraws t t) (sym made.drew) (OracleDraws-none t);
  fed = made.fed;
  same = made.same;
  wrote = made.wrote;
}

pub oracle_FaultedStep : (fault : Fault) (old new : Machine) (t : Oracle) (input : Drawn) (out : SinkChange)
    → FaultedSeqStep fault old new input out
    → FaultedStepEffect SeqStep one_unit itself SeqStateAfterFault (OracleDraws t t) fault old new input out
oracle_FaultedStep fault old new t input out breaks = record {
  intended = breaks.intended;
  label = breaks.label;
  is = breaks.is;
  units = breaks.units;
  core_is = breaks.core_is;
  drew = subst (OracleDraws t t) (sym breaks.drew) (OracleDraws-none t);
  fed = breaks.fed;
  left = breaks.left;
  wrote = breaks.wrote;
  after_fault = breaks.after_fault;
  cause = breaks.cause;
}

pub near_made : (r : Result Event Fault) (old new : Machine)
    → IfOk r (λ event. is_over event ≡ false → no_wait new < no_wait old + 1026 * one_unit old)
near_made (Ok event) old new = λ going. omega arith
near_made (Err fault) old new = tt
