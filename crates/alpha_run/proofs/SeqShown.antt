-- What a run of the sequential machine shows: to its end or for all its steps, and where a device's fault cut it short.
use Rattle.std.proofs.Common.{◌≡◌, ◌+◌, ◌-◌, ℕ, Bool, true, false, List, [], ◌∷◌, ◌++◌, length, Option, Some, sym, ap}
use Rattle.std.proofs.Common.{subst, ◌∙◌, ⊎_elim, length-append, arith}
use Rattle.std.proofs.lemmas.Bool.{cases_Bool}
use Rattle.std.proofs.lemmas.Grind.{flat_map-append}
use Rattle.alpha_io.specs.SinkChange.{SinkChange}
use Rattle.alpha_io.specs.Written.{WritesPrefix}
use Rattle.alpha_seq.specs.declared.machine.Machine.{Machine}
use Rattle.alpha_seq.specs.declared.event.Event.{Event as SeenEvent}
use Rattle.alpha_pal.specs.declared.fault.Fault.{Fault}
use Rattle.alpha_seq.specs.State.{Event, Stepped, stepped}
use Rattle.alpha_seq.specs.Step.{step_from}
use Rattle.alpha_seq.specs.Run.{Run, given, is_over, begins, next, Runs, Fed, after, output, notes, lines_of}
use Rattle.alpha_seq.specs.Machine.{program_of, state_of}
use Rattle.alpha_seq.specs.Devices.{Drawn}
use Rattle.alpha_seq.specs.Fronts.{IsFront}
use Rattle.alpha_seq.proofs.RunsOverInput.{after-over}
use Rattle.alpha_seq.proofs.RunSteps.{WritesBetween-prefix}
use Rattle.alpha_seq.proofs.RunSequence.{Runs-append, Fed-append, fed-after, after-events_prefix, Runs-Filled}
use Rattle.alpha_run.specs.SeqRun.{ended_by, SeqRan, SeqPrefixRun}
use Rattle.alpha_run.proofs.StepRows.{output-append}
use Rattle.alpha_run.proofs.SeqRuns.{end_of-going, step_from-given}

pub notes-append : (watch : Bool) (xs ys : List Event) → notes watch (xs ++ ys) ≡ notes watch xs ++ notes watch ys
notes-append watch xs ys = flat_map-append (lines_of watch) xs ys

-- where the input is told, it is the run after all its steps
pub told_all : (last : Option SeenEvent) (units left : ℕ) (watch : Bool) (old new : Machine) (input : Drawn)
    (out sink : SinkChange) (ran : SeqRan last units left watch old new input out sink) (bytes rest : List ℕ)
    → Fed bytes ran.events rest
    → after (program_of old) (state_of old) bytes units ≡ record { at = ran.at; events = ran.events; left = rest }
told_all last units left watch old new input out sink ran bytes rest fed =
    let g = program_of old in
    let s = state_of old in
    let here = fed-after g s ran.events ran.at bytes rest ran.runs fed in
    ⊎_elim
    (λ (over : is_over ran.at.event ≡ true).
    after-over g s bytes units (length ran.events) (omega (arith, ran.used))
    (ap (λ (r : Run). is_over r.at.event) here ∙ over)
    ∙ here)
    (λ (going : is_over ran.at.event ≡ false).
    ap (after g s bytes) (sym (ran.full (ran.end ∙ ap ended_by (end_of-going ran.at.event going)))) ∙ here)
    (cases_Bool (is_over ran.at.event))

-- ---- a run that was cut short

module _ (fault : Fault) (units : ℕ) {rest : ℕ} (watch : Bool) (old : Machine) {new : Machine} (input : Drawn)
    (out sink : SinkChange) (cut : SeqPrefixRun fault units rest watch old new input out sink) where
  -- the steps that were made, and the one that was cut short
  abbrev all : List Event
  all = cut.events ++ cut.label.seen

  abbrev seq_steps_after_fault : Stepped
  seq_steps_after_fault = stepped (state_of cut.intended) cut.step.last_event

  runs : Runs (program_of old) (begins (state_of old)) all seq_steps_after_fault
  runs =
      let g = program_of old in
      let h = cut.step.last_event in
      let is : next g cut.at h ≡ seq_steps_after_fault =
      ap (λ x. step_from g x (given h)) (sym cut.stands)
      ∙ step_from-given g cut.label cut.mid cut.intended cut.program cut.step in
      subst (λ (l : List Event). Runs g (begins (state_of old)) (cut.events ++ l) seq_steps_after_fault)
      (sym cut.step.seen)
      (Runs-append g cut.events (h ∷ []) (begins (state_of old)) cut.at seq_steps_after_fault cut.runs
      (cut.going, ap (λ (t : Stepped). t.event) is, is))

  count : length all ≡ length cut.events + 1
  count =
      let one = ap (λ (l : List Event). length l) cut.step.seen in
      omega (arith, length-append cut.events cut.label.seen, one)

  -- what was written is a front of what a whole run shows
  pub cut_any : IsFront units watch old out sink
  cut_any =
      let rest =
      Runs-Filled (program_of old) units (units - length all) (begins (state_of old)) all seq_steps_after_fault runs
      (omega (arith, count, cut.less)) in
      record {
        events = all ++ rest.more;
        at = rest.at;
        runs = rest.runs;
        made = rest.made;
        bytes =
            WritesBetween-prefix out.old out.new (output cut.events) (output all) (output rest.more)
            (output (all ++ rest.more)) cut.bytes (output-append all rest.more);
        lines =
            WritesBetween-prefix sink.old sink.new (notes watch cut.events) (notes watch all) (notes watch rest.more)
            (notes watch (all ++ rest.more)) cut.lines (notes-append watch all rest.more);
      }

  -- where the input is told, of what the run after all its steps shows
  pub cut_told : (bytes : List ℕ) → input.old.left ≡ Some bytes
      → let to = after (program_of old) (state_of old) bytes units in
      WritesPrefix out.old out.new (output to.events) × WritesPrefix sink.old sink.new (notes watch to.events)
  cut_told bytes tells =
      let first = cut.fed.told bytes tells in
      let last = cut.would_feed first.0 first.2 in
      let fed = Fed-append bytes first.0 last.0 cut.events cut.label.seen first.1 last.1 in
      let rest =
      after-events_prefix (program_of old) (state_of old) all seq_steps_after_fault bytes last.0
      (units - length all) runs fed in
      let same : length all + (units - length all) ≡ units = omega (arith, count, cut.less) in
      let is : (after (program_of old) (state_of old) bytes units).events ≡ all ++ rest.0 =
      ap (λ n. (after (program_of old) (state_of old) bytes n).events) (sym same) ∙ rest.1 in (
        WritesBetween-prefix out.old out.new (output cut.events) (output all) (output rest.0) _ cut.bytes
            (ap output is ∙ output-append all rest.0),
        WritesBetween-prefix sink.old sink.new (notes watch cut.events) (notes watch all)
            (notes watch rest.0) _ cut.lines
            (ap (notes watch) is ∙ notes-append watch all rest.0),
      )
