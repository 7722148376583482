-- A step by choices is the one that words choose, where they are read off words.
use Rattle.std.specs.Prelude.{◌==◌}
use Rattle.std.proofs.Common.{◌≡◌, ◌%◌, ℕ, Bool, true, false, cond, List, [], ◌∷◌, ◌++◌, length, drop, Option, None}
use Rattle.std.proofs.Common.{Some, refl, sym, ap, subst, ◌∙◌}
use Rattle.alpha_io.specs.SinkChange.{SinkChange}
use Rattle.alpha_pal.specs.declared.fault.Fault.{Fault}
use Rattle.alpha_seq.specs.declared.machine.Machine.{Machine}
use Rattle.alpha_seq.specs.declared.event.Event.{Event as SeenEvent}
use Rattle.alpha_seq.specs.declared.event.Wait.{Wait}
use Rattle.alpha_seq.specs.Machine.{program_of, state_of, class_here}
use Rattle.alpha_seq.specs.Devices.{Drawn}
use Rattle.alpha_seq.specs.StepLabel.{StepLabel}
use Rattle.alpha_imprecise.specs.declared.pending.Pending.{Pending}
use Rattle.alpha_imprecise.specs.StepResult.{Choice}
use Rattle.alpha_imprecise.specs.Step.{triggers}
use Rattle.alpha_imprecise.specs.Chosen.{Draw, first_word, reporting, triggering, executing, must_report, draw_at, draw}
use Rattle.alpha_imprecise.specs.Oracle.{Oracle, oracle_of, OracleDraws}
use Rattle.alpha_imprecise.specs.ImpreciseState.{ImpreciseState, imprecise_state, trap_of, trap_in, waited_in}
use Rattle.alpha_imprecise.specs.ChoiceSource.{Unasked, ValueAsked, PickAsked, choice_by, Picked, ReadsPick, Reports}
use Rattle.alpha_imprecise.specs.ChoiceSource.{Waits, reads_pick, reads_value, asked}
use Rattle.alpha_imprecise.specs.ImpreciseStepEffect.{ImpreciseStepBy, ImpreciseStep, ImpreciseStepMade}
use Rattle.alpha_imprecise.specs.ImpreciseStepEffect.{ImpreciseStepFaulted, StepMadeByChoice, StepFaultedByChoice}
use Rattle.alpha_imprecise.proofs.ChoicesMade.{OracleDraws-none}

-- a choice is the one that these words draw, by which a chooser went on
record DrawsOne (w : ImpreciseState) (choice : Choice) (before after : Oracle) : Type 0 where
  words : List ℕ
  drew : OracleDraws before after words
  draws : (coming : List ℕ)
      → draw (program_of w.machine) (state_of w.machine) (trap_in w.pending) (waited_in w.pending) (words ++ coming)
      ≡ record { choice = choice; count = length words }

-- ---- with nothing pending

none_draws : {C : Type 0} (ahead : C → Option (ℕ → ℕ)) (drawn : C → Option ℕ) (m : Machine) (choice : Choice)
    (before after : C)
    → (b : Bool) → triggers (class_here m) (state_of m) ≡ b
    → Picked (reads_pick ahead drawn) (reads_value ahead drawn) (cond b ValueAsked Unasked) choice before after
    → DrawsOne (imprecise_state m None) choice (oracle_of ahead drawn before) (oracle_of ahead drawn after)
none_draws ahead drawn m choice before after true e picked = record {
  words = picked.0 ∷ [];
  drew = picked.2;
  draws = λ coming.
      ap (λ (b : Bool). cond b (triggering picked.0) (reporting 0)) e
      ∙ ap (λ (c : Choice). let d : Draw = record { choice = c; count = 1 } in d) (sym picked.1);
}
none_draws ahead drawn m choice before after false e picked = record {
  words = [];
  drew =
      subst (λ c. OracleDraws (oracle_of ahead drawn before) (oracle_of ahead drawn c) []) (sym picked.1)
      (OracleDraws-none (oracle_of ahead drawn before));
  draws = λ coming.
      ap (λ (b : Bool). cond b (triggering (first_word coming)) (reporting 0)) e
      ∙ ap (λ (c : Choice). let d : Draw = record { choice = c; count = 0 } in d) (sym picked.0);
}

-- ---- while a trap is pending

-- the choice by coming words, by whether a report is forced
abbrev drawn_where : Bool → List ℕ → Draw
drawn_where b words =
    cond b (reporting 0)
    (cond (first_word words % 4 == 0) (reporting 1) (executing (first_word words) (first_word (drop 1 words))))

draw_at-must_report : (m : Machine) (trap : Pending) (b : Bool)
    → must_report (class_here m) (state_of m) trap.waited ≡ b
    → (words : List ℕ)
    → draw_at (class_here m) (state_of m) (Some (trap_of trap)) trap.waited words ≡ drawn_where b words
draw_at-must_report m trap b e words = ap (λ (t : Bool). drawn_where t words) e

pick_draws : (m : Machine) (trap : Pending) (choice : Choice) (pick : Option Wait) (before after : Oracle)
    → must_report (class_here m) (state_of m) trap.waited ≡ false → choice ≡ choice_by pick
    → ReadsPick before after pick
    → DrawsOne (imprecise_state m (Some trap)) choice before after
pick_draws m trap choice pick before after e by (Reports c is_report none drew) = record {
  words = c ∷ [];
  drew = drew;
  draws = λ coming.
      draw_at-must_report m trap false e (c ∷ coming)
      ∙ (ap (λ (b : Bool). cond b (reporting 1) (executing c (first_word coming))) is_report
      ∙ ap (λ (x : Choice). let d : Draw = record { choice = x; count = 1 } in d) (sym (by ∙ ap choice_by none)));
}
pick_draws m trap choice pick before after e by (Waits c value executes some drew) = record {
  words = c ∷ value ∷ [];
  drew = drew;
  draws = λ coming.
      draw_at-must_report m trap false e (c ∷ value ∷ coming)
      ∙ (ap (λ (b : Bool). cond b (reporting 1) (executing c value)) executes
      ∙ ap (λ (x : Choice). let d : Draw = record { choice = x; count = 2 } in d) (sym (by ∙ ap choice_by some)));
}

trap_draws : {C : Type 0} (ahead : C → Option (ℕ → ℕ)) (drawn : C → Option ℕ) (m : Machine) (trap : Pending)
    (choice : Choice) (before after : C)
    → (b : Bool) → must_report (class_here m) (state_of m) trap.waited ≡ b
    → Picked (reads_pick ahead drawn) (reads_value ahead drawn) (cond b Unasked PickAsked) choice before after
    → DrawsOne (imprecise_state m (Some trap)) choice (oracle_of ahead drawn before) (oracle_of ahead drawn after)
trap_draws ahead drawn m trap choice before after true e picked = record {
  words = [];
  drew =
      subst (λ c. OracleDraws (oracle_of ahead drawn before) (oracle_of ahead drawn c) []) (sym picked.1)
      (OracleDraws-none (oracle_of ahead drawn before));
  draws = λ coming.
      draw_at-must_report m trap true e coming
      ∙ ap (λ (c : Choice). let d : Draw = record { choice = c; count = 0 } in d) (sym picked.0);
}
trap_draws ahead drawn m trap choice before after false e picked =
    pick_draws m trap choice picked.0 (oracle_of ahead drawn before) (oracle_of ahead drawn after) e picked.1 picked.2

-- ---- the step

picked_draws : {C : Type 0} (ahead : C → Option (ℕ → ℕ)) (drawn : C → Option ℕ) (m : Machine) (p : Option Pending)
    (choice : Choice) (before after : C)
    → Picked (reads_pick ahead drawn) (reads_value ahead drawn) (asked (imprecise_state m p)) choice before after
    → DrawsOne (imprecise_state m p) choice (oracle_of ahead drawn before) (oracle_of ahead drawn after)
picked_draws ahead drawn m None choice before after picked =
    none_draws ahead drawn m choice before after (triggers (class_here m) (state_of m)) refl picked
picked_draws ahead drawn m (Some trap) choice before after picked =
    trap_draws ahead drawn m trap choice before after (must_report (class_here m) (state_of m) trap.waited) refl picked

-- the step of the definition by the choice, with these words
with_words : (choice : Choice) (old new : ImpreciseState) (p : StepLabel) (before after : Oracle)
    → ImpreciseStepBy choice old p new → (d : DrawsOne old choice before after)
    → ImpreciseStep old (record p { words = d.words }) new
with_words choice old new p before after by d = record {
  choice = choice;
  step = record {
    last_event = by.last_event;
    passed = by.passed;
    seen = by.seen;
    event = by.event;
    units = by.units;
    core = by.core;
    is = by.is;
    passes = by.passes;
    waited = by.waited;
    kernel = by.kernel;
    program = by.program;
  };
  draws = d.draws;
}

pub ImpreciseStepMade-words : {C : Type 0} (ahead : C → Option (ℕ → ℕ)) (drawn : C → Option ℕ) (event : SeenEvent)
    (old new : ImpreciseState) (before after : C) (input : Drawn) (out : SinkChange)
    → StepMadeByChoice (reads_pick ahead drawn) (reads_value ahead drawn) event old new before after input out
    → ImpreciseStepMade event old new (oracle_of ahead drawn before) (oracle_of ahead drawn after) input out
ImpreciseStepMade-words ahead drawn event old new before after input out made =
    let d = picked_draws ahead drawn old.machine old.pending made.choice before after made.picked in
    let did = made.effect in
    record {
      label = record did.label { words = d.words };
      is =
          with_words made.choice old new did.label (oracle_of ahead drawn before)
          (oracle_of ahead drawn after) did.is d;
      units = did.units;
      event_is = did.event_is;
      core_is = did.core_is;
      drew = d.drew;
      fed = did.fed;
      same = did.same;
      wrote = did.wrote;
    }

pub ImpreciseStepFaulted-words : {C : Type 0} (ahead : C → Option (ℕ → ℕ)) (drawn : C → Option ℕ) (fault : Fault)
    (old new : ImpreciseState) (before after : C) (input : Drawn) (out : SinkChange)
    → StepFaultedByChoice (reads_pick ahead drawn) (reads_value ahead drawn) fault old new before after input out
    → ImpreciseStepFaulted fault old new (oracle_of ahead drawn before) (oracle_of ahead drawn after) input out
ImpreciseStepFaulted-words ahead drawn fault old new before after input out broken =
    let d = picked_draws ahead drawn old.machine old.pending broken.choice before after broken.picked in
    let did = broken.effect in
    record {
      intended = did.intended;
      label = record did.label { words = d.words };
      is =
          with_words broken.choice old did.intended did.label (oracle_of ahead drawn before)
          (oracle_of ahead drawn after) did.is d;
      units = did.units;
      core_is = did.core_is;
      drew = d.drew;
      fed = did.fed;
      left = did.left;
      wrote = did.wrote;
      after_fault = did.after_fault;
      cause = did.cause;
    }
