-- The step that the code made where a move was asked for, over devices that don't fail.
use Rattle.std.proofs.Common.{◌≡◌, ℕ, List, Some, None, refl, ap, subst, ◌∙◌, arith}
use Rattle.alpha_io.specs.SourceState.{SureSourceState}
use Rattle.alpha_io.specs.Supply.{Supply}
use Rattle.alpha_io.specs.SinkChange.{SinkChange}
use Rattle.alpha_pal.specs.declared.fault.Fault.{Fault}
use Rattle.alpha_pal.specs.declared.fault.Fault.TheVariants.{Input, Output, Notes}
use Rattle.alpha_seq.specs.declared.event.Event.{Event}
use Rattle.alpha_seq.specs.Run.{Fed}
use Rattle.alpha_seq.specs.Devices.{Drawn}
use Rattle.alpha_seq.specs.StepEffect.{Causes}
use Rattle.alpha_imprecise.specs.StepResult.{Choice}
use Rattle.alpha_imprecise.specs.Chosen.{triggering}
use Rattle.alpha_imprecise.specs.ChoiceSource.{Asked, Unasked, ValueAsked, PickAsked, choice_by, Picked, asked}
use Rattle.alpha_imprecise.specs.ImpreciseState.{ImpreciseState}
use Rattle.alpha_imprecise.specs.ImpreciseStepEffect.{StepMadeByChoice, StepFaultedByChoice, ImpreciseStepBy}
use Rattle.alpha_replay.specs.declared.fixed_choice.FixedChoice.{FixedChoice}
use Rattle.alpha_replay.specs.declared.moves.Move.{Move}
use Rattle.alpha_replay.specs.FixedChoice.{gives_pick, gives_value, given_choice}
use Rattle.alpha_replay.specs.ReplayEffect.{Moved}

-- the choice is the one that is given
Picked-given : (a : Asked) (choice : Choice) (before after : FixedChoice)
    → Picked gives_pick gives_value a choice before after → choice ≡ given_choice before.step a
Picked-given Unasked choice before after picked = picked.0
Picked-given ValueAsked choice before after picked = picked.1 ∙ ap (λ (n : ℕ). (triggering n).choice) picked.2.0
Picked-given PickAsked choice before after picked = picked.1 ∙ ap choice_by picked.2.0

abbrev sure_supply : SureSourceState → Supply
sure_supply s = record { left = Some s.left; replies = s.replies }

abbrev sure_input : SureSourceState → SureSourceState → Drawn
sure_input a b = record { old = sure_supply a; new = sure_supply b; before = 0; now = 0 }

abbrev silent_sink : SinkChange
silent_sink = record { old = None; new = None; before = 0; now = 0 }

pub moved_by : (event : Event) (m : Move) (old new : ImpreciseState)
    (before after : FixedChoice) (a b : SureSourceState)
    → before.step ≡ m
    → StepMadeByChoice gives_pick gives_value event old new before after (sure_input a b) silent_sink
    → Moved m event old new a.left b.left
moved_by event m old new before after a b same made =
    let did = made.effect in
    let given =
    Picked-given (asked old) made.choice before after made.picked
    ∙ ap (λ (x : Move). given_choice x (asked old)) same in
    let fed = did.fed.told a.left refl in
    record {
      label = did.label;
      is = subst (λ (c : Choice). ImpreciseStepBy c old did.label new) given did.is;
      event_is = did.event_is;
      fed =
          subst (λ (l : List ℕ). Fed a.left did.label.seen l)
          (let same : fed.0 ≡ b.left = (let rest = fed.2 in cc) in same) fed.1;
    }

-- no device fails
Causes-never : (fault : Fault) (a b : SureSourceState) → Causes fault (sure_input a b) silent_sink silent_sink → ⊥
Causes-never Input a b cause = absurd (let rose = cause.source in omega arith)
Causes-never Output a b cause = absurd (let rose = cause.sink in omega arith)
Causes-never Notes a b cause = absurd (let rose = cause.lines in omega arith)

pub StepFaultedByChoice-never : (fault : Fault) (old new : ImpreciseState) (before after : FixedChoice)
    (a b : SureSourceState)
    → StepFaultedByChoice gives_pick gives_value fault old new before after (sure_input a b) silent_sink → ⊥
StepFaultedByChoice-never fault old new before after a b broken =
    Causes-never fault a b (broken.effect.cause silent_sink refl)
