-- What a run shows whose input is told: what the definition's run over that input does.
use Rattle.std.proofs.Common.{◌≡◌, ℕ, Bool, List, ◌++◌, Option, Some, refl, sym, ap, subst}
use Rattle.alpha_io.specs.SinkChange.{SinkChange}
use Rattle.alpha_seq.specs.declared.machine.Machine.{Machine}
use Rattle.alpha_seq.specs.declared.event.Event.{Event}
use Rattle.alpha_pal.specs.declared.fault.Fault.{Fault}
use Rattle.alpha_seq.specs.Run.{Run, shown}
use Rattle.alpha_seq.specs.Devices.{Drawn}
use Rattle.alpha_imprecise.specs.ChosenRun.{ChosenRun}
use Rattle.alpha_imprecise.specs.Oracle.{Oracle}
use Rattle.alpha_imprecise.specs.ImpreciseState.{ImpreciseState}
use Rattle.alpha_run.specs.SeqRun.{SeqRan, SeqPrefixRun}
use Rattle.alpha_run.specs.ImpreciseRan.{ImpreciseRanAs, ImprecisePrefixRun}
use Rattle.alpha_run.specs.Shows.{Shows, ShowsPart, shown_from, IsMade, ShowsMade, ShowsMadePart}
use Rattle.alpha_run.proofs.SeqShown as seq_shown
use Rattle.alpha_run.proofs.ImpreciseShown.{whole_run-ImpreciseRanAs, told_from, cut_from}

-- ---- the sequential machine

pub SeqRan-Shows : (last : Option Event) (units left : ℕ) (watch : Bool) (old new : Machine) (input : Drawn)
    (out sink : SinkChange) (bytes : List ℕ)
    → SeqRan last units left watch old new input out sink → input.old.left ≡ Some bytes
    → Shows (shown_from old bytes units watch) last input out sink
SeqRan-Shows last units left watch old new input out sink bytes ran tells =
    let fed = ran.fed.told bytes tells in
    subst (λ (r : Run). Shows (shown watch r) last input out sink)
    (sym (seq_shown.told_all last units left watch old new input out sink ran bytes fed.0 fed.1))
    (record { answer_is = ran.end; bytes = ran.wrote; left = fed.2; lines = ran.noted })

pub SeqPrefixRun-ShowsPart : (fault : Fault) (units : ℕ) {rest : ℕ} (watch : Bool) (old new : Machine) (input : Drawn)
    (out sink : SinkChange) (bytes : List ℕ)
    → SeqPrefixRun fault units rest watch old new input out sink → input.old.left ≡ Some bytes
    → ShowsPart (shown_from old bytes units watch) out sink
SeqPrefixRun-ShowsPart fault units watch old new input out sink bytes cut tells =
    let fronts = seq_shown.cut_told fault units watch old input out sink cut bytes tells in
    record { bytes = fronts.0; lines = fronts.1 }

-- ---- the imprecise machine

pub made_shows : (last : Option Event) (n left : ℕ) (watch : Bool) (old new : ImpreciseState) (before after : Oracle)
    (input : Drawn) (out sink : SinkChange) (bytes : List ℕ)
    → ImpreciseRanAs last n left watch old new before after input out sink → input.old.left ≡ Some bytes
    → ShowsMade n watch bytes last old new before after input out sink
made_shows last n left watch old new before after input out sink bytes did tells =
    let w = whole_run-ImpreciseRanAs last n left watch old new before after input out sink did in
    let fed = w.ran.fed.told bytes tells in
    let there =
    λ (coming : List ℕ). told_from last n left watch old new before after input out sink w bytes coming fed.0 fed.1 in
    record {
      words = w.ran.words;
      drew = w.ran.drew;
      is = λ coming. subst (λ (k : ChosenRun). IsMade k last watch new input out sink) (sym (there coming).1) (record {
        last_is = w.last_is;
        state = refl;
        pending = refl;
        bytes = w.ran.wrote;
        left = fed.2;
        lines = w.ran.noted;
      });
      count = λ coming. ap (λ (k : ChosenRun). k.count) (there coming).1;
    }

pub made_part : (fault : Fault) (n : ℕ) {rest : ℕ} (watch : Bool) (old new : ImpreciseState) (before after : Oracle)
    (input : Drawn) (out sink : SinkChange) (bytes : List ℕ)
    → ImprecisePrefixRun fault n rest watch old new before after input out sink → input.old.left ≡ Some bytes
    → ShowsMadePart n watch bytes old before after out sink
made_part fault n watch old new before after input out sink bytes cut tells = record {
  words = cut.words ++ cut.label.words;
  drew = cut.drew;
  bytes_part = λ coming. (cut_from fault n watch old before after input out sink cut bytes coming tells).0;
  lines_part = λ coming. (cut_from fault n watch old before after input out sink cut bytes coming tells).1;
}
