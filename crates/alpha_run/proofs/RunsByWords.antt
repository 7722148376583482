-- A run of a fresh machine whose words and whose input are told: the run of the definition by those words.
use Rattle.std.proofs.Common.{◌≡◌, ℕ, Bool, List, ◌++◌, length, Option, Some, None, refl, sym, ap, subst, ◌∙◌}
use Rattle.alpha_io.specs.SinkChange.{SinkChange}
use Rattle.alpha_pal.specs.declared.fault.Fault.{Fault}
use Rattle.alpha_seq.specs.declared.event.Event.{Event as SeenEvent}
use Rattle.alpha_seq.specs.State.{Went, Barriered, Overflowed, Ends}
use Rattle.alpha_seq.specs.Start.{start}
use Rattle.alpha_seq.specs.Machine.{program_of}
use Rattle.alpha_seq.specs.Devices.{Drawn}
use Rattle.alpha_imprecise.specs.StepResult.{ImpreciseEvent, Precisely, Triggered, Waited, Reported, Lost}
use Rattle.alpha_imprecise.specs.ChosenRun.{ChosenRun, begun, chosen_run, end_of_imprecise_event, lost_trap}
use Rattle.alpha_imprecise.specs.ChosenRun.{shown_chosen_run, first_words, most_words, imprecise_by}
use Rattle.alpha_imprecise.specs.Oracle.{Oracle}
use Rattle.alpha_imprecise.specs.ImpreciseState.{ImpreciseState, IsFresh, begun_at, step_result_of}
use Rattle.alpha_imprecise.proofs.DrawnRuns.{chosen_run_with}
use Rattle.alpha_imprecise.proofs.FreshRuns.{begun_fresh, OracleDraws-Starts}
use Rattle.alpha_run.specs.ImpreciseRan.{ended_as, ImpreciseRanAs, ImprecisePrefixRun}
use Rattle.alpha_run.specs.Shows.{ended_or_lost, ShowsImprecise, ShowsImprecisePart, DrawsFew}
use Rattle.alpha_run.proofs.ImpreciseShown.{whole_run-ImpreciseRanAs, few_drawn, told_from, few_cut, cut_from}

ended_says : (h : ImpreciseEvent) → ended_as h ≡ ended_or_lost (end_of_imprecise_event h) (lost_trap h)
ended_says (Precisely Went) = refl
ended_says (Precisely (Barriered traffic pc regs)) = refl
ended_says (Precisely (Overflowed at)) = refl
ended_says (Precisely (Ends end)) = refl
ended_says (Triggered value) = refl
ended_says (Waited adds value bytes) = refl
ended_says (Reported at) = refl
ended_says (Lost pc mask) = refl

-- the run by the words that are told is the one by those that were drawn and others behind them
by_told : (old : ImpreciseState) (n : ℕ) (bytes words coming : List ℕ) (ahead : ℕ → ℕ) → IsFresh old
    → first_words (most_words n) ahead ≡ words ++ coming
    → chosen_run (program_of old.machine)
    (begun (start (program_of old.machine)) bytes None 0 (first_words (most_words n) ahead)) n
    ≡ chosen_run (program_of old.machine) (begun_at old bytes (words ++ coming)) n
by_told old n bytes words coming ahead fresh is =
    let g = program_of old.machine in
    ap (λ (l : List ℕ). chosen_run g (begun (start g) bytes None 0 l) n) is
    ∙ ap (λ (k : ChosenRun). chosen_run g k n) (sym (begun_fresh old bytes (words ++ coming) fresh))

pub by_words : (last : Option SeenEvent) (n left : ℕ) (watch : Bool) (old new : ImpreciseState) (before after : Oracle)
    (input : Drawn) (out sink : SinkChange) (bytes : List ℕ) (ahead : ℕ → ℕ)
    → ImpreciseRanAs last n left watch old new before after input out sink → input.old.left ≡ Some bytes
    → before.ahead ≡ Some ahead → IsFresh old
    → ShowsImprecise (imprecise_by (program_of old.machine) bytes ahead n watch) last before after input out sink
by_words last n left watch old new before after input out sink bytes ahead did tells told fresh =
    let w = whole_run-ImpreciseRanAs last n left watch old new before after input out sink did in
    let words = w.ran.words in
    let few = few_drawn last n left watch old new before after input out sink w fresh.nothing_pending in
    let s = OracleDraws-Starts before after ahead words (most_words n) told w.ran.drew few in
    let fed = w.ran.fed.told bytes tells in
    let there = told_from last n left watch old new before after input out sink w bytes s.coming fed.0 fed.1 in
    let k =
    chosen_run_with (step_result_of new w.last_event) w.ran.steps fed.0 w.count there.0 s.coming (length words) in
    let is = by_told old n bytes words s.coming ahead fresh s.is ∙ there.1 in
    subst (λ (j : ChosenRun). ShowsImprecise (shown_chosen_run watch j) last before after input out sink) (sym is)
    (record {
      answer_is = w.last_is ∙ ended_says w.last_event;
      bytes = w.ran.wrote;
      left = fed.2;
      lines = w.ran.noted;
      drawn = w.ran.drew.counted;
    })

pub by_words_part : (fault : Fault) (n : ℕ) {rest : ℕ} (watch : Bool) (old new : ImpreciseState) (before after : Oracle)
    (input : Drawn) (out sink : SinkChange) (bytes : List ℕ) (ahead : ℕ → ℕ)
    → ImprecisePrefixRun fault n rest watch old new before after input out sink → input.old.left ≡ Some bytes
    → before.ahead ≡ Some ahead → IsFresh old
    → ShowsImprecisePart (imprecise_by (program_of old.machine) bytes ahead n watch) out sink
by_words_part fault n watch old new before after input out sink bytes ahead cut tells told fresh =
    let words = cut.words ++ cut.label.words in
    let s = OracleDraws-Starts before after ahead words (most_words n) told cut.drew
    (few_cut fault n watch old before after input out sink cut fresh.nothing_pending) in
    let part = cut_from fault n watch old before after input out sink cut bytes s.coming tells in
    subst (λ (j : ChosenRun). ShowsImprecisePart (shown_chosen_run watch j) out sink)
    (sym (by_told old n bytes words s.coming ahead fresh s.is))
    (record { bytes = part.0; lines = part.1 })

pub ImpreciseRanAs-DrawsFew : (last : Option SeenEvent) (n left : ℕ) (watch : Bool) (old new : ImpreciseState)
    (before after : Oracle)
    (input : Drawn) (out sink : SinkChange)
    → ImpreciseRanAs last n left watch old new before after input out sink → old.pending ≡ None
    → DrawsFew n before after
ImpreciseRanAs-DrawsFew last n left watch old new before after input out sink did calm =
    let w = whole_run-ImpreciseRanAs last n left watch old new before after input out sink did in
    record {
      words = w.ran.words;
      drew = w.ran.drew;
      few = few_drawn last n left watch old new before after input out sink w calm;
    }

pub cut_draws_few : (fault : Fault) (n : ℕ) {rest : ℕ} (watch : Bool) (old new : ImpreciseState) (before after : Oracle)
    (input : Drawn) (out sink : SinkChange)
    → ImprecisePrefixRun fault n rest watch old new before after input out sink → old.pending ≡ None
    → DrawsFew n before after
cut_draws_few fault n watch old new before after input out sink cut calm =
    record {
      words = cut.words ++ cut.label.words;
      drew = cut.drew;
      few = few_cut fault n watch old before after input out sink cut calm;
    }
