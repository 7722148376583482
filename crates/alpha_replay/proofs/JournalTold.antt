-- From a fresh machine, a run by told words over a told input, with its journal.
use Rattle.std.proofs.Common.{◌≡◌, ◌≤◌, ◌+◌, ℕ, true, false, List, ◌++◌, length, Option, Some, None, refl, sym, ap}
use Rattle.std.proofs.Common.{subst, ◌∙◌, arith}
use Rattle.alpha_io.specs.SinkChange.{SinkChange, Puts}
use Rattle.alpha_pal.specs.declared.fault.Fault.{Fault}
use Rattle.alpha_seq.specs.declared.event.Event.{Event}
use Rattle.alpha_seq.specs.State.{Program}
use Rattle.alpha_seq.specs.Start.{start}
use Rattle.alpha_seq.specs.Run.{output, taken, notes as notes_of}
use Rattle.alpha_seq.specs.Machine.{program_of}
use Rattle.alpha_seq.specs.Devices.{Drawn}
use Rattle.alpha_seq.proofs.InputPrefixes.{Fed-taken_append}
use Rattle.alpha_imprecise.specs.ChosenRun.{ChosenRun, begun, first_words, most_words, shown_chosen_run}
use Rattle.alpha_imprecise.specs.StepResult.{ImpreciseEvent}
use Rattle.alpha_imprecise.specs.Run.{seen, units}
use Rattle.alpha_imprecise.specs.Oracle.{Oracle}
use Rattle.alpha_imprecise.specs.ImpreciseState.{ImpreciseState, trap_in, waited_in, step_result_of, begun_at, IsFresh}
use Rattle.alpha_imprecise.proofs.FreshRuns.{begun_fresh, OracleDraws-Starts}
use Rattle.alpha_imprecise.proofs.WordDraws.{words_most}
use Rattle.alpha_imprecise.proofs.DrawnRuns.{drawn_told}
use Rattle.alpha_run.specs.ImpreciseRan.{moment_at}
use Rattle.alpha_run.proofs.ImpreciseShown.{few_cut}
use Rattle.alpha_replay.specs.declared.journal_end.JournalEnd.{JournalEnd}
use Rattle.alpha_replay.specs.declared.journal_end.JournalEnd.TheVariants as made
use Rattle.alpha_replay.specs.Journal.{Parts}
use Rattle.alpha_replay.specs.Journaled.{journal_of, journal_at, is_within, stops_at, has_stopped, steps_journaled}
use Rattle.alpha_replay.specs.Journaled.{IsJournaled}
use Rattle.alpha_run.specs.Shows.{ShowsImprecisePart}
use Rattle.alpha_replay.specs.JournalEnd.{IsJournaledAt, JournalStops, Records, IsFull, IsShort, MakesJournal, StopsAt}
use Rattle.alpha_replay.specs.JournalEnd.{IsRecorded, IsPast, Shows, JournalTold}
use Rattle.alpha_replay.proofs.ChosenJournals.{steps_journaled-chosen_run}

-- whatever words come behind those that were drawn
pub stops_told : (n : ℕ) (last : ImpreciseEvent) (old new : ImpreciseState) (before after : Oracle) (input : Drawn)
    (out notes : SinkChange) (s : JournalStops n last old new before after input out notes)
    (bytes coming : List ℕ) → input.old.left ≡ Some bytes
    → (k : ChosenRun) × IsJournaledAt n old bytes (s.ran.words ++ coming) k × (k.run.steps ≡ s.ran.steps)
    × (bytes ≡ taken (seen k.run.steps) ++ k.run.left)
stops_told n last old new before after input out notes s bytes coming tells =
    let g = program_of old.machine in
    let ran = s.ran in
    let fed = ran.fed.told bytes tells in
    let from = begun_at old bytes (ran.words ++ coming) in
    let here = drawn_told g ran.steps from (step_result_of new last) fed.0 coming ran.runs (ran.draws coming) fed.1 in
    let same =
    steps_journaled-chosen_run n g ran.steps from (step_result_of new last) fed.0 coming ran.runs
    (ran.draws coming) fed.1 s.goes_over in
    let k : ChosenRun = steps_journaled n g from (length ran.steps) in
    let is = same ∙ here.1 in
    let used : s.units ≡ 0 + units g (moment_at old) ran.steps = omega (arith, ran.used) in
    let done : has_stopped n g.completion k ≡ true = ap (has_stopped n g.completion) is
    ∙ subst (λ u. stops_at n g.completion u ran.steps (step_result_of new last) ≡ true) used s.stopped in (
      k,
      record { steps = length ran.steps; reached = refl; stopped = done },
      ap (λ (j : ChosenRun). j.run.steps) is,
      subst (λ (j : ChosenRun). bytes ≡ taken (seen j.run.steps) ++ j.run.left) (sym is)
          (sym (Fed-taken_append (seen ran.steps) bytes fed.0 fed.1)),
    )

module _ (n : ℕ) (bytes : List ℕ) (ahead : ℕ → ℕ) (old new : ImpreciseState) (before after : Oracle) (input : Drawn)
    (out notes : SinkChange)
    (tells : input.old.left ≡ Some bytes) (told : before.ahead ≡ Some ahead) (fresh : IsFresh old) where
  abbrev g : Program
  g = program_of old.machine

  -- where a run stops that was made, and what it shows there
  record There (last : ImpreciseEvent) (s : JournalStops n last old new before after input out notes) : Type 0 where
    place : ChosenRun
    stops : StopsAt n g bytes ahead place
    shows : Shows place input out notes
    last_event : place.run.at.last_event ≡ last
    steps : place.run.steps ≡ s.ran.steps

  there : (last : ImpreciseEvent) (s : JournalStops n last old new before after input out notes) → There last s
  there last s =
      let ran = s.ran in
      let fed = ran.fed.told bytes tells in
      let low = words_most g ran.steps (moment_at old) (step_result_of new last) (waited_in old.pending) ran.words
      (ap trap_in fresh.nothing_pending) ran.runs ran.draws in
      let few : length ran.words ≤ most_words n = omega (arith, low, ran.used, s.most) in
      let list = OracleDraws-Starts before after ahead ran.words (most_words n) told ran.drew few in
      let from = begun_at old bytes (ran.words ++ list.coming) in
      let drew = ran.draws list.coming in
      let here = drawn_told g ran.steps from (step_result_of new last) fed.0 list.coming ran.runs drew fed.1 in
      let same =
      steps_journaled-chosen_run n g ran.steps from
      (step_result_of new last) fed.0 list.coming ran.runs drew fed.1 s.goes_over in
      let k : ChosenRun = steps_journaled n g from (length ran.steps) in
      let is = same ∙ here.1 in
      let used : s.units ≡ 0 + units g (moment_at old) ran.steps = omega (arith, ran.used) in
      let done : has_stopped n g.completion k ≡ true = ap (has_stopped n g.completion) is
      ∙ subst (λ u. stops_at n g.completion u ran.steps (step_result_of new last) ≡ true) used s.stopped in
      let start_is : from ≡ begun (start g) bytes None 0 (first_words (most_words n) ahead) =
      begun_fresh old bytes (ran.words ++ list.coming) fresh ∙ ap (λ l. begun (start g) bytes None 0 l) (sym list.is) in
      record {
        place = k;
        stops =
            subst (λ (f : ChosenRun). IsJournaled n g f k) start_is
            (record { steps = length ran.steps; reached = refl; stopped = done });
        shows = record {
          bytes =
              subst (λ (l : List ImpreciseEvent). Puts out (output (seen l)))
              (sym (ap (λ (j : ChosenRun). j.run.steps) is)) ran.wrote;
          lines =
              subst (λ (l : List ImpreciseEvent). Puts notes (notes_of false (seen l)))
              (sym (ap (λ (j : ChosenRun). j.run.steps) is)) ran.noted;
          left = fed.2 ∙ ap Some (sym (ap (λ (j : ChosenRun). j.run.left) is));
        };
        last_event = ap (λ (j : ChosenRun). j.run.at.last_event) is;
        steps = ap (λ (j : ChosenRun). j.run.steps) is;
      }

  same_journal : (last : ImpreciseEvent) (s : JournalStops n last old new before after input out notes)
      (h : There last s)
      → journal_of g.completion last s.ran.steps ≡ journal_at g.completion h.place
  same_journal last s h =
      ap (λ (x : ImpreciseEvent). journal_of g.completion x s.ran.steps) (sym h.last_event)
      ∙ ap (journal_of g.completion h.place.run.at.last_event) (sym h.steps)

  recorded : (last : Option Event) (journal : Parts) → Records n last journal old new before after input out notes
      → IsRecorded n g bytes ahead journal
  recorded last journal r =
      let h = there r.last_event r.stops in
      let same = r.is ∙ same_journal r.last_event r.stops h in
      record { place = h.place; stops = h.stops; within = ap is_within (sym same) ∙ r.within; is = same }

  passed : IsFull n old new before after input out notes
      → (k : ChosenRun) × IsPast n g bytes ahead k × Shows k input out notes
  passed f =
      let h = there f.last_event f.stops in (
        h.place,
        record { stops = h.stops; past = ap is_within (sym (same_journal f.last_event f.stops h)) ∙ f.past },
        h.shows,
      )

  journal_prefixes : (fault : Fault) → IsShort n fault old new before after input out notes → (k : ChosenRun)
      → StopsAt n g bytes ahead k → ShowsImprecisePart (shown_chosen_run false k) out notes
  journal_prefixes fault s k is =
      let few = few_cut fault n false old before after input out notes s.cut fresh.nothing_pending in
      let words = s.cut.words ++ s.cut.label.words in
      let list = OracleDraws-Starts before after ahead words (most_words n) told s.cut.drew few in
      s.fronts bytes list.coming k tells
      (subst (λ (f : ChosenRun). IsJournaled n g f k)
      (ap (λ l. begun (start g) bytes None 0 l) list.is ∙ sym (begun_fresh old bytes (words ++ list.coming) fresh)) is)

  pub journal_told : (result : JournalEnd) → MakesJournal result n old new before after input out notes
      → JournalTold result n bytes ahead g input out notes
  journal_told (made.Made last journal) did = recorded last journal did
  journal_told (made.Failed fault) did = journal_prefixes fault did
  journal_told made.Full did = passed did
  journal_told made.NoMemory did = tt
