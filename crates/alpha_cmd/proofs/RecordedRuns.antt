-- The journal that is kept with an answer over a told input is that of the run that has this answer.
use Rattle.std.proofs.Common.{◌≡◌, ◌∙◌, ◌^◌, ◌%◌, ℕ, Bool, true, false, List, [], Option, None, Some, refl, sym, ap}
use Rattle.std.proofs.Common.{subst, inl, inr}
use Rattle.alpha_image.specs.Parts.{Parts as Image}
use Rattle.alpha_request.specs.declared.options.RunOptions.{RunOptions}
use Rattle.alpha_request.specs.Origin.{Origin}
use Rattle.alpha_restart.proofs.Agreement.{IsAccepted-IsRestartable}
use Rattle.alpha_seq.specs.State.{Program, State, Went, Barriered, Overflowed, Ends}
use Rattle.alpha_seq.specs.Start.{start}
use Rattle.alpha_seq.specs.Run.{Shown, sequential}
use Rattle.alpha_imprecise.specs.StepResult.{ImpreciseEvent, Precisely, Triggered, Waited, Reported, Lost}
use Rattle.alpha_imprecise.specs.Restart.{IsRestartable}
use Rattle.alpha_imprecise.specs.Shown.{ShowsSame}
use Rattle.alpha_imprecise.specs.Used.{HasUsed}
use Rattle.alpha_imprecise.specs.ChosenRun.{ChosenRun, begun, chosen_run, first_words, most_words}
use Rattle.alpha_imprecise.specs.ChosenRun.{end_of_imprecise_event, lost_trap, ShownImprecise, shown_chosen_run}
use Rattle.alpha_imprecise.specs.ChosenRun.{imprecise_by}
use Rattle.alpha_imprecise.proofs.DrawnRuns.{chosen_run-IsMade}
use Rattle.alpha_imprecise.proofs.PendingTraps.{made_is}
use Rattle.alpha_imprecise.proofs.ShownRuns.{runs_alike}
use Rattle.alpha_replay.specs.GatheredItems.{items_of}
use Rattle.alpha_replay.specs.Journal.{Parts, spelling}
use Rattle.alpha_replay.specs.Journaled.{journal_at, is_within, IsJournaled}
use Rattle.alpha_replay.specs.JournalEnd.{IsRecorded}
use Rattle.alpha_replay.specs.Listed.{played_over}
use Rattle.alpha_replay.specs.Replay.{ending_of, reports_of}
use Rattle.alpha_replay.proofs.JournaledSteps.{stopped_used}
use Rattle.alpha_replay.proofs.JournaledReplays.{journaled_lists, journaled_input-taken, listed_taken}
use Rattle.alpha_replay.proofs.JournaledReplays.{journaled_replays}
use Rattle.alpha_replay.proofs.JournaledRuns.{played_in, journaled_run}
use Rattle.alpha_replay.proofs.JournalBounds.{IsJournaled-bounds}
use Rattle.alpha_cmd.specs.Outcome.{continues, stops}
use Rattle.alpha_cmd.specs.Answer.{Answer}
use Rattle.alpha_cmd.specs.AnswerBy.{World, AnswerBy}
use Rattle.alpha_cmd.specs.Kept.{Kept}
use Rattle.alpha_cmd.specs.Kept as kinds
use Rattle.alpha_cmd.specs.Commands.Imprecise.{Plan, with_drawn, MayShowImprecise, answer_imprecise, Planned}
use Rattle.alpha_cmd.specs.Commands.Record.{unwatched, HasItsJournal, KeepsBehind, IsKeptRun, steps}
use Rattle.alpha_cmd.specs.RecordedRun.{ending_shown, IsJournalOf, KeepsItsJournal}
use Rattle.alpha_cmd.specs.RunAnswer.{program_by}
use Rattle.alpha_cmd.proofs.Commands.Imprecise.{planned_image, planned_good}

-- ---- where a run with its journal stops within the limits it is the run of all units

module _ (n : ℕ) (g : Program) (s : State) (input words : List ℕ) (k : ChosenRun)
    (is : IsJournaled n g (begun s input None 0 words) k)
    (within : is_within (journal_at g.completion k) ≡ true) where
  place_used : HasUsed n k.run.units k.run.at
  place_used =
      stopped_used n g.completion k.run.units k.run.steps k.run.at
      (IsJournaled-bounds n g s input words k is).0 within is.stopped

  place_made : k ≡ chosen_run g (begun s input None 0 words) n
  place_made =
      let from = begun s input None 0 words in
      let run = journaled_run n g from k is in
      run.1 ∙ sym (chosen_run-IsMade g from run.0 n (made_is g from n refl refl)
      (subst (λ (l : ChosenRun). HasUsed n l.run.units l.run.at) run.1 place_used))

-- ---- its journal

ending_is : (h : ImpreciseEvent) → ending_of h ≡ ending_shown (end_of_imprecise_event h) (lost_trap h)
ending_is (Precisely Went) = refl
ending_is (Precisely (Barriered traffic pc regs)) = refl
ending_is (Precisely (Overflowed at)) = refl
ending_is (Precisely (Ends end)) = refl
ending_is (Triggered value) = refl
ending_is (Waited adds value bytes) = refl
ending_is (Reported at) = refl
ending_is (Lost pc mask) = refl

module _ (options : RunOptions) (image : Image) (bytes : List ℕ) (ahead : ℕ → ℕ) where
  abbrev g : Program
  g = program_by options image

  abbrev coming : List ℕ
  coming = first_words (most_words options.steps) ahead

  place_journal : (k : ChosenRun) → IsJournaled options.steps g (begun (start g) bytes None 0 coming) k
      → is_within (journal_at options.complete k) ≡ true
      → (kept : Kept)
      → IsJournalOf options image bytes (journal_at options.complete k)
      (record (answer_imprecise (Some bytes) (shown_chosen_run false k)) { kept = kept })
  place_journal k is within kept =
      let lists = journaled_lists options.steps g bytes coming k is in
      record {
        end = end_of_imprecise_event k.run.at.last_event;
        lost = lost_trap k.run.at.last_event;
        drawn = k.count % 2 ^ 64;
        left = k.run.left;
        played = played_over [] (played_in k);
        reports = reports_of (items_of k.run.steps);
        ending = ending_is k.run.at.last_event;
        status = refl;
        line = refl;
        output = refl;
        taken = sym (journaled_input-taken options.steps image options.complete bytes coming k is);
        rest = refl;
        completion = refl;
        listed = listed_taken options.steps image options.complete bytes coming k is lists;
        notes = refl;
        replayed = journaled_replays options.steps image options.complete bytes coming k is within lists;
      }

  -- ---- what the run shows

  same_imprecise : (s : Shown) (w : ShownImprecise) → ShowsSame s w → with_drawn s w.drawn ≡ w
  same_imprecise s w h =
      let back : w ≡ with_drawn s w.drawn =
      λ i. record {
        end = h.end i;
        lost = h.lost i;
        units = h.steps i;
        output = h.output i;
        left = h.left i;
        notes = h.notes i;
        drawn = w.drawn;
      } in
      sym back

  shows_made : (force : Bool) (s : ShownImprecise) → (force ≡ false → IsRestartable image)
      → MayShowImprecise (unwatched options) force (Some bytes) (record { image = image; ahead = ahead }) s
      → s ≡ imprecise_by g bytes ahead options.steps false
  shows_made true s restarts may = may
  shows_made false s restarts may =
      may
      ∙ same_imprecise (sequential g bytes options.steps false) (imprecise_by g bytes ahead options.steps false)
      (runs_alike image (restarts refl) options.complete bytes coming options.steps false)

  pub run_journal : (force : Bool) (s : ShownImprecise) (p : Parts) → (force ≡ false → IsRestartable image)
      → MayShowImprecise (unwatched options) force (Some bytes) (record { image = image; ahead = ahead }) s
      → IsRecorded options.steps g bytes ahead p → (kept : Kept)
      → IsJournalOf options image bytes p (record (answer_imprecise (Some bytes) s) { kept = kept })
  run_journal force s p restarts may has kept =
      let made_there = place_made options.steps g (start g) bytes coming has.place has.stops has.within in
      let shown : shown_chosen_run false has.place ≡ s =
      ap (shown_chosen_run false) made_there ∙ sym (shows_made force s restarts may) in
      subst
      (λ (q : Parts). IsJournalOf options image bytes q (record (answer_imprecise (Some bytes) s) { kept = kept }))
      (sym has.is)
      (subst (λ (t : ShownImprecise). IsJournalOf options image bytes
      (journal_at options.complete has.place) (record (answer_imprecise (Some bytes) t) { kept = kept }))
      shown
      (place_journal has.place has.stops has.within kept))

-- ---- an answer

module _ (options : RunOptions) (choices : Origin) (force : Bool) (file out bytes : List ℕ) (w : World)
    (told : w.input ≡ Some bytes) where
  kept_run : (plan : Plan) (b : Answer) → Planned choices force file w.files (continues plan)
      → IsKeptRun options force out w plan b → KeepsItsJournal options file out bytes w.files b
  kept_run plan b planned k = by k.keeps
    where
      by : KeepsBehind w out (spelling k.journal) (answer_imprecise w.input k.shown) b
          → KeepsItsJournal options file out bytes w.files b
      by (inr h) = inl (ap (λ (a : Answer). a.kept) h.1)
      by (inl h) =
          let good = planned_good force choices file w.files plan planned in
          let may =
          subst (λ (o : Option (List ℕ)). MayShowImprecise (unwatched options) force o plan k.shown) told k.may in
          let has = subst (λ (o : Option (List ℕ)). HasItsJournal options o plan k.shown k.journal) told k.has in
          let kept = kinds.file out (spelling k.journal) in
          let is : b ≡ record (answer_imprecise (Some bytes) k.shown) { kept = kept } =
          h.1 ∙ ap (λ (o : Option (List ℕ)). record (answer_imprecise o k.shown) { kept = kept }) told in
          inr (
            plan.image,
            k.journal,
            planned_image force choices file w.files plan planned,
            ap (λ (a : Answer). a.kept) is,
            subst (IsJournalOf options plan.image bytes k.journal) (sym is)
                (run_journal options plan.image bytes plan.ahead force k.shown k.journal
                (λ judges. IsAccepted-IsRestartable plan.image good.0 (good.1 judges)) may has kept),
          )

  pub kept_with : (a : Answer) → AnswerBy (steps options choices force file out) w a
      → KeepsItsJournal options file out bytes w.files a
  kept_with a (stops status line, h, is) = inl (ap (λ (b : Answer). b.kept) is)
  kept_with a (continues b, (plan, planned, inl k), is) =
      subst (KeepsItsJournal options file out bytes w.files) (sym is) (kept_run plan b planned k)
  kept_with a (continues b, (plan, planned, inr k), is) = inl (ap (λ (b : Answer). b.kept) (is ∙ k.is))
