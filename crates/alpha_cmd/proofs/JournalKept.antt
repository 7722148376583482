-- The keep of a journal behind its run.
use Rattle.std.proofs.Common.{◌≡◌, ◌≢◌, ◌++◌, ◌∙◌, ℕ, Bool, List, Option, Some, IfSome, option_map, Ok, refl, sym, ap}
use Rattle.std.proofs.Common.{subst, inl, inr, append-nil, arith}
use Rattle.alpha_io.specs.declared.shelf.Shelf as shelves
use Rattle.alpha_io.specs.declared.source.Source as sources
use Rattle.alpha_io.specs.declared.sink.Sink as sinks
use Rattle.alpha_io.specs.Faults.{Faulted}
use Rattle.alpha_io.specs.ShelfChange.{ShelfChange, shelf_change}
use Rattle.alpha_io.specs.SinkChange.{SinkChange, sink_change}
use Rattle.alpha_seq.specs.Devices.{LeavesEnd, drawn}
use Rattle.alpha_request.specs.declared.options.RunOptions.{RunOptions}
use Rattle.alpha_replay.specs.Journal.{Parts, spelling}
use Rattle.alpha_cmd.specs.declared.decision.Decision.{Decision}
use Rattle.alpha_cmd.specs.declared.devices.Devices.{Devices}
use Rattle.alpha_cmd.specs.declared.status.Status.{Status}
use Rattle.alpha_cmd.specs.declared.status.Status.TheVariants.{ShelfFault, NoMemory}
use Rattle.alpha_cmd.specs.Answer.{Answer}
use Rattle.alpha_cmd.specs.AnswerBy.{World, AnswerBy, status_answer, world}
use Rattle.alpha_cmd.specs.Decision.{answer_in, SaysAlone}
use Rattle.alpha_cmd.specs.CommandEffect.{CommandEffect}
use Rattle.alpha_cmd.specs.Keeping.{Untaken}
use Rattle.alpha_cmd.specs.Kept.{Kept, nothing, spoilt, HasKept, Serves}
use Rattle.alpha_cmd.specs.Kept as kinds
use Rattle.alpha_cmd.specs.Ends.{Leaves}
use Rattle.alpha_cmd.specs.Outcome.{continues}
use Rattle.alpha_cmd.specs.Status.{status_line}
use Rattle.alpha_cmd.specs.Attempts.{AttemptBy, CutBy, MaySpoilBy}
use Rattle.alpha_cmd.specs.Commands.Imprecise.{Plan, answer_imprecise}
use Rattle.alpha_cmd.specs.Commands.Record.{KeepsBehind, on, RunsOn, KeptBehind, stands, untaken, lost, spent}
use Rattle.alpha_cmd.proofs.Commands.Record.{keeps_some}
use Rattle.alpha_cmd.proofs.JournalStatus.{kept_takes, kept_spares, decision_not_shelf}

-- the answer whose status, line and file are others doesn't depend on the keep
overwritten : (w : World) (out bytes : List ℕ) (a b : Answer) (status : Status) (line : List ℕ) (kept : Kept)
    → KeepsBehind w out bytes a b
    → ◌≡◌ {A = Answer} (record a { status = status; line = line; kept = kept })
    (record b { status = status; line = line; kept = kept })
overwritten w out bytes a b status line kept (inl h) =
    sym (ap (λ (x : Answer). record x { status = status; line = line; kept = kept }) h.1)
overwritten w out bytes a b status line kept (inr h) =
    sym (ap (λ (x : Answer). record x { status = status; line = line; kept = kept }) h.1)

module _ (options : RunOptions) (force : Bool) (out : List ℕ) (w : World) (s : ShelfChange) (shelf starved : Type 0)
    (plan : Plan) (p : Parts) (d r : Decision) (left : Option (List ℕ))
    (o n : SinkChange) (run : RunsOn options force w.input plan p d left o n) where
  abbrev JournalAttempt : Answer → Type 0
  JournalAttempt = AttemptBy shelf starved (on options force out plan) w

  answers : (a : Answer) → KeepsBehind w out (spelling p) (answer_imprecise w.input run.shown) a
      → AnswerBy (on options force out plan).steps w a
  answers a keeps =
      (continues a, inl (record { shown = run.shown; may = run.may; journal = p; has = run.has; keeps = keeps }), refl)

  -- what was tried has the run's output, notes and input left
  leaves : (t rest : Answer) → JournalAttempt t → rest ≡ status_answer left t.status t.line
      → t.output ≡ run.shown.output → t.trace ≡ run.shown.notes
      → t.left ≡ option_map (λ (bytes : List ℕ). run.shown.left) w.input → HasKept t.kept s
      → Leaves JournalAttempt rest s o n
  leaves t rest is e output trace is_left files =
      subst (λ (x : Answer). Leaves JournalAttempt x s o n) (sym e)
      (record {
        tried = t;
        is = is;
        status_is = refl;
        left_is = subst (λ (l : Option (List ℕ)). IfSome l (λ rest. left ≡ Some rest)) (sym is_left) run.left_is;
        files = files;
        output = run.shown.output;
        put = run.put;
        output_is = append-nil run.shown.output ∙ sym output;
        trace = run.shown.notes;
        noted = run.noted;
        notes_are = ap (λ (l : List ℕ). l ++ t.line) (sym trace);
      })

  unkept : (status : Status) (kept : Kept) → CutBy shelf status → MaySpoilBy (on options force out plan) w status kept
      → HasKept kept s → SaysAlone status r
      → Leaves JournalAttempt (answer_in left r) s o n
  unkept status kept cut may files says =
      let a = keeps_some w out (spelling p) (answer_imprecise w.input run.shown) in
      leaves (record (answer_imprecise w.input run.shown) { status = status; line = status_line status; kept = kept })
      (answer_in left r)
      (inr (inr (inr (record {
        cause = cut;
        streams = (refl, refl);
        kept = may;
        answer = a.0;
        is = answers a.0 a.1;
        same =
            overwritten w out (spelling p) (answer_imprecise w.input run.shown) a.0 status
            (status_line status) kept a.1;
      }))))
      (says left) refl refl refl files

  pub kept_tried : KeptBehind (Untaken w out (spelling p)) shelf out (spelling p) s d r
      → Leaves JournalAttempt (answer_in left r) s o n
  kept_tried (stands fits e files) =
      let t : Answer = record (answer_imprecise w.input run.shown) { kept = kinds.file out (spelling p) } in
      leaves t (answer_in left r) (inl (answers t (inl (fits, refl))))
      (ap (answer_in left) e ∙ run.says) refl refl refl files
  kept_tried (untaken u says files) =
      let t : Answer =
      record (answer_imprecise w.input run.shown) { status = ShelfFault; line = status_line ShelfFault } in
      leaves t (answer_in left r) (inl (answers t (inr (u, refl)))) (says left) refl refl refl files
  kept_tried (lost fits c says files) =
      let t : Answer = record (answer_imprecise w.input run.shown) { kept = kinds.file out (spelling p) } in
      unkept ShelfFault (spoilt out) (inr (refl, c))
      (inr (record {
        status_is = refl;
        name = out;
        bytes = spelling p;
        keeps = refl;
        answer = t;
        is = answers t (inl (fits, refl));
        kept_is = refl;
        spoilt_is = refl;
      })) files says
  kept_tried (spent says files) = unkept NoMemory nothing (inl refl) (inl refl) files says

-- the run has called no shelf, and the keep only that
module _ {H S K N : Type 0} (h : shelves.Ghosts H) (s : sources.Ghosts S) (k : sinks.Ghosts K) (n : sinks.Ghosts N)
    (old middle : Devices H S K N) (new : H)
    (options : RunOptions) (force : Bool) (out : List ℕ) (plan : Plan) (p : Parts) (d r : Decision) where
  -- what is known of the keep, by the shelf before it
  abbrev pub KeptOn : H → Type 0
  KeptOn shelf =
      KeptBehind (Untaken (world h s shelf middle.input) out (spelling p)) (Faulted (h.faults shelf) (h.faults new)) out
      (spelling p) (shelf_change h shelf new) d r
      × (d.status ≢ ShelfFault → Serves (shelf_change h shelf new) (r.status ≢ ShelfFault))

  pub kept_does : middle.shelf ≡ old.shelf → s.faults middle.input ≡ s.faults old.input
      → LeavesEnd (drawn s old.input middle.input)
      → RunsOn options force (s.left old.input) plan p d (s.left middle.input)
      (sink_change k old.out middle.out) (sink_change n old.notes middle.notes)
      → KeptOn middle.shelf
      → CommandEffect h s k n (on options force out plan) (Ok r) old (record middle { shelf = new })
  kept_does same calm rest run kept =
      let is = subst KeptOn same kept in
      let refuses = Untaken (world h s old.shelf middle.input) out (spelling p) in
      let cause = Faulted (h.faults old.shelf) (h.faults new) in
      let put = sink_change k old.out middle.out in
      let noted = sink_change n old.notes middle.notes in
      record {
        tried =
            kept_tried options force out (world h s old.shelf old.input)
            (shelf_change h old.shelf new) cause _ plan p d r (s.left middle.input) put noted run is.0;
        shelf =
            is.1 (decision_not_shelf options force out (s.left old.input) plan p d r
            (s.left middle.input) put noted run refuses cause (shelf_change h old.shelf new));
        files =
            kept_spares options force out (s.left old.input) plan p d r
            (s.left middle.input) put noted run refuses cause (shelf_change h old.shelf new) is.0;
        input =
            inr (kept_takes options force out (s.left old.input) plan p d r
            (s.left middle.input) put noted run refuses cause (shelf_change h old.shelf new) is.0);
        source = record { later = omega (arith, calm); faults_unchanged = λ stays. calm };
        rest = rest;
      }
