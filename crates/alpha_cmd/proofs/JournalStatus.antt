-- The statuses of `record`, and what becomes of files under them.
use Rattle.std.proofs.Common.{◌≡◌, ◌≢◌, ◌⊎◌, ◌∙◌, ℕ, ◌%◌, ◌^◌, Bool, true, false, List, Option, None, Some, refl, sym}
use Rattle.std.proofs.Common.{ap, subst, inl, inr, Result, Ok, Err, IfOk, [], ◌++◌, ◌∷◌, append-nil}
use Rattle.alpha_io.specs.declared.Failed.{Failed}
use Rattle.alpha_io.specs.Files.{HasFile}
use Rattle.alpha_io.specs.History.{Reply, Kept}
use Rattle.alpha_io.specs.ShelfChange.{ShelfChange}
use Rattle.alpha_io.specs.SinkChange.{SinkChange}
use Rattle.alpha_request.specs.declared.options.RunOptions.{RunOptions}
use Rattle.alpha_request.specs.Origin as choices
use Rattle.alpha_seq.specs.declared.end.End.{End}
use Rattle.alpha_seq.specs.declared.end.End.TheVariants as ended_by
use Rattle.alpha_imprecise.specs.ChosenRun.{LostTrap}
use Rattle.alpha_replay.specs.Journal.{Parts, IsJournal, spelling}
use Rattle.alpha_cmd.specs.declared.decision.Decision.{Decision}
use Rattle.alpha_cmd.specs.declared.status.Status.{Status}
use Rattle.alpha_cmd.specs.declared.status.Status.TheVariants.{ShelfFault, NoMemory, JournalFull}
use Rattle.alpha_cmd.specs.declared.stop.Stop.{Stop}
use Rattle.alpha_cmd.specs.Answer.{Answer}
use Rattle.alpha_cmd.specs.AnswerBy.{World}
use Rattle.alpha_cmd.specs.Decision.{SaysAlone}
use Rattle.alpha_cmd.specs.Form.{MayTakeBy, SparesBy}
use Rattle.alpha_cmd.specs.Stage.{StopsBy, stop_status, stop_line}
use Rattle.alpha_cmd.specs.Status.{done, refused, ended, class_of}
use Rattle.alpha_cmd.specs.Commands.Imprecise.{Plan, drawn_status, imprecise_status, Planned}
use Rattle.alpha_cmd.specs.Commands.Imprecise.{IsEndStatus as IsImpreciseEnd}
use Rattle.alpha_cmd.specs.Drawn.{but_drawn}
use Rattle.alpha_cmd.specs.Ends.{status_in}
use Rattle.alpha_cmd.specs.RunsAsked.{EndsPlan, EndsRecord}
use Rattle.alpha_cmd.specs.Commands.Record.{unwatched, IsEndStatus, kind, there, RunsOn, IsOver, KeptBehind, stands}
use Rattle.alpha_cmd.specs.Commands.Record.{untaken, lost, spent}
use Rattle.alpha_cmd.proofs.Commands.Imprecise.{MayShowImprecise-MayLose, imprecise-plain}
use Rattle.alpha_cmd.proofs.Commands.Record.{record_form-lawful}
use Rattle.alpha_cmd.proofs.FormLaws.{is_fault}
use Rattle.alpha_cmd.proofs.ImpreciseEnds.{undrawn_status}
use Rattle.alpha_cmd.proofs.Lawful.{IsRefusal}

-- ---- no other status is that of a run's end

drawn_ends : (n : ℕ) (end : End) → (class_of (drawn_status n end) ≡ done) ⊎ (class_of (drawn_status n end) ≡ ended)
drawn_ends n (ended_by.Exit v) = inl refl
drawn_ends n end = inr refl

imprecise_ends_as : (end : Option End) (trap : Option LostTrap) (n : ℕ)
    → (class_of (imprecise_status end trap n) ≡ done) ⊎ (class_of (imprecise_status end trap n) ≡ ended)
imprecise_ends_as (Some end) trap n = drawn_ends n end
imprecise_ends_as None (Some t) n = inr refl
imprecise_ends_as None None n = inr refl

-- a refusal, or a shelf's fault
not_class : (s : Status) → (class_of s ≡ done) ⊎ (class_of s ≡ ended) → (class_of s ≡ refused) ⊎ (is_fault s ≡ true)
    → is_fault s ≡ false → ⊥
not_class s (inl h) (inl g) calm = let e : done ≡ refused = sym h ∙ g in cc
not_class s (inr h) (inl g) calm = let e : ended ≡ refused = sym h ∙ g in cc
not_class s h (inr g) calm = let e : true ≡ false = sym g ∙ calm in cc

pub journal_status-no_end : (end : Option End) (trap : Option LostTrap) (n : ℕ) (s : Status)
    → s ≡ imprecise_status end trap n → (class_of s ≡ refused) ⊎ (is_fault s ≡ true) → ⊥
journal_status-no_end end trap n s e h =
    not_class s
    (subst (λ (x : Status). (class_of x ≡ done) ⊎ (class_of x ≡ ended)) (sym e) (imprecise_ends_as end trap n)) h
    (ap is_fault e ∙ imprecise-plain end trap n)

drawn_not_full : (n : ℕ) (end : End) → drawn_status n end ≢ JournalFull
drawn_not_full n (ended_by.Exit v) e = cc
drawn_not_full n end e = cc

not_full : (end : Option End) (trap : Option LostTrap) (n : ℕ) → imprecise_status end trap n ≢ JournalFull
not_full (Some end) trap n e = drawn_not_full n end e
not_full None (Some t) n e = cc
not_full None None n e = cc

-- a run that wasn't made
pub IsOver-not_imprecise_status : (end : Option End) (trap : Option LostTrap) (n : ℕ) (s : Status)
    → s ≡ imprecise_status end trap n
    → IsOver s → ⊥
IsOver-not_imprecise_status end trap n s e (inl h) = not_full end trap n (sym e ∙ h)
IsOver-not_imprecise_status end trap n s e (inr (inl h)) = journal_status-no_end end trap n s e (inr (ap is_fault h))
IsOver-not_imprecise_status end trap n s e (inr (inr (inl h))) =
    journal_status-no_end end trap n s e (inr (ap is_fault h))
IsOver-not_imprecise_status end trap n s e (inr (inr (inr h))) =
    journal_status-no_end end trap n s e (inr (ap is_fault h))

pub IsOver-no_imprecise_end : (r : Result Decision Failed) → IsOver (status_in r) → (P : Decision → Type 0)
    → IfOk r (λ d. IsImpreciseEnd true d.status → P d)
IsOver-no_imprecise_end (Ok d) over P =
    λ ends. absurd (IsOver-not_imprecise_status ends.0 ends.1.0 ends.1.1.0 d.status ends.1.1.2 over)
IsOver-no_imprecise_end (Err failed) over P = tt

-- one that wasn't begun
pub StopsBy-not_imprecise_status : (options : RunOptions) (drawn : choices.Origin) (force : Bool) (file out : List ℕ)
    (w : World)
    (shelf : Type 0) (end : Option End) (trap : Option LostTrap) (n : ℕ) (stop : Stop)
    → stop_status stop ≡ imprecise_status end trap n → StopsBy (Planned drawn force file w.files) shelf stop → ⊥
StopsBy-not_imprecise_status options drawn force file out w shelf end trap n stop e (inl h) =
    journal_status-no_end end trap n (stop_status stop) e
    (refusal
    ((record_form-lawful options drawn force file out w).stages.plain (stop_status stop) (stop_line stop) (inl h)))
  where
    refusal : IsRefusal (there options drawn force file out w) (stop_status stop)
        → (class_of (stop_status stop) ≡ refused) ⊎ (is_fault (stop_status stop) ≡ true)
    refusal (inl r) = inl r
    refusal (inr r) = inr (ap is_fault r.0)
StopsBy-not_imprecise_status options drawn force file out w shelf end trap n stop e (inr (inl h)) =
    journal_status-no_end end trap n (stop_status stop) e (inr (ap (λ s. is_fault (stop_status s)) h))
StopsBy-not_imprecise_status options drawn force file out w shelf end trap n stop e (inr (inr h)) =
    journal_status-no_end end trap n (stop_status stop) e (inr (ap (λ s. is_fault (stop_status s)) h.0))

-- ---- how a run ends

-- the status of one that was made
pub RunsOn-end : (options : RunOptions) (force : Bool) (input : Option (List ℕ)) (plan : Plan) (p : Parts)
    (d : Decision) (left : Option (List ℕ)) (o n : SinkChange) → RunsOn options force input plan p d left o n
    → IsImpreciseEnd force d.status
RunsOn-end options force input plan p d left o n run = (
  run.shown.end,
  (
    run.shown.lost,
    (
      run.shown.drawn % 2 ^ 64,
      MayShowImprecise-MayLose (unwatched options) force input plan run.shown run.may,
      ap (λ (a : Answer). a.status) run.says,
    ),
  ),
)

pub IsImpreciseEnd-EndsPlan : (force : Bool) (status : Status) → IsImpreciseEnd force status → EndsPlan force status
IsImpreciseEnd-EndsPlan true status is = is
IsImpreciseEnd-EndsPlan false status (end, (trap, (n, none, is))) =
    (end, ap but_drawn (is ∙ ap (λ (t : Option LostTrap). imprecise_status end t n) none) ∙ undrawn_status end n)

-- and of one that wasn't, for which the shelf was asked for nothing
pub IsOver-EndsRecord : (force : Bool) (out : List ℕ) (s : Status) → IsOver s → EndsRecord force out [] s
IsOver-EndsRecord force out s (inl h) = inr (inl (inr h, refl))
IsOver-EndsRecord force out s (inr (inl h)) = inr (inl (inl h, refl))
IsOver-EndsRecord force out s (inr (inr (inl h))) = inl (inr h)
IsOver-EndsRecord force out s (inr (inr (inr h))) = inl (inl h)

-- by what became of the keep behind one that was
pub kept_EndsRecord : (old middle new : List Reply) (force : Bool) (out : List ℕ) (p : Parts) (d r : Decision)
    → IsJournal p → middle ≡ old → IsImpreciseEnd force d.status
    → ((r.status ≡ NoMemory) × (new ≡ middle))
    ⊎ (((r ≡ d) × (new ≡ middle ++ Kept out (spelling p) true ∷ []))
    ⊎ ((r.status ≡ ShelfFault) × (new ≡ middle ++ Kept out (spelling p) false ∷ [])))
    → (replies : List Reply) × (new ≡ old ++ replies) × EndsRecord force out replies r.status
kept_EndsRecord old middle new force out p d r good same ends (inl (none, stays)) =
    ([], stays ∙ (same ∙ sym (append-nil old)), inl (inl none))
kept_EndsRecord old middle new force out p d r good same ends (inr (inl (is, then))) = (
  Kept out (spelling p) true ∷ [],
  then ∙ ap (λ (l : List Reply). l ++ Kept out (spelling p) true ∷ []) same,
  inr (inr (inl (
    IsImpreciseEnd-EndsPlan force r.status
        (subst (IsImpreciseEnd force) (sym (ap (λ (x : Decision). x.status) is)) ends),
    record { journal = p; good = good; is = refl },
  ))),
)
kept_EndsRecord old middle new force out p d r good same ends (inr (inr (failed, then))) = (
  Kept out (spelling p) false ∷ [],
  then ∙ ap (λ (l : List Reply). l ++ Kept out (spelling p) false ∷ []) same,
  inr (inr (inr (failed, record { journal = p; good = good; is = refl }))),
)

-- ---- input and files

pub IsOver-MayTakeBy : (force : Bool) (out : List ℕ) (s : Status) → IsOver s → MayTakeBy (kind force out) s
IsOver-MayTakeBy force out s (inl h) = (refl, inl (inr (inl h)))
IsOver-MayTakeBy force out s (inr (inl h)) = (refl, inr (inl h))
IsOver-MayTakeBy force out s (inr (inr (inl h))) = (refl, inr (inr (inl h)))
IsOver-MayTakeBy force out s (inr (inr (inr h))) = (refl, inr (inr (inr (refl, inr h))))

module _ (options : RunOptions) (force : Bool) (out : List ℕ) (input : Option (List ℕ)) (plan : Plan) (p : Parts)
    (d r : Decision) (left : Option (List ℕ)) (o n : SinkChange)
    (run : RunsOn options force input plan p d left o n) (refuses shelf : Type 0) (s : ShelfChange) where
  end_is : d.status ≡ imprecise_status run.shown.end run.shown.lost (run.shown.drawn % 2 ^ 64)
  end_is = ap (λ (a : Answer). a.status) run.says

  run_ends : r ≡ d → IsEndStatus force r.status
  run_ends e =
      inl (subst (IsImpreciseEnd force) (sym (ap (λ (x : Decision). x.status) e))
      (RunsOn-end options force input plan p d left o n run))

  alone : (status : Status) → SaysAlone status r → r.status ≡ status
  alone status says = ap (λ (a : Answer). a.status) (says None)

  pub kept_takes : KeptBehind refuses shelf out (spelling p) s d r → MayTakeBy (kind force out) r.status
  kept_takes (stands fits e files) = (refl, inl (run_ends e))
  kept_takes (untaken u says files) = (refl, inr (inr (inr (refl, inl (alone ShelfFault says)))))
  kept_takes (lost fits c says files) = (refl, inr (inr (inr (refl, inl (alone ShelfFault says)))))
  kept_takes (spent says files) = (refl, inr (inr (inr (refl, inr (alone NoMemory says)))))

  pub kept_spares : KeptBehind refuses shelf out (spelling p) s d r → SparesBy (kind force out) r.status s.old s.new
  kept_spares (stands fits e files) = inr (out, (refl, inl (run_ends e)), files.1)
  kept_spares (untaken u says files) = inl files
  kept_spares (lost fits c says files) = inr (out, (refl, inr (inl (alone ShelfFault says))), files)
  kept_spares (spent says files) = inl files

  pub kept_keeps : (end : Option End) (trap : Option LostTrap) (k : ℕ) → r.status ≡ imprecise_status end trap k
      → KeptBehind refuses shelf out (spelling p) s d r → HasFile s.new out (spelling p)
  kept_keeps end trap k is (stands fits e files) = files.0
  kept_keeps end trap k is (untaken u says files) =
      absurd (journal_status-no_end end trap k r.status is (inr (ap is_fault (alone ShelfFault says))))
  kept_keeps end trap k is (lost fits c says files) =
      absurd (journal_status-no_end end trap k r.status is (inr (ap is_fault (alone ShelfFault says))))
  kept_keeps end trap k is (spent says files) =
      absurd (journal_status-no_end end trap k r.status is (inr (ap is_fault (alone NoMemory says))))

  -- the decision of a run is no shelf's fault
  pub decision_not_shelf : d.status ≢ ShelfFault
  decision_not_shelf e =
      journal_status-no_end run.shown.end run.shown.lost (run.shown.drawn % 2 ^ 64) d.status end_is
      (inr (ap is_fault e))
