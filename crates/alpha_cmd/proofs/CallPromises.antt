-- What is promised of a call follows from how it ended.
use Rattle.std.proofs.Common.{◌≡◌, ◌≢◌, ◌⊎◌, ◌∙◌, ℕ, false, List, sym, ap, subst, inl, inr, ⊎_elim}
use Rattle.alpha_io.specs.declared.sink.Sink.{Ghosts}
use Rattle.alpha_io.specs.Faults.{Faulted}
use Rattle.alpha_io.specs.Files.{Files}
use Rattle.alpha_io.specs.ShelfChange.{ShelfChange}
use Rattle.alpha_io.specs.SinkChange.{SinkChange, sink_change, Puts, WritesPartly, HasFailed}
use Rattle.alpha_io.proofs.FaultCounts.{Faulted-not_NoFault}
use Rattle.alpha_shadow.specs.Broken.{IsAccepted}
use Rattle.alpha_imprecise.specs.Restart.{IsRestartable}
use Rattle.alpha_restart.proofs.Agreement.{IsAccepted-IsRestartable}
use Rattle.alpha_request.specs.Asked.{asked}
use Rattle.alpha_request.specs.Command.{Command, check, fix, make_module, link, replay, run, imprecise}
use Rattle.alpha_request.specs.Origin.{seed}
use Rattle.alpha_request.specs.Plain.{defaults}
use Rattle.alpha_request.proofs.AskedBy.{asked_rows}
use Rattle.alpha_request.proofs.PlainWords.{plain_check, plain_run, plain_imprecise}
use Rattle.alpha_cmd.specs.declared.decision.Decision.{Decision}
use Rattle.alpha_cmd.specs.declared.status.Status.{Status}
use Rattle.alpha_cmd.specs.declared.status.Status.TheVariants.{Done, ShelfFault, SinkFault, NoMemory}
use Rattle.alpha_cmd.specs.Status.{class_of}
use Rattle.alpha_cmd.specs.Drawn.{but_drawn}
use Rattle.alpha_cmd.specs.Alike.{Alike}
use Rattle.alpha_cmd.specs.AlikeByAnswers.{undrawn}
use Rattle.alpha_cmd.specs.Answer.{Answer}
use Rattle.alpha_cmd.specs.AnswerBy.{World, told}
use Rattle.alpha_cmd.specs.Asks.{AsksFor}
use Rattle.alpha_cmd.specs.Call.{Call, NoDeviceFault}
use Rattle.alpha_cmd.specs.Checked.{Checked, ReadsImage}
use Rattle.alpha_cmd.specs.Restarts.{Restarts}
use Rattle.alpha_cmd.specs.Accepts.{Accepts}
use Rattle.alpha_cmd.specs.Commands.{kind_of, EndsBy, IsTold, MayTake, Spares}
use Rattle.alpha_cmd.specs.Commands.Link.{KeepsLinks}
use Rattle.alpha_cmd.specs.SourceCommands.Module.{KeepsModules}
use Rattle.alpha_cmd.specs.Commands.Record.{KeepsUnder}
use Rattle.alpha_cmd.specs.Decision.{answer_in}
use Rattle.alpha_cmd.specs.Ends.{EndsCall, EndsPart, Leaves}
use Rattle.alpha_cmd.specs.Fixed.{Fixes}
use Rattle.alpha_cmd.specs.Answered.{Answered}
use Rattle.alpha_cmd.specs.Promises.{tried_in, EndsWhole, EndsCut, GivesOne, GivesThe, SparesFiles, TakesInput}
use Rattle.alpha_cmd.specs.Promises.{EndsAsked, LosesNone}
use Rattle.alpha_cmd.specs.ReadsNothing.{answer_unread, Unread, UnreadAlike}
use Rattle.alpha_cmd.specs.Replayed.{ShowsRuns}
use Rattle.alpha_cmd.specs.Replied.{Replies}
use Rattle.alpha_cmd.specs.ToldRun.{answer_told, RanTold}
use Rattle.alpha_cmd.specs.Tried.{IsAnswer}
use Rattle.alpha_cmd.proofs.AcceptedFiles.{accepted-IsChecked as checked_file}
use Rattle.alpha_cmd.proofs.CallEndings as endings
use Rattle.alpha_cmd.proofs.CallEndings.{Leaves-not_sink, given_whole, IsGiven-IsAnswered, calm_part}
use Rattle.alpha_cmd.proofs.IsFixed.{tried_fixed}
use Rattle.alpha_cmd.proofs.FormLaws.{is_fault}
use Rattle.alpha_cmd.proofs.JournalStatus.{journal_status-no_end}
use Rattle.alpha_cmd.proofs.KeptLinks.{kept_link}
use Rattle.alpha_cmd.proofs.KeptModules.{kept_module}
use Rattle.alpha_cmd.proofs.InputFreePrograms.{answer_unread-unique, answer_unread-imprecise as alike_unread}
use Rattle.alpha_cmd.proofs.ReplayedRuns.{shows_run}
use Rattle.alpha_cmd.proofs.ToldRuns.{imprecise_told, run_told}
use Rattle.alpha_cmd.proofs.AttemptedBy.{IsAnswer-single, asked_answer, AttemptedBy-ended, ended_found}
use Rattle.alpha_cmd.proofs.AttemptsByForm.{MayTake-sink, Spares-sink}

-- all of what was tried was written, or a sink failed
pub data CallEnded (words : List (List ℕ)) (status : Status) (c : Call) : Type 0 where
  written : status ≢ SinkFault → EndsCall (tried_in words c) status c.input.new.left c.shelf c.out c.notes
      → CallEnded words status c
  failed : status ≡ SinkFault → EndsPart (tried_in words c) c.shelf c.out c.notes → CallEnded words status c

-- ---- of a decision that is delivered

-- it is never a sink's fault
pub not_sink : (words : List (List ℕ)) (c : Call) (d : Decision) (out notes : SinkChange)
    → Leaves (tried_in words c) (answer_in c.input.new.left d) c.shelf out notes → d.status ≢ SinkFault
not_sink words c d out notes so_far =
    Leaves-not_sink (Faulted c.shelf.before c.shelf.now) (Faulted c.input.before c.input.now) words (told c)
    (answer_in c.input.new.left d) c.shelf out notes so_far

-- the output was o and p and is q, the notes were x and y and are z
pub Leaves-CallEnded : {K N : Type 0} (k : Ghosts K) (n : Ghosts N) (o p q : K) (x y z : N) (words : List (List ℕ))
    (c : Call)
    (d : Decision) (status : Status)
    → Leaves (tried_in words c) (answer_in c.input.new.left d) c.shelf (sink_change k o p) (sink_change n x y)
    → (status ≡ SinkFault) ⊎ (status ≡ d.status)
    → (status ≢ SinkFault → Puts (sink_change k p q) d.output) → (status ≢ SinkFault → Puts (sink_change n y z) d.line)
    → WritesPartly (sink_change k p q) d.output → WritesPartly (sink_change n y z) d.line
    → (status ≡ SinkFault → HasFailed (sink_change k p q) ⊎ HasFailed (sink_change n y z))
    → CallEnded words status (record c { out = sink_change k o q; notes = sink_change n x z })
Leaves-CallEnded k n o p q x y z words c d status so_far (inl e) puts notes output line cause =
    failed e
    (endings.Leaves-EndsPart k.written k.faults n.written n.faults o p q x y z c.shelf (tried_in words c)
    (answer_in c.input.new.left d) so_far output line (cause e))
Leaves-CallEnded k n o p q x y z words c d status so_far (inr e) puts notes output line cause =
    let calm : status ≢ SinkFault =
    λ is. not_sink words c d (sink_change k o p) (sink_change n x y) so_far (sym e ∙ is) in
    written calm
    (endings.Leaves-EndsCall k.written k.faults n.written n.faults o p q x y z c.shelf (tried_in words c)
    (answer_in c.input.new.left d) so_far status e (puts calm) (notes calm))

can_restart : (s : ShelfChange) (file : List ℕ) → ReadsImage s file (λ image. IsAccepted image.words)
    → ReadsImage s file IsRestartable
can_restart s file r = record {
  image = r.image;
  good = r.good;
  read = r.read;
  told = r.told;
  has = IsAccepted-IsRestartable r.image r.good r.has;
}

-- what stands of files and of input stands under the status that its delivery answers
module _ (status decided : Status) (is : (status ≡ SinkFault) ⊎ (status ≡ decided)) where
  either : (P : Status → Type 0) → (P decided → P SinkFault) → P decided → P status
  either P sink h =
      ⊎_elim (λ (e : status ≡ SinkFault). subst P (sym e) (sink h)) (λ (e : status ≡ decided). subst P (sym e) h) is

  pub SparesFiles-decided : (words : List (List ℕ)) (c : Call) → SparesFiles words decided c
      → SparesFiles words status c
  SparesFiles-decided words c (inl h) = inl h
  SparesFiles-decided words c (inr (command, asks, h, spoils)) =
      inr (
        command,
        asks,
        either (λ s. Spares command s c.shelf.old c.shelf.new)
            (Spares-sink (kind_of command) decided c.shelf.old c.shelf.new) h,
        λ e.
            ⊎_elim (λ (f : status ≡ SinkFault). absurd (let x : SinkFault ≡ ShelfFault = sym f ∙ e in cc))
            (λ (f : status ≡ decided). spoils (sym f ∙ e)) is,
      )

  pub TakesInput-decided : (Same : Type 0) (words : List (List ℕ)) → Same ⊎ TakesInput words decided
      → Same ⊎ TakesInput words status
  TakesInput-decided Same words (inl h) = inl h
  TakesInput-decided Same words (inr (command, asks, h)) =
      inr (command, asks, either (MayTake command) (MayTake-sink (kind_of command) decided) h)

  pub Replies-decided : (words : List (List ℕ)) (s : ShelfChange) → Replies words decided s → Replies words status s
  Replies-decided words s h command asks e =
      ⊎_elim (λ (f : status ≡ SinkFault). absurd (let x = sym e ∙ f in cc))
      (λ (f : status ≡ decided). h command asks (sym f ∙ e)) is

  pub Replies-Restarts : (words : List (List ℕ)) (s : ShelfChange) → Replies words decided s → Restarts words status s
  Replies-Restarts words s h file asks e =
      can_restart s file (Replies-decided words s h (check file) (asked_rows words (check file) asks) e)

  pub Replies-Checked : (words : List (List ℕ)) (s : ShelfChange) → Replies words decided s → Checked words status s
  Replies-Checked words s h file is_check plain e =
      can_restart s file (Replies-decided words s h (check file) (ap asked is_check ∙ plain_check file plain) e)

  pub KeepsUnder-decided : (P : Command → Type 0) (w : World) (files : Files) → KeepsUnder P decided w files
      → KeepsUnder P status w files
  KeepsUnder-decided P w files kept options choices force file out end lost n asks ends =
      ⊎_elim (λ (e : status ≡ SinkFault). absurd (journal_status-no_end end lost n status ends (inr (ap is_fault e))))
      (λ (e : status ≡ decided). kept options choices force file out end lost n asks (sym e ∙ ends)) is

-- ---- what was written

module _ {words : List (List ℕ)} {status : Status} {c : Call} where
  pub CallEnded-EndsWhole : CallEnded words status c → EndsWhole words status c
  CallEnded-EndsWhole (written calm ends) also = ends
  CallEnded-EndsWhole (failed is ends) calm = absurd (calm is)

  pub CallEnded-EndsCut : CallEnded words status c → EndsCut words status c
  CallEnded-EndsCut (written calm ends) is = absurd (calm is)
  CallEnded-EndsCut (failed is ends) also = ends

  pub CallEnded-EndsAsked : CallEnded words status c → EndsAsked words status
  CallEnded-EndsAsked (written calm ends) is =
      subst (λ (s : Status). (command : Command) × AsksFor words command × EndsBy command s) (sym ends.status_is)
      (AttemptedBy-ended (Faulted c.shelf.before c.shelf.now) (Faulted c.input.before c.input.now) words
      (told c) ends.tried ends.is (sym (ap class_of ends.status_is) ∙ is))
  CallEnded-EndsAsked (failed is ends) over = absurd (let x = sym over ∙ ap class_of is in cc)

  pub CallEnded-GivesOne : CallEnded words status c → GivesOne words status c
  CallEnded-GivesOne (written calm ends) quiet =
      given_whole (Faulted c.shelf.before c.shelf.now) (Faulted c.input.before c.input.now) words
      (told c) status c.input.new.left c.shelf c.out c.notes
      (λ p. Faulted-not_NoFault _ _ p quiet.shelf) (λ p. Faulted-not_NoFault _ _ p quiet.input) ends
  CallEnded-GivesOne (failed is ends) quiet =
      absurd (calm_part (tried_in words c) c.shelf c.out c.notes ends quiet.out quiet.notes)

module _ {words : List (List ℕ)} {status : Status} {c : Call} (call_ended : CallEnded words status c) where
  -- ---- of a call whose answer was written

  ends_done : status ≡ Done 0 → EndsCall (tried_in words c) status c.input.new.left c.shelf c.out c.notes
  ends_done e = CallEnded-EndsWhole call_ended (λ failed. let x : Done 0 ≡ SinkFault = sym e ∙ failed in cc)

  pub CallEnded-Fixes : Fixes words status c.shelf.old c.shelf.new
  CallEnded-Fixes name out asks e =
      let ends = ends_done e in
      tried_fixed (Faulted c.shelf.before c.shelf.now) (Faulted c.input.before c.input.now) words name out
      (told c) ends.tried c.shelf (asked_rows words (fix name out) asks) ends.is (sym ends.status_is ∙ e) ends.files

  pub CallEnded-KeepsModules : KeepsModules words status c.shelf.old c.shelf.new
  CallEnded-KeepsModules name out asks e =
      let ends = ends_done e in
      kept_module (Faulted c.shelf.before c.shelf.now) (Faulted c.input.before c.input.now) words name out (told c)
      ends.tried c.shelf (asked_rows words (make_module name out) asks) ends.is (sym ends.status_is ∙ e) ends.files

  pub CallEnded-KeepsLinks : KeepsLinks words status c.shelf.old c.shelf.new
  CallEnded-KeepsLinks entry out names asks e =
      let ends = ends_done e in
      kept_link (Faulted c.shelf.before c.shelf.now) (Faulted c.input.before c.input.now) words entry out names (told c)
      ends.tried c.shelf (asked_rows words (link entry out names) asks) ends.is (sym ends.status_is ∙ e) ends.files

  pub CallEnded-ShowsRuns : ShowsRuns words status c.shelf.old
  CallEnded-ShowsRuns name journal asks e =
      let ends = ends_done e in
      shows_run (Faulted c.shelf.before c.shelf.now) (Faulted c.input.before c.input.now) words name journal
      (told c) ends.tried (asked_rows words (replay name journal) asks) ends.is (sym ends.status_is ∙ e)

  pub CallEnded-LosesNone : LosesNone words status
  CallEnded-LosesNone options choices name lost asks e =
      ended_found words options choices name lost (asked_rows words (imprecise options choices false name) asks)
      (subst (λ (s : Status). (command : Command) × AsksFor words command × EndsBy command s) e
      (CallEnded-EndsAsked call_ended (ap class_of e)))

  -- ---- where no device fails

  pub CallEnded-GivesThe : GivesThe words status c
  CallEnded-GivesThe a read quiet is =
      IsGiven-IsAnswered (λ s. s) words (told c) a status c.input.new.left c.shelf c.out c.notes
      (λ b also. IsAnswer-single words (told c) b a read also is) (CallEnded-GivesOne call_ended quiet)

  pub CallEnded-Accepts : Accepts words status c
  CallEnded-Accepts image name asks good safe files there quiet =
      let here = asked_rows words (check name) asks in
      let same : (command : Command) → AsksFor words command → check name ≡ command =
      λ command also. (let x = sym here ∙ also in cc) in
      let is = checked_file image (told c) name good safe there in
      ⊎_elim (λ h. inl (h.status_is ∙ is.done)) (λ (memory : status ≡ NoMemory). inr memory)
      (CallEnded-GivesThe is.answer
      (λ command also. subst (λ (x : Command). IsTold x (told c)) (same command also) files) quiet
      (inr (check name, here, is.is)))

  -- an answer, but for the number of words that were drawn
  gave_undrawn : (a : Answer) → ((b : Answer) → IsAnswer words (told c) b → undrawn b ≡ a) → NoDeviceFault c
      → Answered a (but_drawn status) c
  gave_undrawn a same quiet =
      ⊎_elim (λ h. inl h) (λ (memory : status ≡ NoMemory). inr (ap but_drawn memory))
      (IsGiven-IsAnswered but_drawn words (told c) a status c.input.new.left c.shelf c.out c.notes same
      (CallEnded-GivesOne call_ended quiet))

  pub CallEnded-Alike : Alike words status c
  CallEnded-Alike options name bytes image (inl asks) h quiet =
      gave_undrawn (answer_told options image bytes)
      (run_told image name bytes (told c) h.good h.accepted h.told h.there h.input options words
      (asked_rows words (run options name) asks)) quiet
  CallEnded-Alike options name bytes image (inr (choices, force, asks, has)) h quiet =
      gave_undrawn (answer_told options image bytes)
      (imprecise_told image name bytes (told c) h.good h.accepted h.told h.there h.input options words choices force
      (asked_rows words (imprecise options choices force name) asks) has) quiet

  pub CallEnded-RanTold : RanTold words status c
  CallEnded-RanTold name bytes image (inl is) plain h quiet =
      gave_undrawn (answer_told defaults image bytes)
      (run_told image name bytes (told c) h.good h.accepted h.told h.there h.input defaults words
      (ap asked is ∙ plain_run name plain)) quiet
  CallEnded-RanTold name bytes image (inr is) plain h quiet =
      gave_undrawn (answer_told defaults image bytes)
      (imprecise_told image name bytes (told c) h.good h.accepted h.told h.there h.input defaults words (seed 0) false
      (ap asked is ∙ plain_imprecise name plain) tt) quiet

  pub CallEnded-Unread : Unread words status c
  CallEnded-Unread options name image asks files found nothing quiet =
      IsGiven-IsAnswered (λ s. s) words (told c)
      (answer_unread options image c.input.old.left) status c.input.new.left c.shelf c.out c.notes
      (λ a is. answer_unread-unique options name image (told c) a files found nothing
      (asked_answer words (run options name) (told c) a (asked_rows words (run options name) asks) is))
      (CallEnded-GivesOne call_ended quiet)

  pub unread_alike : UnreadAlike words status c
  unread_alike options choices force name image asks files found nothing has checked quiet =
      let command = imprecise options choices force name in
      gave_undrawn (answer_unread options image c.input.old.left)
      (λ b is. alike_unread options choices force name image (told c) b files found nothing has checked
      (asked_answer words command (told c) b (asked_rows words command asks) is)) quiet
