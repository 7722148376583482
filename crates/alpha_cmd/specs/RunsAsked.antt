-- What a call of whatever words shows that ask for a run, a replay, a session or a listing, by the bytes that the calls
-- of its devices gave and took.
use Rattle.std.specs.Prelude.{◌≡◌, ◌⊎◌, ℕ, Bool, true, false, List, [], ◌++◌, Result, IfOk}
use Rattle.alpha_io.specs.declared.Failed.{Failed}
use Rattle.alpha_io.specs.History.{Reply, IsReadWhole}
use Rattle.alpha_io.specs.ShelfChange.{ShelfChange}
use Rattle.alpha_io.specs.SinkChange.{SinkChange, Puts}
use Rattle.alpha_dis.specs.Listing.{listing}
use Rattle.alpha_image.specs.Parts.{Parts, IsImage, image_spelling}
use Rattle.alpha_shadow.specs.declared.broken.Broken.{Broken}
use Rattle.alpha_shadow.specs.Broken.{IsAccepted}
use Rattle.alpha_shadow.specs.Least.{IsLeastBroken}
use Rattle.alpha_request.specs.declared.request.ImageCommand.{ImageCommand}
use Rattle.alpha_request.specs.declared.request.ImageCommand.TheVariants as images
use Rattle.alpha_request.specs.Command.{Command, of_image, replay, record_run, run, imprecise, trial}
use Rattle.alpha_request.specs.Origin.{Origin}
use Rattle.alpha_request.specs.declared.options.RunOptions.{RunOptions}
use Rattle.alpha_seq.specs.Run.{output, notes}
use Rattle.alpha_seq.specs.Devices.{Drawn}
use Rattle.alpha_cmd.specs.declared.decision.Decision.{Decision}
use Rattle.alpha_cmd.specs.declared.status.Status.{Status}
use Rattle.alpha_cmd.specs.declared.status.Status.TheVariants.{Done, NotRestartable, ShelfFault, InputFault, SinkFault}
use Rattle.alpha_cmd.specs.declared.status.Status.TheVariants.{NoMemory, JournalFull}
use Rattle.alpha_cmd.specs.Status.{class_of, done, ended}
use Rattle.alpha_cmd.specs.Asks.{AsksFor}
use Rattle.alpha_cmd.specs.Call.{Call}
use Rattle.alpha_cmd.specs.Checked.{ReadsImage}
use Rattle.alpha_cmd.specs.Commands.Imprecise.{Plan, IsEndStatus}
use Rattle.alpha_cmd.specs.Commands.Replay.{run_line as replay_line}
use Rattle.alpha_cmd.specs.Drawn.{but_drawn}
use Rattle.alpha_cmd.specs.Ends.{status_in}
use Rattle.alpha_cmd.specs.ImpreciseRan.{ShowsImprecise, DecidesImprecise}
use Rattle.alpha_cmd.specs.OfImage.Debug as sessions
use Rattle.alpha_cmd.specs.PlanRead.{IsPlanRead, ReadsPlan}
use Rattle.alpha_cmd.specs.Ran.{RunOnReplies, ShowsRun, IsRunEnd, FailsOnTheWay, EndsWhere, end_on}
use Rattle.alpha_cmd.specs.RecordRan.{ShowsRecord, DecidesRecord, ReadsAndKeeps, AsksToKeep}
use Rattle.alpha_cmd.specs.ReplayRan.{ReplaysFiles, EndsWhereReplay}
use Rattle.alpha_cmd.specs.RunAnswer.{run_status, run_line}
use Rattle.alpha_cmd.specs.SessionRan.{ShowsSession, DecidesSession}
use Rattle.alpha_cmd.specs.ShowsDone.{ShowsDone, DecidesDone, IsDoneOrFails}

-- the status of a call that did what was asked, or whose program's run was over otherwise
abbrev pub HasEnded : Status → Type 0
HasEnded status = (class_of status ≡ done) ⊎ (class_of status ≡ ended)

-- a row a command that asks for something of an image
abbrev pub ShowsOf : ImageCommand → Parts → Status → Call → Type 0
ShowsOf images.Check image status c = Unit {0}
ShowsOf images.Dis image status c = ShowsDone (listing image) status c
ShowsOf images.Debug image status c = ShowsSession image status c

-- What is shown of a run of the imprecise machine. Where the verdict isn't passed over the image is accepted, and it is
-- a run of the sequential machine. Where it is, it is a run by the words that were read, and of an accepted image that
-- too.
abbrev pub ShowsPlan : RunOptions → Bool → Plan → Status → Call → Type 0
ShowsPlan options false plan status c = IsAccepted plan.image.words × ShowsRun options plan.image status c
ShowsPlan options true plan status c =
    ShowsImprecise options plan status c × (IsAccepted plan.image.words → ShowsRun options plan.image status c)

-- A row a command: of its file the shelf was asked from the start to the end, of a file of choices then too, and for
-- nothing else but to keep a run's journal, if that ended so. The bytes that it gave spell the image that was run or
-- listed, and the words by which it was run.
abbrev pub ShowsAsked : Command → Status → Call → Type 0
ShowsAsked (of_image what file) status c = ReadsImage c.shelf file (λ image. ShowsOf what image status c)
ShowsAsked (replay file journal) status c =
    ReplaysFiles c.shelf file journal (λ r. ShowsDone (replay_line r.units r.reports) status c)
ShowsAsked (run options file) status c = ReadsImage c.shelf file (λ image. ShowsRun options image status c)
ShowsAsked (imprecise options choices force file) status c =
    ReadsPlan c.shelf choices file (λ plan. ShowsPlan options force plan status c)
ShowsAsked (record_run options choices force file out) status c =
    IsEndStatus true status
    → ReadsAndKeeps c.shelf choices file out (λ plan journal. ShowsRecord options force plan journal status c)
ShowsAsked _ status c = Unit {0}

-- the statuses of the end of a run of the imprecise machine, by whether the verdict is passed over
abbrev pub EndsPlan : Bool → Status → Type 0
EndsPlan false status = IsRunEnd status
EndsPlan true status = IsEndStatus true status

-- Where the bytes that the shelf's calls gave of this file spell an image that may be run, and a file of choices was
-- given then too, the status is that of an end, but where memory ran out or the input or a sink failed.
abbrev pub EndsWherePlan : Bool → Origin → List ℕ → Status → ShelfChange → Type 0
EndsWherePlan force choices file status s =
    (plan : Plan) → (force ≡ false → IsAccepted plan.image.words) → IsPlanRead s.past s.history choices file plan
    → EndsPlan force status ⊎ FailsOnTheWay status

-- How a run with a journal ends, by the replies to what the shelf was asked behind the image and the words. Memory ran
-- out or a sink failed. Or the input failed or the journal is full, and the shelf was asked for nothing. Or it was
-- asked to keep a journal: where it did, the status is that of an end, and else that of its fault.
abbrev pub EndsRecord : Bool → List ℕ → List Reply → Status → Type 0
EndsRecord force out replies status =
    ((status ≡ NoMemory) ⊎ (status ≡ SinkFault))
    ⊎ ((((status ≡ InputFault) ⊎ (status ≡ JournalFull)) × (replies ≡ []))
    ⊎ ((EndsPlan force status × AsksToKeep out true replies)
    ⊎ ((status ≡ ShelfFault) × AsksToKeep out false replies)))

-- It ends so where the bytes spell an image that may be run, and a file of choices was given, before these replies.
abbrev pub EndsWhereRecord : Bool → Origin → List ℕ → List ℕ → Status → ShelfChange → Type 0
EndsWhereRecord force choices file out status s =
    (plan : Plan) (middle replies : List Reply) → (force ≡ false → IsAccepted plan.image.words)
    → IsPlanRead s.past middle choices file plan → s.history ≡ middle ++ replies → EndsRecord force out replies status

-- A check is done of an image that is accepted, and refuses another by its least broken place, but where memory ran out
-- or a sink failed.
abbrev pub EndsCheck : Parts → Status → Type 0
EndsCheck image status =
    ((status ≡ Done 0) × IsAccepted image.words)
    ⊎ (((b : Broken) × (status ≡ NotRestartable b) × IsLeastBroken image.words b)
    ⊎ ((status ≡ NoMemory) ⊎ (status ≡ SinkFault)))

-- how it ends where the bytes spell this image
abbrev pub EndsOf : ImageCommand → Parts → Status → Type 0
EndsOf images.Check image status = EndsCheck image status
EndsOf images.Dis image status = IsDoneOrFails status
EndsOf images.Debug image status = sessions.IsEndStatus status ⊎ FailsOnTheWay status

-- A row a command: the imprecise machine runs an image that is accepted, and each where the verdict is passed over.
abbrev pub EndsAsRun : Command → Status → ShelfChange → Type 0
EndsAsRun (of_image what file) status s =
    (image : Parts) → IsImage image → IsReadWhole s.past s.history file (image_spelling image)
    → EndsOf what image status
EndsAsRun (replay file journal) status s = EndsWhereReplay file journal status s
EndsAsRun (run options file) status s = EndsWhere (λ image. Unit {0}) file status s
EndsAsRun (imprecise options choices force file) status s = EndsWherePlan force choices file status s
EndsAsRun (record_run options choices force file out) status s = EndsWhereRecord force choices file out status s
EndsAsRun (trial blocks) status s = IsDoneOrFails status
EndsAsRun _ status s = Unit {0}

-- The first says what is shown where it has ended, and the second when it has.
pub record RunsBy (command : Command) (status : Status) (c : Call) : Type 0 where
  pub shows : HasEnded status → ShowsAsked command status c
  pub ends : EndsAsRun command status c.shelf

abbrev pub RunsAsked : List (List ℕ) → Status → Call → Type 0
RunsAsked words status c = (command : Command) → AsksFor words command → RunsBy command status c

-- ---- what is decided behind a run

-- its output and its lines were written, and its status and its last line are still to be said
pub record DecidesRun (options : RunOptions) (image : Parts) (decision : Decision) (d : Drawn)
    (out sink : SinkChange) : Type 0 where
  pub ran : RunOnReplies options image d
  pub status_is : but_drawn decision.status ≡ run_status (end_on ran)
  pub no_more : decision.output ≡ []
  pub line_is : decision.line ≡ run_line (end_on ran)
  pub put : Puts out (output ran.run.events)
  pub noted : Puts sink (notes options.watch ran.run.events)

-- a row a command that asks for something of an image
abbrev pub DecidesOf : ImageCommand → Parts → Decision → Drawn → SinkChange → SinkChange → Type 0
DecidesOf images.Check image decision d out sink = Unit {0}
DecidesOf images.Dis image decision d out sink = DecidesDone (listing image) decision out sink
DecidesOf images.Debug image decision d out sink = DecidesSession image decision d out sink

-- of a run of the imprecise machine
abbrev pub DecidesPlan : RunOptions → Bool → Plan → Decision → Drawn → SinkChange → SinkChange → Type 0
DecidesPlan options false plan decision d out sink =
    IsAccepted plan.image.words × DecidesRun options plan.image decision d out sink
DecidesPlan options true plan decision d out sink =
    DecidesImprecise options plan decision d out sink
    × (IsAccepted plan.image.words → DecidesRun options plan.image decision d out sink)

-- a row a command
abbrev pub DecidesAsked : Command → Decision → ShelfChange → Drawn → SinkChange → SinkChange → Type 0
DecidesAsked (of_image what file) decision s d out sink =
    ReadsImage s file (λ image. DecidesOf what image decision d out sink)
DecidesAsked (replay file journal) decision s d out sink =
    ReplaysFiles s file journal (λ r. DecidesDone (replay_line r.units r.reports) decision out sink)
DecidesAsked (run options file) decision s d out sink =
    ReadsImage s file (λ image. DecidesRun options image decision d out sink)
DecidesAsked (imprecise options choices force file) decision s d out sink =
    ReadsPlan s choices file (λ plan. DecidesPlan options force plan decision d out sink)
DecidesAsked (record_run options choices force file kept) decision s d out sink =
    IsEndStatus true decision.status
    → ReadsAndKeeps s choices file kept (λ plan journal. DecidesRecord options force plan journal decision d out sink)
DecidesAsked _ decision s d out sink = Unit {0}

-- that is so where what was decided has the status of an end
abbrev pub WhereEnded : Result Decision Failed → (Decision → Type 0) → Type 0
WhereEnded r P = HasEnded (status_in r) → IfOk r P
