-- A run of what was read has a run's end, but for a failure on the way.
use Rattle.std.proofs.Common.{◌≡◌, ◌∙◌, ◌⊎◌, ℕ, true, false, List, Bool, None, Result, sym, ap, subst, inl, inr}
use Rattle.std.proofs.Common.{⊎_elim, ◌%◌, ◌^◌, ◌++◌, [], append-nil}
use Rattle.alpha_io.specs.SinkChange.{SinkChange}
use Rattle.alpha_io.specs.declared.Failed.{Failed}
use Rattle.alpha_io.specs.ShelfChange.{ShelfChange}
use Rattle.alpha_io.specs.History.{Reply, IsReadWhole}
use Rattle.alpha_io.proofs.FilePieces.{IsReadWhole-unique, one_read}
use Rattle.alpha_image.specs.Parts.{Parts, IsImage, image_spelling}
use Rattle.alpha_image.specs.ImageFault.{first_fault}
use Rattle.alpha_image.proofs.Spelled.{image_spelling-injective, first_fault-image_spelling}
use Rattle.alpha_request.specs.declared.request.ImageCommand.{ImageCommand}
use Rattle.alpha_request.specs.declared.request.ImageCommand.TheVariants as images
use Rattle.alpha_request.specs.Command.{Command, of_image, make, link, replay, record_run, run, imprecise, trial}
use Rattle.alpha_request.specs.Origin.{Origin, seed}
use Rattle.alpha_request.specs.declared.options.RunOptions.{RunOptions}
use Rattle.alpha_pal.specs.declared.fault.Fault.{Fault}
use Rattle.alpha_seq.specs.Devices.{Drawn}
use Rattle.alpha_imprecise.specs.ChosenRun.{end_of_imprecise_event, lost_trap}
use Rattle.alpha_cmd.specs.declared.decision.Decision.{Decision}
use Rattle.alpha_cmd.specs.declared.status.Status.{Status}
use Rattle.alpha_cmd.specs.declared.status.Status.TheVariants.{InputFault, SinkFault, NoMemory}
use Rattle.alpha_cmd.specs.declared.stop.Stop.{Stop}
use Rattle.alpha_cmd.specs.declared.stop.Stop.TheVariants.{OfStatus}
use Rattle.alpha_cmd.specs.Stage.{stop_status}
use Rattle.alpha_cmd.specs.Status.{status_line}
use Rattle.alpha_cmd.specs.Outcome.{stops}
use Rattle.alpha_cmd.specs.Answer.{Answer}
use Rattle.alpha_cmd.specs.Image.{Spells}
use Rattle.alpha_cmd.specs.Decision.{SaysStop, IsCutShort}
use Rattle.alpha_cmd.specs.Ends.{status_in}
use Rattle.alpha_cmd.specs.Commands.Imprecise.{Plan}
use Rattle.alpha_cmd.specs.PlanRead.{ReadsWords, IsPlanRead}
use Rattle.alpha_cmd.specs.Ran.{FailsOnTheWay, end_on}
use Rattle.alpha_cmd.specs.RunsAsked.{EndsAsRun, EndsOf, EndsPlan, DecidesPlan}
use Rattle.alpha_cmd.proofs.CutShort.{IsCutShort-status}

-- ---- an image that was read

-- bytes that spell an image are refused only for want of memory
spelling_taken : (bytes : List ℕ) (image : Parts) (status : Status) → IsImage image → bytes ≡ image_spelling image
    → Spells bytes (stops status (status_line status)) ⊎ ((status ≡ NoMemory) × (first_fault bytes ≡ None))
    → OfStatus status ≡ OfStatus NoMemory
spelling_taken bytes image status good same (inl ((fault, is, first), line)) =
    let none : first_fault bytes ≡ None = ap first_fault same ∙ first_fault-image_spelling image good in
    absurd (let e = sym none ∙ first in cc)
spelling_taken bytes image status good same (inr h) = ap OfStatus h.0

pub image_spelling-memory_refusal : (old new : List Reply) (name bytes : List ℕ) (image : Parts) (status : Status)
    → IsReadWhole old new name bytes
    → IsImage image → IsReadWhole old new name (image_spelling image)
    → Spells bytes (stops status (status_line status)) ⊎ ((status ≡ NoMemory) × (first_fault bytes ≡ None))
    → OfStatus status ≡ OfStatus NoMemory
image_spelling-memory_refusal old new name bytes image status read good whole why =
    spelling_taken bytes image status good (IsReadWhole-unique old new name bytes (image_spelling image) read whole) why

-- so are the first that were read
pub first_taken : (old new middle rest : List Reply) (name bytes : List ℕ) (image : Parts) (status : Status)
    → IsReadWhole old new name bytes
    → IsImage image → IsReadWhole old middle name (image_spelling image) → new ≡ middle ++ rest
    → Spells bytes (stops status (status_line status)) ⊎ ((status ≡ NoMemory) × (first_fault bytes ≡ None))
    → OfStatus status ≡ OfStatus NoMemory
first_taken old new middle rest name bytes image status read good whole behind why =
    spelling_taken bytes image status good
    (one_read old new middle name bytes (image_spelling image) [] rest read whole (append-nil new ∙ behind)).0 why

-- what was read is this image
pub same_image_read : (old new : List Reply) (name : List ℕ) (found image : Parts)
    → IsImage found × IsReadWhole old new name (image_spelling found)
    → IsImage image → IsReadWhole old new name (image_spelling image) → found ≡ image
same_image_read old new name found image read good whole =
    image_spelling-injective found image read.0 good
    (IsReadWhole-unique old new name (image_spelling found) (image_spelling image) read.1 whole)

-- where a seed gives the words nothing but the image is read
pub seeded_read : (old new : List Reply) (choices : Origin) (name : List ℕ) (plan : Plan) (n : ℕ) → choices ≡ seed n
    → IsPlanRead old new choices name plan → IsImage plan.image × IsReadWhole old new name (image_spelling plan.image)
seeded_read old new choices name plan n seeds is =
    let words : ReadsWords (seed n) is.middle new plan.ahead =
    subst (λ (o : Origin). ReadsWords o is.middle new plan.ahead) seeds is.words in
    (is.good, subst (λ (s : List Reply). IsReadWhole old s name (image_spelling plan.image)) (sym words.0) is.read)

-- ---- ends

-- the status of what was decided of a plan
pub plan_ends : (options : RunOptions) (force : Bool) (plan : Plan) (decision : Decision) (d : Drawn)
    (out sink : SinkChange) → DecidesPlan options force plan decision d out sink → EndsPlan force decision.status
plan_ends options false plan decision d out sink h = (end_on h.1.ran, h.1.status_is)
plan_ends options true plan decision d out sink h = (
  end_of_imprecise_event h.0.ran.run.at.last_event,
  (lost_trap h.0.ran.run.at.last_event, (h.0.ran.run.drawn % 2 ^ 64, tt, h.0.status_is)),
)

-- ---- failures

-- a stage that memory ran out for
pub memory_said : (stop : Stop) (d : Decision) → SaysStop stop d → stop ≡ OfStatus NoMemory → d.status ≡ NoMemory
memory_said stop d says is = ap (λ (a : Answer). a.status) (says None) ∙ ap stop_status is

pub SaysStop-memory_FailsOnTheWay : (End : Type 0) (stop : Stop) (d : Decision) → SaysStop stop d
    → stop ≡ OfStatus NoMemory
    → End ⊎ FailsOnTheWay d.status
SaysStop-memory_FailsOnTheWay End stop d says is = inr (inl (memory_said stop d says is))

-- a run that was cut short
pub cut_fails : (End : Type 0) (fault : Fault) (r : Result Decision Failed) → IsCutShort fault r
    → End ⊎ FailsOnTheWay (status_in r)
cut_fails End fault r says =
    ⊎_elim (λ (e : status_in r ≡ InputFault). inr (inr (inl e))) (λ (e : status_in r ≡ SinkFault). inr (inr (inr e)))
    (IsCutShort-status fault r says)

-- ---- a row a command

-- memory ran out or a sink failed
abbrev pub FailsAlways : Status → Type 0
FailsAlways status = (status ≡ NoMemory) ⊎ (status ≡ SinkFault)

on_the_way : (status : Status) → FailsAlways status → FailsOnTheWay status
on_the_way status (inl e) = inl e
on_the_way status (inr e) = inr (inr e)

-- by what is asked of an image
pub EndsOf-fails_always : (command : ImageCommand) (image : Parts) (status : Status) → FailsAlways status
    → EndsOf command image status
EndsOf-fails_always images.Check image status fails = inr (inr fails)
EndsOf-fails_always images.Dis image status fails = inr fails
EndsOf-fails_always images.Debug image status fails = inr (on_the_way status fails)

-- a command that failed so
pub EndsAsRun-fails_always : (command : Command) (status : Status) (s : ShelfChange) → FailsAlways status
    → EndsAsRun command status s
EndsAsRun-fails_always (of_image command name) status s fails =
    λ image good read. EndsOf-fails_always command image status fails
EndsAsRun-fails_always (run options name) status s fails = λ image good has read. inr (on_the_way status fails)
EndsAsRun-fails_always (imprecise options choices force name) status s fails =
    λ plan accepted read. inr (on_the_way status fails)
EndsAsRun-fails_always (make command name made) status s fails = tt
EndsAsRun-fails_always (link entry made names) status s fails = tt
EndsAsRun-fails_always (replay name journal) status s fails = λ image listed read. inr fails
EndsAsRun-fails_always (record_run options choices force name made) status s fails =
    λ plan middle replies accepted read behind. inl fails
EndsAsRun-fails_always (trial blocks) status s fails = inr fails

-- and a sink that fails last leaves what was decided so
pub EndsAsRun-sink_fault_last : (command : Command) (status decided : Status) (s : ShelfChange)
    → (status ≡ SinkFault) ⊎ (status ≡ decided)
    → EndsAsRun command decided s → EndsAsRun command status s
EndsAsRun-sink_fault_last command status decided s (inl e) h = EndsAsRun-fails_always command status s (inr e)
EndsAsRun-sink_fault_last command status decided s (inr e) h = subst (λ (x : Status). EndsAsRun command x s) (sym e) h
