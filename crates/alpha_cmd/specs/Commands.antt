-- The commands: the form of each, its kind, and the files that are there where it meets no missing one.
use Rattle.alpha_request.specs.Command.{Command, of_image, make, link, replay, record_run, run, imprecise, trial}
use Rattle.alpha_io.specs.Files.{Files}
use Rattle.alpha_cmd.specs.declared.status.Status.{Status}
use Rattle.alpha_cmd.specs.Answer.{Answer}
use Rattle.alpha_cmd.specs.AnswerBy.{World, AnswerBy}
use Rattle.alpha_cmd.specs.Form.{Form, Kind, IsToldFor, MayTakeBy, SparesBy}
use Rattle.alpha_cmd.specs.Commands.Imprecise as wilds
use Rattle.alpha_cmd.specs.Commands.Link as links
use Rattle.alpha_cmd.specs.Commands.Record as recordings
use Rattle.alpha_cmd.specs.Commands.Replay as replays
use Rattle.alpha_cmd.specs.Commands.Run as runs
use Rattle.alpha_cmd.specs.Commands.Trial as trials
use Rattle.alpha_cmd.specs.SourceCommands as makings
use Rattle.alpha_cmd.specs.OfImage as images
pub mod Imprecise
pub mod Link
pub mod Record
pub mod Replay
pub mod Run
pub mod Trial

abbrev pub form_of : Command → Form
form_of (of_image what file) = images.form what file
form_of (make what file out) = makings.form what file out
form_of (link entry out files) = links.form entry out files
form_of (replay file journal) = replays.form file journal
form_of (record_run options choices force file out) = recordings.form options choices force file out
form_of (run options file) = runs.form options file
form_of (imprecise options choices force file) = wilds.form options choices force file
form_of (trial blocks) = trials.form blocks

-- its kind, which says nothing of its stages
abbrev pub kind_of : Command → Kind
kind_of (of_image what file) = images.kind what
kind_of (make what file out) = makings.kind out
kind_of (link entry out files) = links.kind out
kind_of (replay file journal) = replays.kind
kind_of (record_run options choices force file out) = recordings.kind force out
kind_of (run options file) = runs.kind
kind_of (imprecise options choices force file) = wilds.kind force
kind_of (trial blocks) = trials.kind

-- where files are told, those that a command reads are there, and the one that it keeps is taken
abbrev pub there_of : Command → World → Type 0
there_of (of_image what file) = images.there file
there_of (make what file out) = makings.there what file out
there_of (link entry out files) = links.there entry out files
there_of (replay file journal) = replays.there file journal
there_of (record_run options choices force file out) = recordings.there options choices force file out
there_of (run options file) = runs.there file
there_of (imprecise options choices force file) = wilds.there choices file
there_of (trial blocks) = λ w. Unit {0}

-- an answer of a command
abbrev pub AnswerOf : Command → World → Answer → Type 0
AnswerOf command = AnswerBy (form_of command).steps

-- what a command reads is told
abbrev pub IsTold : Command → World → Type 0
IsTold command = IsToldFor (form_of command).needs

-- the statuses with which a command ends that has begun its last stage
abbrev pub EndsBy : Command → Status → Type 0
EndsBy command = (kind_of command).ends

-- the statuses under which a command may have taken input
abbrev pub MayTake : Command → Status → Type 0
MayTake command = MayTakeBy (kind_of command)

-- told files stay, but for the file that a command keeps
abbrev pub Spares : Command → Status → Files → Files → Type 0
Spares command = SparesBy (kind_of command)
