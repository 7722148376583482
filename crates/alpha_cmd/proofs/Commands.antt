-- Each command has the laws of a form.
use Rattle.alpha_request.specs.Command.{Command, of_image, make, link, replay, record_run, run, imprecise, trial}
use Rattle.alpha_cmd.specs.AnswerBy.{World}
use Rattle.alpha_cmd.specs.Commands.{form_of, there_of}
use Rattle.alpha_cmd.proofs.FormLaws.{IsLawfulForm}
use Rattle.alpha_cmd.proofs.Commands.Imprecise as wilds
use Rattle.alpha_cmd.proofs.Commands.Link as links
use Rattle.alpha_cmd.proofs.Commands.Record as recordings
use Rattle.alpha_cmd.proofs.Commands.Replay as replays
use Rattle.alpha_cmd.proofs.Commands.Run as runs
use Rattle.alpha_cmd.proofs.Commands.Trial as trials
use Rattle.alpha_cmd.proofs.SourceCommands as makings
use Rattle.alpha_cmd.proofs.OfImage as images
pub mod Imprecise
pub mod Link
pub mod Record
pub mod Replay
pub mod Run
pub mod Trial

pub command_form-lawful : (command : Command) (w : World) → IsLawfulForm (form_of command) (there_of command) w
command_form-lawful (of_image what file) w = images.of_image_form-lawful what file w
command_form-lawful (make what file out) w = makings.source_form-lawful what file out w
command_form-lawful (link entry out files) w = links.link_form-lawful entry out files w
command_form-lawful (replay file journal) w = replays.replay_form-lawful file journal w
command_form-lawful (record_run options choices force file out) w =
    recordings.record_form-lawful options choices force file out w
command_form-lawful (run options file) w = runs.run_form-lawful options file w
command_form-lawful (imprecise options choices force file) w = wilds.imprecise_form-lawful options choices force file w
command_form-lawful (trial blocks) w = trials.trial_form-lawful blocks w
