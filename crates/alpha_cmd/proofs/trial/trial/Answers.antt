use Rattle.std.proofs.Common.{[], Err, refl, ap, inl, inr}
use Rattle.alpha_trial.specs.Report.{trial_text}
use Rattle.alpha_cmd.specs.declared.status.Status.TheVariants.{Done, NoMemory}
use Rattle.alpha_cmd.specs.AnswerBy.{done_with}
use Rattle.alpha_cmd.specs.Commands.Trial.{form}
use Rattle.alpha_cmd.specs.Outcome.{continues}
use Rattle.alpha_cmd.proofs.StageEffects.{does_put, does_put_part}
use Rattle.alpha_cmd.proofs.AttemptsByForm.{starts_not}
use Rattle.alpha_cmd.proofs.trial.trial.Goals as goal

pub returns-in-Ok-clause-does : goal.returns-in-Ok-clause-does
returns-in-Ok-clause-does g c =
    let text = trial_text c.args.blocks in
    does_put g.H.Shelf g.S.Source g.K.Sink g.N.Sink c.args.devices.now c.trial.new.out
    (form c.args.blocks) text c.of_status.result (Done 0)
    (inl (continues (done_with (g.S.Source.left c.args.devices.now.input) text), refl, refl)) c.of_status.ensures.answer
    c.in-Ok.ensures.ok

-- without memory nothing was put
pub returns-in-Err-NoMemory-clause-does : goal.returns-in-Err-NoMemory-clause-does
returns-in-Err-NoMemory-clause-does g c =
    does_put g.H.Shelf g.S.Source g.K.Sink g.N.Sink c.args.devices.now c.trial.new.out (form c.args.blocks)
    [] c.of_status-in-Err-NoMemory.result NoMemory
    (starts_not _ _ (form c.args.blocks) _ _ refl) c.of_status-in-Err-NoMemory.ensures.answer
    (c.in-Err-NoMemory.ensures.memory (ap Err c.in-Err-NoMemory.field-0-is))

pub returns-in-Err-Sink-clause-does : goal.returns-in-Err-Sink-clause-does
returns-in-Err-Sink-clause-does g c =
    let text = trial_text c.args.blocks in
    does_put_part g.H.Shelf g.S.Source g.K.Sink g.N.Sink c.args.devices.now c.trial.new.out (form c.args.blocks) text _
    (continues (done_with (g.S.Source.left c.args.devices.now.input) text), refl, refl) c.in-Err-Sink.ensures.prefix
    (c.in-Err-Sink.ensures.sink (ap Err c.in-Err-Sink.field-0-is))

pub returns-in-Ok-clause-ends : goal.returns-in-Ok-clause-ends
returns-in-Ok-clause-ends g c = inl c.of_status.ensures.status

pub returns-in-Err-NoMemory-clause-ends : goal.returns-in-Err-NoMemory-clause-ends
returns-in-Err-NoMemory-clause-ends g c = inr (inl c.of_status-in-Err-NoMemory.ensures.status)

pub returns-in-Err-Sink-clause-ends : goal.returns-in-Err-Sink-clause-ends
returns-in-Err-Sink-clause-ends g c = inr (inr refl)
