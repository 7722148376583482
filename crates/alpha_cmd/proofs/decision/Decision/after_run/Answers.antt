use Rattle.std.proofs.Common.{◌∙◌, Option, sym, ap}
use Rattle.alpha_seq.specs.declared.event.Event.{Event}
use Rattle.alpha_cmd.specs.AnswerBy.{status_answer}
use Rattle.alpha_cmd.specs.Commands.Imprecise.{answer_status, answer_line}
use Rattle.alpha_cmd.proofs.decision.Decision.after_run.Goals as goal

pub returns-in-None : goal.returns-in-None
returns-in-None c = λ left.
    c.of_status.ensures.answer left
    ∙ sym (ap (λ (o : Option Event). status_answer left (answer_status o c.args.drawn) (answer_line o)) c.in-None.is)

pub returns-in-Some : goal.returns-in-Some
returns-in-Some c = λ left.
    c.behind_step.ensures left
    ∙ sym (ap (λ (o : Option Event). status_answer left (answer_status o c.args.drawn) (answer_line o)) c.in-Some.is)
