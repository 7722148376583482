use Rattle.std.proofs.Common.{◌≡◌, ◌∙◌, ℕ, List, Option, Some, refl, sym, ap}
use Rattle.alpha_words.specs.declared.set.RegSet.{RegSet}
use Rattle.alpha_seq.specs.declared.end.End.{End}
use Rattle.alpha_seq.specs.declared.event.Event.{Event}
use Rattle.alpha_seq.specs.declared.event.Event.TheVariants as events
use Rattle.alpha_cmd.specs.declared.status.Status.TheVariants.{StepsSpent}
use Rattle.alpha_cmd.specs.Status.{status_line}
use Rattle.alpha_cmd.specs.AnswerBy.{status_answer}
use Rattle.alpha_cmd.specs.Commands.Imprecise.{answer_status, answer_line}
use Rattle.alpha_cmd.proofs.decision.Decision.behind_step.Goals as goal

-- any other step
says_spent : (event : Event) (n : ℕ) (left : Option (List ℕ)) → ((end : End) → event ≡ events.Ended end → ⊥)
    → ((pc : ℕ) (mask : RegSet) → event ≡ events.Lost pc mask → ⊥)
    → status_answer left StepsSpent (status_line StepsSpent)
    ≡ status_answer left (answer_status (Some event) n) (answer_line (Some event))
says_spent (events.Ended end) n left ended lost = absurd (ended end refl)
says_spent (events.Lost pc mask) n left ended lost = absurd (lost pc mask refl)
says_spent _ n left ended lost = refl

pub returns-in-Ended : goal.returns-in-Ended
returns-in-Ended c = λ left.
    c.of_end.ensures left
    ∙ sym
    (ap (λ (e : Event). status_answer left (answer_status (Some e) c.args.drawn) (answer_line (Some e))) c.in-Ended.is)

pub returns-in-Lost : goal.returns-in-Lost
returns-in-Lost c = λ left.
    c.of_status.ensures.answer left
    ∙ sym
    (ap (λ (e : Event). status_answer left (answer_status (Some e) c.args.drawn) (answer_line (Some e))) c.in-Lost.is)

pub returns-in_default : goal.returns-in_default
returns-in_default c =
    λ left. c.of_status-in_default.ensures.answer left
    ∙ says_spent c.args.event.now c.args.drawn left c.in_default.not-Ended c.in_default.not-Lost
