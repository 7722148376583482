use Rattle.std.proofs.Common.{◌∙◌, None, refl, sym, ap, inl, inr}
use Rattle.alpha_cmd.specs.Answer.{Answer}
use Rattle.alpha_cmd.specs.Outcome.{continues, stops}
use Rattle.alpha_cmd.specs.OfImage.Check.{accepted}
use Rattle.alpha_cmd.proofs.of_image.check.check_image.Goals as goal

pub returns-in-Ok-clause-answer : goal.returns-in-Ok-clause-answer
returns-in-Ok-clause-answer c =
    λ w. (
      continues (accepted w.input),
      (c.args.image.now, (c.in-Ok.ensures.ok, refl), refl),
      c.of_accepted_image.ensures w.input,
    )

pub returns-in-Err-clause-answer : goal.returns-in-Err-clause-answer
returns-in-Err-clause-answer c = λ w. (stops _ _, inl c.in-Err.ensures.refused, c.of_stop.ensures w.input)

pub returns-in-Err-clause-accepted : goal.returns-in-Err-clause-accepted
returns-in-Err-clause-accepted c = λ done.
    let says = ap (λ (a : Answer). a.status) (c.of_stop.ensures None) in
    absurd (let x = sym c.in-Err.ensures.refused.1 ∙ (sym says ∙ done) in cc)

pub returns-in-Ok-clause-ends : goal.returns-in-Ok-clause-ends
returns-in-Ok-clause-ends c =
    inl (ap (λ (a : Answer). a.status) (c.of_accepted_image.ensures None), c.in-Ok.ensures.ok)

pub returns-in-Err-clause-ends : goal.returns-in-Err-clause-ends
returns-in-Err-clause-ends c =
    let (b, is, (least, line)) = c.in-Err.ensures.refused in
    inr (inl (b, ap (λ (a : Answer). a.status) (c.of_stop.ensures None) ∙ is, least))
