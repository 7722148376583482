use Rattle.std.proofs.Common.{cond, Some, ap, ◌∙◌}
use Rattle.std.specs.Str.{bytes_eq}
use Rattle.alpha_asm.specs.Layout.{location}
use Rattle.alpha_asm.specs.Place.{place_of_code}
use Rattle.alpha_asm.specs.Pass.{location_at}
use Rattle.alpha_asm.proofs.FinishedProgram.{IfOk-map}
use Rattle.alpha_asm.proofs.pass.Pass.define.Goals as goal

pub returns-in-Some-clause-labels : goal.returns-in-Some-clause-labels
returns-in-Some-clause-labels c = IfOk-map c.define.result c.define.ensures.defined (λ again defined fresh name.
    rw c.in-Some.is
    (defined fresh name
    ∙ ap (λ s. cond (bytes_eq c.in-Some.name.now name) (Some s) (location_at c.args.self.now name))
    (c.location-spot.ensures
    ∙ ap (λ n. location (place_of_code n c.args.self.now.place)) (c.len.ensures ∙ c.args.self.now.output.code.ok.0))))
