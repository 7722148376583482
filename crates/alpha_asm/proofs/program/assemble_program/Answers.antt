use Rattle.std.proofs.Common.{ap, refl, ◌∙◌}
use Rattle.std.specs.Option.{option_map}
use Rattle.alpha_asm.specs.Patches.{entry_view}
use Rattle.alpha_asm.specs.Assembled.{made_at}
use Rattle.alpha_asm.proofs.FinishedProgram.{assembled_program-made_at, made_at-finished_result}
use Rattle.alpha_asm.proofs.program.assemble_program.Goals as goal

pub returns-clause-refused : goal.returns-clause-refused
returns-clause-refused c =
    λ other is s. assembled_program-made_at is c.args.pass s
    ∙ ap (λ e. made_at is (option_map entry_view e)) c.in-None.is

pub returns-in-Some-clause-refused : goal.returns-in-Some-clause-refused
returns-in-Some-clause-refused c = λ other is s.
    let none = c.in-Err.ensures.undefined other is s in
    assembled_program-made_at is c.args.pass s
    ∙ (ap (λ e. made_at is (option_map entry_view e)) c.in-Some.is ∙ rw none refl)

pub returns-in-Ok-clause-refused : goal.returns-in-Ok-clause-refused
returns-in-Ok-clause-refused c = λ other is s.
    assembled_program-made_at is c.args.pass s
    ∙ (ap (λ e. made_at is (option_map entry_view e)) c.in-Some.is
    ∙ (made_at-finished_result is (entry_view c.in-Some.entry) c.in-Ok.finished (c.in-Ok.ensures.ok is s)
    ∙ c.in-Err-image.ensures.refused other))

pub returns-in-Ok-image-clause-ok : goal.returns-in-Ok-image-clause-ok
returns-in-Ok-image-clause-ok c = λ is s.
    assembled_program-made_at is c.args.pass s
    ∙ (ap (λ e. made_at is (option_map entry_view e)) c.in-Some.is
    ∙ (made_at-finished_result is (entry_view c.in-Some.entry) c.in-Ok.finished (c.in-Ok.ensures.ok is s)
    ∙ c.in-Ok-image.ensures.ok))
