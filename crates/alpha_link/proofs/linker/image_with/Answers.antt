use Rattle.std.proofs.Common.{[], ◌∷◌, List, length, ap, ◌∙◌}
use Rattle.alpha_table.specs.declared.form.Form.{Form}
use Rattle.alpha_image.specs.declared.version.Version.TheVariants.{One}
use Rattle.alpha_image.specs.Fields.{level_numbers}
use Rattle.alpha_asm.specs.Program.{program_of, program_with}
use Rattle.alpha_asm.proofs.FinishedProgram.{filter_map-decoded}
use Rattle.alpha_link.proofs.linker.image_with.Goals as goal

pub returns : goal.returns
returns c =
    let image = c.of_program.result in
    let code = c.args.output.code.items in
    let numbers = level_numbers c.args.fields.now (length code) (c.args.segment ∷ []) in
    ap program_of c.of_program.ensures.parts
    ∙ ap (λ (l : List Form). program_with One numbers l c.args.output.bytes.items)
    (filter_map-decoded image.words code c.of_program.ensures.insns)
