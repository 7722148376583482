use Rattle.std.proofs.Common.{◌≡◌, List, Ok, length, ap, sym, ◌∙◌}
use Rattle.std.specs.Option.{option_map}
use Rattle.alpha_image.specs.declared.segment.Segment.{Segment}
use Rattle.alpha_image.specs.Fields.{level_numbers}
use Rattle.alpha_image.specs.PartsOf.{parts_with}
use Rattle.alpha_image.specs.FieldTests.{least_bad_field}
use Rattle.alpha_asm.specs.declared.fault.AsmFault.TheVariants.{ImageField, Reach}
use Rattle.alpha_asm.specs.Program.{program_of, program_with, version_of, own_segments}
use Rattle.alpha_asm.specs.Finished.{finished_numbers, finished_program}
use Rattle.alpha_asm.proofs.FinishedProgram.{filter_map-decoded, not_refused}
use Rattle.alpha_asm.proofs.program.Finished.image.Goals as goal

pub returns-clause-ok : goal.returns-clause-ok
returns-clause-ok c =
    let f = c.args.self in
    let image = c.of_program.result in
    let own : c.own_segments-own.result.now ≡ own_segments f.level f.segments.items =
    c.own_segments-own.ensures ∙ ap (own_segments f.level) c.deref-2.ensures.value in
    let numbers = λ (segments : List Segment). level_numbers f.fields (length f.code.items) segments in
    let parts : image ≡ parts_with (version_of f.level) (finished_numbers f) image.words f.bytes.items =
    c.of_program.ensures.parts
    ∙ (ap (λ v. parts_with v (numbers c.own_segments-own.result.now) image.words f.bytes.items) c.version_of.ensures
    ∙ ap (λ s. parts_with (version_of f.level) (numbers s) image.words f.bytes.items) own) in
    let code = filter_map-decoded image.words f.code.items c.of_program.ensures.insns in
    let same : program_of image ≡ finished_program f =
    ap program_of parts ∙ ap (λ l. program_with (version_of f.level) (finished_numbers f) l f.bytes.items) code in
    not_refused (option_map ImageField (least_bad_field (finished_numbers f)))
    (option_map Reach f.out_of_range) (Ok (finished_program f)) (sym c.in_default.ensures.value)
    ∙ ap Ok (sym same)
