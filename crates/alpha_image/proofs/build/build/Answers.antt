use Rattle.std.proofs.Common.{ℕ, length, ap, subst, sym, ◌∙◌, Option}
use Rattle.alpha_image.specs.declared.fault.ImageFault.{ImageFault}
use Rattle.alpha_image.specs.Fields.{level_numbers}
use Rattle.alpha_image.specs.Reading.{words_of}
use Rattle.alpha_image.specs.FieldTests.{least_bad_field}
use Rattle.alpha_image.specs.Tells.{Tells}
use Rattle.alpha_image.proofs.CodeWords.{length-words_of}
use Rattle.alpha_image.proofs.ReadSpelling.{parts_fault-field, parts_fault-words}
use Rattle.alpha_image.proofs.build.build.Goals as goal

pub returns-in-Some-clause-fault : goal.returns-in-Some-clause-fault
returns-in-Some-clause-fault c =
    let code = c.args.code.now in
    let numbers = λ (words : ℕ). level_numbers c.args.fields.now words c.args.segments.now in
    parts_fault-field (numbers (length (words_of code))) (words_of code) c.in-Some.field
    (c.in-Some.ensures.value ∙ ap (λ (words : ℕ). least_bad_field (numbers words)) (sym (length-words_of code)))

pub returns-clause-fault : goal.returns-clause-fault
returns-clause-fault c =
    let code = c.args.code.now in
    let numbers = λ (words : ℕ). level_numbers c.args.fields.now words c.args.segments.now in
    let e = parts_fault-words (numbers (length (words_of code))) (words_of code)
    (c.in_default.ensures.value ∙ ap (λ (words : ℕ). least_bad_field (numbers words)) (sym (length-words_of code))) in
    subst (λ (fault : Option ImageFault). Tells c.build_from_bytes.result fault) e c.build_from_bytes.ensures.fault
