use Rattle.std.proofs.Common.{◌≡◌, ap, sym, subst, ◌∙◌, arith, Option, None}
use Rattle.std.proofs.lemmas.Result.{err_from_is_err_and, IfOk-weaker}
use Rattle.std.proofs.lemmas.List.Elements.{All-from_get_or}
use Rattle.alpha_image.specs.declared.fault.ImageFault.{ImageFault}
use Rattle.alpha_image.specs.Numbers.{Numbers}
use Rattle.alpha_image.specs.Reading.{words_in, numbered_level}
use Rattle.alpha_image.specs.Parts.{Parts, IsByte, image_spelling}
use Rattle.alpha_image.specs.PartsOf.{parts_of}
use Rattle.alpha_image.specs.ImageFault.{form_fault, word_fault}
use Rattle.alpha_image.specs.Tells.{Tells}
use Rattle.alpha_image.proofs.ReadSpelling.{Refuses-form_fault, first_fault-words, image_spelling-parts_of, IsBytes-All}
use Rattle.alpha_image.proofs.read.take_image.Goals as goal

pub returns-in_err-header-clause-fault : goal.returns-in_err-header-clause-fault
returns-in_err-header-clause-fault c =
    let p = err_from_is_err_and c.from_residual.result c.from_residual.ensures.1 in
    let memory = c.in_err-header.ensures.memory in
    let fault = rw c.as_slice.ensures.value at c.in_err-header.ensures.fault in
    rw (p.1, p.2) (Refuses-form_fault c.in_err-header.field-0.0 c.args.bytes.items memory fault)

pub returns-clause-spelled : goal.returns-clause-spelled
returns-clause-spelled c =
    let bytes = c.args.bytes.items in
    let form = rw c.as_slice.ensures.value at c.in_ok-header.ensures.form in
    let whole : bytes ≡ image_spelling (parts_of bytes) =
    image_spelling-parts_of bytes (IsBytes-All bytes (All-from_get_or IsByte bytes 0 (λ i less. omega arith))) form in
    IfOk-weaker c.of_file.result (λ (image : Parts). image ≡ parts_of bytes)
    (λ (image : Parts). bytes ≡ image_spelling image)
    (λ image e. whole ∙ ap image_spelling (sym e)) c.of_file.ensures.parts

pub returns-clause-fault : goal.returns-clause-fault
returns-clause-fault c =
    let bytes = c.args.bytes.items in
    let none : form_fault bytes ≡ None = rw c.as_slice.ensures.value at c.in_ok-header.ensures.fault in
    let numbers = rw c.as_slice.ensures.value at c.in_ok-header.ensures.numbers in
    let level = ap (λ (m : Numbers). word_fault (numbered_level m.level) (words_in bytes)) numbers in
    subst (λ (fault : Option ImageFault). Tells c.of_file.result fault)
    (level ∙ first_fault-words bytes none) c.of_file.ensures.fault
