use Rattle.std.proofs.Common.{◌≡◌, refl, ap, sym, subst, ◌∙◌, arith, Option, ◌*◌, None}
use Rattle.std.proofs.lemmas.Result.{IfOk-weaker}
use Rattle.alpha_image.specs.declared.fault.ImageFault.{ImageFault}
use Rattle.alpha_image.specs.Numbers.{Numbers}
use Rattle.alpha_image.specs.Header.{header_numbers}
use Rattle.alpha_image.specs.Reading.{words_of, numbered_level}
use Rattle.alpha_image.specs.Parts.{Parts, image_spelling}
use Rattle.alpha_image.specs.PartsOf.{parts_with, parts_of}
use Rattle.alpha_image.specs.ImageFault.{form_fault, word_fault}
use Rattle.alpha_image.specs.Tells.{Tells}
use Rattle.alpha_image.proofs.ReadSpelling.{parts_with-cut, first_fault-form}
use Rattle.alpha_image.proofs.ReadSpelling.{image_spelling-parts_of}
use Rattle.alpha_image.proofs.ReadSpelling.{code_in-cut_behind_header}
use Rattle.alpha_image.proofs.read.image_of_copy.Goals as goal

pub returns-clause-spelled : goal.returns-clause-spelled
returns-clause-spelled c =
    let bytes = c.args.bytes.now in
    let h = c.args.header in
    let n = header_numbers h in
    let ensures = c.requires in
    let cut =
    code_in-cut_behind_header bytes c.front_size.result h.version n
    (4 * h.words) c.split_at.result.0.now c.split_at.result.1.now
    c.front_size.ensures.value ensures.version ensures.numbers refl c.split_at.ensures.front c.split_at.ensures.back in
    let parts = parts_with-cut bytes c.split_at.result.0.now c.split_at.result.1.now h.version n ensures.version
    ensures.numbers cut.0 cut.1 in
    let whole : bytes ≡ image_spelling (parts_of bytes) =
    image_spelling-parts_of bytes (λ i. omega (arith, c.type_inv.bytes i)) ensures.form in
    IfOk-weaker c.build_from_bytes.result
    (λ (image : Parts). image ≡ parts_with h.version n (words_of c.split_at.result.0.now) c.split_at.result.1.now)
    (λ (image : Parts). bytes ≡ image_spelling image)
    (λ image e. whole ∙ ap image_spelling (sym (e ∙ parts))) c.build_from_bytes.ensures.parts

pub returns-clause-fault : goal.returns-clause-fault
returns-clause-fault c =
    let bytes = c.args.bytes.now in
    let h = c.args.header in
    let n = header_numbers h in
    let ensures = c.requires in
    let code = c.split_at.result.0.now in
    let cut = code_in-cut_behind_header bytes c.front_size.result h.version n (4 * h.words) code c.split_at.result.1.now
    c.front_size.ensures.value ensures.version ensures.numbers refl c.split_at.ensures.front c.split_at.ensures.back in
    let none : form_fault bytes ≡ None = ensures.fault in
    let level = ap (λ (m : Numbers). word_fault (numbered_level m.level) (words_of code)) ensures.numbers in
    subst (λ (fault : Option ImageFault). Tells c.build_from_bytes.result fault)
    (level ∙ first_fault-form bytes code none cut.0) c.build_from_bytes.ensures.fault
