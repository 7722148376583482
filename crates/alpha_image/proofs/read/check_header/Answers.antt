use Rattle.std.proofs.Common.{ap, subst, ◌∙◌}
use Rattle.alpha_image.specs.declared.version.Version.{Version}
use Rattle.alpha_image.specs.Numbers.{Numbers}
use Rattle.alpha_image.specs.Header.{header_numbers}
use Rattle.alpha_image.specs.Reading.{version_of, size_of}
use Rattle.alpha_image.specs.Rules.{FieldsFit}
use Rattle.alpha_image.proofs.ReadSpelling.{HasForm-checked}
use Rattle.alpha_image.proofs.read.check_header.Goals as goal

pub returns-clause-form : goal.returns-clause-form
returns-clause-form c =
    let bytes = c.args.bytes.now in
    let h = c.in_ok-header.header in
    let numbers = c.in_ok-header.ensures.numbers in
    let version = c.in_ok-header.ensures.version in
    HasForm-checked bytes c.in_ok-header.ensures.fault
    (subst (λ (n : Numbers). FieldsFit n) numbers c.in_default.ensures.good)
    (c.if-given-wanted.false ∙ (c.size-wanted.ensures.value
    ∙ (ap (λ (v : Version). size_of v (header_numbers h)) version
    ∙ ap (λ (n : Numbers). size_of (version_of bytes) n) numbers)))
