use Rattle.std.proofs.Common.{◌≡◌, ap, ◌∙◌, append_assoc}
use Rattle.alpha_image.specs.declared.version.Version.{Version}
use Rattle.alpha_image.specs.Numbers.{Numbers}
use Rattle.alpha_image.specs.Header.{header_numbers}
use Rattle.alpha_image.specs.Layout.{image_header}
use Rattle.alpha_image.specs.Parts.{image_spelling, numbers}
use Rattle.alpha_image.proofs.write.image_bytes.Goals as goal

pub returns : goal.returns
unfolding image_spelling
returns c =
    let p = c.args.image.now in
    let h = c.header-header.result.now in
    let same : image_header h.version (header_numbers h) ≡ image_header p.version (numbers p) =
    ap (λ (v : Version). image_header v (header_numbers h)) c.header-header.ensures.version
    ∙ ap (λ (n : Numbers). image_header p.version n) c.header-header.ensures.numbers in
    record {
      value = rw (
        c.in_ok-extend_from_slice.ensures.items,
        c.data_bytes-2.ensures.value,
        c.in_ok-push_code.ensures.ok,
        c.in_ok-push_onto.ensures.ok,
        same,
        c.in_ok-out.ensures.items,
      )
          (simp append_assoc);
    }
