use Rattle.std.proofs.Common.{[], false, length, refl, ap, ◌∙◌, arith}
use Rattle.std.specs.List.{flat_map}
use Rattle.std.proofs.lemmas.Result.{on_ok_weaker}
use Rattle.alpha_image.specs.Layout.{longword}
use Rattle.alpha_seq.proofs.ImageLoads.{region-added, memory_before-zero, code_below}
use Rattle.alpha_seq.proofs.start.add_code.Goals as goal

pub add-requires-clause-below : goal.add-requires-clause-below
add-requires-clause-below c =
    let p = c.args.image.now in
    let size = ap length (c.as_slice.ensures.value ∙ c.in_ok-code.ensures.value) in
    omega (arith, size, c.code_base.ensures.value, code_below p c.code_base.ensures.good)

pub returns : goal.returns
returns c =
    let p = c.args.image.now in
    on_ok_weaker c.add.result
    (λ is. region-added c.args.memory.now c.add.new.self [] c.code_base.result p.code_base 0 0 c.as_slice.result.now
    (flat_map longword p.words) false c.requires c.code_base.ensures.value
    (c.as_slice.ensures.value ∙ c.in_ok-code.ensures.value) refl is ∙ memory_before-zero p) c.add.ensures.ok
