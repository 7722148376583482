use Rattle.std.proofs.Common.{◌+◌, true, length, refl, ap, subst, sym, ◌∙◌}
use Rattle.std.specs.Option.{option_map}
use Rattle.std.proofs.lemmas.Result.{on_ok_weaker}
use Rattle.alpha_mem.specs.Block.{shapes}
use Rattle.alpha_mem.specs.Memory.{IsFree}
use Rattle.alpha_seq.specs.StartMemory.{memory_before}
use Rattle.alpha_seq.proofs.ImageLoads.{segment-addable, region-added}
use Rattle.alpha_seq.proofs.start.add_segment.Goals as goal

pub add-requires-clause-below : goal.add-requires-clause-below
add-requires-clause-below c =
    let segment = sym c.segment.ensures.value ∙ c.unwrap-segment.ensures in
    let bytes = sym c.segment_bytes.ensures.value ∙ ap (option_map (λ b. b.now)) c.unwrap-bytes.ensures in
    (segment-addable c.args.image.now c.args.n c.unwrap-segment.result c.unwrap-bytes.result.now c.segment.ensures.good
    segment
    bytes c.requires.there).below

pub add-requires-clause-free : goal.add-requires-clause-free
add-requires-clause-free c =
    let s = c.unwrap-segment.result in
    let segment = sym c.segment.ensures.value ∙ c.unwrap-segment.ensures in
    let bytes = sym c.segment_bytes.ensures.value ∙ ap (option_map (λ b. b.now)) c.unwrap-bytes.ensures in
    let can = segment-addable c.args.image.now c.args.n s c.unwrap-bytes.result.now c.segment.ensures.good segment bytes
    c.requires.there in
    subst (λ m. IsFree (shapes m) s.base (length c.unwrap-bytes.result.now + s.zeroed)) (sym c.requires.before) can.free

pub returns : goal.returns
returns c =
    let p = c.args.image.now in
    let s = c.unwrap-segment.result in
    let held = c.unwrap-bytes.result.now in
    let segment = sym c.segment.ensures.value ∙ c.unwrap-segment.ensures in
    let bytes = sym c.segment_bytes.ensures.value ∙ ap (option_map (λ b. b.now)) c.unwrap-bytes.ensures in
    let can = segment-addable p c.args.n s held c.segment.ensures.good segment bytes c.requires.there in
    on_ok_weaker c.add.result
    (λ is.
    region-added c.args.memory.now c.add.new.self (memory_before p c.args.n) s.base s.base s.zeroed s.zeroed held held
    true c.requires.before refl refl refl is ∙ can.more) c.add.ensures.ok
