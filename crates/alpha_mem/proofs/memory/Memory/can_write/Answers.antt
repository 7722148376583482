use Rattle.std.proofs.Common.{◌≡◌, ◌&&◌, sym, ap, ◌∙◌}
use Rattle.std.specs.List.{list_any}
use Rattle.alpha_mem.specs.Block.{Block, shape_of, holds}
use Rattle.alpha_mem.proofs.BlockPlaces.{within-writable}
use Rattle.alpha_mem.proofs.memory.Memory.can_write.Goals as goal

pub returns-else-len-eq0-clause-value : goal.returns-else-len-eq0-clause-value
returns-else-len-eq0-clause-value c =
    let m = c.args.self.now in
    let same : c.as_slice.result.now ≡ m = c.as_slice.ensures.value ∙ c.self.view_is in
    let test : c.any_writable.result ≡ list_any (λ b. b.writable && holds (shape_of b) c.args.addr c.args.len) m =
    c.any_writable.ensures
    ∙ ap (list_any (λ (b : Block). b.writable && holds (shape_of b) c.args.addr c.args.len)) same in
    let one = within-writable m c.args.addr c.args.len c.if-len-eq0.false in
    (λ h. one ∙ (sym test ∙ h), λ h. test ∙ (sym one ∙ h))
