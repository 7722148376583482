use Rattle.std.proofs.Common.{sym, ap, ◌∙◌}
use Rattle.alpha_mem.specs.Block.{Block}
use Rattle.alpha_mem.proofs.Regions.{writable_found, writable_refused, writable_missing}
use Rattle.alpha_mem.proofs.region_hint.place_to_write_by_hint.Goals as goal

pub returns-in_err-i : goal.returns-in_err-i
returns-in_err-i c =
    c.from_residual.ensures ∙ writable_missing c.args.regions.now c.args.addr c.args.len c.in_err-i.ensures

pub returns-then-writable : goal.returns-then-writable
returns-then-writable c =
    writable_found c.args.regions.now c.args.addr c.args.len c.in_ok-i.i c.index-regions-i.result c.requires.layout
    c.requires.some c.in_ok-i.ensures
    (ap (λ (b : Block). b.writable) (sym c.index-regions-i.is) ∙ (sym c.writable.ensures ∙ c.if-writable.true))

pub returns-else-writable : goal.returns-else-writable
returns-else-writable c =
    writable_refused c.args.regions.now c.args.addr c.args.len c.in_ok-i.i c.index-regions-i.result c.requires.layout
    c.requires.some c.in_ok-i.ensures
    (ap (λ (b : Block). b.writable) (sym c.index-regions-i.is) ∙ (sym c.writable.ensures ∙ c.if-writable.false))
