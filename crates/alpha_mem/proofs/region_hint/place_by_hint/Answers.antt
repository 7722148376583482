use Rattle.std.proofs.Common.{sym, ap, ◌∙◌, arith}
use Rattle.alpha_mem.proofs.BlockPlaces.{place-spans}
use Rattle.alpha_mem.proofs.Regions.{region_found}
use Rattle.alpha_mem.proofs.region_hint.place_by_hint.Goals as goal

pub returns-then-holds : goal.returns-then-holds
returns-then-holds c =
    let a = c.args.addr in
    let n = c.args.len in
    region_found c.args.regions.now a n c.args.region_hint.now c.index-regions-first.result c.requires.layout
    c.requires.some
    (omega arith)
    (ap (place-spans a n) (sym c.index-regions-first.is) ∙ (sym c.holds.ensures ∙ c.if-holds.true))
