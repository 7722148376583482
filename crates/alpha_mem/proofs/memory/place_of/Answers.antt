use Rattle.std.proofs.Common.{◌≡◌, ◌-◌, ◌<◌, length, get_or, refl, sym, ap, ◌∙◌, ⊎_elim, arith}
use Rattle.std.proofs.lemmas.Bool.{cases_eq}
use Rattle.std.proofs.lemmas.List.{get_or_read_under}
use Rattle.alpha_mem.proofs.BlockPlaces.{place-spans}
use Rattle.alpha_mem.proofs.Regions.{region_found, region_missing}
use Rattle.alpha_mem.proofs.memory.place_of.Goals as goal

pub returns-then-holds : goal.returns-then-holds
returns-then-holds c =
    let a = c.args.addr in
    let n = c.args.len in
    region_found c.args.regions.now a n (c.loop-i.i - 1) c.index-regions-i.result c.requires.layout c.requires.some
    (omega arith)
    (ap (place-spans a n) (sym c.index-regions-i.is) ∙ (sym c.holds.ensures ∙ c.if-holds.true))

pub returns : goal.returns
returns c =
    region_missing c.args.regions.now c.args.addr c.args.len (λ k d less. c.loop-i.invariant k d (omega arith) less)

pub loop-i-preserved : goal.loop-i-preserved
loop-i-preserved c = λ k d low less.
    let m = c.args.regions.now in
    let a = c.args.addr in
    let n = c.args.len in
    let i = c.loop-i.i - 1 in
    ⊎_elim
    (λ (same : k ≡ i).
    let inside : i < length m = omega arith in
    ap (λ j. place-spans a n (get_or m j d)) same
    ∙ (ap (place-spans a n)
    (sym (get_or_read_under m i (length m) c.index-regions-i.result d c.index-regions-i.is inside refl))
    ∙ (sym c.holds.ensures ∙ c.if-holds.false)))
    (λ (other : k ≡ i → ⊥). c.loop-i.invariant k d (omega arith) less)
    (cases_eq k i)
