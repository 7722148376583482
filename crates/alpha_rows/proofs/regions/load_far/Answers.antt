use Rattle.std.proofs.Common.{ap, ◌∙◌, arith}
use Rattle.alpha_words.specs.Digits.{little}
use Rattle.alpha_mem.proofs.RegionAccess.{IsAt, load_fault, load_bytes}
use Rattle.alpha_rows.proofs.regions.load_far.Goals as goal

pub returns-in-Some-clause-fault : goal.returns-in-Some-clause-fault
returns-in-Some-clause-fault c =
    let a = c.args in
    let b = c.index-regions-found.result in
    let here : IsAt a.regions.now c.region_at-found.result b =
    record { memory = c.requires.memory; inside = omega arith; here = c.index-regions-found.is } in
    load_fault a.regions.now c.region_at-found.result b a.addr a.size here c.in-Some.ensures.aligned
    c.in-Some.ensures.within

pub returns-in-Some-clause-value : goal.returns-in-Some-clause-value
returns-in-Some-clause-value c =
    let a = c.args in
    let b = c.index-regions-found.result in
    let here : IsAt a.regions.now c.region_at-found.result b =
    record { memory = c.requires.memory; inside = omega arith; here = c.index-regions-found.is } in
    c.in-Some.ensures.value
    ∙ ap little (load_bytes a.regions.now c.region_at-found.result b a.addr a.size here c.in-Some.ensures.within)
