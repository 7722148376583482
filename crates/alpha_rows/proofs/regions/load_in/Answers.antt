use Rattle.std.proofs.Common.{ap, ◌∙◌}
use Rattle.alpha_words.specs.Digits.{little}
use Rattle.alpha_mem.proofs.RegionAccess.{IsAt, load_fault, load_bytes}
use Rattle.alpha_rows.proofs.regions.load_in.Goals as goal

pub returns-in-Some-clause-fault : goal.returns-in-Some-clause-fault
returns-in-Some-clause-fault c =
    let a = c.args in
    let b = c.index-regions-region_hint.result in
    let here : IsAt a.regions.now a.region_hint.now b =
    record { memory = c.requires.memory; inside = c.requires.region_hint; here = c.index-regions-region_hint.is } in
    load_fault a.regions.now a.region_hint.now b a.addr a.size here c.in-Some.ensures.aligned c.in-Some.ensures.within

pub returns-in-Some-clause-value : goal.returns-in-Some-clause-value
returns-in-Some-clause-value c =
    let a = c.args in
    let b = c.index-regions-region_hint.result in
    let here : IsAt a.regions.now a.region_hint.now b =
    record { memory = c.requires.memory; inside = c.requires.region_hint; here = c.index-regions-region_hint.is } in
    c.in-Some.ensures.value
    ∙ ap little (load_bytes a.regions.now a.region_hint.now b a.addr a.size here c.in-Some.ensures.within)
