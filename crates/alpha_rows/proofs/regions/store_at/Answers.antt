use Rattle.std.proofs.Common.{◌≡◌, ◌∙◌, Bool, true, false, List, get_or, set, refl, sym, ap, subst}
use Rattle.alpha_mem.specs.Block.{Block}
use Rattle.alpha_mem.specs.Memory.{IsMemory}
use Rattle.alpha_mem.proofs.RegionAccess.{IsAt, store_fault, store_bytes, store_at, set_here}
use Rattle.alpha_rows.proofs.regions.store_at.Goals as goal

pub returns-clause-fault : goal.returns-clause-fault
returns-clause-fault c = λ done.
    let a = c.args in
    let b : Block = get_or a.regions.now a.i c.index-regions-i.result in
    let here : IsAt a.regions.now a.i b = record {
      memory = c.requires.memory;
      inside = c.requires.inside;
      here = ap (get_or a.regions.now a.i) c.index-regions-i.is;
    } in
    store_fault a.regions.now a.i b a.addr a.size here (c.store.ensures.aligned done) (c.store.ensures.within done)
    (c.store.ensures.writes done)

pub returns-clause-value : goal.returns-clause-value
returns-clause-value c = λ done.
    let a = c.args in
    let b : Block = get_or a.regions.now a.i c.index-regions-i.result in
    let here : IsAt a.regions.now a.i b = record {
      memory = c.requires.memory;
      inside = c.requires.inside;
      here = ap (get_or a.regions.now a.i) c.index-regions-i.is;
    } in
    ap (set a.regions.now a.i) (c.store.ensures.value done)
    ∙ store_bytes a.regions.now a.i b a.addr a.value a.size here (c.store.ensures.within done)

pub returns-clause-memory : goal.returns-clause-memory
returns-clause-memory c = by c.store.result refl
  where
    b : Block
    b = get_or c.args.regions.now c.args.i c.index-regions-i.result

    here : IsAt c.args.regions.now c.args.i b
    here = record {
      memory = c.requires.memory;
      inside = c.requires.inside;
      here = ap (get_or c.args.regions.now c.args.i) c.index-regions-i.is;
    }

    by : (r : Bool) → c.store.result ≡ r → IsMemory (set c.args.regions.now c.args.i c.store.new.self)
    by true done =
        subst (λ (x : Block). IsMemory (set c.args.regions.now c.args.i x)) (sym (c.store.ensures.value done))
        (store_at c.args.regions.now c.args.i b c.args.addr c.args.value c.args.size here
        (c.store.ensures.within done)).memory
    by false kept =
        subst (λ (x : Block). IsMemory (set c.args.regions.now c.args.i x)) (sym (c.store.ensures.refused kept))
        (subst (λ (m : List Block). IsMemory m) (sym (set_here c.args.regions.now c.args.i b here)) c.requires.memory)

pub returns-clause-refused : goal.returns-clause-refused
returns-clause-refused c = λ kept.
    let a = c.args in
    let b : Block = get_or a.regions.now a.i c.index-regions-i.result in
    let here : IsAt a.regions.now a.i b = record {
      memory = c.requires.memory;
      inside = c.requires.inside;
      here = ap (get_or a.regions.now a.i) c.index-regions-i.is;
    } in
    ap (set a.regions.now a.i) (c.store.ensures.refused kept) ∙ set_here a.regions.now a.i b here
