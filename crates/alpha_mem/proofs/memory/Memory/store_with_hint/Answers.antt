use Rattle.std.proofs.lemmas.Bool.{false≢true}
use Rattle.std.proofs.Common.{◌≡◌, List, set, sym, ap, subst, ◌∙◌}
use Rattle.alpha_words.specs.Digits.{low_bytes}
use Rattle.alpha_mem.specs.Size.{size_of}
use Rattle.alpha_mem.specs.Block.{Block, shapes}
use Rattle.alpha_mem.specs.Memory.{write_bytes, IsLayout, IsMemory}
use Rattle.alpha_mem.proofs.Numbers.{low_bytes-byte}
use Rattle.alpha_mem.proofs.Faults.{fault_of-judged_align, fault_of-judged_none, fault_of-judged_region}
use Rattle.alpha_mem.proofs.BlockPlaces.{place-spans-at_position}
use Rattle.alpha_mem.proofs.Bytes.{shapes-write_bytes}
use Rattle.alpha_mem.proofs.Memories.{IsMemory-write_bytes}
use Rattle.alpha_mem.proofs.Writable.{place_found, store_there, set-stored}
use Rattle.alpha_mem.proofs.memory.Memory.store_with_hint.Goals as goal

layout : {m n : List Block} → m ≡ n → IsLayout (shapes m) → IsLayout (shapes n)
layout same = subst (λ m. IsLayout (shapes m)) same

pub returns-then-addr-len-ne0-clause-fault : goal.returns-then-addr-len-ne0-clause-fault
returns-then-addr-len-ne0-clause-fault c =
    fault_of-judged_align _ _ _ _ _ c.bytes-len.ensures c.if-addr-len-ne0.true

pub put_number-requires : goal.put_number-requires
put_number-requires c =
    place-spans-at_position _ _ _ _ _
    (place_found _ _ _ _ c.args.size _ c.self.invariant.layout
    c.as_slice.ensures.value c.bytes-len.ensures c.in-Some.ensures)
    c.index_mut-region.ensures.value

-- what the regions are afterwards
after : (c : goal.After-self-1)
    → set c.self.inside.regions.items c.in-Some.i c.put_number.new.self
    ≡ write_bytes c.self.inside.regions.items c.args.addr (low_bytes (size_of c.args.size) c.args.value)
after c =
    set-stored _ _ c.args.size _ _ _ _
    (place_found _ _ _ _ c.args.size _ c.self.invariant.layout
    c.as_slice.ensures.value c.bytes-len.ensures c.in-Some.ensures)
    c.index_mut-region.ensures.value c.put_number.ensures

pub invariant_of-self : goal.invariant_of-self
invariant_of-self c =
    subst IsMemory (sym (after c))
    (IsMemory-write_bytes c.self.inside.regions.items c.args.addr
    (low_bytes (size_of c.args.size) c.args.value) c.self.invariant (low_bytes-byte _ _))

pub returns-in-Some-clause-fault : goal.returns-in-Some-clause-fault
returns-in-Some-clause-fault c =
    fault_of-judged_none _ _ _ _ c.args.size
    (layout c.self.view_is c.self.invariant.layout) c.bytes-len.ensures c.if-addr-len-ne0.false
    (store_there _ _ _ _ c.args.size _
    (c.as_slice.ensures.value ∙ c.self.view_is) c.bytes-len.ensures c.in-Some.ensures)

pub returns-in-Some-clause-ok : goal.returns-in-Some-clause-ok
returns-in-Some-clause-ok c =
    after c ∙ ap (λ m. write_bytes m c.args.addr (low_bytes (size_of c.args.size) c.args.value)) c.self.view_is

pub returns-in-Some-clause-shapes : goal.returns-in-Some-clause-shapes
returns-in-Some-clause-shapes c = ap shapes (after c) ∙ (shapes-write_bytes _ _ _ ∙ ap shapes c.self.view_is)

pub returns-in-Some-clause-good : goal.returns-in-Some-clause-good
returns-in-Some-clause-good c = invariant_of-self c

pub returns-in-None-clause-fault : goal.returns-in-None-clause-fault
returns-in-None-clause-fault c =
    let no = store_there _ _ _ _ c.args.size _
    (c.as_slice.ensures.value ∙ c.self.view_is) c.bytes-len.ensures c.in-None.ensures in
    fault_of-judged_region _ _ _ _ c.args.size (layout c.self.view_is c.self.invariant.layout) c.bytes-len.ensures
    c.if-addr-len-ne0.false (λ yes. false≢true (sym no ∙ yes))
