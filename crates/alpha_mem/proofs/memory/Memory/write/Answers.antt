use Rattle.std.proofs.Common.{◌≡◌, Some, None, get_or, set, length, position, sym, ap, subst, ◌∙◌, arith}
use Rattle.alpha_mem.specs.Block.{shapes}
use Rattle.alpha_mem.specs.Memory.{write_bytes, IsMemory}
use Rattle.alpha_mem.proofs.BlockPlaces.{place-spans, place-spans-at_position, set-at_position, unchanged-missing}
use Rattle.alpha_mem.proofs.Bytes.{shapes-write_bytes}
use Rattle.alpha_mem.proofs.Memories.{IsMemory-write_bytes}
use Rattle.alpha_mem.proofs.memory.Memory.write.Goals as goal

pub put-requires : goal.put-requires
put-requires c =
    place-spans-at_position c.as_slice.result.now _ _ _ _ (sym c.in-Some.ensures)
    (c.index_mut-region.ensures.value
    ∙ ap (λ m. get_or m c.in-Some.i c.index_mut-region.result.now) (sym c.as_slice.ensures.value))

-- what the regions are afterwards
after : (c : goal.After-self-1)
    → set c.self.inside.regions.items c.in-Some.i c.put.new.self
    ≡ write_bytes c.self.inside.regions.items c.args.addr c.args.bytes.now
after c =
    let m = c.self.inside.regions.items in
    let found : position (place-spans c.args.addr (length c.args.bytes.now)) m ≡ Some c.in-Some.i =
    ap (position (place-spans c.args.addr (length c.args.bytes.now))) (sym c.as_slice.ensures.value)
    ∙ sym c.in-Some.ensures in
    set-at_position m c.args.addr c.args.bytes.now c.in-Some.i c.index_mut-region.result.now c.put.new.self found
    c.index_mut-region.ensures.value c.put.ensures

pub invariant_of-self : goal.invariant_of-self
invariant_of-self c =
    subst IsMemory (sym (after c))
    (IsMemory-write_bytes c.self.inside.regions.items c.args.addr c.args.bytes.now c.self.invariant
    (λ k. omega (arith, c.type_inv.bytes k)))

pub returns-in-Some-clause-value : goal.returns-in-Some-clause-value
returns-in-Some-clause-value c =
    after c ∙ ap (λ m. write_bytes m c.args.addr c.args.bytes.now) c.self.view_is

pub returns-in-Some-clause-shapes : goal.returns-in-Some-clause-shapes
returns-in-Some-clause-shapes c =
    ap shapes (after c) ∙ (shapes-write_bytes _ _ _ ∙ ap shapes c.self.view_is)

pub returns-in-Some-clause-good : goal.returns-in-Some-clause-good
returns-in-Some-clause-good c = invariant_of-self c

pub returns-in_default-clause-value : goal.returns-in_default-clause-value
returns-in_default-clause-value c =
    let same : c.as_slice.result.now ≡ c.args.self.now = c.as_slice.ensures.value ∙ c.self.view_is in
    let gone : position (place-spans c.args.addr (length c.args.bytes.now)) c.args.self.now ≡ None =
    ap (position (place-spans c.args.addr (length c.args.bytes.now))) (sym same) ∙ sym c.in_default.ensures in
    unchanged-missing c.args.self.now c.args.addr c.args.bytes.now gone
