use Rattle.std.proofs.Common.{◌≡◌, ◌+◌, ◌++◌, [], ◌∷◌, length, sym, ap, subst, ◌∙◌, arith}
use Rattle.alpha_mem.specs.Block.{Block, shapes, block}
use Rattle.alpha_mem.specs.Memory.{IsFree, IsMemory}
use Rattle.alpha_mem.proofs.Memories.{IsMemory-push}
use Rattle.alpha_mem.proofs.memory.Memory.add.Goals as goal

pub invariant_of-self-2 : goal.invariant_of-self-2
invariant_of-self-2 c =
    let m = c.self.inside.regions.items in
    let b = block c.args.base c.args.bytes.now c.args.zeroed c.args.writable in
    let made : c.in_ok-region.region ≡ b = c.in_ok-region.ensures in
    let items : c.push.new.self.items ≡ m ++ c.in_ok-region.region ∷ [] = c.in_ok-push.ensures.items in
    let free = subst (λ n. IsFree (shapes n) c.args.base (length c.args.bytes.now + c.args.zeroed))
    (sym c.self.view_is) c.requires.free in
    subst IsMemory (sym (items ∙ ap (λ (d : Block). m ++ d ∷ []) made))
    (IsMemory-push m c.args.base c.args.bytes.now c.args.zeroed c.args.writable c.self.invariant c.requires.aligned
    c.requires.below free (λ k. omega (arith, c.type_inv.bytes k)))

pub returns-clause-good : goal.returns-clause-good
returns-clause-good c = invariant_of-self-2 c
