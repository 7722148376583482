use Rattle.std.proofs.Common.{List, sym, ap, subst, ◌∙◌}
use Rattle.alpha_mem.specs.Block.{Block}
use Rattle.alpha_mem.specs.Memory.{IsMemory}
use Rattle.alpha_mem.proofs.Memories.{IsMemory-empty}
use Rattle.alpha_mem.proofs.memory.Memory.take_regions.Goals as goal

pub invariant_of-self : goal.invariant_of-self
invariant_of-self c =
    subst (λ (l : List Block). IsMemory l) (sym (ap (λ v. v.items) c.replace.ensures.after ∙ c.new.ensures.items))
    IsMemory-empty
