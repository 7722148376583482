use Rattle.std.proofs.Common.{sym, subst}
use Rattle.alpha_mem.specs.Memory.{IsMemory}
use Rattle.alpha_mem.proofs.Memories.{IsMemory-empty}
use Rattle.alpha_mem.proofs.memory.Memory.empty.Goals as goal

pub invariant_of-result : goal.invariant_of-result
invariant_of-result c = subst IsMemory (sym c.new.ensures.items) IsMemory-empty

pub returns-clause-good : goal.returns-clause-good
returns-clause-good c = subst IsMemory (sym c.new.ensures.items) IsMemory-empty
