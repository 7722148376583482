-- What passed between memory and a device in a call that goes on, which stands in memory behind the call.
use Rattle.std.specs.Prelude.{◌≡◌, ℕ, List, [], IsTrue}
use Rattle.alpha_mem.specs.Intent.{Load}
use Rattle.alpha_mem.specs.Block.{Block, shapes, within}
use Rattle.alpha_mem.specs.Memory.{bytes_at}
use Rattle.alpha_pal.specs.declared.pal_end.Passed.{Passed}
use Rattle.alpha_pal.specs.declared.pal_end.Passed.TheVariants.{Nothing, Took, Put}

-- the bytes taken and those put, by the memory behind the call
abbrev pub IsPassed : Passed → List Block → List ℕ → List ℕ → Type 0
IsPassed Nothing mem taken bytes = (taken ≡ []) × (bytes ≡ [])
IsPassed (Took addr len) mem taken bytes =
    IsTrue (within (shapes mem) Load addr len) × (taken ≡ bytes_at mem addr len) × (bytes ≡ [])
IsPassed (Put addr len) mem taken bytes =
    IsTrue (within (shapes mem) Load addr len) × (taken ≡ []) × (bytes ≡ bytes_at mem addr len)
