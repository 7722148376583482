-- When a load or a store faults: where the blocks lie decides it, and not what they hold.
use Rattle.std.specs.Prelude.{ℕ, ◌+◌, ◌%◌, ◌==◌, zero, suc, Bool, true, ◌&&◌, if◌then◌else◌, List, Option, Some, None}
use Rattle.alpha_mem.specs.declared.access.MemFault.{MemFault}
use Rattle.alpha_mem.specs.declared.access.MemFault.TheVariants.{Align, Region}
use Rattle.alpha_mem.specs.Intent.{Intent}
use Rattle.alpha_mem.specs.Block.{Shape, within}

-- each of the n bytes at address a lies in a block that the access may go to
unfoldable pub each_within : List Shape → Intent → ℕ → ℕ → Bool
each_within ss intent a zero = true
each_within ss intent a (suc n) = each_within ss intent a n && within ss intent (a + n) 1

-- the fault of an access of n bytes at address a: alignment comes first
unfoldable pub fault_of : List Shape → Intent → ℕ → ℕ → Option MemFault
fault_of ss intent a n =
    if a % n == 0 then (if each_within ss intent a n then None else Some Region) else Some Align
