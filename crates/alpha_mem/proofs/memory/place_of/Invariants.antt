use Rattle.std.proofs.Common.{◌≡◌, ◌<◌, ◌≤◌, ℕ, false, length, get_or}
use Rattle.alpha_mem.specs.Block.{Block}
use Rattle.alpha_mem.proofs.BlockPlaces.{place-spans}
use Rattle.alpha_mem.proofs.memory.place_of.Given as goal

-- no region from here on holds the range
abbrev pub invariant-loop-i : goal.invariant-loop-i
invariant-loop-i l =
    (k : ℕ) (d : Block) → l.i ≤ k → k < length l.regions → place-spans l.addr l.len (get_or l.regions k d) ≡ false
