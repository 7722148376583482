-- Loads and stores by the one region that holds them.
use Rattle.std.proofs.Common.{◌≡◌, ℕ, ◌%◌, ◌<◌, true, List, length, get_or, set, Some, None}
use Rattle.std.proofs.Common.{refl, sym, ap, subst, ◌∙◌, arith}
use Rattle.std.proofs.lemmas.List.{length-set, get_or-set_same, set-get_or}
use Rattle.alpha_words.specs.Digits.{low_bytes}
use Rattle.alpha_mem.specs.declared.access.Size.{Size}
use Rattle.alpha_mem.specs.Size.{size_of}
use Rattle.alpha_mem.specs.Intent.{Load, Store}
use Rattle.alpha_mem.specs.Block.{Block, shape_of, shapes, holds, part, overwritten}
use Rattle.alpha_mem.specs.Fault.{fault_of}
use Rattle.alpha_mem.specs.Memory.{bytes_at, write_bytes, IsMemory}
use Rattle.alpha_mem.proofs.Numbers.{low_bytes-byte}
use Rattle.alpha_mem.proofs.Faults.{size_of-pos, fault_of-judged_none}
use Rattle.alpha_mem.proofs.BlockPlaces.{place-spans, within-found, part-at_position}
use Rattle.alpha_mem.proofs.Memories.{IsMemory-write_bytes}
use Rattle.alpha_mem.proofs.Writable.{store_there, set-stored}
use Rattle.alpha_mem.proofs.Regions.{region_found, writable_found}

-- a block stands at a place of a memory
pub record IsAt (m : List Block) (i : ℕ) (b : Block) : Type 0 where
  pub memory : IsMemory m
  pub inside : i < length m
  pub here : b ≡ get_or m i b

pub load_fault : (m : List Block) (i : ℕ) (b : Block) (a : ℕ) (size : Size) → IsAt m i b → a % size_of size ≡ 0
    → holds (shape_of b) a (size_of size) ≡ true
    → fault_of (shapes m) Load a (size_of size) ≡ None
load_fault m i b a size at aligned there =
    let n = size_of size in
    let pos : 0 < n = size_of-pos size in
    let found = region_found m a n i b at.memory.layout pos at.inside (ap (place-spans a n) (sym at.here) ∙ there) in
    sym (fault_of-judged_none (shapes m) Load a n size at.memory.layout refl aligned
    (within-found m a n i (λ e. omega (arith, e, pos)) (sym found)))

pub load_bytes : (m : List Block) (i : ℕ) (b : Block) (a : ℕ) (size : Size) → IsAt m i b
    → holds (shape_of b) a (size_of size) ≡ true
    → part b a (size_of size) ≡ bytes_at m a (size_of size)
load_bytes m i b a size at there =
    let n = size_of size in
    let found =
    region_found m a n i b at.memory.layout (size_of-pos size) at.inside (ap (place-spans a n) (sym at.here) ∙ there) in
    part-at_position m a n i b (sym found) at.here

pub store_fault : (m : List Block) (i : ℕ) (b : Block) (a : ℕ) (size : Size) → IsAt m i b → a % size_of size ≡ 0
    → holds (shape_of b) a (size_of size) ≡ true → b.writable ≡ true
    → fault_of (shapes m) Store a (size_of size) ≡ None
store_fault m i b a size at aligned there writes =
    let n = size_of size in
    let pos : 0 < n = size_of-pos size in
    let found = region_found m a n i b at.memory.layout pos at.inside (ap (place-spans a n) (sym at.here) ∙ there) in
    let place =
    writable_found m a n i b at.memory.layout pos found (ap (λ (c : Block). c.writable) (sym at.here) ∙ writes) in
    sym (fault_of-judged_none (shapes m) Store a n size at.memory.layout refl aligned
    (store_there m m a n size (Some i) refl refl place))

pub store_bytes : (m : List Block) (i : ℕ) (b : Block) (a v : ℕ) (size : Size) → IsAt m i b
    → holds (shape_of b) a (size_of size) ≡ true
    → set m i (overwritten b a (low_bytes (size_of size) v)) ≡ write_bytes m a (low_bytes (size_of size) v)
store_bytes m i b a v size at there =
    let n = size_of size in
    let found =
    region_found m a n i b at.memory.layout (size_of-pos size) at.inside (ap (place-spans a n) (sym at.here) ∙ there) in
    set-stored m a size v i b (overwritten b a (low_bytes n v)) (sym found) at.here refl

-- the written block stands there
pub store_at : (m : List Block) (i : ℕ) (b : Block) (a v : ℕ) (size : Size) → IsAt m i b
    → holds (shape_of b) a (size_of size) ≡ true
    → IsAt (set m i (overwritten b a (low_bytes (size_of size) v))) i (overwritten b a (low_bytes (size_of size) v))
store_at m i b a v size at there =
    let n = size_of size in
    let c : Block = overwritten b a (low_bytes n v) in
    record {
      memory =
          subst IsMemory (sym (store_bytes m i b a v size at there))
          (IsMemory-write_bytes m a (low_bytes n v) at.memory (low_bytes-byte n v));
      inside = omega (arith, at.inside, length-set {A = Block} m i c);
      here = sym (get_or-set_same m i c c at.inside);
    }

-- the block that stands there already
pub set_here : (m : List Block) (i : ℕ) (b : Block) → IsAt m i b → set m i b ≡ m
set_here m i b at = ap (set m i) at.here ∙ set-get_or m i b
