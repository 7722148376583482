-- The laws of memory. The functions of `src/laws.rt` carry them as their contracts.
use Rattle.std.proofs.Common.{◌≡◌, ℕ, zero, suc, ◌+◌, ◌-◌, ◌%◌, ◌^◌, ◌<◌, ◌≤◌, ◌⊎◌, Bool, true, List, [], ◌∷◌, ◌++◌}
use Rattle.std.proofs.Common.{length, get_or, None, IsTrue, sym, ap, subst, ◌∙◌, arith}
use Rattle.std.specs.List.{list_any, slice_index}
use Rattle.std.proofs.lemmas.List.{ext_get_or}
use Rattle.alpha_words.specs.Digits.{little, low_bytes}
use Rattle.alpha_words.proofs.DigitLemmas as digits
use Rattle.alpha_mem.specs.Intent.{Intent, Load, Store}
use Rattle.alpha_mem.specs.Block.{Block, Shape, shapes, holds, within, block}
use Rattle.alpha_mem.specs.Fault.{each_within, fault_of}
use Rattle.alpha_mem.specs.Memory.{bytes_at, byte_at, write_bytes, IsFree, IsLayout, IsMemory}
use Rattle.alpha_mem.proofs.Numbers as numbers
use Rattle.alpha_mem.proofs.Faults as faults
use Rattle.alpha_mem.proofs.Bytes as bytes
use Rattle.alpha_mem.proofs.BlockPlaces as places
use Rattle.alpha_mem.proofs.Memories as memories

-- a range of some bytes lies in one block
in_one : (m : List Block) (a n : ℕ) → 0 < n → IsTrue (within (shapes m) Load a n)
    → list_any (λ s. holds s a n) (shapes m) ≡ true
in_one m a n some there = sym (faults.within-one_block (shapes m) Load a n some) ∙ there

-- a write leaves each block where it lies
pub shapes-write_bytes : (m : List Block) (a : ℕ) (xs : List ℕ) → shapes (write_bytes m a xs) ≡ shapes m
shapes-write_bytes m a xs = bytes.shapes-write_bytes m a xs

-- after a write of bytes a memory is still one
pub IsMemory-write_bytes : (m : List Block) (a : ℕ) (xs : List ℕ) → IsMemory m → ((k : ℕ) → slice_index xs k < 256)
    → IsMemory (write_bytes m a xs)
IsMemory-write_bytes m a xs memory small = memories.IsMemory-write_bytes m a xs memory small

-- a byte outside the written range stays
pub byte_at-write_bytes_outside : (m : List Block) (a : ℕ) (xs : List ℕ) (x : ℕ) → (x < a) ⊎ (a + length xs ≤ x)
    → byte_at (write_bytes m a xs) x ≡ byte_at m x
byte_at-write_bytes_outside m a xs x outside = bytes.byte_at-write_bytes_outside m a xs x outside

-- a byte inside the written range is the written one
pub byte_at-write_bytes_inside : (m : List Block) (a : ℕ) (xs : List ℕ) (x : ℕ)
    → IsLayout (shapes m) → IsTrue (within (shapes m) Load a (length xs)) → a ≤ x → x < a + length xs
    → byte_at (write_bytes m a xs) x ≡ slice_index xs (x - a)
byte_at-write_bytes_inside m a xs x layout there low high =
    bytes.byte_at-write_bytes_inside m a xs x layout.apart (in_one m a (length xs) (omega arith) there) low high

-- two writes, one after the other, are one write
pub write_bytes-write_bytes : (m : List Block) (a : ℕ) (xs ys : List ℕ)
    → IsLayout (shapes m) → IsTrue (within (shapes m) Load a (length (xs ++ ys)))
    → write_bytes (write_bytes m a xs) (a + length xs) ys ≡ write_bytes m a (xs ++ ys)
write_bytes-write_bytes m a [] [] layout there =
    bytes.write_bytes-nothing (write_bytes m a []) (a + 0)
    (subst bytes.AreApart (sym (shapes-write_bytes m a [])) layout.apart)
write_bytes-write_bytes m a [] (y ∷ ys) layout there =
    bytes.write_bytes-write_bytes m a [] (y ∷ ys) layout.apart (in_one m a (length (y ∷ ys)) (omega arith) there)
write_bytes-write_bytes m a (x ∷ xs) ys layout there =
    bytes.write_bytes-write_bytes m a (x ∷ xs) ys layout.apart
    (in_one m a (length ((x ∷ xs) ++ ys)) (omega arith) there)

-- equal shapes and equal bytes make equal memories
pub memory-extensional : (m n : List Block) → shapes m ≡ shapes n → IsLayout (shapes m)
    → ((x : ℕ) → byte_at m x ≡ byte_at n x)
    → m ≡ n
memory-extensional m n e layout same = bytes.memory-extensional m n e layout.apart same

-- the bytes of a range, one at a time
pub slice_index-bytes_at : (m : List Block) (a n k : ℕ) → IsLayout (shapes m) → IsTrue (within (shapes m) Load a n)
    → k < n → slice_index (bytes_at m a n) k ≡ byte_at m (a + k)
slice_index-bytes_at m a n k layout there less =
    bytes.get_or-bytes_at m a n k layout.apart (in_one m a n (omega arith) there) less

pub length-bytes_at : (m : List Block) (a n : ℕ) → IsTrue (within (shapes m) Load a n) → length (bytes_at m a n) ≡ n
length-bytes_at m a zero there = ap length (places.bytes_at-empty m a)
length-bytes_at m a (suc n) there = bytes.length-bytes_at m a (suc n) (in_one m a (suc n) (omega arith) there)

-- what was written is read back
pub bytes_at-write_bytes : (m : List Block) (a : ℕ) (xs : List ℕ) → IsLayout (shapes m)
    → IsTrue (within (shapes m) Load a (length xs)) → bytes_at (write_bytes m a xs) a (length xs) ≡ xs
bytes_at-write_bytes m a xs layout there =
    let unmoved = shapes-write_bytes m a xs in
    let layout_after : IsLayout (shapes (write_bytes m a xs)) = subst IsLayout (sym unmoved) layout in
    let there_after : IsTrue (within (shapes (write_bytes m a xs)) Load a (length xs)) =
    ap (λ ss. within ss Load a (length xs)) unmoved ∙ there in
    let sized = length-bytes_at (write_bytes m a xs) a (length xs) there_after in
    ext_get_or 0 (bytes_at (write_bytes m a xs) a (length xs)) xs sized (λ k less.
    let k_of : a + k - a ≡ k = omega arith in
    slice_index-bytes_at (write_bytes m a xs) a (length xs) k layout_after there_after (omega arith)
    ∙ (byte_at-write_bytes_inside m a xs (a + k) layout there (omega arith) (omega arith)
    ∙ ap (λ j. get_or xs j 0) k_of))

-- memories of equal shapes that agree on a range read alike there
pub bytes_at-agree : (m n : List Block) (a k : ℕ) → shapes m ≡ shapes n → IsLayout (shapes m)
    → IsTrue (within (shapes m) Load a k) → ((x : ℕ) → a ≤ x → x < a + k → byte_at m x ≡ byte_at n x)
    → bytes_at m a k ≡ bytes_at n a k
bytes_at-agree m n a k e layout there same =
    let there_too : IsTrue (within (shapes n) Load a k) = ap (λ ss. within ss Load a k) (sym e) ∙ there in
    let here = length-bytes_at m a k there in
    let there_sized = length-bytes_at n a k there_too in
    ext_get_or 0 (bytes_at m a k) (bytes_at n a k) (here ∙ sym there_sized) (λ j less.
    slice_index-bytes_at m a k j layout there (omega arith)
    ∙ (same (a + j) (omega arith) (omega arith)
    ∙ sym (slice_index-bytes_at n a k j (subst IsLayout e layout) there_too (omega arith))))

-- the number that a range of n bytes reads as
pub little-bytes_at_lt : (m : List Block) (a n : ℕ) → IsMemory m → IsTrue (within (shapes m) Load a n)
    → little (bytes_at m a n) < 256 ^ n
little-bytes_at_lt m a n memory there =
    let sized = length-bytes_at m a n there in
    let each : (k : ℕ) → k < length (bytes_at m a n) → get_or (bytes_at m a n) k 0 < 256 =
    λ k less. omega (arith, slice_index-bytes_at m a n k memory.layout there (omega arith), memory.bytes (a + k)) in
    subst (λ j. little (bytes_at m a n) < 256 ^ j) sized (numbers.little-lt (bytes_at m a n) each)

-- a number's n lowest bytes are n
pub low_bytes-length : (n v : ℕ) → length (low_bytes n v) ≡ n
low_bytes-length n v = digits.length-digits 256 n v

-- what the stored bytes of a number read as
pub little-low_bytes : (n v : ℕ) → little (low_bytes n v) ≡ v % 256 ^ n
little-low_bytes n v = numbers.little-low_bytes n v

-- each byte of an aligned access lies in a block exactly where one block has them all
pub each_within-aligned : (ss : List Shape) (intent : Intent) (a n : ℕ) → IsLayout ss → 16 % n ≡ 0 → a % n ≡ 0
    → each_within ss intent a n ≡ within ss intent a n
each_within-aligned ss intent a n layout divides aligned =
    faults.each_within-aligned ss intent a n layout divides aligned

-- an access with no fault has its bytes in one block
pub within-no_fault : (ss : List Shape) (intent : Intent) (a n : ℕ) → IsLayout ss → 16 % n ≡ 0
    → fault_of ss intent a n ≡ None → IsTrue (within ss intent a n)
within-no_fault ss intent a n layout divides granted = faults.within-no_fault ss intent a n layout divides granted

-- and ends at or below 2 ^ 30
pub fault_of-none_below : (ss : List Shape) (intent : Intent) (a n : ℕ) → IsLayout ss → fault_of ss intent a n ≡ None
    → a + n ≤ 2 ^ 30
fault_of-none_below ss intent a n layout granted = faults.fault_of-none_below ss intent a n layout granted

-- what a store may write, a load may read
pub within-readable : (ss : List Shape) (a n : ℕ) → IsTrue (within ss Store a n) → IsTrue (within ss Load a n)
within-readable ss a n there = faults.within-readable ss a n there

-- a part of a range within one block lies within it
pub within-part : (ss : List Shape) (intent : Intent) (a n b k : ℕ) → IsTrue (within ss intent a n) → a ≤ b
    → b + k ≤ a + n → IsTrue (within ss intent b k)
within-part ss intent a n b k there low high = faults.within-part ss intent a n b k there low high

-- a range of some bytes ends at or below 2 ^ 30
pub within-below : (ss : List Shape) (intent : Intent) (a n : ℕ) → IsLayout ss → 0 < n → IsTrue (within ss intent a n)
    → a + n ≤ 2 ^ 30
within-below ss intent a n layout some there = faults.within-below ss intent a n layout some there

-- free addresses that a new block doesn't take stay free
pub IsFree-push : (m : List Block) (first : ℕ) (xs : List ℕ) (zeroed : ℕ) (writable : Bool) (a n : ℕ)
    → IsFree (shapes m) a n → (a + n ≤ first) ⊎ (first + length xs + zeroed ≤ a)
    → IsFree (shapes (m ++ block first xs zeroed writable ∷ [])) a n
IsFree-push m first xs zeroed writable a n free apart =
    memories.IsFree-push m first xs zeroed writable a n free apart
