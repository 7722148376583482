-- The eight bytes of a trial's data: they may be written and read, and a write of eight bytes leaves eight.
use Rattle.std.proofs.Common.{◌≡◌, ◌≤◌, ◌+◌, ◌*◌, ℕ, Bool, true, false, cond, List, [], ◌∷◌, length, None, refl, sym}
use Rattle.std.proofs.Common.{ap, subst, ◌∙◌, arith, append-nil}
use Rattle.std.specs.Prelude.{nat_le}
use Rattle.std.specs.List.{flat_map}
use Rattle.std.proofs.lemmas.Bool.Decides.{nat_tests}
use Rattle.std.proofs.lemmas.Bool.{or_right}
use Rattle.alpha_words.specs.declared.Level.TheVariants as levels
use Rattle.alpha_words.specs.Digits.{digits, low_bytes}
use Rattle.alpha_mem.specs.Intent.{Load, Store}
use Rattle.alpha_mem.specs.Block.{Block, shapes, shape_of, holds, within, part, overwritten, block}
use Rattle.alpha_mem.specs.Fault.{fault_of, each_within}
use Rattle.alpha_mem.specs.Memory.{bytes_at, write_bytes}
use Rattle.alpha_image.specs.declared.version.Version.TheVariants as versions
use Rattle.alpha_image.specs.Layout.{longword}
use Rattle.alpha_image.specs.Parts.{Parts}
use Rattle.alpha_image.proofs.CodeWords.{length-flat_map_longword}
use Rattle.alpha_seq.specs.Start.{start_memory}
use Rattle.alpha_seq.specs.StartMemory.{code_block, stack_block}

-- where the data stand
abbrev pub data_base : ℕ
data_base = 0x10000000

-- the data may be read, and are eight bytes
pub record HoldsEight (mem : List Block) : Type 0 where
  pub readable : within (shapes mem) Load data_base 8 ≡ true
  pub eight : length (bytes_at mem data_base 8) ≡ 8

-- a trial's image by its words and its stack: with a number in place of the stack's size its zeros would be written out
abbrev pub image_with : List ℕ → ℕ → Parts
image_with words stack = record {
  version = versions.One;
  level = levels.One;
  code_base = 0x10000;
  entry = 0x10000;
  stack = stack;
  segments = record { base = data_base; filled = 0; zeroed = 8 } ∷ [];
  words = words;
  bytes = [];
}

abbrev variables : Block
variables = block data_base [] 8 true

memory_is : (words : List ℕ) (stack : ℕ) → let p = image_with words stack in
    start_memory p ≡ code_block p ∷ variables ∷ stack_block p ∷ []
unfolding start_memory
memory_is words stack = refl

pub buffer-fault_of : (words : List ℕ) (stack : ℕ)
    → fault_of (shapes (start_memory (image_with words stack))) Store data_base 8 ≡ None
unfolding start_memory fault_of each_within
buffer-fault_of words stack = refl

-- the code ends below the data
nat_le-above_code : (size : ℕ) → size ≤ 800000 → nat_le 268435464 (65536 + size) ≡ false
nat_le-above_code size few = grind (arith, nat_tests)

code_away : (words : List ℕ) (stack : ℕ) → length words ≤ 200000
    → holds (shape_of (code_block (image_with words stack))) data_base 8 ≡ false
code_away words stack few =
    let size : length (code_block (image_with words stack)).bytes ≡ 4 * length words =
    ap length (append-nil (flat_map longword words)) ∙ length-flat_map_longword words in
    nat_le-above_code (length (code_block (image_with words stack)).bytes) (omega arith)

-- the data with other bytes
abbrev stored_block : ℕ → Block
stored_block v = overwritten variables data_base (low_bytes 8 v)

stored_is : (words : List ℕ) (stack v : ℕ) → length words ≤ 200000 → let p = image_with words stack in
    write_bytes (code_block p ∷ variables ∷ stack_block p ∷ []) data_base (low_bytes 8 v)
    ≡ code_block p ∷ stored_block v ∷ stack_block p ∷ []
unfolding write_bytes digits
stored_is words stack v few =
    let p = image_with words stack in
    ap (λ (b : Bool). cond b (overwritten (code_block p) data_base (low_bytes 8 v) ∷ variables ∷ stack_block p ∷ [])
    (code_block p ∷ stored_block v ∷ stack_block p ∷ []))
    (code_away words stack few)

eight_stored : (words : List ℕ) (stack v : ℕ) → length words ≤ 200000 → let p = image_with words stack in
    HoldsEight (code_block p ∷ stored_block v ∷ stack_block p ∷ [])
unfolding bytes_at digits
eight_stored words stack v few =
    let p = image_with words stack in
    record {
      readable = or_right (holds (shape_of (code_block p)) data_base 8) true refl;
      eight =
          ap (λ (b : Bool). length (cond b (part (code_block p) data_base 8) (part (stored_block v) data_base 8)))
          (code_away words stack few);
    }

pub buffer_written-HoldsEight : (words : List ℕ) (stack v : ℕ) → length words ≤ 200000
    → HoldsEight (write_bytes (start_memory (image_with words stack)) data_base (low_bytes 8 v))
buffer_written-HoldsEight words stack v few =
    subst (λ (m : List Block). HoldsEight (write_bytes m data_base (low_bytes 8 v))) (sym (memory_is words stack))
    (subst HoldsEight (sym (stored_is words stack v few)) (eight_stored words stack v few))
