-- The addresses that LDA, LDAH and the accesses to memory compute, and the bytes that an access touches.
use Rattle.std.specs.Prelude.{ℕ, ℤ, ◌+◌, ◌*◌, ◌/◌, ◌<◌, ◌≤◌, ◌+ℤ◌, ◌*ℤ◌, pos, if◌then◌else◌}
use Rattle.alpha_table.specs.declared.columns.MemAccess.{MemAccess}
pub use Rattle.alpha_table.specs.Uses.{AccessesMeet}
use Rattle.alpha_values.specs.Numbers.{register_of}

-- a base register and a displacement of 16 bits, in bytes or, for the high half of an address, in units of 65,536
unfoldable pub address_of : ℕ → ℤ → ℕ
address_of base disp = register_of (pos base +ℤ disp)

unfoldable pub high_address_of : ℕ → ℤ → ℕ
high_address_of base disp = register_of (pos base +ℤ pos 65536 *ℤ disp)

-- the address of an access, where LDQ_U and STQ_U clear the three low bits
unfoldable pub access_address : MemAccess → ℕ → ℕ
access_address c base = if c.clears then address_of base c.disp / 8 * 8 else address_of base c.disp

-- the access touches the byte at an address
pub record Covers (c : MemAccess) (base y : ℕ) : Type 0 where
  pub from : access_address c base ≤ y
  pub below : y < access_address c base + c.bytes
