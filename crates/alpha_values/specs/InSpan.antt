-- The bytes of a span, counted from the base register of its access.
use Rattle.std.specs.Prelude.{ℤ, ◌+ℤ◌, ◌≤ℤ◌, ◌<ℤ◌, pos}
use Rattle.alpha_table.specs.declared.columns.MemAccess.{MemAccess}
use Rattle.alpha_table.specs.Uses.{first_byte}

-- the byte at a distance lies in the span of an access: [d, d + n), or [d - 7, d + n) where bits of the address are
-- cleared
pub record IsInSpan (c : MemAccess) (distance : ℤ) : Type 0 where
  pub from : first_byte c ≤ℤ distance
  pub below : distance <ℤ (c.disp +ℤ pos c.bytes)
