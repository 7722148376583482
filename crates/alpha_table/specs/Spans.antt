-- The bytes that accesses may touch, as the code holds and compares them.
use Rattle.std.specs.Prelude.{pos, ◌+ℤ◌, ◌<ℤ◌}
use Rattle.alpha_table.specs.declared.columns.MemAccess.{MemAccess}
use Rattle.alpha_table.specs.declared.columns.ByteSpan.{ByteSpan}
use Rattle.alpha_table.specs.Uses.{first_byte}

-- those of an access, counted from its base register: from low on, up to high
abbrev pub bytes_spanned : MemAccess → ByteSpan
bytes_spanned a = record { low = first_byte a; high = a.disp +ℤ pos a.bytes }

-- Two spans, neither of them empty, share a byte. Of the spans of two accesses this is `AccessesMeet`.
abbrev pub SpansMeet : ByteSpan → ByteSpan → Type 0
SpansMeet a b = (a.low <ℤ b.high) × (b.low <ℤ a.high)
