-- Bit fields of an instruction word. Bit 0 is the lowest.
use Rattle.std.specs.Prelude.{ℕ, ℤ, ◌+◌, ◌-◌, ◌/◌, ◌%◌, ◌^◌, pos, ◌-ℤ◌, nat_lt, if◌then◌else◌}

-- the number whose binary digits are the bits `high` to `low`
abbrev pub field : ℕ → ℕ → ℕ → ℕ
field high low word = word / 2 ^ low % 2 ^ (high + 1 - low)

-- the same digits as a signed number: its top bit counts negatively
abbrev pub signed_field : ℕ → ℕ → ℕ → ℤ
signed_field high low word =
    if nat_lt (field high low word) (2 ^ (high - low)) then pos (field high low word)
    else pos (field high low word) -ℤ pos (2 ^ (high + 1 - low))
