-- The front of a module: its magic and its sizes.
use Rattle.std.specs.Prelude.{ℕ, ◌+◌, ◌||◌, not, nat_eq, nat_lt, nat_le, List, [], ◌∷◌, ◌++◌, length, drop, Option, Ok}
use Rattle.std.specs.Prelude.{Err, if◌then◌else◌}
use Rattle.std.specs.List.{starts_with}
use Rattle.std.specs.Option.{option_map_or}
use Rattle.alpha_image.specs.Layout.{longword}
use Rattle.alpha_image.specs.Reading.{longword_at}
use Rattle.alpha_image.specs.FirstOf.{unless, first_of}
use Rattle.alpha_link.specs.declared.fault.ModuleFault.TheVariants.{Header, Size}
use Rattle.alpha_link.specs.declared.header.Sizes.{Sizes}
use Rattle.alpha_link.specs.Reading.{Read}

-- `ALPHAOB1`
abbrev pub magic : List ℕ
magic = 65 ∷ 76 ∷ 80 ∷ 72 ∷ 65 ∷ 79 ∷ 66 ∷ 49 ∷ []

abbrev pub sizes_in : List ℕ → Sizes
sizes_in bytes = record {
  words = longword_at 8 bytes;
  filled = longword_at 12 bytes;
  zeroed = longword_at 16 bytes;
  symbols = longword_at 20 bytes;
  relocations = longword_at 24 bytes;
}

-- the least size that is too great
abbrev pub bad_size : Sizes → Option ℕ
bad_size z =
    first_of
    (unless (nat_le z.words 262144) 1
    ∷ unless (nat_le z.filled 16777216) 2
    ∷ unless (nat_le (z.filled + z.zeroed) 16777216) 3
    ∷ [])

abbrev pub sized : Sizes → List ℕ → Read Sizes
sized z behind = option_map_or (λ which. Err (Size which)) (bad_size z) (Ok (z, behind))

unfoldable pub header_at : List ℕ → Read Sizes
header_at bytes =
    if nat_lt (length bytes) 28 || not (starts_with nat_eq bytes magic) then Err Header
    else sized (sizes_in bytes) (drop 28 bytes)

unfoldable pub header_bytes : Sizes → List ℕ
header_bytes z =
    magic
    ++ (longword z.words
    ++ (longword z.filled ++ (longword z.zeroed ++ (longword z.symbols ++ longword z.relocations))))
