-- Relocations: how they are read and spelled, and which are good.
use Rattle.std.specs.Prelude.{◌<◌, ◌^◌, ◌+◌, ◌-◌, ◌/◌, ◌%◌, ℕ, ℤ, pos, negsuc, zero, suc, Bool, true, false, IsTrue}
use Rattle.std.specs.Prelude.{◌&&◌, ◌==◌, nat_lt, nat_le, List, ◌∷◌, ◌++◌, length, take, drop, slice_get, slice_index}
use Rattle.std.specs.Prelude.{Option, None, Some, Ok, Err, if◌then◌else◌}
use Rattle.std.specs.List.{list_all}
use Rattle.std.specs.Option.{option_map, option_map_or, option_and_then}
use Rattle.std.specs.Int.{w32, cast_signed, cast_unsigned}
use Rattle.alpha_table.specs.Decoded.{decoded}
use Rattle.alpha_image.specs.Layout.{longword}
use Rattle.alpha_image.specs.Reading.{longword_at}
use Rattle.alpha_link.specs.declared.fault.ModuleFault.TheVariants as faults
use Rattle.alpha_link.specs.declared.header.Sizes.{Sizes}
use Rattle.alpha_asm.specs.declared.patch.RelocationKind.{RelocationKind}
use Rattle.alpha_asm.specs.declared.patch.RelocationKind.TheVariants as kinds
use Rattle.alpha_asm.specs.declared.statement.RelocField.{RelocField}
use Rattle.alpha_asm.specs.declared.statement.RelocField.TheVariants as uses
use Rattle.alpha_asm.specs.Unlinked.{takes}
use Rattle.alpha_link.specs.declared.relocation.Relocation.{Relocation}
use Rattle.alpha_link.specs.Reading.{Read}

abbrev pub kind_of : ℕ → Option RelocationKind
kind_of zero = Some (kinds.Insn uses.Branch)
kind_of (suc zero) = Some (kinds.Insn uses.High)
kind_of (suc (suc zero)) = Some (kinds.Insn uses.Low)
kind_of (suc (suc (suc zero))) = Some kinds.Quad
kind_of _ = None

abbrev pub kind_number : RelocationKind → ℕ
kind_number (kinds.Insn uses.Branch) = 0
kind_number (kinds.Insn uses.High) = 1
kind_number (kinds.Insn uses.Low) = 2
kind_number kinds.Quad = 3

-- what relocations stand in: the code words and the data bytes
pub record Body : Type 0 where
  pub words : List ℕ
  pub bytes : List ℕ

abbrev pub body : List ℕ → List ℕ → Body
body words bytes = record { words = words; bytes = bytes }

-- the code has an instruction at an offset that an address is put into
abbrev pub is_taken_at : List ℕ → RelocField → ℕ → Bool
is_taken_at words field offset =
    offset % 4 == 0 && option_map_or (takes field) (option_and_then decoded (slice_get words (offset / 4))) false

-- eight zero bytes stand at an offset
abbrev pub is_quad_at : List ℕ → ℕ → Bool
is_quad_at bytes offset =
    nat_le (offset + 8) (length bytes) && list_all (λ b. b == 0) (take 8 (drop offset bytes))

abbrev pub stands_at : Body → RelocationKind → ℕ → Bool
stands_at b kinds.Quad offset = is_quad_at b.bytes offset
stands_at b (kinds.Insn by) offset = is_taken_at b.words by offset

-- The relocations of the code come first, then those of the data. Offsets rise, and quadwords share no byte.
abbrev pub follows : RelocationKind → ℕ → RelocationKind → ℕ → Bool
follows kinds.Quad last kinds.Quad offset = nat_le (last + 8) offset
follows kinds.Quad last _ offset = false
follows _ last kinds.Quad offset = true
follows _ last _ offset = nat_lt last offset

abbrev pub follows_all : List Relocation → Relocation → Bool
follows_all before r =
    option_map_or (λ last. follows last.kind last.offset r.kind r.offset) (slice_get before (length before - 1)) true

-- from -(2 ^ 31 - 1) to 2 ^ 31 - 1
abbrev pub is_addend : ℤ → Bool
is_addend (pos n) = nat_lt n (2 ^ 31)
is_addend (negsuc n) = nat_lt n (2 ^ 31 - 1)

unfoldable pub relocation_fits : Sizes → Body → List Relocation → Relocation → Bool
relocation_fits z b before r =
    nat_lt r.symbol z.symbols && (is_addend r.addend && (stands_at b r.kind r.offset && follows_all before r))

abbrev pub made_relocation : List ℕ → RelocationKind → Relocation
made_relocation bytes kind = record {
  kind = kind;
  offset = longword_at 1 bytes;
  symbol = longword_at 5 bytes;
  addend = cast_signed w32 (longword_at 9 bytes);
}

-- the relocation that the bytes begin with, if they have a kind
abbrev pub relocation_in : List ℕ → Option Relocation
relocation_in bytes = option_map (made_relocation bytes) (kind_of (slice_index bytes 0))

-- the relocation, if there is one and it is good behind those before it
abbrev pub good_relocation : Sizes → Body → List Relocation → Option Relocation → List ℕ → Read Relocation
good_relocation z b before None rest = Err (faults.Relocation (length before))
good_relocation z b before (Some r) rest =
    if relocation_fits z b before r then Ok (r, rest) else Err (faults.Relocation (length before))

unfoldable pub relocation_at : ℕ → Sizes → Body → List Relocation → List ℕ → Read Relocation
relocation_at total z b before bytes =
    if nat_lt (length bytes) 13 then Err (faults.Cut total)
    else good_relocation z b before (relocation_in bytes) (drop 13 bytes)

unfoldable pub relocation_bytes : Relocation → List ℕ
relocation_bytes r =
    kind_number r.kind ∷ (longword r.offset ++ (longword r.symbol ++ longword (cast_unsigned w32 r.addend)))

-- a good relocation behind those before it, whose numbers fit their bytes
pub record IsRelocation (z : Sizes) (b : Body) (before : List Relocation) (r : Relocation) : Type 0 where
  pub fits : IsTrue (relocation_fits z b before r)
  pub offset : r.offset < 2 ^ 32
  pub symbol : r.symbol < 2 ^ 32
