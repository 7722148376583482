-- Symbols: how they are read and spelled, and which are good.
use Rattle.std.specs.Prelude.{◌<◌, ◌^◌, ◌+◌, ◌*◌, ◌-◌, ◌%◌, ℕ, zero, suc, Bool, true, IsTrue, ◌&&◌, ◌==◌, nat_lt}
use Rattle.std.specs.Prelude.{nat_le, List, ◌∷◌, ◌++◌, length, drop, slice_get, slice_index, Option, None, Some, Ok}
use Rattle.std.specs.Prelude.{Err, if◌then◌else◌}
use Rattle.std.specs.Option.{option_map, option_map_or}
use Rattle.std.specs.Ordering.{nat_cmp}
use Rattle.std.specs.Cmp.Lexicographic.{slice_cmp}
use Rattle.std.specs.Ordering.{is_lt}
use Rattle.alpha_token.specs.Bytes.{is_label}
use Rattle.alpha_image.specs.Layout.{longword}
use Rattle.alpha_image.specs.Reading.{longword_at}
use Rattle.alpha_link.specs.declared.fault.ModuleFault.TheVariants.{Cut, Symbol}
use Rattle.alpha_link.specs.declared.header.Sizes.{Sizes}
use Rattle.alpha_link.specs.declared.symbol.SymbolSection.{SymbolSection}
use Rattle.alpha_link.specs.declared.symbol.SymbolSection.TheVariants.{Code, Data, Undefined}
use Rattle.alpha_link.specs.declared.symbol.Symbol as own
use Rattle.alpha_link.specs.declared.symbol.SymbolHeader.{SymbolHeader}
use Rattle.alpha_link.specs.Bytes.{halfword, halfword_at}
use Rattle.alpha_link.specs.Reading.{Read, and_then, taken}

-- a symbol, with its name as a list
pub record Named : Type 0 where
  pub section : SymbolSection
  pub offset : ℕ
  pub name : List ℕ

abbrev pub named : own.Symbol → Named
named s = record { section = s.section; offset = s.offset; name = s.name.now }

abbrev pub section_of : ℕ → Option SymbolSection
section_of zero = Some Code
section_of (suc zero) = Some Data
section_of (suc (suc zero)) = Some Undefined
section_of _ = None

abbrev pub section_number : SymbolSection → ℕ
section_number Code = 0
section_number Data = 1
section_number Undefined = 2

-- A symbol of the code names a word or the end of the code, one of the data a byte of its data or zeroed bytes or
-- their end. An undefined one has offset 0.
abbrev pub offset_fits : Sizes → SymbolSection → ℕ → Bool
offset_fits z Code offset = offset % 4 == 0 && nat_le offset (4 * z.words)
offset_fits z Data offset = nat_le offset (z.filled + z.zeroed)
offset_fits z Undefined offset = offset == 0

-- the name is above that of the last symbol before it, byte by byte
abbrev pub comes_behind : List Named → List ℕ → Bool
comes_behind before name =
    option_map_or (λ s. is_lt (slice_cmp nat_cmp s.name name)) (slice_get before (length before - 1)) true

unfoldable pub symbol_fits : Sizes → List Named → Named → Bool
symbol_fits z before s =
    nat_le (length s.name) 1024 && (is_label s.name && (offset_fits z s.section s.offset && comes_behind before s.name))

-- what stands before a name
abbrev pub symbol_header_at : ℕ → List ℕ → Read SymbolHeader
symbol_header_at total bytes =
    if nat_lt (length bytes) 7 then Err (Cut total)
    else Ok
    (record { section = slice_index bytes 0; size = halfword_at 1 bytes; offset = longword_at 3 bytes }, drop 7 bytes)

abbrev pub made_symbol : SymbolHeader → List ℕ → SymbolSection → Named
made_symbol front name section = record { section = section; offset = front.offset; name = name }

-- the symbol, if there is one and it is good behind those before it
abbrev pub good_symbol : Sizes → List Named → Option Named → List ℕ → Read Named
good_symbol z before None rest = Err (Symbol (length before))
good_symbol z before (Some s) rest = if symbol_fits z before s then Ok (s, rest) else Err (Symbol (length before))

unfoldable pub symbol_at : ℕ → Sizes → List Named → List ℕ → Read Named
symbol_at total z before bytes =
    and_then (symbol_header_at total bytes)
    (λ front. and_then (taken total front.0.size front.1)
    (λ name. good_symbol z before (option_map (made_symbol front.0 name.0) (section_of front.0.section)) name.1))

unfoldable pub symbol_bytes : Named → List ℕ
symbol_bytes s = section_number s.section ∷ (halfword (length s.name) ++ (longword s.offset ++ s.name))

-- a good symbol behind those before it, whose offset fits its bytes
pub record IsSymbol (z : Sizes) (before : List Named) (s : Named) : Type 0 where
  pub fits : IsTrue (symbol_fits z before s)
  pub offset : s.offset < 2 ^ 32
