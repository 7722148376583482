-- The symbols of a module, as it holds them.
use Rattle.std.specs.Prelude.{ℕ, nat_lt, List, [], map, take, drop, length, slice_index, unwrap_or, if◌then◌else◌}
use Rattle.alpha_image.specs.Reading.{longword_at}
use Rattle.alpha_link.specs.Bytes.{halfword_at}
use Rattle.alpha_link.specs.Symbols.{Named, named, section_of}
use Rattle.alpha_link.specs.declared.symbol.SymbolSection.TheVariants.{Undefined}
use Rattle.alpha_link.specs.declared.symbol_list.ReadSymbols.{ReadSymbols}
use Rattle.alpha_link.specs.declared.symbol_list.Origin.{Origin}
use Rattle.alpha_link.specs.declared.symbol_list.Origin.TheVariants.{Made, Read}
use Rattle.alpha_link.specs.declared.symbol_list.SymbolList.TheInside.{Inside}

abbrev pub no_symbol : Named
no_symbol = record { section = Undefined; offset = 0; name = [] }

-- the symbol that bytes begin with, and none where they are too few
unfoldable pub symbol_from : List ℕ → Named
symbol_from bytes =
    if nat_lt (length bytes) 7 then no_symbol
    else record {
      section = unwrap_or (section_of (slice_index bytes 0)) Undefined;
      offset = longword_at 3 bytes;
      name = take (halfword_at 1 bytes) (drop 7 bytes);
    }

-- the symbols that begin at places of bytes
abbrev pub read_in : ReadSymbols → List Named
read_in r = map (λ begin. symbol_from (drop begin r.bytes.now)) r.begins.items

abbrev pub listed_in : Origin → List Named
listed_in (Made symbols) = map named symbols.items
listed_in (Read symbols) = read_in symbols

abbrev pub symbols_in : Inside → List Named
symbols_in i = listed_in i.origin
