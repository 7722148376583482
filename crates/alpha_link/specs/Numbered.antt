-- The labels that a source defines or names, by number, and what is made by their numbers.
use Rattle.std.specs.Prelude.{◌≡◌, ◌≤◌, ◌^◌, ◌⊎◌, ℕ, false, List, ◌++◌, map, get_or, slice_get, Option, None, Some}
use Rattle.std.specs.Borrow.{Bor}
use Rattle.std.specs.Option.{option_map}
use Rattle.std.specs.List.{AllByRecursion, filter_map, zip}
use Rattle.alpha_asm.specs.declared.label.Labels.{Labels}
use Rattle.alpha_asm.specs.declared.patch.Patch.{Patch}
use Rattle.alpha_asm.specs.declared.place.Section.{Section}
use Rattle.alpha_asm.specs.declared.place.Section.TheVariants as sides
use Rattle.alpha_asm.specs.Labels.{location_named, label_names}
use Rattle.alpha_asm.specs.Patches.{Fix, fix_of}
use Rattle.alpha_link.specs.declared.keyed.KeyedName.{KeyedName}
use Rattle.alpha_link.specs.declared.relocation.Relocation.{Relocation}
use Rattle.alpha_link.specs.Made.{kind_in, offset_in, relocation_with}
use Rattle.alpha_link.specs.Relocations.{is_addend}

-- the bytes of names
abbrev pub texts : List (Bor (List ℕ)) → List (List ℕ)
texts names = map (λ n. n.now) names

-- The names of labels in the order of their numbers, and behind them names without a definition.
abbrev pub IsNumbered : Labels → List (List ℕ) → Type 0
IsNumbered labels names =
    (more : List (List ℕ)) × (names ≡ label_names labels ++ more)
    × AllByRecursion (λ n. location_named labels n ≡ None) more

-- the relocation of an address that a section needs, if it does, by the number of its label
abbrev pub relocation_at : Section → Fix → ℕ → Option Relocation
relocation_at side f number =
    option_map (λ kind. relocation_with kind (offset_in f.at f.name.target) f.name.reference.offset number)
    (kind_in side f.name.target)

-- no relocation can say so: its offset doesn't fit 32 bits, or what it adds is no addend
abbrev pub IsTooGreat : Fix → Type 0
IsTooGreat f = (2 ^ 32 ≤ offset_in f.at f.name.target) ⊎ (is_addend f.name.reference.offset ≡ false)

-- those of some addresses, each beside the number of its label
abbrev pub relocations_at : Section → List Fix → List ℕ → List Relocation
relocations_at side fs numbers = filter_map (λ x. relocation_at side x.0 x.1) (zip fs numbers)

-- a relocation with the rank of its label in place of the label's number
abbrev pub ranked : List ℕ → Relocation → Relocation
ranked ranks r = record r { symbol = get_or ranks r.symbol 0 }

-- a name's number has a rank, and at that rank the name stands among the rising ones
abbrev pub HasRank : List ℕ → List (List ℕ) → KeyedName → Type 0
HasRank ranks rising k = (rank : ℕ) × (slice_get ranks k.number ≡ Some rank) × (slice_get rising rank ≡ Some k.name.now)

-- the relocations of the code and then those of the data, by numbers of some names
abbrev pub ByNumbers : List (List ℕ) → List Patch → List Relocation → Type 0
ByNumbers names ps relocations =
    (numbers : List ℕ) × (map (slice_get names) numbers ≡ map (λ p. Some p.to.label.now) ps)
    × (relocations
    ≡ relocations_at sides.Code (map fix_of ps) numbers ++ relocations_at sides.Data (map fix_of ps) numbers)
