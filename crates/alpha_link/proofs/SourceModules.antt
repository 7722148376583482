-- The module that is made of what was read.
use Rattle.std.proofs.Common.{◌≡◌, ℕ, zero, suc, ◌+◌, ◌/◌, ◌%◌, ◌^◌, ◌<◌, ◌≤◌, List, [], ◌∷◌, ◌++◌, length, map}
use Rattle.std.proofs.Common.{replicate, Option, None, Some, Bor, All, refl, sym, ap, subst, ◌∙◌, arith}
use Rattle.std.specs.Prelude.{Ok, Err, IfSome}
use Rattle.std.specs.List.{AllByRecursion, filter_map, flat_map, list_any}
use Rattle.std.specs.Str.{bytes_eq}
use Rattle.std.proofs.lemmas.List.{length-map}
use Rattle.std.proofs.lemmas.List.Elements.{All-nil, All-cons, All-append, All-replicate}
use Rattle.std.proofs.lemmas.Nat.{mod_below}
use Rattle.alpha_words.specs.Digits.{digits, low_bytes}
use Rattle.alpha_words.specs.declared.Level.TheVariants.{One}
use Rattle.alpha_table.specs.declared.form.Form.{Form}
use Rattle.alpha_table.specs.Encoded.{encoded}
use Rattle.alpha_text.specs.References.{IsLabel}
use Rattle.alpha_text.specs.Reading.{LineStmt}
use Rattle.alpha_image.specs.Parts.{IsByte}
use Rattle.alpha_image.specs.Insns.{IsCodeInsn}
use Rattle.alpha_image.specs.Rules.{size_of_segment}
use Rattle.alpha_image.proofs.CodeInsns.{IsCodeWord-map_encoded}
use Rattle.alpha_asm.specs.declared.fault.AsmFault.TheVariants.{ImageField}
use Rattle.alpha_asm.specs.declared.place.Section.TheVariants as sides
use Rattle.alpha_asm.specs.declared.place.LabelLocation.{LabelLocation}
use Rattle.alpha_asm.specs.declared.place.LabelLocation.TheVariants as spots
use Rattle.alpha_asm.specs.declared.unlinked.Unlinked.{Unlinked}
use Rattle.alpha_asm.specs.Statement.{Cell, number, address, cells}
use Rattle.alpha_asm.specs.Layout.{Place, Placed, start, placed, filled_pad, layout, end, location_of}
use Rattle.alpha_asm.specs.Patches.{fix_of, raw_cells, raw_bytes, fixes}
use Rattle.alpha_asm.specs.Labels.{location_named, are_among}
use Rattle.alpha_asm.specs.Unlinked.{IsUnlinkedOf, IsUnlinked}
use Rattle.alpha_link.specs.declared.header.Sizes.{Sizes}
use Rattle.alpha_link.specs.declared.relocation.Relocation.{Relocation}
use Rattle.alpha_link.specs.Symbols.{Named, IsSymbol}
use Rattle.alpha_link.specs.Relocations.{IsRelocation, body}
use Rattle.alpha_link.specs.Parts.{ModuleParts, sizes_of, body_of, AreGood, IsModule}
use Rattle.alpha_link.specs.Made.{labels_in, references_in, all_names, symbol_at_location, relocation_for, module_of}
use Rattle.alpha_link.specs.Made.{bad_field, module_within_limits}
use Rattle.alpha_link.specs.SortedNames.{Rise}
use Rattle.alpha_link.specs.Unlinked.{IsOfLines, IsNear}
use Rattle.alpha_link.proofs.SourceSizes.{insns_of, behind_all-insn_count, filled_all, IsWithinPlace, locations_within}
use Rattle.alpha_link.proofs.WholeLabels.{IsLabel-all_names}
use Rattle.alpha_link.proofs.SourceSymbols.{IsLocationIn, symbols_good, FirstIsAbove-nil, names_all}
use Rattle.alpha_link.proofs.SourceRelocations.{IsFixChain, AreGood-all_relocations}
use Rattle.alpha_link.proofs.FixChains.{code_chain, data_chain}

location_in_sizes : (e : Place) (z : Sizes) (o : Option LabelLocation) → e.words ≡ z.words
    → size_of_segment e.last ≡ z.filled + z.zeroed → IfSome o (IsWithinPlace e) → IfSome o (IsLocationIn z)
location_in_sizes e z None words size h = tt
location_in_sizes e z (Some (spots.Code n)) words size h = omega arith
location_in_sizes e z (Some (spots.Data segment offset)) words size h = omega arith

-- the labels stand within the sizes of what was read
locations_in : (is : List LineStmt) (u : Unlinked) (z : Sizes) → IsUnlinkedOf is u → AllByRecursion IsUnlinked is
    → u.filled ≤ 16777216 → z.words ≡ length u.code.items → z.filled ≡ length u.bytes.items → z.zeroed ≡ u.zeroed
    → (name : List ℕ) → IfSome (location_named u.labels name) (IsLocationIn z)
unfolding layout end
locations_in is u z m all few words filled zeroed name =
    let e : Place = end is in
    let code : length u.code.items ≡ length (insns_of (placed start 1 is)) = ap length m.code in
    let bytes : length u.bytes.items ≡ length (flat_map raw_bytes (placed start 1 is)) = ap length (m.bytes few) in
    let grown : e.words ≡ start.words + length (insns_of (placed start 1 is)) = behind_all-insn_count start 1 is in
    let spread : e.last.filled ≡ start.last.filled + length (flat_map raw_bytes (placed start 1 is)) =
    filled_all start 1 is all in
    let zeros : u.zeroed ≡ e.last.zeroed = m.zeroed in
    rw (m.labels name)
    (location_in_sizes e z (location_of (layout is) name) (omega (arith, grown, code, words))
    (omega (arith, spread, bytes, filled, zeroed, zeros)) (locations_within name start 1 is all))

references_near : (z : Sizes) (o : Option LabelLocation) → z.words ≤ 262144 → z.filled + z.zeroed ≤ 16777216
    → IfSome o (IsLocationIn z) → IfSome o IsNear
references_near z None few small h = tt
references_near z (Some (spots.Code n)) few small h = omega arith
references_near z (Some (spots.Data segment offset)) few small h = omega arith

abbrev sizes_with : Unlinked → Sizes
sizes_with u = record {
  words = length u.code.items;
  filled = length u.bytes.items;
  zeroed = u.zeroed;
  symbols = 0;
  relocations = 0;
}

pub location_named-IsNear : (u : Unlinked) → IsOfLines u → length u.code.items ≤ 262144 → u.filled ≤ 16777216
    → length u.bytes.items + u.zeroed ≤ 16777216 → (name : List ℕ) → IfSome (location_named u.labels name) IsNear
location_named-IsNear u (is, m, all) words few size name =
    references_near (sizes_with u) (location_named u.labels name) words size
    (locations_in is u (sizes_with u) m all few refl refl refl name)

-- the bytes of cells, and the zeros that fill up, are bytes
low_all : (n v : ℕ) → All IsByte (low_bytes n v)
unfolding digits
low_all zero v = All-nil IsByte
low_all (suc n) v =
    All-cons IsByte (v % 256) (low_bytes n (v / 256)) (mod_below v 256 (omega arith)) (low_all n (v / 256))

cells_all : (cs : List Cell) → All IsByte (raw_cells cs)
cells_all [] = All-nil IsByte
cells_all (number bytes value ∷ cs) =
    All-append IsByte (low_bytes bytes value) (raw_cells cs) (low_all bytes value) (cells_all cs)
cells_all (address r ∷ cs) = All-append IsByte (low_bytes 8 0) (raw_cells cs) (low_all 8 0) (cells_all cs)

bytes_all : (xs : List Placed) → All IsByte (flat_map raw_bytes xs)
bytes_all [] = All-nil IsByte
bytes_all (x ∷ xs) =
    let pad = filled_pad x.place x.item.statement in
    let cs = raw_cells (cells x.item.statement) in
    let own = All-append IsByte cs (replicate pad 0) (cells_all (cells x.item.statement))
    (All-replicate IsByte pad 0 (omega arith)) in
    All-append IsByte (raw_bytes x) (flat_map raw_bytes xs) own (bytes_all xs)

-- what is made of the lines of a module's source is a module
pub IsModule-of_source : (u : Unlinked) (names : List (Bor (List ℕ))) (symbols : List Named)
    (relocations : List Relocation)
    → IsOfLines u
    → All (IsCodeInsn One) u.code.items → length u.code.items ≤ 262144 → u.filled ≤ 16777216
    → length u.bytes.items + u.zeroed ≤ 16777216 → Rise names
    → ((is : List LineStmt) → IsUnlinkedOf is u → (q : List ℕ)
    → are_among names q ≡ list_any (bytes_eq q) (labels_in (layout is) ++ references_in (layout is)))
    → symbols ≡ map (λ n. symbol_at_location n.now (location_named u.labels n.now)) names
    → relocations
    ≡ filter_map (relocation_for sides.Code (map (λ n. n.now) names)) (map fix_of u.patches.items)
    ++ filter_map (relocation_for sides.Data (map (λ n. n.now) names)) (map fix_of u.patches.items)
    → length symbols < 2 ^ 32 → length relocations < 2 ^ 32
    → IsModule (record {
      words = map encoded u.code.items;
      bytes = u.bytes.items;
      zeroed = u.zeroed;
      symbols = symbols;
      relocations = relocations;
    })
unfolding layout
IsModule-of_source u names symbols relocations
    (is, m, all) insns words few size rise among made put few_symbols few_relocations =
    let parts : ModuleParts = record {
      words = map encoded u.code.items;
      bytes = u.bytes.items;
      zeroed = u.zeroed;
      symbols = symbols;
      relocations = relocations;
    } in
    let z : Sizes = sizes_of parts in
    let same : length (map encoded u.code.items) ≡ length u.code.items = length-map u.code.items encoded in
    let own : List (List ℕ) = map (λ n. n.now) names in
    let count : length symbols ≡ length own = ap length made
    ∙ (length-map names (λ n. symbol_at_location n.now (location_named u.labels n.now))
    ∙ sym (length-map names (λ n. n.now))) in
    let whole : AllByRecursion (λ n. IsLabel 1024 n.now) names =
    names_all (IsLabel 1024) (labels_in (layout is) ++ references_in (layout is)) names
    (IsLabel-all_names start 1 is all)
    (λ q h. sym (among is m q) ∙ h) in
    let known = (IsCodeWord-map_encoded One u.code.items insns).1 in
    let held : u.bytes.items ≡ flat_map raw_bytes (layout is) = m.bytes few in
    let code : IsFixChain sides.Code (body (map encoded u.code.items) u.bytes.items) 0 (map fix_of u.patches.items) =
    subst (IsFixChain sides.Code (body (map encoded u.code.items) u.bytes.items) 0) (sym m.patches)
    (code_chain u.code.items u.bytes.items 0 start 1 0 is [] known words m.code refl (omega arith) all) in
    let quads : IsFixChain sides.Data (body (map encoded u.code.items) u.bytes.items) 0 (map fix_of u.patches.items) =
    subst (IsFixChain sides.Data (body (map encoded u.code.items) u.bytes.items) 0) (sym m.patches)
    (data_chain (map encoded u.code.items) u.bytes.items 0 start 1 0 is [] (omega arith) held refl (omega arith) all) in
    record {
      few = omega (arith, same);
      size = size;
      words = (IsCodeWord-map_encoded One u.code.items insns).0;
      bytes = subst (All IsByte) (sym held) (bytes_all (layout is));
      symbols = subst (AreGood (IsSymbol z) []) (sym made)
          (symbols_good z (location_named u.labels) [] names (omega (arith, same)) size rise
          (FirstIsAbove-nil names) whole
          (locations_in is u z m all few same refl refl));
      symbol_count = few_symbols;
      relocations =
          subst (AreGood (IsRelocation z (body_of parts)) []) (sym put)
          (AreGood-all_relocations z (body_of parts) own (map fix_of u.patches.items) count
          (omega (arith, count)) code quads);
      relocation_count = few_relocations;
    }

same_symbols : (known others : List ℕ → Option LabelLocation) (names : List (Bor (List ℕ)))
    → ((n : List ℕ) → known n ≡ others n)
    → map (λ n. symbol_at_location n (others n)) (map (λ n. n.now) names)
    ≡ map (λ n. symbol_at_location n.now (known n.now)) names
same_symbols known others [] same = refl
same_symbols known others (n ∷ names) same =
    ap (λ o. symbol_at_location n.now o ∷ map (λ m. symbol_at_location m (others m)) (map (λ m. m.now) names))
    (sym (same n.now))
    ∙ ap (λ l. symbol_at_location n.now (known n.now) ∷ l) (same_symbols known others names same)

-- the parts that the items make are those that were made of what was read
pub module_of-made_parts : (is : List LineStmt) (u : Unlinked) (names : List (Bor (List ℕ)))
    (symbols : List Named) (relocations : List Relocation)
    → IsUnlinkedOf is u → u.filled ≤ 16777216 → map (λ n. n.now) names ≡ all_names is
    → symbols ≡ map (λ n. symbol_at_location n.now (location_named u.labels n.now)) names
    → relocations
    ≡ filter_map (relocation_for sides.Code (map (λ n. n.now) names)) (map fix_of u.patches.items)
    ++ filter_map (relocation_for sides.Data (map (λ n. n.now) names)) (map fix_of u.patches.items)
    → module_of is ≡ record {
      words = map encoded u.code.items;
      bytes = u.bytes.items;
      zeroed = u.zeroed;
      symbols = symbols;
      relocations = relocations;
    }
unfolding module_of
module_of-made_parts is u names symbols relocations m few named made put =
    let first : symbols ≡ map (λ n. symbol_at_location n (location_of (layout is) n)) (all_names is) =
    made ∙ (sym (same_symbols (location_named u.labels) (location_of (layout is)) names m.labels)
    ∙ ap (map (λ n. symbol_at_location n (location_of (layout is) n))) named) in
    let second : relocations ≡ filter_map (relocation_for sides.Code (all_names is)) (fixes 0 (layout is))
    ++ filter_map (relocation_for sides.Data (all_names is)) (fixes 0 (layout is)) =
    put ∙ (ap (λ ns. filter_map (relocation_for sides.Code ns) (map fix_of u.patches.items)
    ++ filter_map (relocation_for sides.Data ns) (map fix_of u.patches.items)) named
    ∙ ap (λ fs. filter_map (relocation_for sides.Code (all_names is)) fs
    ++ filter_map (relocation_for sides.Data (all_names is)) fs) m.patches) in
    rw (m.code, m.bytes few, m.zeroed, first, second) refl

same_field : (is : List LineStmt) (u : Unlinked) → IsUnlinkedOf is u
    → bad_field (length (module_of is).words) (length (module_of is).bytes) (module_of is).zeroed
    ≡ bad_field (length u.code.items) u.filled u.zeroed
unfolding module_of
same_field is u m =
    ap (λ (l : List Form). bad_field (length (map encoded l)) (length (module_of is).bytes) (module_of is).zeroed)
    (sym m.code)
    ∙ (ap (λ (n : ℕ). bad_field n (length (module_of is).bytes) (module_of is).zeroed) (length-map u.code.items encoded)
    ∙ (ap (λ (n : ℕ). bad_field (length u.code.items) n (module_of is).zeroed) (sym m.filled)
    ∙ ap (bad_field (length u.code.items) u.filled) (sym m.zeroed)))

pub module_within_limits-err : (is : List LineStmt) (u : Unlinked) (field : ℕ) → IsUnlinkedOf is u
    → bad_field (length u.code.items) u.filled u.zeroed ≡ Some field
    → module_within_limits (module_of is) ≡ Err (ImageField field)
module_within_limits-err is u field m e = let same = same_field is u m ∙ e in rw same refl

pub module_within_limits-ok : (is : List LineStmt) (u : Unlinked) (made : ModuleParts) → IsUnlinkedOf is u
    → bad_field (length u.code.items) u.filled u.zeroed ≡ None → module_of is ≡ made
    → module_within_limits (module_of is) ≡ Ok made
module_within_limits-ok is u made m e same = let none = same_field is u m ∙ e in rw none (ap Ok same)
