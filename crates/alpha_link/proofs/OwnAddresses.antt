-- The addresses at which modules define their own symbols.
use Rattle.std.proofs.Common.{◌≡◌, ℕ, zero, suc, ◌+◌, ◌-◌, ◌*◌, ◌<◌, ◌≤◌, Bool, true, false, List, [], ◌∷◌, length, map}
use Rattle.std.proofs.Common.{take, get_or, Option, None, Some, is_some, refl, sym, subst, ap, ◌∙◌, arith}
use Rattle.std.specs.Prelude.{slice_get}
use Rattle.std.specs.List.{list_all}
use Rattle.std.specs.Option.{option_map, option_and_then, option_or}
use Rattle.std.proofs.lemmas.List.{take_all}
use Rattle.std.proofs.lemmas.Bool.{and_parts}
use Rattle.std.proofs.lemmas.Option.{none-some, slice_get_within, slice_get-map, slice_get-get_or}
use Rattle.alpha_names.specs.Finder.{number_in}
use Rattle.alpha_names.specs.declared.numbers.Numbers.{Numbers}
use Rattle.alpha_asm.specs.Program.{code_base, data_base}
use Rattle.alpha_link.specs.declared.symbol.SymbolSection.{SymbolSection}
use Rattle.alpha_link.specs.declared.symbol.SymbolSection.TheVariants as sections
use Rattle.alpha_link.specs.Symbols.{Named}
use Rattle.alpha_link.specs.Linked.{Located, section_address, addresses_by, is_defined}
use Rattle.alpha_link.specs.GlobalSymbols.{GlobalSymbol, global_symbol_of, global_symbols_in, global_symbols, is_of}
use Rattle.alpha_link.specs.GlobalSymbols.{address_at}
use Rattle.alpha_link.specs.GlobalSymbols.{AreEntered}
use Rattle.alpha_link.specs.Addresses.{owned, address_by_own, Knows, AllKnow}
use Rattle.alpha_link.proofs.AreEntered.{slice_get-append_left, slice_get-append_right, address_at-defined}

-- functions that agree on each element of a list
map_same : {A B : Type 0} (f g : A → B) (xs : List A) → ((k : ℕ) (x : A) → slice_get xs k ≡ Some x → f x ≡ g x)
    → map f xs ≡ map g xs
map_same f g [] h = refl
map_same f g (x ∷ xs) h =
    ap (λ (y : _). y ∷ map f xs) (h 0 x refl)
    ∙ ap (λ (ys : List _). g x ∷ ys) (map_same f g xs (λ k y e. h (suc k) y e))

-- a symbol that a module defines has the address at which it does
pub own_address : (find : List ℕ → Option ℕ) (l : Located) (k : ℕ) (s : Named) → Knows find l
    → slice_get l.parts.symbols k ≡ Some s → address_by_own find l s ≡ find s.name
own_address find l k s knows here = by (section_address l s.section s.offset) refl
  where
    by : (o : Option ℕ) → section_address l s.section s.offset ≡ o → option_or o (find s.name) ≡ find s.name
    by None e = refl
    by (Some a) e = sym (knows k s a here e)

pub address_by_own-Knows : (find : List ℕ → Option ℕ) (l : Located) → Knows find l
    → map (address_by_own find l) l.parts.symbols ≡ addresses_by find l
address_by_own-Knows find l knows =
    map_same (address_by_own find l) (λ (s : Named). find s.name) l.parts.symbols
    (λ k s here. own_address find l k s knows here)

all_at : {A : Type 0} (p : A → Bool) (xs : List A) (k : ℕ) (x : A) → list_all p xs ≡ true → slice_get xs k ≡ Some x
    → p x ≡ true
all_at p [] k x all here = absurd (none-some x here)
all_at p (y ∷ xs) zero x all here = let same : y ≡ x = cc in ap p (sym same) ∙ (and_parts (p y) (list_all p xs) all).0
all_at p (y ∷ xs) (suc k) x all here = all_at p xs k x (and_parts (p y) (list_all p xs) all).1 here

-- a module that defines all its symbols
pub owned-all_defined : (find : List ℕ → Option ℕ) (l : Located) → Knows find l
    → list_all (λ s. is_defined s.section) l.parts.symbols ≡ true
    → owned l ≡ addresses_by find l
owned-all_defined find l knows all =
    map_same (λ (s : Named). section_address l s.section s.offset) (λ (s : Named). find s.name) l.parts.symbols
    (λ k s here. by k s here s.section refl (all_at (λ (t : Named). is_defined t.section) l.parts.symbols k s all here))
  where
    by : (k : ℕ) (s : Named) → slice_get l.parts.symbols k ≡ Some s → (t : SymbolSection) → s.section ≡ t
        → is_defined s.section ≡ true → section_address l s.section s.offset ≡ find s.name
    by k s here sections.Code e d =
        let at : section_address l s.section s.offset ≡ Some (code_base + 4 * l.words + s.offset) =
        ap (λ (t : SymbolSection). section_address l t s.offset) e in
        at ∙ sym (knows k s _ here at)
    by k s here sections.Data e d =
        let at : section_address l s.section s.offset ≡ Some (data_base + l.filled + s.offset) =
        ap (λ (t : SymbolSection). section_address l t s.offset) e in
        at ∙ sym (knows k s _ here at)
    by k s here sections.Undefined e d =
        let none : false ≡ true = sym (ap is_defined e) ∙ d in
        absurd cc

-- the place of a symbol of a module in the row
in_row : (ls : List Located) (k j : ℕ) (l : Located) (s : Named) → slice_get ls k ≡ Some l
    → slice_get l.parts.symbols j ≡ Some s → (i : ℕ) × (slice_get (global_symbols ls) i ≡ Some (global_symbol_of l s))
in_row [] k j l s here there = absurd (none-some l here)
in_row (x ∷ ls) zero j l s here there =
    let same : x ≡ l = cc in
    let at : slice_get (global_symbols_in l) j ≡ Some (global_symbol_of l s) =
    slice_get-map (global_symbol_of l) l.parts.symbols j ∙ ap (option_map (global_symbol_of l)) there in
    let first : slice_get (global_symbols_in x) j ≡ Some (global_symbol_of l s) =
    ap (λ (y : Located). slice_get (global_symbols_in y) j) same ∙ at in (
      j,
      slice_get-append_left (global_symbols_in x) (global_symbols ls) j
          (slice_get_within (global_symbols_in x) j (global_symbol_of l s) first)
          ∙ first,
    )
in_row (x ∷ ls) (suc k) j l s here there =
    let (i, at) = in_row ls k j l s here there in
    let size = length (global_symbols_in x) in
    let rest : size + i - size ≡ i = omega arith in (
      size + i,
      slice_get-append_right (global_symbols_in x) (global_symbols ls) (size + i) (omega arith)
          ∙ (ap (slice_get (global_symbols ls)) rest ∙ at),
    )

-- where all symbols are entered, each that is defined is found by its name
pub all_know : (row : List GlobalSymbol) (numbers : Numbers) (ls : List Located) → row ≡ global_symbols ls
    → AreEntered row (number_in numbers) → AllKnow (λ name. address_at row (number_in numbers (is_of row name) name)) ls
all_know row numbers ls whole entered k l here j s a there defined =
    let (i, at) = in_row ls k j l s here there in
    address_at-defined row numbers entered i (global_symbol_of l s)
    (ap (λ (r : List GlobalSymbol). slice_get r i) whole ∙ at) (ap is_some defined)
    ∙ defined

-- the row behind the last module
pub global_symbols-whole_row : (ls those : List Located) (n count : ℕ) → length ls ≤ n → those ≡ ls
    → count ≡ length (global_symbols (take n ls)) → take count (global_symbols those) ≡ global_symbols ls
global_symbols-whole_row ls those n count past same size =
    ap (λ (x : List Located). take count (global_symbols x)) same
    ∙ take_all count (global_symbols ls)
    (subst (λ (k : ℕ). length (global_symbols ls) ≤ k)
    (sym (size ∙ ap (λ (x : List Located). length (global_symbols x)) (take_all n ls past))) (omega arith))

-- the names of a module that a loop has come to
pub knows_item : (find : List ℕ → Option ℕ) (ls : List Located) (i : ℕ) (l : Located) → AllKnow find ls → i < length ls
    → l ≡ get_or ls i l → Knows find l
knows_item find ls i l all within here = all i l (slice_get-get_or ls i l within ∙ ap Some (sym here))

-- the address at which a module defines the symbol with a number
pub owned-section_address : (l : Located) (i : ℕ) (s : Named) → slice_get l.parts.symbols i ≡ Some s →
    option_and_then (λ a. a) (slice_get (owned l) i) ≡ section_address l s.section s.offset
owned-section_address l i s here =
    let at = λ (t : Named). section_address l t.section t.offset in
    ap (option_and_then (λ a. a)) (slice_get-map at l.parts.symbols i ∙ ap (option_map at) here)
