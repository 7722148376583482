-- The symbols that are found by their numbers in a row, as the row grows.
use Rattle.std.proofs.Common.{◌≡◌, ℕ, zero, suc, ◌+◌, ◌-◌, ◌<◌, ◌≤◌, Bool, true, false, ◌⊎◌, inl, inr, List, [], ◌∷◌}
use Rattle.std.proofs.Common.{◌++◌, length, map, take, drop, get_or, Option, None, Some, is_some, if◌then◌else◌, refl}
use Rattle.std.proofs.Common.{sym, subst, ap, ◌∙◌, append_assoc, arith}
use Rattle.std.specs.Prelude.{◌&&◌, not, is_none, slice_get}
use Rattle.std.specs.Option.{option_map, option_map_or, option_and_then, option_or}
use Rattle.std.specs.List.{flat_map}
use Rattle.std.specs.Str.{bytes_eq}
use Rattle.std.proofs.lemmas.List.{take_more, length-map, length-append}
use Rattle.std.proofs.lemmas.Bool.{and_parts}
use Rattle.std.proofs.lemmas.Option.{none-some, same_Some, slice_get_within, slice_get-map, get_or_from_slice_get}
use Rattle.std.proofs.lemmas.Slice.Eq.{bytes_eq-Decides}
use Rattle.alpha_names.specs.Finder.{Finder, IsOnly, Keeps, Grows, number_in}
use Rattle.alpha_names.specs.declared.numbers.Numbers.{Numbers}
use Rattle.alpha_names.proofs.TreeSearches.{not_both}
use Rattle.alpha_names.proofs.NumberedNames.{numbering-sound, by_option}
use Rattle.alpha_asm.specs.Layout.{first}
use Rattle.alpha_link.specs.Symbols.{Named}
use Rattle.alpha_link.specs.Linked.{Located, named_address}
use Rattle.alpha_link.specs.Starts.{symbols_of}
use Rattle.alpha_link.specs.GlobalSymbols.{GlobalSymbol, global_symbol_of, global_symbols_in, global_symbols, defines}
use Rattle.alpha_link.specs.GlobalSymbols.{is_of}
use Rattle.alpha_link.specs.GlobalSymbols.{address_at, AreEntered}
use Rattle.alpha_link.proofs.NameAddresses.{first_append, take-next_module}
use Rattle.alpha_link.proofs.LoopLists.{drop-get_or, drop-past_end}

-- elements of two lists one behind the other
pub slice_get-append_left : {X : Type 0} (xs ys : List X) (k : ℕ) → k < length xs
    → slice_get (xs ++ ys) k ≡ slice_get xs k
slice_get-append_left [] ys k h = absurd (omega arith)
slice_get-append_left (x ∷ xs) ys zero h = refl
slice_get-append_left (x ∷ xs) ys (suc k) h = slice_get-append_left xs ys k (omega arith)

pub slice_get-append_right : {X : Type 0} (xs ys : List X) (k : ℕ) → length xs ≤ k
    → slice_get (xs ++ ys) k ≡ slice_get ys (k - length xs)
slice_get-append_right [] ys k h = let e : k ≡ k - 0 = omega arith in ap (slice_get ys) e
slice_get-append_right (x ∷ xs) ys zero h = absurd (omega arith)
slice_get-append_right (x ∷ xs) ys (suc k) h =
    let e : k - length xs ≡ suc k - suc (length xs) = omega arith in
    slice_get-append_right xs ys k (omega arith) ∙ ap (slice_get ys) e

get_dropped : {X : Type 0} (c : ℕ) (xs : List X) (i : ℕ) → slice_get (drop c xs) i ≡ slice_get xs (c + i)
get_dropped zero xs i = let e : i ≡ 0 + i = omega arith in ap (slice_get xs) e
get_dropped (suc c) [] i = refl
get_dropped (suc c) (x ∷ xs) i =
    let e : suc (c + i) ≡ suc c + i = omega arith in
    get_dropped c xs i ∙ ap (slice_get (x ∷ xs)) e

get_taken : {X : Type 0} (m : ℕ) (xs : List X) (i : ℕ) → i < length (take m xs)
    → slice_get (take m xs) i ≡ slice_get xs i
get_taken zero xs i h = absurd (omega arith)
get_taken (suc m) [] i h = refl
get_taken (suc m) (x ∷ xs) zero h = refl
get_taken (suc m) (x ∷ xs) (suc i) h = get_taken m xs i (omega arith)

pub slice_get-take : {X : Type 0} (m : ℕ) (xs : List X) (i : ℕ) → i < m → slice_get (take m xs) i ≡ slice_get xs i
slice_get-take zero xs i h = absurd (omega arith)
slice_get-take (suc m) [] i h = refl
slice_get-take (suc m) (x ∷ xs) zero h = refl
slice_get-take (suc m) (x ∷ xs) (suc i) h = slice_get-take m xs i (omega arith)

-- what stands from a place on is all of what is behind it
rest_length : {X : Type 0} (n : ℕ) (xs : List X) → length (drop n xs) ≡ length xs - n
rest_length zero xs = omega arith
rest_length (suc n) [] = omega arith
rest_length (suc n) (x ∷ xs) = let e : length xs - n ≡ suc (length xs) - suc n = omega arith in rest_length n xs ∙ e

all_taken : {X : Type 0} (n : ℕ) (xs : List X) → length xs ≤ n → take n xs ≡ xs
all_taken zero [] h = refl
all_taken zero (x ∷ xs) h = absurd (omega arith)
all_taken (suc n) [] h = refl
all_taken (suc n) (x ∷ xs) h = ap (λ (l : List _). x ∷ l) (all_taken n xs (omega arith))

pub take-drop_all : {X : Type 0} (n : ℕ) (xs : List X) → take (length xs - n) (drop n xs) ≡ drop n xs
take-drop_all n xs = all_taken (length xs - n) (drop n xs) (omega (arith, rest_length n xs))

-- an element of a part of a list
pub slice_get-part : {X : Type 0} (xs part : List X) (c m i : ℕ) → take m (drop c xs) ≡ part → i < length part
    → slice_get xs (c + i) ≡ slice_get part i
slice_get-part {X} xs part c m i e h =
    let inside : i < length (take m (drop c xs)) = subst (λ (l : List X). i < length l) (sym e) h in
    sym (get_dropped c xs i) ∙ (sym (get_taken m (drop c xs) i inside) ∙ ap (λ (l : List X). slice_get l i) e)

pub slice_get-snoc : {X : Type 0} (xs : List X) (y : X) (k : ℕ) (x : X) → slice_get (xs ++ y ∷ []) k ≡ Some x
    → (slice_get xs k ≡ Some x) ⊎ ((k ≡ length xs) × (x ≡ y))
slice_get-snoc [] y zero x h = inr (refl, same_Some x y (sym h))
slice_get-snoc [] y (suc k) x h = absurd (none-some x h)
slice_get-snoc (z ∷ xs) y zero x h = inl h
slice_get-snoc (z ∷ xs) y (suc k) x h =
    elim (slice_get-snoc xs y k x h) [ inl e ↦ inl e | inr e ↦ inr (ap suc e.0, e.1) ]

pub take-snoc_next : {X : Type 0} (xs : List X) (n : ℕ) (x : X) → slice_get xs n ≡ Some x
    → take (n + 1) xs ≡ take n xs ++ x ∷ []
take-snoc_next xs n x e =
    take_more xs n x (slice_get_within xs n x e) ∙ ap (λ y. take n xs ++ y ∷ []) (get_or_from_slice_get xs n x x e)

pub length-take_lt : {X : Type 0} (xs : List X) (n : ℕ) → n < length xs → length (take n xs) ≡ n
length-take_lt [] n h = absurd (omega arith)
length-take_lt (x ∷ xs) zero h = refl
length-take_lt (x ∷ xs) (suc n) h = ap suc (length-take_lt xs n (omega arith))

-- the address that a symbol gives a name
abbrev pub address_by : List ℕ → GlobalSymbol → Option ℕ
address_by name s = if bytes_eq s.name name then s.address else None

record There (row : List GlobalSymbol) (name : List ℕ) (a : ℕ) : Type 0 where
  pub at : ℕ
  pub symbol : GlobalSymbol
  pub here : slice_get row at ≡ Some symbol
  pub gives : address_by name symbol ≡ Some a

first_there : (row : List GlobalSymbol) (name : List ℕ) (a : ℕ) → first (address_by name) row ≡ Some a
    → There row name a
first_there [] name a e = absurd (none-some a e)
first_there (s ∷ row) name a e = by (address_by name s) refl e (first_there row name a)
  where
    by : (o : Option ℕ) → address_by name s ≡ o → option_or o (first (address_by name) row) ≡ Some a
        → (first (address_by name) row ≡ Some a → There row name a) → There (s ∷ row) name a
    by (Some b) so f more = record { at = 0; symbol = s; here = refl; gives = so ∙ f }
    by None so f more =
        let t = more f in
        record { at = suc t.at; symbol = t.symbol; here = t.here; gives = t.gives }

abbrev HasNoAddress : List GlobalSymbol → List ℕ → Type 0
HasNoAddress row name = (k : ℕ) (s : GlobalSymbol) → slice_get row k ≡ Some s → address_by name s ≡ None

first_none : (row : List GlobalSymbol) (name : List ℕ) → first (address_by name) row ≡ None → HasNoAddress row name
first_none [] name e = λ k s here. absurd (none-some s here)
first_none (t ∷ row) name e = by (address_by name t) refl e (first_none row name)
  where
    by : (o : Option ℕ) → address_by name t ≡ o → option_or o (first (address_by name) row) ≡ None
        → (first (address_by name) row ≡ None → HasNoAddress row name) → HasNoAddress (t ∷ row) name
    by (Some b) so f more = absurd (none-some b (sym f))
    by None so f more = λ k s here. at k s here
      where
        at : (k : ℕ) (s : GlobalSymbol) → slice_get (t ∷ row) k ≡ Some s → address_by name s ≡ None
        at zero s here = ap (address_by name) (sym (same_Some t s here)) ∙ so
        at (suc k) s here = more f k s here

-- a symbol that defines a name
record Defines (row : List GlobalSymbol) (name : List ℕ) (k : ℕ) : Type 0 where
  pub symbol : GlobalSymbol
  pub here : slice_get row k ≡ Some symbol
  pub defined : is_some symbol.address ≡ true
  pub named : symbol.name ≡ name

defines_so : (row : List GlobalSymbol) (name : List ℕ) (k : ℕ) → is_of row name k ≡ true → Defines row name k
defines_so row name k e = by (slice_get row k) refl e
  where
    by : (o : Option GlobalSymbol) → slice_get row k ≡ o → option_map_or (defines name) o false ≡ true
        → Defines row name k
    by None so f = absurd (not_both false f refl)
    by (Some s) so f =
        let parts = and_parts (is_some s.address) (bytes_eq s.name name) f in
        record { symbol = s; here = so; defined = parts.0; named = (bytes_eq-Decides s.name name).0 parts.1 }

is_defined_by : (row : List GlobalSymbol) (k : ℕ) (s : GlobalSymbol) → slice_get row k ≡ Some s
    → is_some s.address ≡ true → is_of row s.name k ≡ true
is_defined_by row k s here defined =
    ap (λ (o : Option GlobalSymbol). option_map_or (defines s.name) o false) here
    ∙ (ap (λ (b : Bool). b && bytes_eq s.name s.name) defined ∙ (bytes_eq-Decides s.name s.name).1 refl)

IsOnly-entered : (row : List GlobalSymbol) (find : Finder) → AreEntered row find → (k : ℕ) (s : GlobalSymbol)
    → slice_get row k ≡ Some s → is_some s.address ≡ true → IsOnly k (is_of row s.name)
IsOnly-entered row find entered k s here defined = (
  is_defined_by row k s here defined,
  λ other e. let d = defines_so row s.name other e in
      entered.single other k d.symbol s d.here here d.defined defined d.named,
)

number_of : (row : List GlobalSymbol) (find : Finder) → AreEntered row find → (k : ℕ) (s : GlobalSymbol)
    → slice_get row k ≡ Some s → is_some s.address ≡ true → find (is_of row s.name) s.name ≡ Some k
number_of row find entered k s here defined =
    entered.found k s here defined (is_of row s.name) (IsOnly-entered row find entered k s here defined)

if_some : (b : Bool) (o : Option ℕ) (a : ℕ) → (if b then o else None) ≡ Some a → (b ≡ true) × (o ≡ Some a)
if_some true o a e = (refl, e)
if_some false o a e = absurd (none-some a e)

some_so : (o : Option ℕ) (a : ℕ) → o ≡ Some a → is_some o ≡ true
some_so o a e = ap is_some e

none_so : (o : Option ℕ) → is_some o ≡ true → o ≡ None → ⊥
none_so o h e = not_both (is_some o) h (ap is_some e)

-- the address of a symbol that is defined is found by its name
pub address_at-defined : (row : List GlobalSymbol) (numbers : Numbers) → AreEntered row (number_in numbers)
    → (k : ℕ) (s : GlobalSymbol) → slice_get row k ≡ Some s → is_some s.address ≡ true
    → address_at row (number_in numbers (is_of row s.name) s.name) ≡ s.address
address_at-defined row numbers entered k s here defined =
    ap (address_at row) (number_of row (number_in numbers) entered k s here defined)
    ∙ ap (λ (o : Option GlobalSymbol). option_and_then (λ t. t.address) o) here

-- what is found is the address that the first symbol gives
pub address_at-first : (row : List GlobalSymbol) (numbers : Numbers) → AreEntered row (number_in numbers)
    → (name : List ℕ)
    → address_at row (number_in numbers (is_of row name) name) ≡ first (address_by name) row
address_at-first row numbers entered name =
    let find = number_in numbers in
    let o = find (is_of row name) name in
    by_option (first (address_by name) row) (address_at row o ≡ first (address_by name) row)
    (λ none. by_option o (address_at row o ≡ first (address_by name) row)
    (λ e. ap (address_at row) e ∙ sym none)
    (λ k e.
    let d = defines_so row name k (numbering-sound numbers (is_of row name) name k e) in
    let nothing = first_none row name none k d.symbol d.here in
    let gives : address_by name d.symbol ≡ d.symbol.address =
    ap (λ (b : Bool). if b then d.symbol.address else None) ((bytes_eq-Decides d.symbol.name name).1 d.named) in
    absurd (none_so d.symbol.address d.defined (sym gives ∙ nothing))))
    (λ a e.
    let t = first_there row name a e in
    let g = if_some (bytes_eq t.symbol.name name) t.symbol.address a t.gives in
    let named : t.symbol.name ≡ name = (bytes_eq-Decides t.symbol.name name).0 g.0 in
    let own = address_at-defined row numbers entered t.at t.symbol t.here (some_so t.symbol.address a g.1) in
    ap (λ (n : List ℕ). address_at row (find (is_of row n) n)) (sym named) ∙ (own ∙ (g.1 ∙ sym e)))

-- a number is found exactly where an address is
pub number_in-address_at : (row : List GlobalSymbol) (numbers : Numbers) (name : List ℕ) →
    is_none (number_in numbers (is_of row name) name)
    ≡ not (is_some (address_at row (number_in numbers (is_of row name) name)))
number_in-address_at row numbers name =
    let o = number_in numbers (is_of row name) name in
    by_option o (is_none o ≡ not (is_some (address_at row o)))
    (λ e. ap is_none e ∙ sym (ap (λ (p : Option ℕ). not (is_some (address_at row p))) e))
    (λ k e.
    let d = defines_so row name k (numbering-sound numbers (is_of row name) name k e) in
    let there : is_some (address_at row (Some k)) ≡ true =
    ap (λ (s : Option GlobalSymbol). is_some (option_and_then (λ t. t.address) s)) d.here ∙ d.defined in
    ap is_none e ∙ sym (ap (λ (p : Option ℕ). not (is_some (address_at row p))) e ∙ ap not there))

-- a symbol that isn't defined stands behind the others
pub AreEntered-undefined : (row : List GlobalSymbol) (find : Finder) (e : GlobalSymbol) → is_some e.address ≡ false
    → AreEntered row find → AreEntered (row ++ e ∷ []) find
AreEntered-undefined row find e none entered = record {
  single = λ j k s t at_j at_k some_s some_t same.
      elim (slice_get-snoc row e j s at_j) [
        | inl here ↦ elim (slice_get-snoc row e k t at_k) [
          | inl there ↦ entered.single j k s t here there some_s some_t same
          | inr last ↦
              absurd (not_both (is_some t.address) some_t (ap (λ (x : GlobalSymbol). is_some x.address) last.1 ∙ none))
        ]
        | inr last ↦
            absurd (not_both (is_some s.address) some_s (ap (λ (x : GlobalSymbol). is_some x.address) last.1 ∙ none))
      ];
  found = λ k s at_k some_s.
      elim (slice_get-snoc row e k s at_k) [
        | inl here ↦ entered.found k s here some_s
        | inr last ↦
            absurd (not_both (is_some s.address) some_s (ap (λ (x : GlobalSymbol). is_some x.address) last.1 ∙ none))
      ];
}

AreEntered-not_found : (row : List GlobalSymbol) (find : Finder) (name : List ℕ) → AreEntered row find
    → find (is_of row name) name ≡ None → (k : ℕ) (s : GlobalSymbol) → slice_get row k ≡ Some s
    → is_some s.address ≡ true → s.name ≡ name → ⊥
AreEntered-not_found row find name entered none k s here defined same =
    none-some k
    (sym none ∙ (ap (λ (n : List ℕ). find (is_of row n) n) (sym same) ∙ number_of row find entered k s here defined))

-- one that is defined and has got a number stands behind the others
pub AreEntered-defined : (row : List GlobalSymbol) (old new : Finder) (e : GlobalSymbol) (number : ℕ)
    → number ≡ length row → old (is_of row e.name) e.name ≡ None → Grows old new e.name number → AreEntered row old
    → AreEntered (row ++ e ∷ []) new
AreEntered-defined row old new e number size none grows entered = record {
  single = λ j k s t at_j at_k some_s some_t same.
      elim (slice_get-snoc row e j s at_j) [
        | inl here ↦ elim (slice_get-snoc row e k t at_k) [
          | inl there ↦ entered.single j k s t here there some_s some_t same
          | inr last ↦ absurd
              (AreEntered-not_found row old e.name entered none j s here some_s
              (same ∙ ap (λ (x : GlobalSymbol). x.name) last.1))
        ]
        | inr last ↦ elim (slice_get-snoc row e k t at_k) [
          | inl there ↦ absurd (AreEntered-not_found row old e.name entered none k t there some_t
              (sym same ∙ ap (λ (x : GlobalSymbol). x.name) last.1))
          | inr also ↦ last.0 ∙ sym also.0
        ]
      ];
  found = λ k s at_k some_s is_right only.
      elim (slice_get-snoc row e k s at_k) [
        | inl here ↦
            grows.0 is_right s.name k (λ same. AreEntered-not_found row old e.name entered none k s here some_s same)
            (entered.found k s here some_s is_right only)
        | inr last ↦
            let at : k ≡ number = last.0 ∙ sym size in
            let name : e.name ≡ s.name = ap (λ (x : GlobalSymbol). x.name) (sym last.1) in
            ap (new is_right) (sym name)
            ∙ (grows.1 is_right (subst (λ (n : ℕ). IsOnly n is_right) at only) ∙ ap Some (sym at))
      ];
}

pub AreEntered-Keeps : (row : List GlobalSymbol) (old new : Finder) → Keeps old new → AreEntered row old
    → AreEntered row new
AreEntered-Keeps row old new keeps entered = record {
  single = entered.single;
  found = λ k s here defined is_right only. keeps is_right s.name k (entered.found k s here defined is_right only);
}

pub AreEntered-nil : (find : Finder) → AreEntered [] find
AreEntered-nil find = record {
  single = λ j k s t here. absurd (none-some s here);
  found = λ k s here. absurd (none-some s here);
}

pub address_at-nil : (o : Option ℕ) → address_at [] o ≡ None
address_at-nil None = refl
address_at-nil (Some k) = refl

-- one symbol more
pub address_at-next : (row : List GlobalSymbol) (e : GlobalSymbol) (old new : Numbers) → AreEntered row (number_in old)
    → AreEntered (row ++ e ∷ []) (number_in new) → (name : List ℕ) →
    address_at (row ++ e ∷ []) (number_in new (is_of (row ++ e ∷ []) name) name)
    ≡ option_or (address_at row (number_in old (is_of row name) name)) (address_by name e)
address_at-next row e old new before behind name =
    address_at-first (row ++ e ∷ []) new behind name
    ∙ (first_append (address_by name) row e
    ∙ ap (λ (o : Option ℕ). option_or o (address_by name e)) (sym (address_at-first row old before name)))

-- the symbols of a module that stands behind others
pub global_symbols-take_drop : (ls : List Located) (n : ℕ)
    → global_symbols ls ≡ global_symbols (take n ls) ++ global_symbols (drop n ls)
global_symbols-take_drop ls zero = refl
global_symbols-take_drop [] (suc n) = refl
global_symbols-take_drop (l ∷ ls) (suc n) =
    ap (λ (r : List GlobalSymbol). global_symbols_in l ++ r) (global_symbols-take_drop ls n)
    ∙ sym (append_assoc (global_symbols_in l) (global_symbols (take n ls)) (global_symbols (drop n ls)))

drop-used_symbols : {X : Type 0} (xs ys : List X) → drop (length xs) (xs ++ ys) ≡ ys
drop-used_symbols [] ys = refl
drop-used_symbols (x ∷ xs) ys = drop-used_symbols xs ys

take-used_symbols : {X : Type 0} (xs ys : List X) → take (length xs) (xs ++ ys) ≡ xs
take-used_symbols [] ys = refl
take-used_symbols (x ∷ xs) ys = ap (λ r. x ∷ r) (take-used_symbols xs ys)

pub global_symbols-next_module : (ls : List Located) (n count : ℕ) (l : Located)
    → drop n ls ≡ l ∷ drop (n + 1) ls → count ≡ length (global_symbols (take n ls))
    → take (length l.parts.symbols) (drop count (global_symbols ls)) ≡ global_symbols_in l
global_symbols-next_module ls n count l e size =
    let front = global_symbols (take n ls) in
    let rest = global_symbols (drop (n + 1) ls) in
    let behind : global_symbols (drop n ls) ≡ global_symbols_in l ++ rest = ap global_symbols e in
    let after : drop count (global_symbols ls) ≡ global_symbols_in l ++ rest =
    ap (λ (k : ℕ). drop k (global_symbols ls)) size
    ∙ (ap (drop (length front)) (global_symbols-take_drop ls n)
    ∙ (drop-used_symbols front (global_symbols (drop n ls)) ∙ behind)) in
    ap (take (length l.parts.symbols)) after
    ∙ (ap (λ (k : ℕ). take k (global_symbols_in l ++ rest)) (sym (length-map l.parts.symbols (global_symbol_of l)))
    ∙ take-used_symbols (global_symbols_in l) rest)

pub length-global_symbols_next : (ls : List Located) (n : ℕ) (l : Located) → take (n + 1) ls ≡ take n ls ++ l ∷ []
    → length (global_symbols (take (n + 1) ls)) ≡ length (global_symbols (take n ls)) + length l.parts.symbols
length-global_symbols_next ls n l e = ap (λ (x : List Located). length (global_symbols x)) e ∙ by (take n ls)
  where
    by : (xs : List Located)
        → length (global_symbols (xs ++ l ∷ [])) ≡ length (global_symbols xs) + length l.parts.symbols
    by [] = omega (arith, length-append (global_symbols_in l) [], length-map l.parts.symbols (global_symbol_of l))
    by (x ∷ xs) = omega (
      arith,
      by xs,
      length-append (global_symbols_in x) (global_symbols (xs ++ l ∷ [])),
      length-append (global_symbols_in x) (global_symbols xs),
    )

-- the first symbol of a module that gives a name an address
pub first-named_address : (l : Located) (name : List ℕ) (ss : List Named)
    → first (address_by name) (map (global_symbol_of l) ss) ≡ first (named_address l name) ss
first-named_address l name [] = refl
first-named_address l name (s ∷ ss) = ap (option_or (named_address l name s)) (first-named_address l name ss)

-- the next symbol of a row has been entered
pub AreEntered-next_defined : (es : List GlobalSymbol) (n count : ℕ) (e : GlobalSymbol) (old new : Numbers)
    → count ≡ n + 1
    → slice_get es n ≡ Some e →
    number_in old (is_of (take n es) e.name) e.name ≡ None → Grows (number_in old) (number_in new) e.name n
    → AreEntered (take n es) (number_in old) → AreEntered (take count es) (number_in new)
AreEntered-next_defined es n count e old new more here none grows entered =
    let size : n ≡ length (take n es) = sym (length-take_lt es n (slice_get_within es n e here)) in
    let longer : take count es ≡ take n es ++ e ∷ [] = ap (λ (k : ℕ). take k es) more ∙ take-snoc_next es n e here in
    subst (λ (row : List GlobalSymbol). AreEntered row (number_in new)) (sym longer)
    (AreEntered-defined (take n es) (number_in old) (number_in new) e n size none grows entered)

pub AreEntered-next_undefined : (es : List GlobalSymbol) (n count : ℕ) (e : GlobalSymbol) (numbers : Numbers)
    → count ≡ n + 1
    → slice_get es n ≡ Some e →
    is_some e.address ≡ false → AreEntered (take n es) (number_in numbers)
    → AreEntered (take count es) (number_in numbers)
AreEntered-next_undefined es n count e numbers more here none entered =
    let longer : take count es ≡ take n es ++ e ∷ [] = ap (λ (k : ℕ). take k es) more ∙ take-snoc_next es n e here in
    subst (λ (row : List GlobalSymbol). AreEntered row (number_in numbers)) (sym longer)
    (AreEntered-undefined (take n es) (number_in numbers) e none entered)

pub AreEntered-next : (es : List GlobalSymbol) (n count : ℕ) (e : GlobalSymbol) (old new : Numbers) → count ≡ n + 1
    → slice_get es n ≡ Some e →
    AreEntered (take n es) (number_in old) → AreEntered (take count es) (number_in new) → (name : List ℕ) →
    address_at (take count es) (number_in new (is_of (take count es) name) name)
    ≡ option_or (address_at (take n es) (number_in old (is_of (take n es) name) name)) (address_by name e)
AreEntered-next es n count e old new more here before after name =
    let longer : take count es ≡ take n es ++ e ∷ [] = ap (λ (k : ℕ). take k es) more ∙ take-snoc_next es n e here in
    ap (λ (row : List GlobalSymbol). address_at row (number_in new (is_of row name) name)) longer
    ∙ address_at-next (take n es) e old new before
    (subst (λ (row : List GlobalSymbol). AreEntered row (number_in new)) longer after) name

-- the symbol with a number, as a loop goes along the modules
rest_from : (ls : List Located) (i : ℕ) (l : Located) → i < length ls → l ≡ get_or ls i l
    → global_symbols (drop i ls) ≡ global_symbols_in l ++ global_symbols (drop (i + 1) ls)
rest_from ls i l within here =
    ap global_symbols (drop-get_or ls i l within)
    ∙ ap (λ (x : Located). global_symbols (x ∷ drop (i + 1) ls)) (sym here)

-- each symbol stands in the row
pub length-global_symbols : (ls : List Located) → length (global_symbols ls) ≡ symbols_of ls
length-global_symbols [] = refl
length-global_symbols (l ∷ ls) = omega (
  arith,
  length-global_symbols ls,
  length-append (global_symbols_in l) (global_symbols ls),
  length-map l.parts.symbols (global_symbol_of l),
  length-append l.parts.symbols (flat_map (λ (x : Located). x.parts.symbols) ls),
)

-- the symbol with a number, of the modules from one on whose symbols begin at that number or before it
pub global_symbols-from_module : (ls : List Located) (i s n : ℕ) → s ≡ symbols_of (take i ls) → s ≤ n
    → slice_get (global_symbols (drop i ls)) (n - s) ≡ slice_get (global_symbols ls) n
global_symbols-from_module ls i s n begins before =
    let size : s ≡ length (global_symbols (take i ls)) = begins ∙ sym (length-global_symbols (take i ls)) in
    let front = global_symbols (take i ls) in
    let back = global_symbols (drop i ls) in
    let far : length front ≤ n = subst (λ (k : ℕ). k ≤ n) size before in
    ap (λ (k : ℕ). slice_get back (n - k)) size
    ∙ sym (ap (λ (row : List GlobalSymbol). slice_get row n) (global_symbols-take_drop ls i)
    ∙ slice_get-append_right front back n far)

pub next_symbols : (ls : List Located) (n : ℕ) (l : Located) → n < length ls → l ≡ get_or ls n l
    → symbols_of (take (n + 1) ls) ≡ symbols_of (take n ls) + length (global_symbols_in l)
next_symbols ls n l within here =
    omega (
      arith,
      length-global_symbols (take (n + 1) ls),
      length-global_symbols (take n ls),
      length-global_symbols_next ls n l (take-next_module ls n l within here),
      length-map l.parts.symbols (global_symbol_of l),
    )

-- a further module's beginning
pub push_start : (ls : List Located) (starts : List ℕ) (i count : ℕ) → length starts ≡ i
    → count ≡ symbols_of (take i ls)
    → ((k s : ℕ) → slice_get starts k ≡ Some s → s ≡ symbols_of (take k ls))
    → (k s : ℕ) → slice_get (starts ++ count ∷ []) k ≡ Some s → s ≡ symbols_of (take k ls)
push_start ls starts i count size here before k s e = elim (slice_get-snoc starts count k s e) [
  | inl old ↦ before k s old
  | inr new ↦ new.1 ∙ (here ∙ ap (λ (m : ℕ). symbols_of (take m ls)) (sym size ∙ sym new.0))
]

pub global_symbols-get_here : (ls : List Located) (i : ℕ) (l : Located) (rest count : ℕ) (whole : Option GlobalSymbol)
    → i < length ls
    → l ≡ get_or ls i l → count ≡ length (global_symbols_in l) → rest < count →
    slice_get (global_symbols (drop i ls)) rest ≡ whole → slice_get (global_symbols_in l) rest ≡ whole
global_symbols-get_here ls i l rest count whole within here size inside e =
    sym (slice_get-append_left (global_symbols_in l) (global_symbols (drop (i + 1) ls)) rest (omega arith))
    ∙ (ap (λ (row : List GlobalSymbol). slice_get row rest) (sym (rest_from ls i l within here)) ∙ e)

pub global_symbols-get_past : (ls : List Located) (i : ℕ) (l : Located) (rest count : ℕ) (whole : Option GlobalSymbol)
    → i < length ls
    → l ≡ get_or ls i l → count ≡ length (global_symbols_in l) → count ≤ rest →
    slice_get (global_symbols (drop i ls)) rest ≡ whole
    → slice_get (global_symbols (drop (i + 1) ls)) (rest - count) ≡ whole
global_symbols-get_past ls i l rest count whole within here size past e =
    ap (λ (k : ℕ). slice_get (global_symbols (drop (i + 1) ls)) (rest - k)) size
    ∙ (sym (slice_get-append_right (global_symbols_in l) (global_symbols (drop (i + 1) ls)) rest (omega arith))
    ∙ (ap (λ (row : List GlobalSymbol). slice_get row rest) (sym (rest_from ls i l within here)) ∙ e))

pub global_symbols-get_end : (ls : List Located) (i rest : ℕ) (whole : Option GlobalSymbol) → length ls ≤ i
    → slice_get (global_symbols (drop i ls)) rest ≡ whole → whole ≡ None
global_symbols-get_end ls i rest whole past e =
    sym e ∙ ap (λ (x : List Located). slice_get (global_symbols x) rest) (drop-past_end ls i past)

-- the symbol of a module with a number
pub global_symbol-at : (l : Located) (i : ℕ) (s : Named) → slice_get l.parts.symbols i ≡ Some s
    → slice_get (global_symbols_in l) i ≡ Some (global_symbol_of l s)
global_symbol-at l i s here =
    slice_get-map (global_symbol_of l) l.parts.symbols i ∙ ap (option_map (global_symbol_of l)) here

pub global_symbols-get_of_module : (es : List GlobalSymbol) (l : Located) (c i : ℕ) (s : Named)
    → take (length l.parts.symbols) (drop c es) ≡ global_symbols_in l → slice_get l.parts.symbols i ≡ Some s
    → slice_get es (c + i) ≡ Some (global_symbol_of l s)
global_symbols-get_of_module es l c i s part here =
    slice_get-part es (global_symbols_in l) c (length l.parts.symbols) i part
    (slice_get_within (global_symbols_in l) i (global_symbol_of l s) (global_symbol-at l i s here))
    ∙ global_symbol-at l i s here
