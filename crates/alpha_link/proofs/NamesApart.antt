-- The names of good symbols differ, since they rise.
use Rattle.std.proofs.Common.{◌≡◌, ℕ, zero, suc, ◌+◌, ◌-◌, Bool, true, ◌⊎◌, inl, inr, List, [], ◌∷◌, ◌++◌, length, take}
use Rattle.std.proofs.Common.{get_or, Option, None, Some, is_some, if◌then◌else◌, refl, sym, ap, ◌∙◌, append_assoc}
use Rattle.std.proofs.Common.{arith}
use Rattle.std.specs.Prelude.{◌&&◌, IsTrue, nat_le, slice_get}
use Rattle.std.specs.Option.{option_map_or, option_or}
use Rattle.std.specs.Ordering.{nat_cmp, is_lt}
use Rattle.std.specs.declared.cmp.Ordering.{Ordering}
use Rattle.std.specs.declared.cmp.Ordering.TheVariants.{Less, Equal, Greater}
use Rattle.std.specs.Cmp.Lexicographic.{slice_cmp, nat_list_cmp_total}
use Rattle.std.proofs.lemmas.Bool.{and_parts}
use Rattle.std.proofs.lemmas.List.{append-nil, length-append}
use Rattle.std.proofs.lemmas.Option.{none-some, same_Some, slice_get_within, slice_get-get_or}
use Rattle.alpha_token.specs.Bytes.{is_label}
use Rattle.alpha_asm.specs.Layout.{first}
use Rattle.alpha_asm.proofs.NextItem.{or_none-identity}
use Rattle.alpha_link.specs.declared.header.Sizes.{Sizes}
use Rattle.alpha_link.specs.Symbols.{Named, offset_fits, comes_behind, symbol_fits, IsSymbol}
use Rattle.alpha_link.specs.Parts.{AreGood}
use Rattle.alpha_link.specs.declared.symbol.SymbolSection.{SymbolSection}
use Rattle.alpha_link.specs.declared.symbol.SymbolSection.TheVariants as sections
use Rattle.alpha_link.specs.Linked.{Located, section_address, named_address, is_defined}
use Rattle.alpha_link.proofs.AreEntered.{slice_get-snoc, slice_get-append_right}
use Rattle.alpha_link.proofs.LoopLists.{take-snoc_next}
use Rattle.alpha_link.proofs.NameAddresses.{option_or-associates, first_append}
use Rattle.alpha_link.proofs.SortedNames.{Less-not_equal}

-- all names of a list are below a name
abbrev AreBelow : List Named → List ℕ → Type 0
AreBelow ys name = (k : ℕ) (t : Named) → slice_get ys k ≡ Some t → slice_cmp nat_cmp t.name name ≡ Less

-- the last of some symbols has the highest name
abbrev LastIsHighest : List Named → Type 0
LastIsHighest ys =
    (k : ℕ) (t last : Named) → slice_get ys k ≡ Some t → slice_get ys (length ys - 1) ≡ Some last
    → (t ≡ last) ⊎ (slice_cmp nat_cmp t.name last.name ≡ Less)

is_lt-Less : (o : Ordering) → is_lt o ≡ true → o ≡ Less
is_lt-Less Less e = refl
is_lt-Less Equal e = absurd cc
is_lt-Less Greater e = absurd cc

below_next : (before : List Named) (name : List ℕ) → LastIsHighest before → comes_behind before name ≡ true
    → AreBelow before name
below_next before name rises behind k t here =
    let n = length before - 1 in
    let some = slice_get_within before k t here in
    let last = get_or before n t in
    let at : slice_get before n ≡ Some last = slice_get-get_or before n t (omega (arith, some)) in
    let less : slice_cmp nat_cmp last.name name ≡ Less =
    is_lt-Less (slice_cmp nat_cmp last.name name)
    (sym (ap (λ (o : Option Named). option_map_or (λ s. is_lt (slice_cmp nat_cmp s.name name)) o true) at) ∙ behind) in
    elim (rises k t last here at) [
      | inl e ↦ ap (λ (s : Named). slice_cmp nat_cmp s.name name) e ∙ less
      | inr l ↦ nat_list_cmp_total.trans t.name last.name name l less
    ]

last_is : (before : List Named) (s last : Named)
    → slice_get (before ++ s ∷ []) (length (before ++ s ∷ []) - 1) ≡ Some last → last ≡ s
last_is before s last e =
    let n : length (before ++ s ∷ []) - 1 ≡ length before = omega (arith, length-append before (s ∷ [])) in
    let none : length before - length before ≡ 0 = omega arith in
    let at : slice_get (before ++ s ∷ []) (length before) ≡ Some s =
    slice_get-append_right before (s ∷ []) (length before) (omega arith) ∙ ap (slice_get (s ∷ [])) none in
    same_Some last s (sym e ∙ (ap (slice_get (before ++ s ∷ [])) n ∙ at))

rises_next : (before : List Named) (s : Named) → AreBelow before s.name → LastIsHighest (before ++ s ∷ [])
rises_next before s below k t last here at =
    let end : last ≡ s = last_is before s last at in
    elim (slice_get-snoc before s k t here) [
      | inl there ↦ inr (ap (λ (l : Named). slice_cmp nat_cmp t.name l.name) end ∙ below k t there)
      | inr same ↦ inl (same.1 ∙ sym end)
    ]

behind_so : (z : Sizes) (before : List Named) (s : Named) → IsTrue (symbol_fits z before s)
    → comes_behind before s.name ≡ true
unfolding symbol_fits
behind_so z before s fits =
    let label = is_label s.name in
    let offset = offset_fits z s.section s.offset in
    let behind = comes_behind before s.name in
    (and_parts offset behind (and_parts label (offset && behind)
    (and_parts (nat_le (length s.name) 1024) (label && (offset && behind)) fits).1).1).1

-- the names before that of a symbol are below it
AreBelow-earlier_names : (z : Sizes) (before xs : List Named) → AreGood (IsSymbol z) before xs → LastIsHighest before
    → (i : ℕ) (s : Named)
    → slice_get xs i ≡ Some s → AreBelow (before ++ take i xs) s.name
AreBelow-earlier_names z before [] good rises i s here = absurd (none-some s here)
AreBelow-earlier_names z before (x ∷ xs) good rises zero s here = λ k t there.
    let same : x ≡ s = same_Some x s here in
    let below = below_next before x.name rises (behind_so z before x good.0.fits) k t
    (ap (λ (l : List Named). slice_get l k) (sym (append-nil before)) ∙ there) in
    ap (λ (n : Named). slice_cmp nat_cmp t.name n.name) (sym same) ∙ below
AreBelow-earlier_names z before (x ∷ xs) good rises (suc i) s here =
    let below = below_next before x.name rises (behind_so z before x good.0.fits) in
    let more = AreBelow-earlier_names z (before ++ x ∷ []) xs good.1 (rises_next before x below) i s here in
    λ k t there. more k t (ap (λ (l : List Named). slice_get l k) (append_assoc before (x ∷ []) (take i xs)) ∙ there)

none_below : (l : Located) (name : List ℕ) (ys : List Named) → AreBelow ys name → first (named_address l name) ys ≡ None
none_below l name [] below = refl
none_below l name (t ∷ ys) below =
    ap (λ (b : Bool).
    option_or (if b then section_address l t.section t.offset else None) (first (named_address l name) ys))
    (Less-not_equal t.name name (below 0 t refl))
    ∙ none_below l name ys (λ k u e. below (suc k) u e)

-- none of a module's symbols before one has its name
own_new : (l : Located) (z : Sizes) (i : ℕ) (s : Named) → AreGood (IsSymbol z) [] l.parts.symbols
    → slice_get l.parts.symbols i ≡ Some s
    → first (named_address l s.name) (take i l.parts.symbols) ≡ None
own_new l z i s good here =
    none_below l s.name (take i l.parts.symbols)
    (AreBelow-earlier_names z [] l.parts.symbols good (λ k t last e. absurd (none-some t e)) i s here)

defined_so : (l : Located) (section : SymbolSection) (offset : ℕ)
    → is_defined section ≡ is_some (section_address l section offset)
defined_so l sections.Code offset = refl
defined_so l sections.Data offset = refl
defined_so l sections.Undefined offset = refl

-- whether a symbol of a module is defined before, as it is looked up behind those of the module before it
pub find-IsSymbol : (l : Located) (z : Sizes) (i : ℕ) (s : Named) (old find : List ℕ → Option ℕ)
    → AreGood (IsSymbol z) [] l.parts.symbols → slice_get l.parts.symbols i ≡ Some s
    → find s.name ≡ option_or (old s.name) (first (named_address l s.name) (take i l.parts.symbols))
    → (is_defined s.section && is_some (old s.name))
    ≡ (is_some (section_address l s.section s.offset) && is_some (find s.name))
find-IsSymbol l z i s old find good here found =
    let same : old s.name ≡ find s.name =
    sym (found ∙ (ap (option_or (old s.name)) (own_new l z i s good here) ∙ or_none-identity (old s.name))) in
    ap (λ (b : Bool). b && is_some (old s.name)) (defined_so l s.section s.offset)
    ∙ ap (λ (o : Option ℕ). is_some (section_address l s.section s.offset) && is_some o) same

-- what is found behind one symbol more
pub find-next_symbol : (l : Located) (name : List ℕ) (i : ℕ) (s : Named) (old find new : Option ℕ)
    → slice_get l.parts.symbols i ≡ Some s → new ≡ option_or find (named_address l name s)
    → find ≡ option_or old (first (named_address l name) (take i l.parts.symbols))
    → new ≡ option_or old (first (named_address l name) (take (i + 1) l.parts.symbols))
find-next_symbol l name i s old find new here e found =
    let f = named_address l name in
    let ss = l.parts.symbols in
    e ∙ (ap (λ (o : Option ℕ). option_or o (f s)) found ∙ (option_or-associates old (first f (take i ss)) (f s)
    ∙ ap (option_or old) (sym (first_append f (take i ss) s) ∙ ap (first f) (sym (take-snoc_next ss i s here)))))
