-- Symbols, both ways.
use Rattle.std.proofs.Common.{◌≡◌, ℕ, zero, suc, ◌+◌, ◌-◌, ◌^◌, ◌<◌, ◌≤◌, Bool, true, false, ◌&&◌, nat_lt, List, []}
use Rattle.std.proofs.Common.{◌∷◌, ◌++◌, length, take, drop, slice_index, Option, None, Some, refl, sym, ap, subst, ◌∙◌}
use Rattle.std.proofs.Common.{append_assoc, arith}
use Rattle.std.specs.Prelude.{Ok, All}
use Rattle.std.proofs.lemmas.List.Elements.{All-nil, All-cons}
use Rattle.alpha_link.specs.Parts.{AreGood}
use Rattle.std.specs.Option.{option_map}
use Rattle.std.proofs.lemmas.Bool.{ltb-false, le-ltb, leb-true}
use Rattle.std.proofs.lemmas.List.{length-append, length-take-le, length-drop, drop-drop, take_at, drop_at}
use Rattle.std.proofs.lemmas.List.{take-append-drop}
use Rattle.alpha_image.specs.Layout.{longword}
use Rattle.alpha_image.specs.Reading.{longword_at}
use Rattle.alpha_image.proofs.LittleEndianNumbers.{IsBytes, IsBytes-drop, longword_at-lt, longword_at-front}
use Rattle.alpha_image.proofs.LittleEndianNumbers.{drop-longword}
use Rattle.alpha_link.specs.declared.fault.ModuleFault.TheVariants as faults
use Rattle.alpha_link.specs.declared.header.Sizes.{Sizes}
use Rattle.alpha_link.specs.declared.symbol.SymbolHeader.{SymbolHeader}
use Rattle.alpha_link.specs.declared.symbol.SymbolSection.{SymbolSection}
use Rattle.alpha_link.specs.declared.symbol.SymbolSection.TheVariants.{Code, Data, Undefined}
use Rattle.alpha_link.specs.Bytes.{halfword, halfword_at}
use Rattle.alpha_link.specs.Reading.{Read, and_then, taken}
use Rattle.alpha_link.specs.Symbols.{Named, section_of, section_number, symbol_fits, symbol_header_at, made_symbol}
use Rattle.alpha_link.specs.Symbols.{good_symbol}
use Rattle.alpha_link.specs.Symbols.{symbol_at, symbol_bytes, IsSymbol}
use Rattle.alpha_link.specs.Listed.{symbol_from}
use Rattle.alpha_link.proofs.ReadingResults.{bind_ok, gave-injective, pair-injective, unless_err, cond-Ok, taken_ok}
use Rattle.alpha_link.proofs.ItemLists.{IsFormat}
use Rattle.alpha_link.proofs.TwoByteNumbers.{halfword_at-front, drop-halfword, first_byte}

section_is : (n : ℕ) (s : SymbolSection) → section_of n ≡ Some s → n ≡ section_number s
section_is zero s e = let same : Code ≡ s = cc in ap section_number same
section_is (suc zero) s e = let same : Data ≡ s = cc in ap section_number same
section_is (suc (suc zero)) s e = let same : Undefined ≡ s = cc in ap section_number same
section_is (suc (suc (suc n))) s e = absurd cc

section_again : (s : SymbolSection) → section_of (section_number s) ≡ Some s
section_again Code = refl
section_again Data = refl
section_again Undefined = refl

abbrev front_of : List ℕ → SymbolHeader
front_of bytes = record { section = slice_index bytes 0; size = halfword_at 1 bytes; offset = longword_at 3 bytes }

good_symbol_ok : (z : Sizes) (before : List Named) (o : Option Named) (s : Named) (behind rest : List ℕ)
    → good_symbol z before o behind ≡ Ok (s, rest) → (o ≡ Some s) × (symbol_fits z before s ≡ true) × (behind ≡ rest)
good_symbol_ok z before None s behind rest e = absurd cc
good_symbol_ok z before (Some t) s behind rest e =
    let a = cond-Ok (symbol_fits z before t) (faults.Symbol (length before)) (t, behind) (s, rest) e in
    let b = pair-injective (t, behind) (s, rest) a.1 in
    (ap Some b.0, ap (symbol_fits z before) (sym b.0) ∙ a.0, b.1)

made_is : (front : SymbolHeader) (name : List ℕ) (o : Option SymbolSection) (s : Named)
    → option_map (made_symbol front name) o ≡ Some s
    → (t : SymbolSection) × (o ≡ Some t) × (made_symbol front name t ≡ s)
made_is front name None s e = absurd cc
made_is front name (Some t) s e = (t, refl, cc)

-- the bytes of a front, and those behind it
front_bytes : (bytes : List ℕ) → IsBytes bytes → 7 ≤ length bytes
    → bytes ≡ slice_index bytes 0 ∷ (halfword (halfword_at 1 bytes) ++ (longword (longword_at 3 bytes) ++ drop 7 bytes))
front_bytes bytes fits long =
    first_byte bytes (omega arith)
    ∙ ap (λ (t : List ℕ). slice_index bytes 0 ∷ t) (drop-halfword bytes 1 3 fits (omega arith) refl
    ∙ ap (λ (t : List ℕ). halfword (halfword_at 1 bytes) ++ t) (drop-longword bytes 3 7 fits long refl))

append_assoc-behind_byte : (b : ℕ) (h l name rest : List ℕ)
    → b ∷ (h ++ (l ++ (name ++ rest))) ≡ (b ∷ (h ++ (l ++ name))) ++ rest
append_assoc-behind_byte b h l name rest = ap (λ (t : List ℕ). b ∷ t) (simp append_assoc)

-- the bytes of what was made of a front and a name
spelled_so : (bytes name rest : List ℕ) (t : SymbolSection) → IsBytes bytes → 7 ≤ length bytes
    → section_of (slice_index bytes 0) ≡ Some t → length name ≡ halfword_at 1 bytes → drop 7 bytes ≡ name ++ rest
    → bytes ≡ symbol_bytes (made_symbol (front_of bytes) name t) ++ rest
unfolding symbol_bytes
spelled_so bytes name rest t fits long section size behind =
    front_bytes bytes fits long
    ∙ (ap (λ (b : ℕ). b ∷ (halfword (halfword_at 1 bytes) ++ (longword (longword_at 3 bytes) ++ drop 7 bytes)))
    (section_is (slice_index bytes 0) t section)
    ∙ (ap (λ (n : ℕ). section_number t ∷ (halfword n ++ (longword (longword_at 3 bytes) ++ drop 7 bytes))) (sym size)
    ∙ (ap (λ (r : List ℕ). section_number t ∷ (halfword (length name) ++ (longword (longword_at 3 bytes) ++ r))) behind
    ∙ append_assoc-behind_byte (section_number t) (halfword (length name)) (longword (longword_at 3 bytes)) name rest)))

abbrev behind_name : Sizes → List Named → SymbolHeader → List ℕ × List ℕ → Read Named
behind_name z before front name =
    good_symbol z before (option_map (made_symbol front name.0) (section_of front.section)) name.1

symbol_takes : (total : ℕ) (z : Sizes) (before : List Named) (bytes : List ℕ) (s : Named) (rest : List ℕ)
    → IsBytes bytes → symbol_at total z before bytes ≡ Ok (s, rest)
    → IsSymbol z before s × (bytes ≡ symbol_bytes s ++ rest) × IsBytes rest
unfolding symbol_at
symbol_takes total z before bytes s rest fits e =
    let a = bind_ok (symbol_header_at total bytes)
    (λ (front : SymbolHeader × List ℕ). and_then (taken total front.0.size front.1) (behind_name z before front.0))
    (s, rest) e in
    let b = unless_err (nat_lt (length bytes) 7) (faults.Cut total) (Ok (front_of bytes, drop 7 bytes)) a.0 a.1 in
    let long : 7 ≤ length bytes = ltb-false (length bytes) 7 b.0 in
    let front = gave-injective (front_of bytes, drop 7 bytes) a.0 b.1 in
    let c : and_then (taken total (halfword_at 1 bytes) (drop 7 bytes)) (behind_name z before (front_of bytes))
    ≡ Ok (s, rest) =
    ap (λ (f : SymbolHeader × List ℕ). and_then (taken total f.0.size f.1) (behind_name z before f.0)) front ∙ a.2 in
    named_takes total z before bytes s rest fits long c
  where
    named_takes : (total : ℕ) (z : Sizes) (before : List Named) (bytes : List ℕ) (s : Named) (rest : List ℕ)
        → IsBytes bytes → 7 ≤ length bytes
        → and_then (taken total (halfword_at 1 bytes) (drop 7 bytes)) (behind_name z before (front_of bytes))
        ≡ Ok (s, rest)
        → IsSymbol z before s × (bytes ≡ symbol_bytes s ++ rest) × IsBytes rest
    named_takes total z before bytes s rest fits long e =
        let size = halfword_at 1 bytes in
        let behind = drop 7 bytes in
        let a = bind_ok (taken total size behind) (behind_name z before (front_of bytes)) (s, rest) e in
        let b = taken_ok total size behind a.0 a.1 in
        let c : behind_name z before (front_of bytes) (take size behind, drop size behind) ≡ Ok (s, rest) =
        ap (λ (n : List ℕ × List ℕ). behind_name z before (front_of bytes) n) b.1 ∙ a.2 in
        let name = take size behind in
        let d =
        good_symbol_ok z before (option_map (made_symbol (front_of bytes) name) (section_of (slice_index bytes 0))) s
        (drop size behind) rest c in
        let m = made_is (front_of bytes) name (section_of (slice_index bytes 0)) s d.0 in
        let count : length name ≡ size = length-take-le size behind b.0 in
        let cut : behind ≡ name ++ rest = sym (take-append-drop size behind) ∙ ap (λ (t : List ℕ). name ++ t) d.2 in
        let spelled = spelled_so bytes name rest m.0 fits long m.1 count cut in (
          record { fits = d.1; offset = subst (λ (t : Named). t.offset < 2 ^ 32) m.2 (longword_at-lt 3 bytes fits) },
          spelled ∙ ap (λ (t : Named). symbol_bytes t ++ rest) m.2,
          subst IsBytes d.2 (IsBytes-drop size behind (IsBytes-drop 7 bytes fits)),
        )

abbrev front_like : Named → SymbolHeader
front_like s = record { section = section_number s.section; size = length s.name; offset = s.offset }

length-symbol_bytes : (s : Named) → length (symbol_bytes s) ≡ 7 + length s.name
unfolding symbol_bytes halfword longword
length-symbol_bytes s = omega arith

pub symbol_fits-name_bound : (z : Sizes) (before : List Named) (s : Named) → symbol_fits z before s ≡ true
    → length s.name ≤ 1024
unfolding symbol_fits
symbol_fits-name_bound z before s e = leb-true (length s.name) 1024 (first_true _ _ e)
  where
    first_true : (a b : Bool) → (a && b) ≡ true → a ≡ true
    first_true true b e = refl
    first_true false b e = absurd cc

front_again : (total : ℕ) (s : Named) (rest : List ℕ) → length s.name ≤ 1024 → s.offset < 2 ^ 32
    → symbol_header_at total (symbol_bytes s ++ rest) ≡ Ok (front_like s, s.name ++ rest)
unfolding symbol_bytes halfword longword
front_again total s rest short small =
    let t = symbol_bytes s ++ rest in
    let long : nat_lt (length t) 7 ≡ false =
    le-ltb _ _ (omega (arith, length-append (symbol_bytes s) rest, length-symbol_bytes s)) in
    let size : halfword_at 1 t ≡ length s.name = halfword_at-front t 1 (length s.name) _ refl (omega arith) in
    let offset : longword_at 3 t ≡ s.offset = longword_at-front t 3 s.offset _ refl small in
    rw (long, size, offset) refl

symbol_again : (total : ℕ) (z : Sizes) (before : List Named) (s : Named) (rest : List ℕ) → IsSymbol z before s
    → symbol_at total z before (symbol_bytes s ++ rest) ≡ Ok (s, rest)
unfolding symbol_at
symbol_again total z before s rest good =
    let front = front_again total s rest (symbol_fits-name_bound z before s good.fits) good.offset in
    let long : nat_lt (length (s.name ++ rest)) (length s.name) ≡ false =
    le-ltb _ _ (omega (arith, length-append s.name rest)) in
    let name : take (length s.name) (s.name ++ rest) ≡ s.name = take_at s.name rest (length s.name) refl in
    let back : drop (length s.name) (s.name ++ rest) ≡ rest = drop_at s.name rest (length s.name) refl in
    rw (front, long, name, back, section_again s.section, good.fits) refl

pub symbol_format : (total : ℕ) (z : Sizes) → IsFormat (symbol_at total z) symbol_bytes (IsSymbol z)
symbol_format total z = record { takes = symbol_takes total z; again = symbol_again total z }

-- the names of good symbols are short
pub short_names : (z : Sizes) (before xs : List Named) → AreGood (IsSymbol z) before xs
    → All (λ (s : Named). length s.name ≤ 1024) xs
short_names z before [] good = All-nil (λ (s : Named). length s.name ≤ 1024)
short_names z before (s ∷ xs) good =
    All-cons (λ (s : Named). length s.name ≤ 1024) s xs (symbol_fits-name_bound z before s good.0.fits)
    (short_names z (before ++ s ∷ []) xs good.1)

-- a symbol that is read stands at the front of the bytes
pub symbol_from-front : (total : ℕ) (z : Sizes) (before : List Named) (bytes : List ℕ) (s : Named) (rest : List ℕ)
    → symbol_at total z before bytes ≡ Ok (s, rest)
    → (symbol_from bytes ≡ s) × ((rest ≡ drop (7 + length s.name) bytes) × (7 + length s.name ≤ length bytes))
unfolding symbol_at symbol_from
symbol_from-front total z before bytes s rest e =
    let a = bind_ok (symbol_header_at total bytes)
    (λ (front : SymbolHeader × List ℕ). and_then (taken total front.0.size front.1) (behind_name z before front.0))
    (s, rest) e in
    let b = unless_err (nat_lt (length bytes) 7) (faults.Cut total) (Ok (front_of bytes, drop 7 bytes)) a.0 a.1 in
    let long : 7 ≤ length bytes = ltb-false (length bytes) 7 b.0 in
    let front = gave-injective (front_of bytes, drop 7 bytes) a.0 b.1 in
    let size = halfword_at 1 bytes in
    let behind = drop 7 bytes in
    let name = take size behind in
    let f : and_then (taken total size behind) (behind_name z before (front_of bytes)) ≡ Ok (s, rest) =
    ap (λ (f : SymbolHeader × List ℕ). and_then (taken total f.0.size f.1) (behind_name z before f.0)) front ∙ a.2 in
    let g = bind_ok (taken total size behind) (behind_name z before (front_of bytes)) (s, rest) f in
    let h = taken_ok total size behind g.0 g.1 in
    let j : behind_name z before (front_of bytes) (name, drop size behind) ≡ Ok (s, rest) =
    ap (λ (n : List ℕ × List ℕ). behind_name z before (front_of bytes) n) h.1 ∙ g.2 in
    let d = good_symbol_ok z before
    (option_map (made_symbol (front_of bytes) name) (section_of (slice_index bytes 0))) s (drop size behind) rest j in
    let m = made_is (front_of bytes) name (section_of (slice_index bytes 0)) s d.0 in
    let count : length s.name ≡ size = ap (λ (t : Named). length t.name) (sym m.2) ∙ length-take-le size behind h.0 in (
      rw (b.0, m.1) m.2,
      (
        sym d.2 ∙ (drop-drop size 7 bytes ∙ ap (λ (k : ℕ). drop (7 + k) bytes) (sym count)),
        omega (arith, h.0, count, long, length-drop 7 bytes),
      ),
    )

-- where the bytes behind a symbol begin
pub place_next : (bytes rest behind : List ℕ) (m : ℕ) → rest ≡ drop (length bytes - length rest) bytes
    → length rest ≤ length bytes → m ≤ length rest → behind ≡ drop m rest
    → (behind ≡ drop (length bytes - length behind) bytes) × (length behind ≤ length bytes)
place_next bytes rest behind m place below fits e =
    let b = length bytes - length rest in
    let size : length behind ≡ length rest - m = ap length e ∙ length-drop m rest in
    let at : b + m ≡ length bytes - length behind = omega (arith, size, below, fits) in
    (e ∙ (ap (drop m) place ∙ (drop-drop m b bytes ∙ ap (λ (k : ℕ). drop k bytes) at)), omega (arith, size, below))
