-- Whole modules, both ways.
use Rattle.std.proofs.Common.{◌≡◌, ℕ, ◌<◌, ◌≤◌, false, nat_lt, List, [], ◌∷◌, ◌++◌, length, take, drop, refl, sym, ap}
use Rattle.std.proofs.Common.{subst, ◌∙◌, ⊎_elim, arith}
use Rattle.std.specs.Prelude.{Ok}
use Rattle.std.specs.List.{flat_map, All}
use Rattle.std.proofs.lemmas.Bool.{le-ltb, cases_lt}
use Rattle.std.proofs.lemmas.List.{append-nil, get_or_past, length-append, length-take-le, take_at, drop_at}
use Rattle.std.proofs.lemmas.List.{take-append-drop}
use Rattle.std.proofs.lemmas.List.Elements.{All-from_get_or, All-get_or}
use Rattle.alpha_words.specs.declared.Level.TheVariants.{One}
use Rattle.alpha_image.specs.Layout.{longword}
use Rattle.alpha_image.specs.Parts.{IsByte, IsCodeWord}
use Rattle.alpha_image.proofs.LittleEndianNumbers.{IsBytes, IsBytes-drop, IsBytes-take}
use Rattle.alpha_link.specs.declared.header.Sizes.{Sizes}
use Rattle.alpha_link.specs.declared.relocation.Relocation.{Relocation}
use Rattle.alpha_link.specs.Reading.{Read, and_then, taken, items_at}
use Rattle.alpha_link.specs.Header.{header_at, header_bytes}
use Rattle.alpha_link.specs.Symbols.{Named, symbol_at, symbol_bytes, IsSymbol}
use Rattle.alpha_link.specs.Relocations.{relocation_at, relocation_bytes, IsRelocation, body}
use Rattle.alpha_link.specs.Parts.{ModuleParts, sizes_of, body_of, AreGood, IsModule}
use Rattle.alpha_link.specs.Spelled.{words_at, ended, parts, relocated_at, named_at, filled_at, coded_at, module_at}
use Rattle.alpha_link.specs.Spelled.{spelling}
use Rattle.alpha_link.proofs.ReadingResults.{bind_ok, taken_ok, gave-injective}
use Rattle.alpha_link.proofs.ItemLists.{items_take, items_again}
use Rattle.alpha_link.proofs.HeaderBytes.{AreSizes, header_takes, header_again}
use Rattle.alpha_link.proofs.WordBytes.{words_take, words_again}
use Rattle.alpha_link.proofs.SymbolBytes.{symbol_format}
use Rattle.alpha_link.proofs.RelocationBytes.{relocation_format}

-- parts behind sizes are good, and these bytes spell them
pub record AreSpelled (z : Sizes) (m : ModuleParts) (rest : List ℕ) : Type 0 where
  pub sizes : sizes_of m ≡ z
  pub words : All (IsCodeWord One) m.words
  pub bytes : IsBytes m.bytes
  pub symbols : AreGood (IsSymbol z) [] m.symbols
  pub relocations : AreGood (IsRelocation z (body_of m)) [] m.relocations
  pub spelled : rest
      ≡ flat_map longword m.words
      ++ (m.bytes ++ (flat_map symbol_bytes m.symbols ++ flat_map relocation_bytes m.relocations))

ended_ok : (total : ℕ) (m n : ModuleParts) (rest : List ℕ) → ended total m rest ≡ Ok n → (m ≡ n) × (rest ≡ [])
ended_ok total m n [] e = (gave-injective m n e, refl)
ended_ok total m n (b ∷ rest) e = absurd cc

pub bytes_of_all : (bytes : List ℕ) → All IsByte bytes → IsBytes bytes
bytes_of_all bytes all i =
    ⊎_elim
    (λ (h : i < length bytes). All-get_or IsByte bytes i 0 h all)
    (λ (h : length bytes ≤ i). rw (get_or_past bytes i 0 h) (omega arith))
    (cases_lt i (length bytes))

-- what was read behind the data
pub record AreRelocated (z : Sizes) (words bytes : List ℕ) (symbols : List Named) (m : ModuleParts)
    (rest : List ℕ) : Type 0 where
  pub relocations : List Relocation
  pub count : length relocations ≡ z.relocations
  pub good : AreGood (IsRelocation z (body words bytes)) [] relocations
  pub spelled : rest ≡ flat_map relocation_bytes relocations
  pub whole : parts z words bytes symbols relocations ≡ m

relocated_take : (total : ℕ) (z : Sizes) (words bytes : List ℕ) (symbols : List Named) (m : ModuleParts) (rest : List ℕ)
    → IsBytes rest → relocated_at total z words bytes symbols rest ≡ Ok m → AreRelocated z words bytes symbols m rest
relocated_take total z words bytes symbols m rest fits e =
    let read = relocation_at total z (body words bytes) in
    let a = bind_ok (items_at read z.relocations [] rest)
    (λ (x : List Relocation × List ℕ). ended total (parts z words bytes symbols x.0) x.1) m e in
    let t = items_take read relocation_bytes (IsRelocation z (body words bytes))
    (relocation_format total z (body words bytes)) z.relocations [] rest a.0.0 a.0.1 fits a.1 in
    let b = ended_ok total (parts z words bytes symbols a.0.0) m a.0.1 a.2 in
    record {
      relocations = t.items;
      count = t.count;
      good = t.good;
      spelled =
          t.spelled
          ∙ (ap (λ (r : List ℕ). flat_map relocation_bytes t.items ++ r) b.1
          ∙ append-nil (flat_map relocation_bytes t.items));
      whole = ap (λ (rs : List Relocation). parts z words bytes symbols rs) (sym t.whole) ∙ b.0;
    }

pub record AreNamed (z : Sizes) (words bytes : List ℕ) (m : ModuleParts) (rest : List ℕ) : Type 0 where
  pub symbols : List Named
  pub count : length symbols ≡ z.symbols
  pub good : AreGood (IsSymbol z) [] symbols
  pub unread : List ℕ
  pub later : AreRelocated z words bytes symbols m unread
  pub spelled : rest ≡ flat_map symbol_bytes symbols ++ unread

named_take : (total : ℕ) (z : Sizes) (words bytes : List ℕ) (m : ModuleParts) (rest : List ℕ) → IsBytes rest
    → named_at total z words bytes rest ≡ Ok m → AreNamed z words bytes m rest
named_take total z words bytes m rest fits e =
    let read = symbol_at total z in
    let a = bind_ok (items_at read z.symbols [] rest)
    (λ (x : List Named × List ℕ). relocated_at total z words bytes x.0 x.1) m e in
    let t = items_take read symbol_bytes (IsSymbol z) (symbol_format total z) z.symbols [] rest a.0.0 a.0.1 fits a.1 in
    let last : relocated_at total z words bytes t.items a.0.1 ≡ Ok m =
    ap (λ (xs : List Named). relocated_at total z words bytes xs a.0.1) (sym t.whole) ∙ a.2 in
    record {
      symbols = t.items;
      count = t.count;
      good = t.good;
      unread = a.0.1;
      later = relocated_take total z words bytes t.items m a.0.1 t.fits last;
      spelled = t.spelled;
    }

pub record AreFilled (z : Sizes) (words : List ℕ) (m : ModuleParts) (rest : List ℕ) : Type 0 where
  pub bytes : List ℕ
  pub count : length bytes ≡ z.filled
  pub fits : IsBytes bytes
  pub unread : List ℕ
  pub later : AreNamed z words bytes m unread
  pub spelled : rest ≡ bytes ++ unread

filled_take : (total : ℕ) (z : Sizes) (words : List ℕ) (m : ModuleParts) (rest : List ℕ) → IsBytes rest
    → filled_at total z words rest ≡ Ok m → AreFilled z words m rest
filled_take total z words m rest fits e =
    let a = bind_ok (taken total z.filled rest) (λ (x : List ℕ × List ℕ). named_at total z words x.0 x.1) m e in
    let b = taken_ok total z.filled rest a.0 a.1 in
    let last : named_at total z words (take z.filled rest) (drop z.filled rest) ≡ Ok m =
    ap (λ (x : List ℕ × List ℕ). named_at total z words x.0 x.1) b.1 ∙ a.2 in
    record {
      bytes = take z.filled rest;
      count = length-take-le z.filled rest b.0;
      fits = IsBytes-take z.filled rest fits;
      unread = drop z.filled rest;
      later =
          named_take total z words (take z.filled rest) m (drop z.filled rest) (IsBytes-drop z.filled rest fits) last;
      spelled = sym (take-append-drop z.filled rest);
    }

same_sizes : (z : Sizes) (a b c d : ℕ) → a ≡ z.words → b ≡ z.filled → c ≡ z.symbols → d ≡ z.relocations
    → record { words = a; filled = b; zeroed = z.zeroed; symbols = c; relocations = d } ≡ z
same_sizes z a b c d p q r s = rw (p, q, r, s) refl

coded_take : (total : ℕ) (z : Sizes) (m : ModuleParts) (rest : List ℕ) → IsBytes rest → coded_at total z rest ≡ Ok m
    → AreSpelled z m rest
coded_take total z m rest fits e =
    let a = bind_ok (words_at total z.words rest) (λ (x : List ℕ × List ℕ). filled_at total z x.0 x.1) m e in
    let w = words_take total z.words rest a.0.0 a.0.1 fits a.1 in
    let f = filled_take total z a.0.0 m a.0.1 w.fits a.2 in
    let n = f.later in
    let r = n.later in
    subst (λ (p : ModuleParts). AreSpelled z p rest) r.whole (record {
      sizes = same_sizes z _ _ _ _ w.count f.count n.count r.count;
      words = w.good;
      bytes = f.fits;
      symbols = n.good;
      relocations = r.good;
      spelled =
          w.spelled ∙ ap (λ (t : List ℕ). flat_map longword a.0.0 ++ t) (f.spelled ∙ ap (λ (t : List ℕ). f.bytes ++ t)
          (n.spelled ∙ ap (λ (t : List ℕ). flat_map symbol_bytes n.symbols ++ t) r.spelled));
    })

module_of : (z : Sizes) (m : ModuleParts) (rest : List ℕ) → AreSizes z → AreSpelled z m rest → IsModule m
module_of z m rest sizes s =
    let fit : AreSizes (sizes_of m) = subst AreSizes (sym s.sizes) sizes in
    record {
      few = fit.words;
      size = fit.size;
      words = s.words;
      bytes = All-from_get_or IsByte m.bytes 0 (λ k h. s.bytes k);
      symbols = subst (λ (y : Sizes). AreGood (IsSymbol y) [] m.symbols) (sym s.sizes) s.symbols;
      symbol_count = fit.symbols;
      relocations =
          subst (λ (y : Sizes). AreGood (IsRelocation y (body_of m)) [] m.relocations) (sym s.sizes) s.relocations;
      relocation_count = fit.relocations;
    }

pub module_takes : (bytes : List ℕ) (m : ModuleParts) → IsBytes bytes → module_at bytes ≡ Ok m
    → IsModule m × (bytes ≡ spelling m)
unfolding module_at spelling
module_takes bytes m fits e =
    let a = bind_ok (header_at bytes) (λ (z : Sizes × List ℕ). coded_at (length bytes) z.0 z.1) m e in
    let h = header_takes bytes a.0.0 a.0.1 fits a.1 in
    let s = coded_take (length bytes) a.0.0 m a.0.1 h.2 a.2 in (
      module_of a.0.0 m a.0.1 h.0 s,
      h.1
          ∙ (ap (λ (t : List ℕ). header_bytes a.0.0 ++ t) s.spelled
          ∙ ap (λ (z : Sizes). header_bytes z ++ (flat_map longword m.words
          ++ (m.bytes ++ (flat_map symbol_bytes m.symbols ++ flat_map relocation_bytes m.relocations)))) (sym s.sizes)),
    )

relocated_again : (total : ℕ) (m : ModuleParts) → IsModule m
    → relocated_at total (sizes_of m) m.words m.bytes m.symbols (flat_map relocation_bytes m.relocations) ≡ Ok m
relocated_again total m good =
    let read = relocation_at total (sizes_of m) (body_of m) in
    let here = ap (λ (t : List ℕ). items_at read (length m.relocations) [] t)
    (sym (append-nil (flat_map relocation_bytes m.relocations)))
    ∙ items_again read relocation_bytes (IsRelocation (sizes_of m) (body_of m))
    (relocation_format total (sizes_of m) (body_of m)) [] m.relocations [] good.relocations in
    ap (λ (r : Read (List Relocation)).
    and_then r (λ x. ended total (parts (sizes_of m) m.words m.bytes m.symbols x.0) x.1))
    here

named_again : (total : ℕ) (m : ModuleParts) → IsModule m
    → named_at total (sizes_of m) m.words m.bytes
    (flat_map symbol_bytes m.symbols ++ flat_map relocation_bytes m.relocations) ≡ Ok m
named_again total m good =
    let read = symbol_at total (sizes_of m) in
    let here = items_again read symbol_bytes (IsSymbol (sizes_of m)) (symbol_format total (sizes_of m)) [] m.symbols
    (flat_map relocation_bytes m.relocations) good.symbols in
    ap (λ (r : Read (List Named)). and_then r (λ x. relocated_at total (sizes_of m) m.words m.bytes x.0 x.1)) here
    ∙ relocated_again total m good

filled_again : (total : ℕ) (m : ModuleParts) → IsModule m
    → filled_at total (sizes_of m) m.words
    (m.bytes ++ (flat_map symbol_bytes m.symbols ++ flat_map relocation_bytes m.relocations)) ≡ Ok m
filled_again total m good =
    let behind = flat_map symbol_bytes m.symbols ++ flat_map relocation_bytes m.relocations in
    let long : nat_lt (length (m.bytes ++ behind)) (length m.bytes) ≡ false =
    le-ltb _ _ (omega (arith, length-append m.bytes behind)) in
    let here : taken total (length m.bytes) (m.bytes ++ behind) ≡ Ok (m.bytes, behind) =
    rw (long, take_at m.bytes behind (length m.bytes) refl, drop_at m.bytes behind (length m.bytes) refl) refl in
    ap (λ (r : Read (List ℕ)). and_then r (λ x. named_at total (sizes_of m) m.words x.0 x.1)) here
    ∙ named_again total m good

coded_again : (total : ℕ) (m : ModuleParts) → IsModule m → coded_at total (sizes_of m) (flat_map longword m.words
    ++ (m.bytes ++ (flat_map symbol_bytes m.symbols ++ flat_map relocation_bytes m.relocations))) ≡ Ok m
coded_again total m good =
    let here = words_again total m.words
    (m.bytes ++ (flat_map symbol_bytes m.symbols ++ flat_map relocation_bytes m.relocations)) good.words in
    ap (λ (r : Read (List ℕ)). and_then r (λ x. filled_at total (sizes_of m) x.0 x.1)) here ∙ filled_again total m good

pub module_again : (m : ModuleParts) → IsModule m → module_at (spelling m) ≡ Ok m
unfolding module_at spelling
module_again m good =
    let sizes : AreSizes (sizes_of m) =
    record { words = good.few; size = good.size; symbols = good.symbol_count; relocations = good.relocation_count } in
    let behind = flat_map longword m.words
    ++ (m.bytes ++ (flat_map symbol_bytes m.symbols ++ flat_map relocation_bytes m.relocations)) in
    ap (λ (r : Read Sizes). and_then r (λ z. coded_at (length (spelling m)) z.0 z.1))
    (header_again (sizes_of m) behind sizes)
    ∙ coded_again (length (spelling m)) m good
