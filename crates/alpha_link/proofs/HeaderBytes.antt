-- The front of a module, both ways.
use Rattle.std.proofs.Common.{◌≡◌, ℕ, ◌+◌, ◌^◌, ◌<◌, ◌≤◌, Bool, true, false, ◌||◌, not, nat_lt, nat_eq, List, ◌++◌}
use Rattle.std.proofs.Common.{length, drop, Option, None, Some, refl, ap, subst, ◌∙◌, append_assoc, arith}
use Rattle.std.specs.Prelude.{Result, Ok, Err, cond}
use Rattle.std.specs.List.{starts_with}
use Rattle.std.specs.Option.{option_map_or}
use Rattle.std.proofs.lemmas.Bool.{ltb-false, le-ltb, le-leb}
use Rattle.std.proofs.lemmas.Bool.Decides.{nat_tests}
use Rattle.std.proofs.lemmas.List.{length-append}
use Rattle.std.proofs.lemmas.Slice.Eq.{starts_is}
use Rattle.std.proofs.lemmas.Bool.Decides.{Decides-eqb}
use Rattle.alpha_image.specs.Layout.{longword}
use Rattle.alpha_image.specs.Reading.{longword_at}
use Rattle.alpha_image.proofs.LittleEndianNumbers.{IsBytes, IsBytes-drop, longword_at-lt, longword_at-front}
use Rattle.alpha_image.proofs.LittleEndianNumbers.{drop-longword}
use Rattle.alpha_link.specs.declared.fault.ModuleFault.{ModuleFault}
use Rattle.alpha_link.specs.declared.fault.ModuleFault.TheVariants.{Header, Size}
use Rattle.alpha_link.specs.declared.header.Sizes.{Sizes}
use Rattle.alpha_link.specs.Reading.{Read}
use Rattle.alpha_link.specs.Header.{magic, sizes_in, bad_size, sized, header_at, header_bytes}
use Rattle.alpha_link.proofs.ReadingResults.{read_ok, unless_err, ok_pair}

-- no size is too great, and each fits its bytes
pub record AreSizes (z : Sizes) : Type 0 where
  pub words : z.words ≤ 262144
  pub size : z.filled + z.zeroed ≤ 16777216
  pub symbols : z.symbols < 2 ^ 32
  pub relocations : z.relocations < 2 ^ 32

bad_size-AreSizes : (z : Sizes) → AreSizes z → bad_size z ≡ None
bad_size-AreSizes z fit = rw (
  le-leb z.words 262144 fit.words,
  le-leb z.filled 16777216 (omega (arith, fit.size)),
  le-leb (z.filled + z.zeroed) 16777216 fit.size,
) refl

no_bad_size : (z : Sizes) → bad_size z ≡ None → (z.words ≤ 262144) × (z.filled + z.zeroed ≤ 16777216)
no_bad_size z e = (grind (arith, nat_tests), grind (arith, nat_tests))

sized_ok : (z y : Sizes) (behind rest : List ℕ) (o : Option ℕ) → bad_size z ≡ o
    → option_map_or {U = Read Sizes} (λ which. Err (Size which)) o (Ok (z, behind)) ≡ Ok (y, rest)
    → (bad_size z ≡ None) × (z ≡ y) × (behind ≡ rest)
sized_ok z y behind rest None is e = let p = ok_pair z y behind rest e in (is, p.0, p.1)
sized_ok z y behind rest (Some n) is e = absurd cc

-- what the front says, and what stands behind it
abbrev front_is : List ℕ → Type 0
front_is bytes = bytes ≡ header_bytes (sizes_in bytes) ++ drop 28 bytes

-- the five numbers behind the magic
sizes_in-prefix : (bytes : List ℕ) → IsBytes bytes → 28 ≤ length bytes
    → drop 8 bytes
    ≡ longword (longword_at 8 bytes) ++ (longword (longword_at 12 bytes) ++ (longword (longword_at 16 bytes)
    ++ (longword (longword_at 20 bytes) ++ (longword (longword_at 24 bytes) ++ drop 28 bytes))))
sizes_in-prefix bytes fits long =
    drop-longword bytes 8 12 fits (omega arith) refl
    ∙ ap (λ (t : List ℕ). longword (longword_at 8 bytes) ++ t) (drop-longword bytes 12 16 fits (omega arith) refl
    ∙ ap (λ (t : List ℕ). longword (longword_at 12 bytes) ++ t) (drop-longword bytes 16 20 fits (omega arith) refl
    ∙ ap (λ (t : List ℕ). longword (longword_at 16 bytes) ++ t) (drop-longword bytes 20 24 fits (omega arith) refl
    ∙ ap (λ (t : List ℕ). longword (longword_at 20 bytes) ++ t) (drop-longword bytes 24 28 fits long refl))))

append_assoc-five : (a b c d e f : List ℕ) → a ++ (b ++ (c ++ (d ++ (e ++ f)))) ≡ (a ++ (b ++ (c ++ (d ++ e)))) ++ f
append_assoc-five a b c d e f = simp append_assoc

header_front : (bytes : List ℕ) → IsBytes bytes → 28 ≤ length bytes → bytes ≡ magic ++ drop 8 bytes → front_is bytes
unfolding header_bytes
header_front bytes fits long begins =
    begins ∙ ap (λ (t : List ℕ). magic ++ t) (sizes_in-prefix bytes fits long
    ∙ append_assoc-five (longword (longword_at 8 bytes)) (longword (longword_at 12 bytes))
    (longword (longword_at 16 bytes))
    (longword (longword_at 20 bytes)) (longword (longword_at 24 bytes)) (drop 28 bytes))

-- neither test refuses
or_not-false : (a b : Bool) → (a || not b) ≡ false → (a ≡ false) × (b ≡ true)
or_not-false true b e = absurd cc
or_not-false false true e = (refl, refl)
or_not-false false false e = absurd cc

pub header_takes : (bytes : List ℕ) (z : Sizes) (rest : List ℕ) → IsBytes bytes → header_at bytes ≡ Ok (z, rest)
    → AreSizes z × (bytes ≡ header_bytes z ++ rest) × IsBytes rest
unfolding header_at
header_takes bytes z rest fits e =
    let a = unless_err (nat_lt (length bytes) 28 || not (starts_with nat_eq bytes magic)) Header
    (sized (sizes_in bytes) (drop 28 bytes)) (z, rest) e in
    let b = or_not-false (nat_lt (length bytes) 28) (starts_with nat_eq bytes magic) a.0 in
    let long : 28 ≤ length bytes = ltb-false (length bytes) 28 b.0 in
    let c = sized_ok (sizes_in bytes) z (drop 28 bytes) rest (bad_size (sizes_in bytes)) refl a.1 in
    let sizes = no_bad_size (sizes_in bytes) c.0 in
    let good : AreSizes (sizes_in bytes) = record {
      words = sizes.0;
      size = sizes.1;
      symbols = longword_at-lt 20 bytes fits;
      relocations = longword_at-lt 24 bytes fits;
    } in (
      subst AreSizes c.1 good,
      header_front bytes fits long ((starts_is Decides-eqb bytes magic _ refl).0 b.1)
          ∙ (ap (λ (y : Sizes). header_bytes y ++ drop 28 bytes) c.1 ∙ ap (λ (t : List ℕ). header_bytes z ++ t) c.2),
      subst IsBytes c.2 (IsBytes-drop 28 bytes fits),
    )

-- what bytes with these sizes at their front say
sizes_again : (z : Sizes) (rest : List ℕ) → AreSizes z → sizes_in (header_bytes z ++ rest) ≡ z
unfolding header_bytes longword
sizes_again z rest fit =
    let t = header_bytes z ++ rest in
    let words : longword_at 8 t ≡ z.words = longword_at-front t 8 z.words _ refl (omega (arith, fit.words)) in
    let filled : longword_at 12 t ≡ z.filled = longword_at-front t 12 z.filled _ refl (omega (arith, fit.size)) in
    let zeroed : longword_at 16 t ≡ z.zeroed = longword_at-front t 16 z.zeroed _ refl (omega (arith, fit.size)) in
    let symbols : longword_at 20 t ≡ z.symbols = longword_at-front t 20 z.symbols _ refl fit.symbols in
    let relocations : longword_at 24 t ≡ z.relocations = longword_at-front t 24 z.relocations _ refl fit.relocations in
    rw (words, filled, zeroed, symbols, relocations) refl

behind_again : (z : Sizes) (rest : List ℕ) → drop 28 (header_bytes z ++ rest) ≡ rest
unfolding header_bytes longword
behind_again z rest = refl

magic_again : (z : Sizes) (rest : List ℕ) → starts_with nat_eq (header_bytes z ++ rest) magic ≡ true
unfolding header_bytes
magic_again z rest = refl

length-header : (z : Sizes) → length (header_bytes z) ≡ 28
unfolding header_bytes longword
length-header z = refl

cond-or_not : {X : Type 0} (a b : Bool) (d : ModuleFault) (r : Result X ModuleFault) → a ≡ false → b ≡ true
    → cond (a || not b) (Err d) r ≡ r
cond-or_not false true d r p q = refl
cond-or_not true b d r p q = absurd cc
cond-or_not false false d r p q = absurd cc

pub header_again : (z : Sizes) (rest : List ℕ) → AreSizes z → header_at (header_bytes z ++ rest) ≡ Ok (z, rest)
unfolding header_at
header_again z rest fit =
    let t = header_bytes z ++ rest in
    let long : nat_lt (length t) 28 ≡ false =
    le-ltb _ _ (omega (arith, length-append (header_bytes z) rest, length-header z)) in
    cond-or_not (nat_lt (length t) 28) (starts_with nat_eq t magic) Header (sized (sizes_in t) (drop 28 t)) long
    (magic_again z rest)
    ∙ (ap (λ (y : Sizes). sized y (drop 28 t)) (sizes_again z rest fit)
    ∙ (ap (λ (o : Option ℕ). option_map_or (λ which. Err (Size which)) o (read_ok (z, drop 28 t)))
    (bad_size-AreSizes z fit)
    ∙ ap (λ (l : List ℕ). read_ok (z, l)) (behind_again z rest)))
