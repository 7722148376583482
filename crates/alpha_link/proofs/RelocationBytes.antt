-- Relocations, both ways.
use Rattle.std.proofs.Common.{◌≡◌, ℕ, ℤ, pos, negsuc, zero, suc, ◌-◌, ◌^◌, ◌<◌, ◌≤◌, Bool, true, false, ◌&&◌, nat_lt}
use Rattle.std.proofs.Common.{List, ◌∷◌, ◌++◌, length, drop, slice_index, Option, None, Some, refl, sym, ap, subst, ◌∙◌}
use Rattle.std.proofs.Common.{append_assoc, arith}
use Rattle.std.specs.Prelude.{Ok}
use Rattle.std.specs.Option.{option_map}
use Rattle.std.specs.Int.{w32, cast_signed, cast_unsigned}
use Rattle.std.proofs.lemmas.Bool.{ltb-false, ltb-true, le-ltb}
use Rattle.std.proofs.lemmas.Int.{to_z-of_z, of_z-to_z}
use Rattle.std.proofs.lemmas.List.{length-append}
use mir.Val.{SFits}
use Rattle.alpha_image.specs.Layout.{longword}
use Rattle.alpha_image.specs.Reading.{longword_at}
use Rattle.alpha_image.proofs.LittleEndianNumbers.{IsBytes, IsBytes-drop, longword_at-lt, longword_at-front}
use Rattle.alpha_image.proofs.LittleEndianNumbers.{drop-longword}
use Rattle.alpha_link.specs.declared.fault.ModuleFault.TheVariants as faults
use Rattle.alpha_link.specs.declared.header.Sizes.{Sizes}
use Rattle.alpha_asm.specs.declared.patch.RelocationKind.{RelocationKind}
use Rattle.alpha_asm.specs.declared.patch.RelocationKind.TheVariants.{Insn, Quad}
use Rattle.alpha_asm.specs.declared.statement.RelocField.TheVariants.{Branch, High, Low}
use Rattle.alpha_link.specs.declared.relocation.Relocation.{Relocation}
use Rattle.alpha_link.specs.Relocations.{Body, kind_of, kind_number, is_addend, relocation_fits, made_relocation}
use Rattle.alpha_link.specs.Relocations.{relocation_in, good_relocation, relocation_at, relocation_bytes, IsRelocation}
use Rattle.alpha_link.proofs.ReadingResults.{pair-injective, unless_err, cond-Ok}
use Rattle.alpha_link.proofs.ItemLists.{IsFormat}
use Rattle.alpha_link.proofs.TwoByteNumbers.{first_byte}

kind_is : (n : ℕ) (k : RelocationKind) → kind_of n ≡ Some k → n ≡ kind_number k
kind_is zero k e = let same : Insn Branch ≡ k = cc in ap kind_number same
kind_is (suc zero) k e = let same : Insn High ≡ k = cc in ap kind_number same
kind_is (suc (suc zero)) k e = let same : Insn Low ≡ k = cc in ap kind_number same
kind_is (suc (suc (suc zero))) k e = let same : Quad ≡ k = cc in ap kind_number same
kind_is (suc (suc (suc (suc n)))) k e = absurd cc

kind_again : (k : RelocationKind) → kind_of (kind_number k) ≡ Some k
kind_again (Insn Branch) = refl
kind_again (Insn High) = refl
kind_again (Insn Low) = refl
kind_again Quad = refl

good_relocation_ok : (z : Sizes) (b : Body) (before : List Relocation)
    (o : Option Relocation) (r : Relocation) (behind rest : List ℕ)
    → good_relocation z b before o behind ≡ Ok (r, rest)
    → (o ≡ Some r) × (relocation_fits z b before r ≡ true) × (behind ≡ rest)
good_relocation_ok z b before None r behind rest e = absurd cc
good_relocation_ok z b before (Some t) r behind rest e =
    let a = cond-Ok (relocation_fits z b before t) (faults.Relocation (length before)) (t, behind) (r, rest) e in
    let p = pair-injective (t, behind) (r, rest) a.1 in
    (ap Some p.0, ap (relocation_fits z b before) (sym p.0) ∙ a.0, p.1)

made_is : (bytes : List ℕ) (o : Option RelocationKind) (r : Relocation) → option_map (made_relocation bytes) o ≡ Some r
    → (k : RelocationKind) × (o ≡ Some k) × (made_relocation bytes k ≡ r)
made_is bytes None r e = absurd cc
made_is bytes (Some k) r e = (k, refl, cc)

-- the thirteen bytes of a relocation, and those behind them
relocation_bytes-whole : (bytes : List ℕ) → IsBytes bytes → 13 ≤ length bytes
    → bytes ≡ slice_index bytes 0 ∷ (longword (longword_at 1 bytes)
    ++ (longword (longword_at 5 bytes) ++ (longword (longword_at 9 bytes) ++ drop 13 bytes)))
relocation_bytes-whole bytes fits long =
    first_byte bytes (omega arith)
    ∙ ap (λ (t : List ℕ). slice_index bytes 0 ∷ t) (drop-longword bytes 1 5 fits (omega arith) refl
    ∙ ap (λ (t : List ℕ). longword (longword_at 1 bytes) ++ t) (drop-longword bytes 5 9 fits (omega arith) refl
    ∙ ap (λ (t : List ℕ). longword (longword_at 5 bytes) ++ t) (drop-longword bytes 9 13 fits long refl)))

append_assoc-behind_byte : (b : ℕ) (x y w rest : List ℕ) → b ∷ (x ++ (y ++ (w ++ rest))) ≡ (b ∷ (x ++ (y ++ w))) ++ rest
append_assoc-behind_byte b x y w rest = ap (λ (t : List ℕ). b ∷ t) (simp append_assoc)

spelled_so : (bytes : List ℕ) (k : RelocationKind) → IsBytes bytes → 13 ≤ length bytes
    → kind_of (slice_index bytes 0) ≡ Some k → bytes ≡ relocation_bytes (made_relocation bytes k) ++ drop 13 bytes
unfolding relocation_bytes
spelled_so bytes k fits long is =
    relocation_bytes-whole bytes fits long
    ∙ (ap (λ (b : ℕ). b ∷ (longword (longword_at 1 bytes)
    ++ (longword (longword_at 5 bytes) ++ (longword (longword_at 9 bytes) ++ drop 13 bytes))))
    (kind_is (slice_index bytes 0) k is)
    ∙ (ap (λ (n : ℕ). kind_number k
    ∷ (longword (longword_at 1 bytes) ++ (longword (longword_at 5 bytes) ++ (longword n ++ drop 13 bytes))))
    (sym (of_z-to_z w32 (longword_at 9 bytes) (longword_at-lt 9 bytes fits)))
    ∙ append_assoc-behind_byte (kind_number k) (longword (longword_at 1 bytes)) (longword (longword_at 5 bytes))
    (longword (cast_unsigned w32 (cast_signed w32 (longword_at 9 bytes)))) (drop 13 bytes)))

relocation_takes : (total : ℕ) (z : Sizes) (b : Body)
    (before : List Relocation) (bytes : List ℕ) (r : Relocation) (rest : List ℕ)
    → IsBytes bytes → relocation_at total z b before bytes ≡ Ok (r, rest)
    → IsRelocation z b before r × (bytes ≡ relocation_bytes r ++ rest) × IsBytes rest
unfolding relocation_at
relocation_takes total z b before bytes r rest fits e =
    let a = unless_err (nat_lt (length bytes) 13) (faults.Cut total)
    (good_relocation z b before (relocation_in bytes) (drop 13 bytes)) (r, rest) e in
    let long : 13 ≤ length bytes = ltb-false (length bytes) 13 a.0 in
    let c = good_relocation_ok z b before (relocation_in bytes) r (drop 13 bytes) rest a.1 in
    let m = made_is bytes (kind_of (slice_index bytes 0)) r c.0 in (
      record {
        fits = c.1;
        offset = subst (λ (t : Relocation). t.offset < 2 ^ 32) m.2 (longword_at-lt 1 bytes fits);
        symbol = subst (λ (t : Relocation). t.symbol < 2 ^ 32) m.2 (longword_at-lt 5 bytes fits);
      },
      spelled_so bytes m.0 fits long m.1
          ∙ (ap (λ (t : Relocation). relocation_bytes t ++ drop 13 bytes) m.2
          ∙ ap (λ (t : List ℕ). relocation_bytes r ++ t) c.2),
      subst IsBytes c.2 (IsBytes-drop 13 bytes fits),
    )

-- an addend has 32 bits with its sign
addend_fits : (a : ℤ) → is_addend a ≡ true → SFits w32 a
addend_fits (pos n) e = record { sfits = ltb-true n (2 ^ 31) e }
addend_fits (negsuc n) e = record { sfits = let h = ltb-true n (2 ^ 31 - 1) e in omega arith }

addend_small : (a : ℤ) → is_addend a ≡ true → cast_unsigned w32 a < 2 ^ 32
addend_small (pos n) e = let h = ltb-true n (2 ^ 31) e in omega arith
addend_small (negsuc n) e = let h = ltb-true n (2 ^ 31 - 1) e in omega arith

pub and-second_true : (a b : Bool) → (a && b) ≡ true → b ≡ true
and-second_true true b e = e
and-second_true false b e = absurd cc

pub and-first_true : (a b : Bool) → (a && b) ≡ true → a ≡ true
and-first_true true b e = refl
and-first_true false b e = absurd cc

addend_of : (z : Sizes) (b : Body) (before : List Relocation) (r : Relocation) → relocation_fits z b before r ≡ true
    → is_addend r.addend ≡ true
unfolding relocation_fits
addend_of z b before r e = and-first_true _ _ (and-second_true _ _ e)

length-relocation_bytes : (r : Relocation) → length (relocation_bytes r) ≡ 13
unfolding relocation_bytes longword
length-relocation_bytes r = refl

behind_relocation : (r : Relocation) (rest : List ℕ) → drop 13 (relocation_bytes r ++ rest) ≡ rest
unfolding relocation_bytes longword
behind_relocation r rest = refl

same_relocation : (r : Relocation) (k : RelocationKind) (o s : ℕ) (a : ℤ) → k ≡ r.kind → o ≡ r.offset → s ≡ r.symbol
    → a ≡ r.addend → record { kind = k; offset = o; symbol = s; addend = a } ≡ r
same_relocation r k o s a p q t u = rw (p, q, t, u) refl

made_again : (r : Relocation) (rest : List ℕ) → r.offset < 2 ^ 32 → r.symbol < 2 ^ 32 → is_addend r.addend ≡ true
    → made_relocation (relocation_bytes r ++ rest) r.kind ≡ r
unfolding relocation_bytes longword
made_again r rest small less within =
    let t = relocation_bytes r ++ rest in
    let offset : longword_at 1 t ≡ r.offset = longword_at-front t 1 r.offset _ refl small in
    let symbol : longword_at 5 t ≡ r.symbol = longword_at-front t 5 r.symbol _ refl less in
    let number : longword_at 9 t ≡ cast_unsigned w32 r.addend =
    longword_at-front t 9 (cast_unsigned w32 r.addend) _ refl (addend_small r.addend within) in
    same_relocation r r.kind _ _ _ refl offset symbol
    (ap (cast_signed w32) number ∙ to_z-of_z w32 r.addend (addend_fits r.addend within))

kind_there : (r : Relocation) (rest : List ℕ) → kind_of (slice_index (relocation_bytes r ++ rest) 0) ≡ Some r.kind
unfolding relocation_bytes
kind_there r rest = kind_again r.kind

relocation_again : (total : ℕ) (z : Sizes) (b : Body) (before : List Relocation) (r : Relocation) (rest : List ℕ)
    → IsRelocation z b before r → relocation_at total z b before (relocation_bytes r ++ rest) ≡ Ok (r, rest)
unfolding relocation_at
relocation_again total z b before r rest good =
    let t = relocation_bytes r ++ rest in
    let long : nat_lt (length t) 13 ≡ false =
    le-ltb _ _ (omega (arith, length-append (relocation_bytes r) rest, length-relocation_bytes r)) in
    let made = made_again r rest good.offset good.symbol (addend_of z b before r good.fits) in
    rw (long, kind_there r rest, made, good.fits, behind_relocation r rest) refl

pub relocation_format : (total : ℕ) (z : Sizes) (b : Body)
    → IsFormat (relocation_at total z b) relocation_bytes (IsRelocation z b)
relocation_format total z b = record { takes = relocation_takes total z b; again = relocation_again total z b }
