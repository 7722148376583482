-- Addresses are put in one after the other.
use Rattle.std.proofs.Common.{◌≡◌, ℕ, ◌+◌, ◌<◌, ◌≤◌, List, [], ◌∷◌, ◌++◌, length, map, take, drop, get_or, Bool, true}
use Rattle.std.proofs.Common.{false, cond, nat_le, Option, None, Some, is_some, refl, sym, ◌∙◌, ap, drop-cons, add-one}
use Rattle.std.proofs.Common.{arith}
use Rattle.std.specs.Option.{option_or}
use Rattle.std.proofs.lemmas.Bool.Decides.{nat_tests}
use Rattle.std.proofs.lemmas.List.{drop-drop}
use Rattle.std.proofs.Math.ListN.{drop_of_length-le}
use Rattle.std.specs.Int.{w64, to_le_bytes}
use Rattle.alpha_words.specs.Digits.{low_bytes}
use Rattle.alpha_words.proofs.DigitLemmas.{bytes_low_first-digits}
use Rattle.alpha_table.specs.declared.form.Form.{Form}
use Rattle.alpha_asm.specs.declared.patch.Patch.{Patch}
use Rattle.alpha_asm.specs.Layout.{first}
use Rattle.alpha_asm.specs.Program.{Known, undefined_line, out_of_range_line, is_in_range, address_of}
use Rattle.alpha_asm.specs.Patches.{fix_of, reference_of, target_of, offset_of, names_of, overlaid, code_with}
use Rattle.alpha_asm.specs.Patches.{bytes_with}
use Rattle.alpha_asm.specs.Patches.{code_after, bytes_after}
use Rattle.alpha_asm.proofs.NextItem.{or_none-identity}

-- the bytes of a number in place of others
pub le_bytes-overlaid : (at n : ℕ) (old part : List ℕ) → at + 8 ≤ length old → part ≡ to_le_bytes w64 n
    → take at old ++ (part ++ drop 8 (drop at old)) ≡ overlaid at n old
le_bytes-overlaid at n old part room e =
    let t : nat_le (at + 8) (length old) ≡ true = grind (arith, nat_tests) in
    rw t
    (ap (λ l. take at old ++ (l ++ drop 8 (drop at old))) (e ∙ bytes_low_first-digits 8 n)
    ∙ ap (λ l. take at old ++ (low_bytes 8 n ++ l)) (drop-drop 8 at old))

pub overlaid-too_short : (at n : ℕ) (old : List ℕ) → length old < at + 8 → old ≡ overlaid at n old
overlaid-too_short at n old h = let t : nat_le (at + 8) (length old) ≡ false = grind (arith, nat_tests) in rw t refl

-- so many addresses are put in, and the rest makes up for all
pub record PutUpTo (k : Known) (patches : List Patch) (i : ℕ) (code0 code : List Form) (bytes0 bytes : List ℕ)
    (out_of_range : Option ℕ) : Type 0 where
  pub undefined : first (undefined_line k) (names_of (drop i patches)) ≡ first (undefined_line k) (names_of patches)
  pub unmet_so : option_or out_of_range (first (out_of_range_line k) (names_of (drop i patches)))
      ≡ first (out_of_range_line k) (names_of patches)
  pub code_so : code_after k (map fix_of (drop i patches)) code ≡ code_after k (map fix_of patches) code0
  pub bytes_so : bytes_after k (map fix_of (drop i patches)) bytes ≡ bytes_after k (map fix_of patches) bytes0

pub PutUpTo-start : (k : Known) (patches : List Patch) (code : List Form) (bytes : List ℕ)
    → PutUpTo k patches 0 code code bytes bytes None
PutUpTo-start k patches code bytes = record { undefined = refl; unmet_so = refl; code_so = refl; bytes_so = refl }

option_or-assoc : {A : Type 0} (o p q : Option A) → option_or (option_or o p) q ≡ option_or o (option_or p q)
option_or-assoc None p q = refl
option_or-assoc (Some x) p q = refl

pub PutUpTo-next : (k : Known) (patches : List Patch) (i : ℕ) (p : Patch) (code0 code code1 : List Form)
    (bytes0 bytes bytes1 : List ℕ) (out_of_range : Option ℕ) (fits : Bool)
    → drop i patches ≡ p ∷ drop (i + 1) patches → is_some (k.locations p.to.label.now) ≡ true
    → fits ≡ is_in_range k (address_of k (reference_of p.to)) (target_of p.at p.target)
    → code1 ≡ code_with k (address_of k (reference_of p.to)) (target_of p.at p.target) code
    → bytes1 ≡ bytes_with k (offset_of p.at p.target) (address_of k (reference_of p.to)) (target_of p.at p.target) bytes
    → PutUpTo k patches i code0 code bytes0 bytes out_of_range
    → PutUpTo k patches (i + 1) code0 code1 bytes0 bytes1 (option_or out_of_range (cond fits None (Some p.line)))
PutUpTo-next k patches i p code0 code code1 bytes0 bytes bytes1 out_of_range fits e defined f c b u =
    let none : undefined_line k (fix_of p).name ≡ None = rw defined refl in
    record {
      undefined =
          sym (ap (λ ps. first (undefined_line k) (names_of ps)) e
          ∙ ap (λ o. option_or o (first (undefined_line k) (names_of (drop (i + 1) patches)))) none)
          ∙ u.undefined;
      unmet_so =
          option_or-assoc out_of_range (cond fits None (Some p.line))
          (first (out_of_range_line k) (names_of (drop (i + 1) patches)))
          ∙ (ap (λ t. option_or out_of_range
          (option_or (cond t None (Some p.line)) (first (out_of_range_line k) (names_of (drop (i + 1) patches)))))
          f
          ∙ (sym (ap (λ ps. option_or out_of_range (first (out_of_range_line k) (names_of ps))) e) ∙ u.unmet_so));
      code_so =
          ap (code_after k (map fix_of (drop (i + 1) patches))) c
          ∙ (sym (ap (λ ps. code_after k (map fix_of ps) code) e) ∙ u.code_so);
      bytes_so =
          ap (bytes_after k (map fix_of (drop (i + 1) patches))) b
          ∙ (sym (ap (λ ps. bytes_after k (map fix_of ps) bytes) e) ∙ u.bytes_so);
    }

-- a label without a definition
pub PutUpTo-undefined : (k : Known) (patches : List Patch) (i : ℕ) (p : Patch) (code0 code : List Form)
    (bytes0 bytes : List ℕ)
    (out_of_range : Option ℕ)
    → drop i patches ≡ p ∷ drop (i + 1) patches → is_some (k.locations p.to.label.now) ≡ false
    → PutUpTo k patches i code0 code bytes0 bytes out_of_range
    → first (undefined_line k) (names_of patches) ≡ Some p.line
PutUpTo-undefined k patches i p code0 code bytes0 bytes out_of_range e missing u =
    let some : undefined_line k (fix_of p).name ≡ Some p.line = rw missing refl in
    sym u.undefined
    ∙ (ap (λ ps. first (undefined_line k) (names_of ps)) e
    ∙ ap (λ o. option_or o (first (undefined_line k) (names_of (drop (i + 1) patches)))) some)

drop-past_end : {A : Type 0} (xs : List A) (i : ℕ) → length xs ≤ i → drop i xs ≡ []
drop-past_end xs i h = drop_of_length-le xs h

pub PutUpTo-all : (k : Known) (patches : List Patch) (i : ℕ)
    (code0 code : List Form) (bytes0 bytes : List ℕ) (out_of_range : Option ℕ)
    → length patches ≤ i → PutUpTo k patches i code0 code bytes0 bytes out_of_range
    → (None ≡ first (undefined_line k) (names_of patches))
    × (out_of_range ≡ first (out_of_range_line k) (names_of patches))
    × (code ≡ code_after k (map fix_of patches) code0) × (bytes ≡ bytes_after k (map fix_of patches) bytes0)
PutUpTo-all k patches i code0 code bytes0 bytes out_of_range h u =
    let e : drop i patches ≡ [] = drop-past_end patches i h in (
      sym (ap (λ ps. first (undefined_line k) (names_of ps)) e) ∙ u.undefined,
      sym (ap (λ ps. option_or out_of_range (first (out_of_range_line k) (names_of ps))) e
          ∙ or_none-identity out_of_range)
          ∙ u.unmet_so,
      sym (ap (λ ps. code_after k (map fix_of ps) code) e) ∙ u.code_so,
      sym (ap (λ ps. bytes_after k (map fix_of ps) bytes) e) ∙ u.bytes_so,
    )

pub next_patch : (patches : List Patch) (i : ℕ) (d : Patch) → i < length patches
    → drop i patches ≡ get_or patches i d ∷ drop (i + 1) patches
next_patch patches i d h = rw add-one (drop-cons patches i d h)
