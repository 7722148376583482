-- What a relocation puts in, behind the code and the data bytes of other modules.
use Rattle.std.proofs.Common.{◌≡◌, ℕ, suc, ◌+◌, ◌-◌, ◌<◌, ◌≤◌, Bool, true, false, cond, nat_le, List, [], ◌∷◌, ◌++◌}
use Rattle.std.proofs.Common.{length, take, drop, Option, None, Some, slice_get, refl, ap, ◌∙◌, append_assoc, zero-add}
use Rattle.std.proofs.Common.{arith}
use Rattle.std.specs.Prelude.{slice_set}
use Rattle.std.specs.Option.{option_map_or}
use Rattle.std.proofs.lemmas.Bool.Decides.{nat_tests}
use Rattle.std.proofs.lemmas.List.{set-append_right, length-append}
use Rattle.std.proofs.Math.Seq.{take-append-add, drop-append-add}
use Rattle.alpha_words.specs.Digits.{low_bytes}
use Rattle.alpha_table.specs.declared.form.Form.{Form}
use Rattle.alpha_asm.specs.declared.patch.Displacement.{Displacement}
use Rattle.alpha_asm.specs.Program.{displaced}
use Rattle.alpha_asm.specs.Patches.{overlaid, code_at}
use Rattle.alpha_asm.proofs.FinishedProgram.{length-overlaid}
use Rattle.alpha_link.specs.declared.relocation.Relocation.{Relocation}
use Rattle.alpha_link.specs.Linked.{Located, bytes_after, quadword}
use Rattle.alpha_link.specs.Output.{bytes_with_all}

get_shift : {A : Type 0} (before xs : List A) (p : ℕ) → slice_get (before ++ xs) (length before + p) ≡ slice_get xs p
get_shift [] xs p = ap (slice_get xs) (zero-add p)
get_shift (x ∷ before) xs p =
    let next : suc (length before) + p ≡ suc (length before + p) = omega arith in
    ap (slice_get (x ∷ (before ++ xs))) next ∙ get_shift before xs p

set_shift : {A : Type 0} (before xs : List A) (p : ℕ) (x : A)
    → slice_set (before ++ xs) (length before + p) x ≡ before ++ slice_set xs p x
set_shift before xs p x =
    let same : length before + p - length before ≡ p = omega arith in
    set-append_right before xs (length before) (length before + p) x refl (omega arith)
    ∙ ap (λ (k : ℕ). before ++ slice_set xs k x) same

put_shift : (d : Displacement) (before code : List Form) (p : ℕ) (o : Option Form)
    → option_map_or (λ insn. slice_set (before ++ code) (length before + p) (displaced insn d)) o (before ++ code)
    ≡ before ++ option_map_or (λ insn. slice_set code p (displaced insn d)) o code
put_shift d before code p None = refl
put_shift d before code p (Some insn) = set_shift before code p (displaced insn d)

-- the code
pub code_at_shift : (before code : List Form) (p : ℕ) (o : Option Displacement)
    → code_at o (length before + p) (before ++ code) ≡ before ++ code_at o p code
code_at_shift before code p None = refl
code_at_shift before code p (Some d) =
    ap (λ (o : Option Form).
    option_map_or (λ insn. slice_set (before ++ code) (length before + p) (displaced insn d)) o (before ++ code))
    (get_shift before code p)
    ∙ put_shift d before code p (slice_get code p)

overlaid_shift : (before bytes : List ℕ) (at n : ℕ)
    → overlaid (length before + at) n (before ++ bytes) ≡ before ++ overlaid at n bytes
overlaid_shift before bytes at n = by (nat_le (at + 8) (length bytes)) refl
  where
    whole : length (before ++ bytes) ≡ length before + length bytes
    whole = length-append before bytes

    by : (t : Bool) → nat_le (at + 8) (length bytes) ≡ t
        → overlaid (length before + at) n (before ++ bytes)
        ≡ before ++ cond t (take at bytes ++ (low_bytes 8 n ++ drop (at + 8) bytes)) bytes
    by true e =
        let room : at + 8 ≤ length bytes = grind (arith, nat_tests) in
        let there : length before + at + 8 ≤ length (before ++ bytes) = omega (arith, whole) in
        let test : nat_le (length before + at + 8) (length (before ++ bytes)) ≡ true = grind (arith, nat_tests) in
        let same : length before + at + 8 ≡ length before + (at + 8) = omega arith in
        rw test
        (ap (λ (b : List ℕ). b ++ (low_bytes 8 n ++ drop (length before + at + 8) (before ++ bytes)))
        (take-append-add before bytes at)
        ∙ (ap (λ (k : ℕ). (before ++ take at bytes) ++ (low_bytes 8 n ++ drop k (before ++ bytes))) same
        ∙ (ap (λ (b : List ℕ). (before ++ take at bytes) ++ (low_bytes 8 n ++ b))
        (drop-append-add before bytes (at + 8))
        ∙ append_assoc before (take at bytes) (low_bytes 8 n ++ drop (at + 8) bytes))))
    by false e =
        let room : length bytes < at + 8 = grind (arith, nat_tests) in
        let past : length (before ++ bytes) < length before + at + 8 = omega (arith, whole) in
        let test : nat_le (length before + at + 8) (length (before ++ bytes)) ≡ false = grind (arith, nat_tests) in
        rw test refl

quad_shift : (before bytes : List ℕ) (at : ℕ) (o : Option ℕ)
    → option_map_or (λ n. overlaid (length before + at) n (before ++ bytes)) o (before ++ bytes)
    ≡ before ++ option_map_or (λ n. overlaid at n bytes) o bytes
quad_shift before bytes at None = refl
quad_shift before bytes at (Some n) = overlaid_shift before bytes at n

-- the data bytes
pub bytes_shift : (addresses : List (Option ℕ)) (l : Located) (rs : List Relocation) (before bytes : List ℕ)
    → l.filled ≡ length before
    → bytes_with_all addresses l rs (before ++ bytes) ≡ before ++ bytes_after addresses rs bytes
bytes_shift addresses l [] before bytes here = refl
bytes_shift addresses l (r ∷ rs) before bytes here =
    ap (λ (n : ℕ). bytes_with_all addresses l rs
    (option_map_or (λ q. overlaid (n + r.offset) q (before ++ bytes)) (quadword addresses r) (before ++ bytes)))
    here
    ∙ (ap (bytes_with_all addresses l rs) (quad_shift before bytes r.offset (quadword addresses r))
    ∙ bytes_shift addresses l rs before
    (option_map_or (λ q. overlaid r.offset q bytes) (quadword addresses r) bytes) here)

-- and how many they are
pub length-bytes_after : (addresses : List (Option ℕ)) (rs : List Relocation) (bytes : List ℕ)
    → length (bytes_after addresses rs bytes) ≡ length bytes
length-bytes_after addresses [] bytes = refl
length-bytes_after addresses (r ∷ rs) bytes =
    length-bytes_after addresses rs (option_map_or (λ q. overlaid r.offset q bytes) (quadword addresses r) bytes)
    ∙ by (quadword addresses r)
  where
    by : (o : Option ℕ) → length (option_map_or (λ q. overlaid r.offset q bytes) o bytes) ≡ length bytes
    by None = refl
    by (Some q) = length-overlaid r.offset q bytes
