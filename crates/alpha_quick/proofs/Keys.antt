-- A name of eight bytes at most is told by its key.
use Rattle.std.proofs.Common.{◌≡◌, ◌<◌, ◌≤◌, ◌+◌, ◌*◌, ◌%◌, ◌^◌, ℕ, List, [], ◌∷◌, ◌++◌, length, true, eqb, nat_le}
use Rattle.std.proofs.Common.{refl, sym, ◌∙◌, ap, arith}
use Prim.Native.Nat.{zero, suc}
use mathlib.Core.List.{reverse, reverse_aux}
use Rattle.std.specs.Prelude.{get_or, take}
use Rattle.std.specs.List.{fold, list_all}
use Rattle.std.proofs.lemmas.Bool.Decides.{nat_tests}
use Rattle.std.proofs.lemmas.List.{reverse-reverse}
use Rattle.std.proofs.lemmas.List.Folds.{list_all-append}
use Rattle.std.proofs.lemmas.List.Sums.{fold-append}
use Rattle.std.proofs.lemmas.Bool.{and_parts}
use Rattle.alpha_table.specs.Names.{name_of}
use Rattle.alpha_token.specs.Bytes.{goes_on_name}
use Rattle.alpha_quick.specs.declared.rows.KeyedRow.{KeyedRow}
use Rattle.alpha_quick.specs.Keys.{with_byte, key_of, is_named, are_named, IsKeyed}

-- how many numbers so many bytes give
abbrev byte_limit : ℕ → ℕ
byte_limit zero = 1
byte_limit (suc n) = byte_limit n * 256

abbrev pub with_plain_byte : ℕ → ℕ → ℕ
with_plain_byte key byte = key * 256 + byte

limit_bound : (n : ℕ) → n < 8 → byte_limit n * 256 ≤ 2 ^ 64
limit_bound (suc (suc (suc (suc (suc (suc (suc (suc n)))))))) h = absurd (omega arith)
limit_bound n h = omega arith

pub byte_bounds : (b : ℕ) → goes_on_name b ≡ true → (0 < b) × (b < 256)
byte_bounds b h = (grind (arith, nat_tests), grind (arith, nat_tests))

-- nothing is dropped of eight bytes
fold_plain : (name : List ℕ) (n key : ℕ) → key < byte_limit n → n + length name ≤ 8 → list_all goes_on_name name ≡ true
    → fold with_byte key name ≡ fold with_plain_byte key name
fold_plain [] n key h room all = refl
fold_plain (b ∷ bs) n key h room all =
    let (here, more) = and_parts (goes_on_name b) (list_all goes_on_name bs) all in
    let (some, byte) = byte_bounds b here in
    let top : byte_limit n * 256 ≤ 2 ^ 64 = limit_bound n (omega arith) in
    let same : (key * 256 % 2 ^ 64 + b) % 2 ^ 64 ≡ key * 256 + b = omega arith in
    let below : key * 256 + b < byte_limit n * 256 = omega arith in
    ap (λ k. fold with_byte k bs) same ∙ fold_plain bs (suc n) (with_plain_byte key b) below (omega arith) more

-- the number of bytes, the last one first
abbrev pub reversed_number : List ℕ → ℕ
reversed_number [] = 0
reversed_number (b ∷ bs) = b + reversed_number bs * 256

pub fold_number : (name bs : List ℕ)
    → fold with_plain_byte (reversed_number bs) name ≡ reversed_number (reverse_aux name bs)
fold_number [] bs = refl
fold_number (b ∷ name) bs =
    let same : reversed_number bs * 256 + b ≡ b + reversed_number bs * 256 = omega arith in
    ap (λ k. fold with_plain_byte k name) same ∙ fold_number name (b ∷ bs)

pub all_reversed : (name bs : List ℕ) → list_all goes_on_name name ≡ true → list_all goes_on_name bs ≡ true
    → list_all goes_on_name (reverse_aux name bs) ≡ true
all_reversed [] bs h all = all
all_reversed (b ∷ name) bs h all =
    let (here, more) = and_parts (goes_on_name b) (list_all goes_on_name name) h in
    all_reversed name (b ∷ bs) more (rw (here, all) refl)

pub one_number : (a b : List ℕ) → list_all goes_on_name a ≡ true → list_all goes_on_name b ≡ true
    → reversed_number a ≡ reversed_number b
    → a ≡ b
one_number [] [] f g e = refl
one_number [] (y ∷ ys) f g e =
    let some : (0 < y) × (y < 256) = byte_bounds y (and_parts (goes_on_name y) (list_all goes_on_name ys) g).0 in
    let sum : 0 ≡ y + reversed_number ys * 256 = e in
    absurd (omega (arith, some.0))
one_number (x ∷ xs) [] f g e =
    let some : (0 < x) × (x < 256) = byte_bounds x (and_parts (goes_on_name x) (list_all goes_on_name xs) f).0 in
    let sum : x + reversed_number xs * 256 ≡ 0 = e in
    absurd (omega (arith, some.0))
one_number (x ∷ xs) (y ∷ ys) f g e =
    let (p, ps) = and_parts (goes_on_name x) (list_all goes_on_name xs) f in
    let (q, qs) = and_parts (goes_on_name y) (list_all goes_on_name ys) g in
    let (some, left) = byte_bounds x p in
    let (any, right) = byte_bounds y q in
    let sums : x + reversed_number xs * 256 ≡ y + reversed_number ys * 256 = e in
    let first : x ≡ y = omega arith in
    let others : reversed_number xs ≡ reversed_number ys = omega arith in
    ap (λ z. z ∷ xs) first ∙ ap (λ zs. y ∷ zs) (one_number xs ys ps qs others)

pub key_number : (name : List ℕ) → length name ≤ 8 → list_all goes_on_name name ≡ true
    → key_of name ≡ reversed_number (reverse name)
key_number name short all = fold_plain name 0 0 (omega arith) (omega arith) all ∙ fold_number name []

-- names of one key are one
pub IsKeyed-unique : (row name : List ℕ) (key : ℕ) → is_named row key ≡ true → IsKeyed name key → length name ≤ 8
    → row ≡ name
IsKeyed-unique row name key has (all, is) short =
    let (same, others) = and_parts (eqb (key_of row) key) _ has in
    let (few, each) = and_parts (nat_le (length row) 8) (list_all goes_on_name row) others in
    let e : key_of row ≡ key = grind (arith, nat_tests) in
    let n : length row ≤ 8 = grind (arith, nat_tests) in
    let r : reverse row ≡ reverse name =
    one_number (reverse row) (reverse name) (all_reversed row [] each refl) (all_reversed name [] all refl)
    (sym (key_number row n each) ∙ e ∙ is ∙ key_number name short all) in
    sym (reverse-reverse row) ∙ ap reverse r ∙ reverse-reverse name

-- the row at a place has its name's key
pub is_named-row_at : (rows : List KeyedRow) (place : ℕ) (d : KeyedRow) → are_named rows ≡ true → place < length rows
    → is_named (name_of (get_or rows place d).row) (get_or rows place d).key.0 ≡ true
is_named-row_at [] place d all within = absurd (omega arith)
is_named-row_at (r ∷ rs) zero d all within = (and_parts (is_named (name_of r.row) r.key.0) (are_named rs) all).0
is_named-row_at (r ∷ rs) (suc place) d all within =
    is_named-row_at rs place d (and_parts (is_named (name_of r.row) r.key.0) (are_named rs) all).1 (omega arith)

take_two : (name r : List ℕ) → take (length name + 2) (name ++ (47 ∷ (118 ∷ r))) ≡ name ++ (47 ∷ (118 ∷ []))
take_two [] r = refl
take_two (b ∷ name) r =
    let e : length (b ∷ name) + 2 ≡ suc (length name + 2) = omega arith in
    rw e (ap (λ l. b ∷ l) (take_two name r))

-- a name with `/v` behind it
pub IsKeyed-with_trap : (line name r longer : List ℕ) (key : ℕ) → line ≡ name ++ (47 ∷ (118 ∷ r))
    → longer ≡ take (length name + 2) line → IsKeyed name key → IsKeyed longer (with_byte (with_byte key 47) 118)
IsKeyed-with_trap line name r longer key e front (all, is) =
    let same : longer ≡ name ++ (47 ∷ (118 ∷ [])) = front ∙ ap (λ l. take (length name + 2) l) e ∙ take_two name r in
    rw same (
      list_all-append goes_on_name name (47 ∷ (118 ∷ [])) ∙ rw all refl,
      ap (λ k. with_byte (with_byte k 47) 118) is ∙ sym (fold-append with_byte 0 name (47 ∷ (118 ∷ []))),
    )
