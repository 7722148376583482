-- The values of data of a statement are those that its list or its text is read as to its end.
use Rattle.std.proofs.Common.{◌≡◌, ℕ, zero, suc, ◌<◌, ◌≤◌, List, [], ◌∷◌, length, length-drop, map, drop, Option, None}
use Rattle.std.proofs.Common.{Some, refl, ap, arith}
use Rattle.std.specs.Option.{option_map, option_map_or, option_and_then}
use Rattle.alpha_token.specs.Quoted.{byte_at, first_byte, IsTextOf}
use Rattle.alpha_operands.specs.declared.shape.Shape.{Shape}
use Rattle.alpha_operands.specs.Values.{Listed, list_shape, first_value, next_of, AreValuesOf}
use Rattle.alpha_operands.proofs.ListValueSizes.{value-sized}
use Rattle.alpha_text.specs.Statements.{values, text}
use Rattle.alpha_asm.specs.Statement.{cells, cell_of, number, then_more, values_up_to, bytes_up_to}

-- a value takes a byte of its list, or more
value_shorter : (bytes : ℕ) (list : List ℕ) (v : Listed) (rest : List ℕ) → next_of bytes list ≡ Some (v, rest)
    → length rest < length list
value_shorter bytes list v rest h = by (list_shape bytes) refl h
  where
    by : (o : Option Shape) → list_shape bytes ≡ o
        → option_and_then (λ shape. first_value shape list) o ≡ Some (v, rest) → length rest < length list
    by None e k = cc
    by (Some s) e k = (value-sized bytes s list v rest e k).1

nothing_left : (n bytes : ℕ) (o : Option (Listed × List ℕ)) → next_of bytes [] ≡ o
    → then_more o (values_up_to n bytes) ≡ []
nothing_left n bytes None e = refl
nothing_left n bytes (Some (v, rest)) e =
    let h : length rest < 0 = value_shorter bytes [] v rest e in
    absurd (omega arith)

values_are : (n bytes : ℕ) (list : List ℕ) (all : List Listed) → length list ≤ n → AreValuesOf bytes list all
    → values_up_to n bytes list ≡ all
values_are zero bytes list [] h e = refl
values_are zero bytes list (v ∷ all) h (rest, e, more) =
    let l = value_shorter bytes list v rest e in
    absurd (omega arith)
values_are (suc n) bytes list [] h e = rw e (nothing_left n bytes (next_of bytes []) refl)
values_are (suc n) bytes list (v ∷ all) h (rest, e, more) =
    let l : length rest < length list = value_shorter bytes list v rest e in
    rw e (ap (λ xs. v ∷ xs) (values_are n bytes rest all (omega arith) more))

pub values_cells : (bytes : ℕ) (list : List ℕ) (all : List Listed) → AreValuesOf bytes list all
    → cells (values bytes list) ≡ map (cell_of bytes) all
unfolding cells
values_cells bytes list all h = ap (map (cell_of bytes)) (values_are (length list) bytes list all (omega arith) h)

-- a byte takes a byte of its text, or more
byte_shorter : (string : List ℕ) (b : ℕ) (rest : List ℕ) → first_byte string ≡ Some (b, rest)
    → length rest < length string
unfolding byte_at
byte_shorter [] b rest h = cc
byte_shorter (c ∷ s) b rest h = by (byte_at (c ∷ s)) h
  where
    by : (o : Option (ℕ × ℕ)) → option_map {U = ℕ × List ℕ} (λ v. (v.0, drop (suc v.1) (c ∷ s))) o ≡ Some (b, rest)
        → length rest < length (c ∷ s)
    by None k = cc
    by (Some v) k =
        let e : drop v.1 s ≡ rest = ap (λ (o : Option (ℕ × List ℕ)). option_map_or (λ x. x.1) o rest) k in
        let l : length (drop v.1 s) ≤ length s = omega (arith, length-drop {A = ℕ}) in
        omega (arith, ap length e)

no_byte_left : (n : ℕ) (o : Option (ℕ × List ℕ)) → first_byte [] ≡ o → then_more o (bytes_up_to n) ≡ []
no_byte_left n None e = refl
no_byte_left n (Some (b, rest)) e = let h : length rest < 0 = byte_shorter [] b rest e in absurd (omega arith)

bytes_are : (n : ℕ) (string all : List ℕ) → length string ≤ n → IsTextOf string all → bytes_up_to n string ≡ all
bytes_are zero string [] h e = refl
bytes_are zero string (b ∷ all) h (rest, e, more) = let l = byte_shorter string b rest e in absurd (omega arith)
bytes_are (suc n) string [] h e = rw e (no_byte_left n (first_byte []) refl)
bytes_are (suc n) string (b ∷ all) h (rest, e, more) =
    let l : length rest < length string = byte_shorter string b rest e in
    rw e (ap (λ xs. b ∷ xs) (bytes_are n rest all (omega arith) more))

pub text_cells : (string all : List ℕ) → IsTextOf string all → cells (text string) ≡ map (number 1) all
unfolding cells
text_cells string all h = ap (map (number 1)) (bytes_are (length string) string all (omega arith) h)
