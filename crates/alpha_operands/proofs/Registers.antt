-- The row of a register is found by its name.
use Rattle.std.proofs.Common.{◌≡◌, ℕ, ◌<◌, List, [], ◌∷◌, Bool, true, false, ◌==◌, Option, Some, None, length, get_or}
use Rattle.std.proofs.Common.{map, refl, ap, inl, inr, arith}
use Prim.Native.Nat.{zero, suc}
use Rattle.std.specs.List.{list_all}
use Rattle.std.proofs.lemmas.Bool.Decides.{nat_tests}
use Rattle.std.proofs.lemmas.Bool.{and_parts}
use Rattle.alpha_operands.specs.Names.{registers, named, HasRow}
use Rattle.alpha_operands.specs.declared.names.Row.{Row}

abbrev is_number : Option ℕ → ℕ → Bool
is_number None n = false
is_number (Some m) n = m == n

number_is : (r : Option ℕ) (n : ℕ) → is_number r n ≡ true → r ≡ Some n
number_is None n h = cc
number_is (Some m) n h = let e : m ≡ n = grind (arith, nat_tests) in ap Some e

-- each row of a list is the first with its name among all
abbrev pub are_first : List (List ℕ × ℕ) → List (List ℕ × ℕ) → Bool
are_first all rows = list_all (λ row. is_number (named all row.0) row.1) rows

pub named-HasRow : (all rows : List (List ℕ × ℕ)) (name : List ℕ) (n : ℕ) → are_first all rows ≡ true
    → HasRow rows name n
    → named all name ≡ Some n
named-HasRow all [] name n h m = absurd m
named-HasRow all (row ∷ rows) name n h m =
    let (a, b) = and_parts (is_number (named all row.0) row.1) (are_first all rows) h in
    elim m [
      | inl e ↦ rw (← e.0, ← e.1) (number_is (named all row.0) row.1 a)
      | inr k ↦ named-HasRow all rows name n b k
    ]

-- some row of a list
pub register_row-at : (rows : List Row) (i : ℕ) (d : Row) (name : List ℕ) (n : ℕ)
    → i < length rows → (get_or rows i d).name.now ≡ name → (get_or rows i d).number ≡ n
    → HasRow (map (λ r. (r.name.now, r.number)) rows) name n
register_row-at [] i d name n inside e f = absurd (omega arith)
register_row-at (row ∷ rows) zero d name n inside e f = inl (e, f)
register_row-at (row ∷ rows) (suc i) d name n inside e f = inr (register_row-at rows i d name n (omega arith) e f)

pub registers-first : are_first registers registers ≡ true
unfolding registers
registers-first = refl
