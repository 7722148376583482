-- The names of registers and operators.
use Rattle.std.specs.Prelude.{◌≡◌, ◌⊎◌, ℕ, List, [], ◌∷◌, Option, None, Some, codes, nat_lt, if◌then◌else◌}
use Rattle.std.specs.Option.{option_and_then}
use Rattle.std.specs.Str.{bytes_eq}
use Rattle.alpha_operands.specs.declared.names.Half.{Half}
use Rattle.alpha_operands.specs.declared.names.Half.TheVariants.{High, Low}

-- each register by its number, and by the name of its use in calls
unfoldable pub registers : List (List ℕ × ℕ)
registers =
    (codes "$0", 0) ∷ (codes "$1", 1) ∷ (codes "$2", 2) ∷ (codes "$3", 3) ∷
    (codes "$4", 4) ∷ (codes "$5", 5) ∷ (codes "$6", 6) ∷ (codes "$7", 7) ∷
    (codes "$8", 8) ∷ (codes "$9", 9) ∷ (codes "$10", 10) ∷ (codes "$11", 11) ∷
    (codes "$12", 12) ∷ (codes "$13", 13) ∷ (codes "$14", 14) ∷ (codes "$15", 15) ∷
    (codes "$16", 16) ∷ (codes "$17", 17) ∷ (codes "$18", 18) ∷ (codes "$19", 19) ∷
    (codes "$20", 20) ∷ (codes "$21", 21) ∷ (codes "$22", 22) ∷ (codes "$23", 23) ∷
    (codes "$24", 24) ∷ (codes "$25", 25) ∷ (codes "$26", 26) ∷ (codes "$27", 27) ∷
    (codes "$28", 28) ∷ (codes "$29", 29) ∷ (codes "$30", 30) ∷ (codes "$31", 31) ∷
    (codes "$v0", 0) ∷ (codes "$t0", 1) ∷ (codes "$t1", 2) ∷ (codes "$t2", 3) ∷
    (codes "$t3", 4) ∷ (codes "$t4", 5) ∷ (codes "$t5", 6) ∷ (codes "$t6", 7) ∷
    (codes "$t7", 8) ∷ (codes "$s0", 9) ∷ (codes "$s1", 10) ∷ (codes "$s2", 11) ∷
    (codes "$s3", 12) ∷ (codes "$s4", 13) ∷ (codes "$s5", 14) ∷ (codes "$fp", 15) ∷
    (codes "$a0", 16) ∷ (codes "$a1", 17) ∷ (codes "$a2", 18) ∷ (codes "$a3", 19) ∷
    (codes "$a4", 20) ∷ (codes "$a5", 21) ∷ (codes "$t8", 22) ∷ (codes "$t9", 23) ∷
    (codes "$t10", 24) ∷ (codes "$t11", 25) ∷ (codes "$ra", 26) ∷ (codes "$pv", 27) ∷
    (codes "$at", 28) ∷ (codes "$gp", 29) ∷ (codes "$sp", 30) ∷ (codes "$zero", 31) ∷ []

-- the number beside a name
abbrev pub named : List (List ℕ × ℕ) → List ℕ → Option ℕ
named [] name = None
named (row ∷ rows) name = if bytes_eq row.0 name then Some row.1 else named rows name

-- one of the rows has this name and this number
abbrev pub HasRow : List (List ℕ × ℕ) → List ℕ → ℕ → Type 0
HasRow [] name n = ⊥
HasRow (row ∷ rows) name n = ((row.0 ≡ name) × (row.1 ≡ n)) ⊎ HasRow rows name n

abbrev pub numbered : ℕ → Option ℕ
numbered n = if nat_lt n 32 then Some n else None

-- the register of a name
unfoldable pub register_of : List ℕ → Option ℕ
register_of name = option_and_then numbered (named registers name)

-- the half of an address that an operator names
abbrev pub operator_of : List ℕ → Option Half
operator_of name =
    if bytes_eq name (codes "%hi") then Some High else if bytes_eq name (codes "%lo") then Some Low else None
