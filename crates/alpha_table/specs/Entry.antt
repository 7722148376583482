-- A row of the table: the instruction's name, and the columns of its format.
use Rattle.std.specs.Prelude.{ℕ, List, codes}
use Prim.Native.String.{String}

pub record Entry (R : Type 0) : Type 0 where
  pub name : List ℕ
  pub row : R

abbrev pub entry : {R : Type 0} → String → R → Entry R
entry name row = record { name = codes name; row = row }
