-- Numbers with commas between, at the front of what is left of a line.
use Rattle.std.specs.Prelude.{ℕ, List}
use Prim.Native.Nat.{zero, suc}
use Rattle.alpha_operands.specs.declared.number.Number.{Number}
use Rattle.alpha_operands.specs.declared.piece.Piece.{Piece}
use Rattle.alpha_quick.specs.Words.{HasComma, HasEnd, HasValue}

-- A line is n + 1 numbers of a piece with commas between, and then it ends: `rest` is what stands behind the last.
abbrev pub HasCount : ℕ → Piece → List ℕ → List ℕ → Type 0
HasCount zero piece line rest = (v : Number) × HasValue piece line v rest × HasEnd rest
HasCount (suc n) piece line rest =
    (v : Number) × (after : List ℕ) × (more : List ℕ) × HasValue piece line v after × HasComma after more
    × HasCount n piece more rest

-- numbers of a piece, to the end
abbrev pub HasValues : Piece → List ℕ → List ℕ → Type 0
HasValues piece line rest = (n : ℕ) × HasCount n piece line rest
