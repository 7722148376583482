-- How far the patterns of a shape are read.
use Rattle.std.specs.Prelude.{◌≡◌, ◌⊎◌, ◌≤◌, List, [], ◌∷◌, ◌++◌, length, take}
use Rattle.alpha_operands.specs.declared.piece.Piece.{Piece}
use Rattle.alpha_operands.specs.declared.walk.Reached.{Reached}
use Rattle.alpha_operands.specs.Shapes.{Pattern}
use Rattle.alpha_operands.specs.Grammar.{IsOneOf}

-- the pieces that are read
abbrev pub front_of : Reached → Pattern
front_of r = take r.pieces r.pattern.now

-- they begin one of the patterns, or there are none yet
pub record IsReached (all : List Pattern) (r : Reached) : Type 0 where
  pub pattern : (r.pattern.now ≡ []) ⊎ IsOneOf r.pattern.now all
  pub pieces : r.pieces ≤ length r.pattern.now

-- a pattern has a front and then a piece
abbrev pub HasBehind : Pattern → Pattern → Piece → Type 0
HasBehind q front p = (rest : Pattern) × (q ≡ front ++ p ∷ rest)
