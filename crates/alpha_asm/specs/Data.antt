-- Data bytes, of which those of paddings stand by their number.
use Rattle.std.specs.Prelude.{ℕ, ◌+◌, List, [], ◌∷◌, ◌++◌, take, drop, replicate}
use Rattle.alpha_asm.specs.declared.data.Gap.{Gap}

pub record DataBytes : Type 0 where
  pub items : List ℕ

-- how many bytes stand before the last gap
abbrev pub before_gaps : List Gap → ℕ
before_gaps [] = 0
before_gaps (g ∷ gs) = g.before + before_gaps gs

-- how many zero bytes the gaps have
abbrev pub zeros_of_gaps : List Gap → ℕ
zeros_of_gaps [] = 0
zeros_of_gaps (g ∷ gs) = g.zeros + zeros_of_gaps gs

-- the bytes, with the zero bytes of each gap where it stands
abbrev pub spread : List Gap → List ℕ → List ℕ
spread [] bytes = bytes
spread (g ∷ gs) bytes = take g.before bytes ++ (replicate g.zeros 0 ++ spread gs (drop g.before bytes))
