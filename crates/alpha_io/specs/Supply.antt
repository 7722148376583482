-- What a source tells.
use Rattle.std.specs.Prelude.{ℕ, List, Option}
use Rattle.alpha_io.specs.History.{Reply}
use Rattle.alpha_io.specs.declared.source.Source.{Ghosts}

-- the bytes still to come, unless it tells nothing, and what its calls answered so far
pub record Supply : Type 0 where
  pub left : Option (List ℕ)
  pub replies : List Reply

-- by the ghosts of the source's type, `Source.left` and `Source.replies`
abbrev pub supply : {S : Type 0} → Ghosts S → S → Supply
supply g s = record { left = g.left s; replies = g.replies s }
