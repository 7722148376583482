-- What a read takes from the input into memory.
use Rattle.std.specs.Prelude.{◌≡◌, ⊤, All, ℕ, ◌<◌, List, [], ◌∷◌, ◌++◌, length, Option, Some, None}
use Rattle.std.specs.Io.KnownBytes.{Consumes, IsAtEnd}
use Rattle.alpha_io.specs.History.{Reply, Took, GaveSome, all_given, IsRead, FailsToRead}
use Rattle.alpha_io.specs.Supply.{Supply}
use Rattle.alpha_mem.specs.Block.{Block}
use Rattle.alpha_mem.specs.Memory.{write_bytes}

-- the first n bytes of the input were taken to memory at the address
pub record HasTaken (mem mem' : List Block) (a n : ℕ) (left left' : Option (List ℕ)) : Type 0 where
  pub taken : List ℕ
  pub count : n ≡ length taken
  pub there : mem' ≡ write_bytes mem a taken
  pub consumed : Consumes left left' taken

-- they were by one call of the source, and by some that gave some bytes each
pub record TakesPiece (mem mem' : List Block) (a n : ℕ) (old new : Supply) : Type 0 where
  pub had : HasTaken mem mem' a n old.left new.left
  pub asked : ℕ
  pub call : new.replies ≡ old.replies ++ Took asked (Some had.taken) ∷ []

pub record TakesPieces (mem mem' : List Block) (a n : ℕ) (old new : Supply) : Type 0 where
  pub had : HasTaken mem mem' a n old.left new.left
  pub takes : List Reply
  pub some : All GaveSome takes
  pub gave_taken : all_given takes ≡ had.taken
  pub calls : new.replies ≡ old.replies ++ takes

-- a read of so many bytes took the first n
pub record ReadsInto (mem mem' : List Block) (a n size : ℕ) (old new : Supply) : Type 0 where
  pub had : HasTaken mem mem' a n old.left new.left
  pub calls : IsRead old.replies new.replies size had.taken

-- a call of the source failed, which took nothing
pub record FailsOnce (old new : Supply) : Type 0 where
  pub left : Consumes old.left new.left []
  pub asked : ℕ
  pub call : new.replies ≡ old.replies ++ Took asked None ∷ []

-- fewer than `size` bytes were taken, and the next call failed
pub record TakesLess (mem mem' : List Block) (a size : ℕ) (old new : Supply) : Type 0 where
  pub done : ℕ
  pub less : done < size
  pub first : HasTaken mem mem' a done old.left new.left
  pub calls : FailsToRead old.replies new.replies first.taken

-- where the input was told, nothing is left of it
abbrev pub NothingLeft : Option (List ℕ) → Option (List ℕ) → Type 0
NothingLeft None now = ⊤
NothingLeft (Some xs) now = IsAtEnd now
