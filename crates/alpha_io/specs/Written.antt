-- What a sink that tells its bytes got of a list of bytes.
use Rattle.std.specs.Prelude.{◌≡◌, ℕ, List, ◌++◌, Option}
use Rattle.std.specs.Io.KnownBytes.{Appends}

-- a prefix of the bytes was written
pub record WritesPrefix (old new : Option (List ℕ)) (bytes : List ℕ) : Type 0 where
  pub done : List ℕ
  pub rest : List ℕ
  pub whole : done ++ rest ≡ bytes
  pub written : Appends old new done
