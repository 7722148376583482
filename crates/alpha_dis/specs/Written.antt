-- What of an array of bytes is written.
use Rattle.std.specs.Prelude.{ℕ, List, take}

-- the bytes before a place
unfoldable pub before : ℕ → List ℕ → List ℕ
before place bytes = take place bytes
