-- What a block of bytes does on their way to a sink.
use Rattle.std.specs.Prelude.{◌≡◌, ℕ, List, ◌++◌}
use Rattle.alpha_io.specs.SinkChange.{SinkChange, Puts, WritesPartly, HasFailed}

-- A block that held some bytes took these: the first of all of them were put, without a fault, and it holds the others.
pub record Takes (s : SinkChange) (old new bytes : List ℕ) : Type 0 where
  pub sent : List ℕ
  pub puts : Puts s sent
  pub whole : old ++ bytes ≡ sent ++ new

-- the sink failed, with a prefix of these bytes written
pub record SinkFails (s : SinkChange) (bytes : List ℕ) : Type 0 where
  pub part : WritesPartly s bytes
  pub failed : HasFailed s
