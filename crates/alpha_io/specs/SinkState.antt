-- A sink in memory.
use Rattle.std.specs.Prelude.{ℕ, List, [], ◌++◌}
use Rattle.alpha_io.specs.Faults.{next_count}

-- what it holds, how many bytes it can hold, the numbers of the calls that fail,
-- how many calls there were, how many failed
pub record SinkState : Type 0 where
  pub written : List ℕ
  pub room : ℕ
  pub failing : List ℕ
  pub calls : ℕ
  pub faults : ℕ

-- an empty one, before any call
abbrev pub sink_started : ℕ → List ℕ → SinkState
sink_started room failing = record { written = []; room = room; failing = failing; calls = 0; faults = 0 }

-- after a call that appended these bytes
abbrev pub sink_given : SinkState → List ℕ → SinkState
sink_given s bytes = record s { written = s.written ++ bytes; calls = next_count s.calls }

-- after a call that failed
abbrev pub sink_failed : SinkState → SinkState
sink_failed s = record s { calls = next_count s.calls; faults = next_count s.faults }
