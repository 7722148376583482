-- What a call did to a sink: its bytes and its count of faults, before the call and after it.
use Rattle.std.specs.Prelude.{◌≡◌, ℕ, ◌≤◌, List, Option}
use Rattle.std.specs.Io.KnownBytes.{Appends}
use Rattle.alpha_io.specs.Faults.{Faulted, NoFault}
use Rattle.alpha_io.specs.declared.sink.Sink.{Ghosts}
use Rattle.alpha_io.specs.Written.{WritesPrefix}

pub record SinkChange : Type 0 where
  pub old : Option (List ℕ)
  pub new : Option (List ℕ)
  pub before : ℕ
  pub now : ℕ

-- by what the sink tells and its count
abbrev pub sink_change_by : {K : Type 0} → (K → Option (List ℕ)) → (K → ℕ) → K → K → SinkChange
sink_change_by written faults old new =
    record { old = written old; new = written new; before = faults old; now = faults new }

-- by the ghosts of the sink's type, `Sink.written` and `Sink.faults`
abbrev pub sink_change : {K : Type 0} → Ghosts K → K → K → SinkChange
sink_change g = sink_change_by g.written g.faults

-- these bytes were written, all of them, without a fault
pub record Puts (s : SinkChange) (bytes : List ℕ) : Type 0 where
  pub written : Appends s.old s.new bytes
  pub same : s.now ≡ s.before

-- a prefix of these bytes was written, with or without a fault
pub record WritesPartly (s : SinkChange) (bytes : List ℕ) : Type 0 where
  pub prefix : WritesPrefix s.old s.new bytes
  pub later : s.before ≤ s.now

-- the sink failed, by its count
abbrev pub HasFailed : SinkChange → Type 0
HasFailed s = Faulted s.before s.now

-- it didn't fail
abbrev pub HasNoFault : SinkChange → Type 0
HasNoFault s = NoFault s.before s.now
