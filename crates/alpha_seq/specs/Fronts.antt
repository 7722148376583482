-- What is told of a run that a device's fault cut short.
use Rattle.std.specs.Prelude.{◌≡◌, ◌≤◌, ℕ, Bool, List, length, None}
use Rattle.alpha_io.specs.SinkChange.{SinkChange}
use Rattle.alpha_io.specs.Written.{WritesPrefix}
use Rattle.alpha_seq.specs.declared.machine.Machine.{Machine}
use Rattle.alpha_seq.specs.State.{Event, Stepped}
use Rattle.alpha_seq.specs.Run.{begins, end_of, output, notes, Runs}
use Rattle.alpha_seq.specs.Machine.{program_of, state_of}

-- a run to here has made so many steps, fewer where the program ended
pub record HasMade (n : ℕ) (events : List Event) (at : Stepped) : Type 0 where
  pub most : length events ≤ n
  pub full : end_of at.event ≡ None → length events ≡ n

-- the output and the notes are fronts of what a run of so many steps, or to its end, shows
pub record IsFront (n : ℕ) (watch : Bool) (m : Machine) (out sink : SinkChange) : Type 0 where
  pub events : List Event
  pub at : Stepped
  pub runs : Runs (program_of m) (begins (state_of m)) events at
  pub made : HasMade n events at
  pub bytes : WritesPrefix out.old out.new (output events)
  pub lines : WritesPrefix sink.old sink.new (notes watch events)
