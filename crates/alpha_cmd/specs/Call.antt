-- What a call did to its devices, and when none of them failed.
use Rattle.alpha_io.specs.declared.shelf.Shelf as shelves
use Rattle.alpha_io.specs.declared.source.Source as sources
use Rattle.alpha_io.specs.declared.sink.Sink as sinks
use Rattle.alpha_io.specs.Faults.{NoFault}
use Rattle.alpha_io.specs.ShelfChange.{ShelfChange, shelf_change}
use Rattle.alpha_io.specs.SinkChange.{SinkChange, sink_change}
use Rattle.alpha_seq.specs.Devices.{Drawn, drawn}
use Rattle.alpha_cmd.specs.declared.devices.Devices.{Devices}

-- what each device tells, its count of faults, and what shelf and source answered, before the call and after it
pub record Call : Type 0 where
  pub shelf : ShelfChange
  pub input : Drawn
  pub out : SinkChange
  pub notes : SinkChange

-- by the ghosts of the devices' types, and by the devices before and after
abbrev pub called : {H S K N : Type 0} → shelves.Ghosts H → sources.Ghosts S → sinks.Ghosts K → sinks.Ghosts N
    → Devices H S K N → Devices H S K N → Call
called h s k n old new = record {
  shelf = shelf_change h old.shelf new.shelf;
  input = drawn s old.input new.input;
  out = sink_change k old.out new.out;
  notes = sink_change n old.notes new.notes;
}

-- no device failed, by its count of faults
pub record NoDeviceFault (c : Call) : Type 0 where
  pub shelf : NoFault c.shelf.before c.shelf.now
  pub input : NoFault c.input.before c.input.now
  pub out : NoFault c.out.before c.out.now
  pub notes : NoFault c.notes.before c.notes.now
