-- Devices that never fail, and tell everything.
use Rattle.std.specs.Prelude.{None, Some}
use Rattle.alpha_io.specs.SourceState.{SureSourceState}
use Rattle.alpha_io.specs.SureShelfState.{SureShelfState, sure_file, sure_takes}
use Rattle.alpha_cmd.specs.declared.devices.Devices.{Devices}
use Rattle.alpha_cmd.specs.AnswerBy.{World}
use Rattle.alpha_cmd.specs.Call.{Call}
use Rattle.alpha_cmd.specs.Ends.{still}

abbrev pub sure_world : SureShelfState → SureSourceState → World
sure_world shelf input = record { files = Some (sure_file shelf); takes = sure_takes shelf; input = Some input.left }

-- what a call did to them; no count of faults rises, and sinks that drop what is written tell nothing
abbrev pub sure_call : {K N : Type 0} → Devices SureShelfState SureSourceState K N
    → Devices SureShelfState SureSourceState K N → Call
sure_call old new = record {
  shelf = record {
    old = Some (sure_file old.shelf);
    new = Some (sure_file new.shelf);
    took = sure_takes old.shelf;
    takes = sure_takes new.shelf;
    before = 0;
    now = 0;
    past = old.shelf.replies;
    history = new.shelf.replies;
  };
  input = record {
    old = record { left = Some old.input.left; replies = old.input.replies };
    new = record { left = Some new.input.left; replies = new.input.replies };
    before = 0;
    now = 0;
  };
  out = still None 0;
  notes = still None 0;
}
