use Rattle.std.proofs.Common.{◌≡◌, ◌≤◌, ◌-◌}
use Rattle.alpha_io.specs.Supply.{supply}
use Rattle.alpha_mem.specs.Block.{shapes}
use Rattle.alpha_mem.specs.Memory.{IsMemory}
use Rattle.alpha_pal.specs.Taken.{TakesPieces}
use Rattle.alpha_pal.proofs.take.take_into.Given as goal

abbrev pub invariant-loop-done : goal.invariant-loop-done
invariant-loop-done g l = record {
  first : TakesPieces l.initial.mem l.mem l.addr l.done (supply g.S.Source l.initial.input) (supply g.S.Source l.input);
  shapes : shapes l.mem ≡ shapes l.initial.mem;
  room : l.done ≤ l.size;
  memory : IsMemory l.mem;
  faults_unchanged : g.S.Source.faults l.input ≡ g.S.Source.faults l.initial.input;
}

abbrev pub decreases-loop-done : goal.decreases-loop-done
decreases-loop-done g l = l.size - l.done
