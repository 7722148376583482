use Rattle.std.proofs.Common.{◌≡◌, ◌-◌, [], length, map}
use Rattle.alpha_table.specs.Encoded.{encoded}
use Rattle.alpha_link.specs.Reading.{items_at}
use Rattle.alpha_link.specs.Relocations.{relocation_at, body}
use Rattle.alpha_link.proofs.relocations.read_relocations.Given as goal

abbrev pub invariant-loop-number : goal.invariant-loop-number
invariant-loop-number l = record {
  size : length l.relocations.items ≡ l._number;
  reads : items_at (relocation_at l.total l.sizes (body (map encoded l.insns) l.filled))
      (l.sizes.relocations - l._number) l.relocations.items l.rest
      ≡ items_at (relocation_at l.total l.sizes (body (map encoded l.insns) l.filled)) l.sizes.relocations [] l.bytes;
}
