use Rattle.std.proofs.Common.{◌≡◌, ◌-◌, length, map}
use Rattle.alpha_asm.specs.Statement.{cell_of, values_up_to}
use Rattle.alpha_fix.specs.FixedLines.{items_of, has_offset, names_code}
use Rattle.alpha_fix.proofs.ValueOffsets.{any_of}
use Rattle.alpha_fix.proofs.fixed_line.is_any_off.Given as goal

-- whether a value from here on is off says whether one of all is
abbrev pub invariant-loop : goal.invariant-loop
invariant-loop l =
    any_of (has_offset (names_code (items_of l.symbols)))
    (map (cell_of l.bytes) (values_up_to (length l.list - l.counter) l.bytes l.rest))
    ≡ any_of (has_offset (names_code (items_of l.symbols)))
    (map (cell_of l.bytes) (values_up_to (length l.list) l.bytes l.list))
