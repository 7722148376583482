use Rattle.std.proofs.Common.{length, map}
use Rattle.alpha_operands.specs.Values.{view}
use Rattle.alpha_asm.specs.Statement.{cell_of, values_up_to}
use Rattle.alpha_fix.specs.FixedLines.{items_of, has_offset, names_code}
use Rattle.alpha_fix.proofs.ValueOffsets.{any_of, any_of-other_value}
use Rattle.alpha_fix.proofs.fixed_line.is_any_off.Goals as goal

pub loop-preserved : goal.loop-preserved
loop-preserved c =
    any_of-other_value (has_offset (names_code (items_of c.args.symbols.now))) c.args.bytes
    (length c.args.list.now) c.loop.counter c.loop.rest.now c.in-Some.more.now (view c.in-Some.value)
    (any_of (has_offset (names_code (items_of c.args.symbols.now)))
    (map (cell_of c.args.bytes) (values_up_to (length c.args.list.now) c.args.bytes c.args.list.now)))
    c.loop-test.true c.in-Some.ensures.value c.if-is_value_off.ensures c.loop.invariant
