use Rattle.std.proofs.Common.{length, map}
use Rattle.alpha_operands.specs.Values.{view}
use Rattle.alpha_asm.specs.Statement.{cell_of, values_up_to}
use Rattle.alpha_asm.specs.Patches.{AddsCells}
use Rattle.alpha_asm.proofs.DataValues.{AddsCells-next_value, AddsCells-last_value, AddsCells-all_values}
use Rattle.alpha_asm.proofs.output.Output.push_values.Goals as goal

pub loop-preserved : goal.loop-preserved
loop-preserved c =
    AddsCells-next_value c.args.line c.args.bytes
    (length c.args.list.now) c.loop.counter c.loop.rest.now c.in-Some.more.now
    (view c.in-Some.value) c.loop.self c.push_value.new.self
    (λ new. AddsCells c.args.line
    (map (cell_of c.args.bytes) (values_up_to (length c.args.list.now) c.args.bytes c.args.list.now)) c.args.self.now
    new)
    c.loop-test.true c.in-Some.ensures.value c.in_ok-push_value-in-Some.ensures c.loop.invariant

pub returns-in-None : goal.returns-in-None
returns-in-None c =
    AddsCells-last_value c.args.line c.args.bytes (length c.args.list.now) c.loop.counter c.loop.rest.now c.loop.self
    (λ new. AddsCells c.args.line
    (map (cell_of c.args.bytes) (values_up_to (length c.args.list.now) c.args.bytes c.args.list.now)) c.args.self.now
    new)
    c.in-None.ensures.value c.loop.invariant

pub returns : goal.returns
returns c =
    AddsCells-all_values c.args.line c.args.bytes (length c.args.list.now) c.loop.counter c.loop.rest.now c.loop.self
    (λ new. AddsCells c.args.line
    (map (cell_of c.args.bytes) (values_up_to (length c.args.list.now) c.args.bytes c.args.list.now)) c.args.self.now
    new)
    c.loop-test.false c.loop.invariant
