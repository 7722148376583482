use Rattle.std.proofs.Common.{length, map}
use Rattle.alpha_asm.specs.Statement.{number, bytes_up_to}
use Rattle.alpha_asm.specs.Patches.{AddsCells}
use Rattle.alpha_asm.proofs.DataValues.{AddsCells-next_byte, AddsCells-last_byte, AddsCells-all_bytes}
use Rattle.alpha_asm.proofs.output.Output.push_text.Goals as goal

pub loop-preserved : goal.loop-preserved
loop-preserved c =
    AddsCells-next_byte c.args.line
    (length c.args.text.now) c.loop.counter c.loop.rest.now c.in-Some.more.now c.in-Some.byte
    c.loop.self c.push_byte.new.self
    (λ new.
    AddsCells c.args.line (map (number 1) (bytes_up_to (length c.args.text.now) c.args.text.now)) c.args.self.now new)
    c.loop-test.true c.in-Some.ensures.value c.in_ok-push_byte-in-Some.ensures c.loop.invariant

pub returns-in-None : goal.returns-in-None
returns-in-None c =
    AddsCells-last_byte c.args.line (length c.args.text.now) c.loop.counter c.loop.rest.now c.loop.self
    (λ new.
    AddsCells c.args.line (map (number 1) (bytes_up_to (length c.args.text.now) c.args.text.now)) c.args.self.now new)
    c.in-None.ensures.value c.loop.invariant

pub returns : goal.returns
returns c =
    AddsCells-all_bytes c.args.line (length c.args.text.now) c.loop.counter c.loop.rest.now c.loop.self
    (λ new.
    AddsCells c.args.line (map (number 1) (bytes_up_to (length c.args.text.now) c.args.text.now)) c.args.self.now new)
    c.loop-test.false c.loop.invariant
