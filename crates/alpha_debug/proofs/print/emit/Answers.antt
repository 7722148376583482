use Rattle.alpha_debug.proofs.SinkEffects.{OnOk-both, OnErr-map}
use Rattle.alpha_debug.proofs.BlockContents.{AppendsOutput-for, SinkFailsWith-for}
use Rattle.alpha_debug.proofs.print.emit.Goals as goal

pub returns-clause-ok : goal.returns-clause-ok
returns-clause-ok g c =
    OnOk-both c.gather.result
    (AppendsOutput-for g.K.Sink c.args.out.now c.gather.new.out c.args.block.now c.args.bytes.now c.gather.new.self)
    c.gather.ensures.puts c.gather.ensures.waits

pub returns-clause-refused : goal.returns-clause-refused
returns-clause-refused g c =
    OnErr-map c.gather.result
    (SinkFailsWith-for g.K.Sink c.args.out.now c.gather.new.out c.args.block.now c.args.bytes.now c.gather.new.self)
    c.gather.ensures.refused
