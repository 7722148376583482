use Rattle.std.proofs.Common.{false, refl}
use Rattle.alpha_pal.proofs.SystemCalls.{write_bad_descriptor, write_bad_range, write_done, IsTrue-false_iff}
use Rattle.alpha_pal.proofs.serve.SystemCall.write.Goals as goal

pub returns-then-self-ne-OUTPUT-clause-effect : goal.returns-then-self-ne-OUTPUT-clause-effect
returns-then-self-ne-OUTPUT-clause-effect g c =
    λ left. write_bad_descriptor c.args.self c.args.mem.now left
    (g.K.Sink.written c.args.out.now) c.requires c.if-self-ne-OUTPUT.true

pub returns-in-None-clause-effect : goal.returns-in-None-clause-effect
returns-in-None-clause-effect g c =
    λ left. write_bad_range c.args.self c.args.mem.now left (g.K.Sink.written c.args.out.now) c.requires
    c.if-self-ne-OUTPUT.false (IsTrue-false_iff false _ c.in-None.ensures.none refl)

pub returns-in-Ok-clause-effect : goal.returns-in-Ok-clause-effect
returns-in-Ok-clause-effect g c =
    λ left. write_done c.args.self c.args.mem.now left (g.K.Sink.written c.args.out.now)
    (g.K.Sink.written c.write_whole.new.out) c.in-Some.bytes.now c.requires c.if-self-ne-OUTPUT.false
    (c.in-Some.ensures.none.0 refl) c.in-Some.ensures.found c.in-Ok.ensures.written
