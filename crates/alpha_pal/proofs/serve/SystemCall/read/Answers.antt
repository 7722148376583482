use Rattle.std.proofs.Common.{refl}
use Rattle.alpha_io.specs.Supply.{supply}
use Rattle.alpha_pal.proofs.SystemCalls.{read_bad_descriptor, read_bad_range, read_done, read_failed, IsTrue-false_iff}
use Rattle.alpha_pal.proofs.serve.SystemCall.read.Goals as goal

pub returns-then-self-ne-INPUT-clause-effect : goal.returns-then-self-ne-INPUT-clause-effect
returns-then-self-ne-INPUT-clause-effect g c =
    λ written. read_bad_descriptor c.args.self c.args.mem.now
    (supply g.S.Source c.args.input.now) written c.requires c.if-self-ne-INPUT.true

pub returns-then-not-can_write-clause-effect : goal.returns-then-not-can_write-clause-effect
returns-then-not-can_write-clause-effect g c =
    λ written. read_bad_range c.args.self c.args.mem.now (supply g.S.Source c.args.input.now) written c.requires
    c.if-self-ne-INPUT.false (IsTrue-false_iff _ _ c.can_write.ensures.value c.if-not-can_write.true)

pub returns-in-Ok-clause-effect : goal.returns-in-Ok-clause-effect
returns-in-Ok-clause-effect g c =
    λ written. read_done c.args.self c.args.mem.now c.take_into.new.mem (supply g.S.Source c.args.input.now)
    (supply g.S.Source c.take_into.new.input) written c.in-Ok.count c.can_write.ensures.good.layout c.requires
    c.if-self-ne-INPUT.false (c.can_write.ensures.value.0 c.if-not-can_write.false) c.in-Ok.ensures.ok
    c.in-Ok.ensures.bound c.in-Ok.ensures.ends

pub returns-in-Err-clause-effect : goal.returns-in-Err-clause-effect
returns-in-Err-clause-effect g c =
    λ written. (
      read_failed c.args.self c.args.mem.now c.take_into.new.mem (supply g.S.Source c.args.input.now)
          (supply g.S.Source c.take_into.new.input) c.can_write.ensures.good.layout c.requires c.if-self-ne-INPUT.false
          (c.can_write.ensures.value.0 c.if-not-can_write.false) c.in-Err.ensures.refused,
      refl,
    )
