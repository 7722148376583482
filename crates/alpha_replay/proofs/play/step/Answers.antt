use Rattle.std.proofs.Common.{refl}
use Rattle.alpha_replay.proofs.MovedSteps.{moved_by, StepFaultedByChoice-never}
use Rattle.alpha_replay.proofs.play.step.Goals as goal

pub unreachable-requires : goal.unreachable-requires
unreachable-requires c =
    StepFaultedByChoice-never c.in-Err.field-0 c.args.wild.now c.step_by.new.self
    (record { step = c.args.m.now }) c.step_by.new.choices c.args.input.now c.step_by.new.input c.in-Err.ensures.broken

pub returns : goal.returns
returns c =
    moved_by c.in-Ok.event c.args.m.now c.args.wild.now c.step_by.new.self
    (record { step = c.args.m.now }) c.step_by.new.choices c.args.input.now c.step_by.new.input refl
    c.in-Ok.ensures.made
