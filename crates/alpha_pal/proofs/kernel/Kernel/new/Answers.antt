use Rattle.std.proofs.Common.{true, ap, arith}
use Rattle.alpha_pal.specs.Kernel.{KernelState}
use Rattle.alpha_pal.specs.declared.frame.Frame.{Frame}
use Rattle.alpha_pal.proofs.Frames.{frame_of-zeros, zeros-frame}
use Rattle.alpha_pal.proofs.kernel.Kernel.new.Goals as goal

pub invariant_of-result : goal.invariant_of-result
invariant_of-result c = (
  omega (arith, c.in_ok-stack.ensures.len, c.in_ok-stack.stack.ok.0),
  zeros-frame _ (c.in_ok-stack.ensures.items_if_clones_equal (λ y e. e)),
)

pub returns : goal.returns
returns c =
    ap (λ (f : Frame). let k : KernelState = record { user = true; frame = f; user_stack = 0 } in k)
    (frame_of-zeros _ (c.in_ok-stack.ensures.items_if_clones_equal (λ y e. e)))
