use Rattle.alpha_seq.proofs.SingleSteps.{StepLeaves-step}
use Rattle.alpha_seq.proofs.laws.laws_of_steps.Goals as goal

pub returns-clause-registers : goal.returns-clause-registers
returns-clause-registers c g class s input = (StepLeaves-step g class s input).registers

pub returns-clause-shapes : goal.returns-clause-shapes
returns-clause-shapes c g class s input = (StepLeaves-step g class s input).blocks

pub returns-clause-ended : goal.returns-clause-ended
returns-clause-ended c g class s input = (StepLeaves-step g class s input).all
