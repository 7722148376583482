use Rattle.alpha_seq.proofs.RunsOverInput.{after-over, after-steps}
use Rattle.alpha_seq.proofs.laws.laws_of_runs.Goals as goal

pub returns-clause-over : goal.returns-clause-over
returns-clause-over c g s input n m = after-over g s input m n

pub returns-clause-steps : goal.returns-clause-steps
returns-clause-steps c = after-steps
