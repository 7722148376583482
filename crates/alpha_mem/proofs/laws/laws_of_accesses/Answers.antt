use Rattle.alpha_mem.proofs.LawLemmas.{each_within-aligned, within-no_fault, fault_of-none_below}
use Rattle.alpha_mem.proofs.laws.laws_of_accesses.Goals as goal

pub returns-clause-one_block : goal.returns-clause-one_block
returns-clause-one_block c = each_within-aligned

pub returns-clause-granted : goal.returns-clause-granted
returns-clause-granted c = within-no_fault

pub returns-clause-below : goal.returns-clause-below
returns-clause-below c = fault_of-none_below
