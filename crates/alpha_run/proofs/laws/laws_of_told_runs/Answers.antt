use Rattle.alpha_run.proofs.ShownRuns.{SeqRan-Shows, SeqPrefixRun-ShowsPart, made_shows, made_part}
use Rattle.alpha_run.proofs.laws.laws_of_told_runs.Goals as goal

pub returns-clause-sequential : goal.returns-clause-sequential
returns-clause-sequential c last n left watch m new input out notes bytes ran tells =
    SeqRan-Shows last n left watch m new input out notes bytes ran tells

pub returns-clause-sequential_part : goal.returns-clause-sequential_part
returns-clause-sequential_part c fault n rest watch m new input out notes bytes cut tells =
    SeqPrefixRun-ShowsPart fault n watch m new input out notes bytes cut tells

pub returns-clause-imprecise : goal.returns-clause-imprecise
returns-clause-imprecise c last n left watch w new before after input out notes bytes ran tells low =
    made_shows last n left watch w new before after input out notes bytes ran tells

pub returns-clause-imprecise_part : goal.returns-clause-imprecise_part
returns-clause-imprecise_part c fault n rest watch w new before after input out notes bytes cut tells low =
    made_part fault n watch w new before after input out notes bytes cut tells
