use Rattle.std.proofs.Common.{◌++◌}
use Rattle.alpha_run.proofs.SeqShown as seq_shown
use Rattle.alpha_run.proofs.ImpreciseShown as imprecise_shown
use Rattle.alpha_run.proofs.laws.laws_of_cut_runs.Goals as goal

pub returns-clause-sequential : goal.returns-clause-sequential
returns-clause-sequential c fault n rest watch m new input out notes cut =
    seq_shown.cut_any fault n watch m input out notes cut

pub returns-clause-imprecise : goal.returns-clause-imprecise
returns-clause-imprecise c fault n rest watch w new before after input out notes cut = record {
  words = cut.words ++ cut.label.words;
  drew = cut.drew;
  fronts = imprecise_shown.cut_any fault n watch w before after input out notes cut;
}
