use Rattle.alpha_cmd.proofs.InputFreePrograms.{answer_unread-unique, answer_unread-exists, answer_unread-imprecise}
use Rattle.alpha_cmd.proofs.InputFreePrograms.{answer_unread-imprecise_exists}
use Rattle.alpha_cmd.proofs.laws.laws_of_unread_inputs.Goals as goal

pub returns : goal.returns
returns c =
    record {
      run = answer_unread-unique;
      some_run = answer_unread-exists;
      imprecise = answer_unread-imprecise;
      some_imprecise = answer_unread-imprecise_exists;
    }
