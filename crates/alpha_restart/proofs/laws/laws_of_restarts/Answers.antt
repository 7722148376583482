use Rattle.alpha_restart.proofs.Safety.{safe}
use Rattle.alpha_restart.proofs.Agreement.{IsAccepted-IsRestartable}
use Rattle.alpha_restart.proofs.NoTrapLost.{IsAccepted-NeverLoses}
use Rattle.alpha_restart.proofs.laws.laws_of_restarts.Goals as goal

pub returns : goal.returns
returns c =
    record {
      accepted = IsAccepted-IsRestartable;
      found = IsAccepted-NeverLoses;
      safe = λ image accepted. safe image.words accepted;
    }
