use Rattle.std.proofs.Common.{ap, sym, ◌∙◌}
use Rattle.alpha_link.specs.Spelled.{module_at}
use Rattle.alpha_link.proofs.ReadingResults.{gave-injective}
use Rattle.alpha_link.proofs.ModuleBytes.{bytes_of_all, module_takes, module_again}
use Rattle.alpha_link.proofs.laws.laws_of_modules.Goals as goal

pub returns-clause-spelled : goal.returns-clause-spelled
returns-clause-spelled c bytes m fits e = module_takes bytes m (bytes_of_all bytes fits) e

pub returns-clause-read_back : goal.returns-clause-read_back
returns-clause-read_back c m good = module_again m good

pub returns-clause-one_module : goal.returns-clause-one_module
returns-clause-one_module c m n good other e =
    gave-injective m n (sym (module_again m good) ∙ (ap module_at e ∙ module_again n other))
