use Rattle.alpha_cmd.proofs.OfImage.Dis.{dis_source}
use Rattle.alpha_cmd.proofs.laws.laws_of_listed_files.Goals as goal

pub returns : goal.returns
returns c = dis_source
