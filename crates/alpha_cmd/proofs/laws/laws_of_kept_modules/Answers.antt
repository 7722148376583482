use Rattle.std.proofs.Common.{inr}
use Rattle.alpha_cmd.proofs.laws.laws_of_kept_modules.Goals as goal

pub returns : goal.returns
returns c = λ file out old new kept. (kept.parts, inr (kept.source, kept.made), (kept.kept, kept.accepted))
