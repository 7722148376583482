use Rattle.std.proofs.Common.{rules}
use Rattle.alpha_names.specs.Hashes.{slow_hash}
use Rattle.alpha_names.proofs.hash.slow_hash.Goals as goal

pub returns : goal.returns
unfolding slow_hash
returns c = search rules
