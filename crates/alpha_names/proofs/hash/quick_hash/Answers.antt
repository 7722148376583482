use Rattle.std.proofs.Common.{rules}
use Rattle.alpha_names.specs.Hashes.{quick_hash}
use Rattle.alpha_names.proofs.hash.quick_hash.Goals as goal

pub returns : goal.returns
unfolding quick_hash
returns c = search rules
