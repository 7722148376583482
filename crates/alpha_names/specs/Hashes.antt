-- The two hashes of a name.
use Rattle.std.specs.Prelude.{ℕ, List}
use Rattle.std.specs.Hash.FoldHasher as fold
use Rattle.std.specs.Hash.DefaultHasher as sip

unfoldable pub quick_hash : List ℕ → ℕ
quick_hash name = fold.finish (fold.write fold.initial name)

unfoldable pub slow_hash : List ℕ → ℕ
slow_hash name = sip.finish (sip.write sip.initial name)
