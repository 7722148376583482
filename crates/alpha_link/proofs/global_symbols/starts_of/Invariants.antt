use Rattle.std.proofs.Common.{◌≡◌, ℕ, length, take, Some}
use Rattle.std.specs.Prelude.{slice_get}
use Rattle.alpha_link.specs.Starts.{symbols_of}
use Rattle.alpha_link.proofs.global_symbols.starts_of.Given as goal

abbrev pub invariant-loop-located : goal.invariant-loop-located
invariant-loop-located l = record {
  size : length l.starts.items ≡ l.located-index;
  counts : (k s : ℕ) → slice_get l.starts.items k ≡ Some s → s ≡ symbols_of (take k l.places);
  count : l.count ≡ symbols_of (take l.located-index l.places);
}
