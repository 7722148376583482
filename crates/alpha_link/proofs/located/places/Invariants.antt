use Rattle.std.proofs.Common.{◌≡◌, ◌*◌, ◌≤◌, ◌++◌, drop}
use Rattle.alpha_link.specs.Linked.{places, located}
use Rattle.alpha_link.proofs.located.places.Given as goal

abbrev pub invariant-loop-number : goal.invariant-loop-number
invariant-loop-number l = record {
  all : l.all.items ++ located l.number l.words l.filled (drop l.number l.modules) ≡ places l.modules;
  words : l.words ≤ l.number * 262144;
  filled : l.filled ≤ l.number * 16785407;
}
