use Rattle.std.proofs.Common.{◌≡◌, ◌+◌, ◌*◌, ◌≤◌, ◌++◌, decimal, length, map, take}
use Rattle.std.specs.List.{join_with_byte}
use Rattle.alpha_dis.proofs.lines.push_values.Given as goal

-- the first values were appended, each of three digits at most and a comma
abbrev pub invariant-loop-n : goal.invariant-loop-n
invariant-loop-n l = record {
  size : length l.block ≤ length l.initial.block + 4 * l.n;
  state : l.block ≡ l.initial.block ++ join_with_byte 44 (map decimal (take l.n l.bytes));
}
