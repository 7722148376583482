use Rattle.std.proofs.Common.{◌≡◌, ◌≤◌, ◌-◌, true, length, take}
use Rattle.std.specs.List.{list_all}
use Rattle.alpha_token.specs.Bytes.{goes_on_label}
use Rattle.alpha_quick.specs.Keys.{key_of}
use Rattle.alpha_quick.proofs.lexeme.Lexeme.of.Given as goal

-- the bytes so far go on a label, and are those of the key
abbrev pub invariant-loop-n : goal.invariant-loop-n
invariant-loop-n l =
    (l.n ≤ length l.line) × (list_all goes_on_label (take l.n l.line) ≡ true) × (l.key.0 ≡ key_of (take l.n l.line))

abbrev pub decreases-loop-n : goal.decreases-loop-n
decreases-loop-n l = length l.line - l.n
