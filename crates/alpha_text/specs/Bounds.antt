-- The numbers of a statement are within their ranges.
use Rattle.std.specs.Prelude.{⊤, ◌≤◌, ◌^◌}
use Rattle.alpha_text.specs.Statements.{Stmt, zero, align}

-- a count of zeroed bytes is at most 2 ^ 24, and an alignment at most 2 ^ 13
abbrev pub IsWithin : Stmt → Type 0
IsWithin (zero n) = n ≤ 2 ^ 24
IsWithin (align n) = n ≤ 13
IsWithin _ = ⊤
