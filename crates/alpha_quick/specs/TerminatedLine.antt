-- A line in the bytes of its source.
use Rattle.std.specs.Prelude.{◌<◌, ℕ, List, length, take, drop, get_or}
use Rattle.alpha_quick.specs.declared.terminated_line.TerminatedLine.{TerminatedLine}

-- behind the line stands a control byte, as the line feed that ends it
abbrev pub IsTerminated : TerminatedLine → Type 0
IsTerminated s = (s.end < length s.bytes.now) × (get_or s.bytes.now s.end 0 < 14)

-- the line
abbrev pub line_text : TerminatedLine → List ℕ
line_text s = take s.end s.bytes.now

-- what is left of it from a place on
abbrev pub rest_from : TerminatedLine → ℕ → List ℕ
rest_from s i = drop i (line_text s)
