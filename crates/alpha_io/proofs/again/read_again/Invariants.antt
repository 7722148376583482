use Rattle.std.specs.Io.KnownBytes.{Keeps}
use Rattle.alpha_io.proofs.again.read_again.Given as goal

-- interrupted reads took nothing
abbrev pub invariant-loop : goal.invariant-loop
invariant-loop g l = Keeps (g.F.Read.remaining l.initial.reader) (g.F.Read.remaining l.reader)
