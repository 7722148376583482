use Rattle.std.specs.Io.KnownBytes.{Keeps}
use Rattle.alpha_io.proofs.again.write_again.Given as goal

-- interrupted writes wrote nothing
abbrev pub invariant-loop : goal.invariant-loop
invariant-loop g l = Keeps (g.F.Write.contents l.initial.writer) (g.F.Write.contents l.writer)
