use Rattle.std.proofs.Common.{subst, rules}
use Rattle.alpha_asm.specs.declared.kind.SourceKind.TheVariants.{Program}
use Rattle.alpha_asm.specs.KnownLines.{AreKnown}
use Rattle.alpha_asm.proofs.PassUnderway.{PassUnderway-start, PassUnderway-next_line, PassUnderway-end_simulates}
use Rattle.alpha_asm.proofs.PassUnderway.{PassUnderway-end_unrefused}
use Rattle.alpha_asm.proofs.known_lines.read_known_lines.Goals as goal

pub loop-rest-init : goal.loop-rest-init
loop-rest-init c = record {
  pass =
      PassUnderway-start Program c.args.source.now c.new-pass.result c.new-pass.ensures.stands
      c.new-pass.ensures.bounded c.new-pass.ensures.line;
  known = c.requires.known;
}

pub take_known-requires-clause-known : goal.take_known-requires-clause-known
take_known-requires-clause-known c =
    (c.first_known-insn.ensures c.first-line.result.text.now _
    (subst (AreKnown c.loop-rest.left.now) c.first-line.ensures.lines c.loop-rest.invariant.known)).0

pub loop-rest-preserved : goal.loop-rest-preserved
loop-rest-preserved c = record {
  pass =
      PassUnderway-next_line Program c.args.source.now c.loop-rest.rest.now c.first-line.result.text.now
      c.first-line.result.rest.now c.loop-rest.pass c.take_known.new.self
      c.loop-rest.invariant.pass c.first-line.ensures.lines c.first-line.ensures.shorter
      c.in_ok-take_known.ensures.taken c.in_ok-take_known.ensures.ok c.in_ok-take_known.ensures.bounded
      c.in_ok-take_known.ensures.line;
  known =
      (c.first_known-insn.ensures c.first-line.result.text.now _
      (subst (AreKnown c.loop-rest.left.now) c.first-line.ensures.lines c.loop-rest.invariant.known)).1;
}

pub returns-clause-stands : goal.returns-clause-stands
returns-clause-stands c =
    PassUnderway-end_simulates Program c.args.source.now c.loop-rest.rest.now c.loop-rest.pass
    c.loop-rest.invariant.pass (search rules)

pub returns-clause-taken : goal.returns-clause-taken
returns-clause-taken c =
    PassUnderway-end_unrefused Program c.args.source.now c.loop-rest.rest.now c.loop-rest.pass
    c.loop-rest.invariant.pass (search rules)
