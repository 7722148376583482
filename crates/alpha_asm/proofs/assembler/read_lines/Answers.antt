use Rattle.std.proofs.Common.{◌≡◌, length, refl, ◌∙◌, rules}
use Rattle.alpha_asm.proofs.PassUnderway.{PassUnderway-start, PassUnderway-next_line, PassUnderway-end_simulates}
use Rattle.alpha_asm.proofs.PassUnderway.{PassUnderway-end_unrefused, kinds_go_on}
use Rattle.alpha_asm.proofs.PassUnderway.{kinds_end}
use Rattle.alpha_asm.proofs.assembler.read_lines.Goals as goal

pub loop-rest-init : goal.loop-rest-init
loop-rest-init c = record {
  pass =
      PassUnderway-start c.args.kind c.args.source.now c.new-pass.result c.new-pass.ensures.stands
      c.new-pass.ensures.bounded
      c.new-pass.ensures.line;
  gathers = refl;
  kinds = λ h. refl;
}

pub loop-rest-preserved : goal.loop-rest-preserved
loop-rest-preserved c = record {
  pass =
      PassUnderway-next_line c.args.kind c.args.source.now c.loop-rest.rest.now c.first-line.result.text.now
      c.first-line.result.rest.now c.loop-rest.pass c.take_line.new.self
      c.loop-rest.invariant.pass c.first-line.ensures.lines c.first-line.ensures.shorter
      c.in_ok-take_line.ensures.taken c.in_ok-take_line.ensures.ok c.in_ok-take_line.ensures.bounded
      c.in_ok-take_line.ensures.line;
  gathers = c.in_ok-take_line.ensures.gathers ∙ c.loop-rest.invariant.gathers;
  kinds =
      λ h. kinds_go_on _ _ _ c.args.source.now c.loop-rest.rest.now c.first-line.result.text.now
      c.first-line.result.rest.now c.first-line.ensures.lines
      (c.in_ok-take_line.ensures.kinds (c.loop-rest.invariant.gathers ∙ h)) (c.loop-rest.invariant.kinds h);
}

pub returns-clause-stands : goal.returns-clause-stands
returns-clause-stands c =
    PassUnderway-end_simulates c.args.kind c.args.source.now c.loop-rest.rest.now c.loop-rest.pass
    c.loop-rest.invariant.pass
    (search rules)

pub returns-clause-taken : goal.returns-clause-taken
returns-clause-taken c =
    PassUnderway-end_unrefused c.args.kind c.args.source.now c.loop-rest.rest.now c.loop-rest.pass
    c.loop-rest.invariant.pass
    (search rules)

pub returns-clause-kinds : goal.returns-clause-kinds
returns-clause-kinds c = λ h.
    let none : length c.loop-rest.rest.now ≡ 0 = search rules in
    kinds_end _ _ c.args.source.now c.loop-rest.rest.now none (c.loop-rest.invariant.kinds h)
