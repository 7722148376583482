use Rattle.std.proofs.Common.{◌%◌, refl, eq-eqb}
use Rattle.std.proofs.lemmas.Bool.{ne_eqb}
use Rattle.alpha_imprecise.specs.Oracle.{oracle_of}
use Rattle.alpha_imprecise.specs.ChoiceSource.{Reports, Waits}
use Rattle.alpha_imprecise.proofs.RunConcatenation.{OracleDraws-two}
use Rattle.alpha_imprecise.proofs.choice_source.AnyChoiceSource.pick.Goals as goal

pub returns-then-c-eq0 : goal.returns-then-c-eq0
returns-then-c-eq0 g c = Reports c.next-c.result (eq-eqb _ _ c.if-c-eq0.true) refl c.next-c.ensures

pub returns : goal.returns
returns g c =
    let t = oracle_of g.C.Chooser.ahead g.C.Chooser.drawn in
    Waits c.next-c.result c.next-value.result (ne_eqb (c.next-c.result % 4) 0 c.if-c-eq0.false) refl
    (OracleDraws-two (t c.args.self.now) (t c.next-c.new.self)
    (t c.next-value.new.self) c.next-c.result c.next-value.result c.next-c.ensures c.next-value.ensures)
