use Rattle.std.proofs.Common.{sym, ◌∙◌, arith}
use Rattle.alpha_link.specs.Symbols.{Named, named}
use Rattle.alpha_link.specs.Linked.{is_defined}
use Rattle.alpha_link.proofs.LoopLists.{list_all-drop_false, list_all-drop_next, list_all-drop_end}
use Rattle.alpha_link.proofs.names.defines_all.Goals as goal

pub returns-then-not-is_defined : goal.returns-then-not-is_defined
returns-then-not-is_defined c =
    list_all-drop_false (λ (s : Named). is_defined s.section) c.args.symbols.now c.loop-number.number
    (named c.at.result) _ c.at.ensures (sym c.is_defined.ensures ∙ c.if-not-is_defined.true) c.loop-number.invariant

pub loop-number-preserved : goal.loop-number-preserved
loop-number-preserved c =
    list_all-drop_next (λ (s : Named). is_defined s.section) c.args.symbols.now c.loop-number.number
    (named c.at.result) _ c.at.ensures (sym c.is_defined.ensures ∙ c.if-not-is_defined.false) c.loop-number.invariant

pub returns : goal.returns
returns c =
    list_all-drop_end (λ (s : Named). is_defined s.section) c.args.symbols.now c.loop-number.number _
    (omega (arith, c.len-number-end.ensures, c.loop-number-test.false)) c.loop-number.invariant
