use Rattle.std.proofs.Common.{Some, ap, sym, subst, ◌∙◌}
use Rattle.alpha_words.specs.Regs.{Has}
use Rattle.alpha_shadow.specs.declared.broken.Condition.TheVariants.{SourceLost}
use Rattle.alpha_shadow.specs.Place.{IsFirstBroken}
use Rattle.alpha_shadow.proofs.BreakingTriggers.{SourceLost-no_set}
use Rattle.alpha_shadow.proofs.LoneTriggers.{SourceLost-lone_trigger, SourceLost-lone_trigger_none}
use Rattle.alpha_shadow.proofs.place.source_lost_at_once.Goals as goal

pub returns-in_err-r : goal.returns-in_err-r
returns-in_err-r c = λ code none h.
    subst (IsFirstBroken code c.args.at SourceLost) (sym c.from_residual.ensures)
    (SourceLost-no_set code c.args.at (h.sets ∙ c.in_err-r.was))

pub returns-then-has : goal.returns-then-has
returns-then-has c = λ code none h.
    let at = c.args.at in
    let r = c.in_ok-r.r in
    let uses : Has c.args.word.now.uses r = c.has.ensures.0 c.if-has.true in
    SourceLost-lone_trigger code at r none (h.kind ∙ ap Some c.requires) (h.sets ∙ c.in_ok-r.was) ((h.uses r).0 uses)

pub returns-else-has : goal.returns-else-has
returns-else-has c = λ code none h.
    let at = c.args.at in
    let r = c.in_ok-r.r in
    SourceLost-lone_trigger_none code at r none (h.sets ∙ c.in_ok-r.was)
    (λ u. let t = c.has.ensures.1 ((h.uses r).1 u) in let f = c.if-has.false in cc)
