use Rattle.std.proofs.Common.{◌≡◌, ◌-◌, Some, ap, sym, subst, ◌∙◌, inl, inr, ⊎_elim, arith}
use Rattle.alpha_table.specs.declared.columns.InsnKind.TheVariants as kinds
use Rattle.alpha_table.specs.Class.{trigger}
use Rattle.alpha_table.specs.Code.{class_at, kind, trap_rc}
use Rattle.alpha_trap.proofs.ScanSteps.{Walked, walked_next, walked_stop, walked_found, walked_trigger, walked_down}
use Rattle.alpha_trap.proofs.scan.place_before.Goals as goal

pub returns-in-Barrier-clause-value : goal.returns-in-Barrier-clause-value
returns-in-Barrier-clause-value g c =
    let seen : kind (class_at (g.C.TrapCode.parts c.args.code.now).words (c.loop-place.place - 1))
    ≡ Some c.kind.result =
    ap kind c.in-Some.ensures ∙ ap Some (sym c.kind.ensures) in
    sym (walked_stop (g.C.TrapCode.parts c.args.code.now).words c.args.mask c.loop-place.left
    (c.loop-place.place - 1) c.args.end
    (walked_next (g.C.TrapCode.parts c.args.code.now).words c.args.mask c.loop-place.left c.loop-place.place c.args.end
    c.loop-place-test.true c.loop-place.invariant)
    (omega arith)
    (⊎_elim
    (λ (b : c.kind.result ≡ kinds.Barrier). inl (seen ∙ ap Some b))
    (λ (t : c.kind.result ≡ kinds.Turn). inr (seen ∙ ap Some t))
    c.in-Barrier.is))

pub returns-then-covers-clause-value : goal.returns-then-covers-clause-value
returns-then-covers-clause-value g c =
    let t = c.in-Some-trigger_of.trigger in
    let here : class_at (g.C.TrapCode.parts c.args.code.now).words (c.loop-place.place - 1)
    ≡ Some (trigger t.op t.ra t.src t.rc) =
    c.in-Some.ensures ∙ ap Some c.in-Some-trigger_of.ensures.found in
    sym (walked_found (g.C.TrapCode.parts c.args.code.now).words c.args.mask c.loop-place.left c.without-left.result
    (c.loop-place.place - 1) c.args.end t.rc
    (walked_next (g.C.TrapCode.parts c.args.code.now).words c.args.mask c.loop-place.left c.loop-place.place c.args.end
    c.loop-place-test.true c.loop-place.invariant)
    (omega arith) (ap kind here) (ap trap_rc here) c.without-left.ensures
    (λ r h. c.empty.ensures.members r (c.covers.ensures.0 c.if-covers.true r h)))

pub loop-place-preserved-else-covers : goal.loop-place-preserved-else-covers
loop-place-preserved-else-covers g c =
    let t = c.in-Some-trigger_of.trigger in
    let here : class_at (g.C.TrapCode.parts c.args.code.now).words (c.loop-place.place - 1)
    ≡ Some (trigger t.op t.ra t.src t.rc) =
    c.in-Some.ensures ∙ ap Some c.in-Some-trigger_of.ensures.found in
    let seen : kind (class_at (g.C.TrapCode.parts c.args.code.now).words (c.loop-place.place - 1))
    ≡ Some kinds.Trigger =
    ap kind here in
    walked_trigger (g.C.TrapCode.parts c.args.code.now).words c.args.mask c.loop-place.left c.without-left.result
    (c.loop-place.place - 1) c.args.end t.rc
    (walked_next (g.C.TrapCode.parts c.args.code.now).words c.args.mask c.loop-place.left c.loop-place.place c.args.end
    c.loop-place-test.true c.loop-place.invariant)
    (omega arith) c.requires.mask (λ e. cc) (λ e. cc) (ap trap_rc here) c.without-left.ensures
    (λ none. let all = c.covers.ensures.1 (λ r h. absurd (none r h)) in cc)

pub returns-clause-value : goal.returns-clause-value
returns-clause-value g c =
    let first : c.loop-place.place ≡ 0 = omega arith in
    sym (walked_down (g.C.TrapCode.parts c.args.code.now).words c.args.mask c.loop-place.left c.args.end
    (subst (λ j. Walked (g.C.TrapCode.parts c.args.code.now).words c.args.mask c.loop-place.left j c.args.end) first
    c.loop-place.invariant))
