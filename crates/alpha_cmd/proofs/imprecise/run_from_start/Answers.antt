use Rattle.std.proofs.Common.{ℕ, Some, refl, sym, ap, inl}
use Rattle.alpha_io.specs.SinkChange.{sink_change}
use Rattle.alpha_seq.specs.Devices.{drawn}
use Rattle.alpha_imprecise.specs.Run.{seen}
use Rattle.alpha_run.proofs.ObservedSteps.{Feeds-LeavesEnd, Feeds-LeavesEnd_cut_short}
use Rattle.alpha_run.proofs.ImpreciseShown.{whole_run-ImpreciseRanAs}
use Rattle.alpha_cmd.specs.AnswerBy.{world}
use Rattle.alpha_cmd.specs.Chooser.{ahead_in}
use Rattle.alpha_cmd.specs.Commands.Imprecise.{on, plan_in}
use Rattle.alpha_cmd.proofs.StreamedWrites.{does_cut}
use Rattle.alpha_cmd.proofs.EndStatuses.{HasEnded-not_cut_short}
use Rattle.alpha_cmd.proofs.ImpreciseEnds.{may_alone}
use Rattle.alpha_cmd.proofs.ImpreciseRan.{ran_shows, ran_whole, made_by_words, cut_begins, cut_fronts}
use Rattle.alpha_cmd.proofs.EndsWhere.{cut_fails, plan_ends}
use Rattle.alpha_cmd.proofs.imprecise.run_from_start.Goals as goal

pub returns-in-Ok-clause-does : goal.returns-in-Ok-clause-does
returns-in-Ok-clause-does g c = λ force may.
    let old = c.args.devices.now in
    let new = c.run_imprecise.new in
    let begun = c.args.begun.now in
    let ahead = ahead_in begun.chooser.chooser in
    let w = whole_run-ImpreciseRanAs _ _ _ _ _ _ _ _ _ _ _ c.in-Ok.ensures.made in
    let input = drawn g.S.Source old.input new.input in
    ran_whole c.args.options begun.wild ahead c.requires.completion c.requires.fresh g.H.Shelf g.S.Source g.K.Sink
    g.N.Sink old new.input new.out new.notes force c.in-Ok.last c.drawn.result c.after_run.result
    c.after_run.ensures
    (ran_shows c.args.options begun.wild ahead c.requires.completion c.requires.fresh c.in-Ok.last new.left new.wild _ _
    input (sink_change g.K.Sink old.out new.out)
    (sink_change g.N.Sink old.notes new.notes) w refl force c.drawn.result
    (ap (λ (n : ℕ). Some n) c.requires.none) (ap (λ (n : ℕ). Some n) (sym c.drawn.ensures)) c.drawn.type_inv
    (may_alone force (plan_in begun) may))
    w.ran.same (Feeds-LeavesEnd input (seen w.ran.steps) w.ran.fed)

pub returns-in-Err-clause-does : goal.returns-in-Err-clause-does
returns-in-Err-clause-does g c = λ force may.
    let old = c.args.devices.now in
    let new = c.run_imprecise.new in
    let begun = c.args.begun.now in
    let ahead = ahead_in begun.chooser.chooser in
    let input = drawn g.S.Source old.input new.input in
    let out = sink_change g.K.Sink old.out new.out in
    let notes = sink_change g.N.Sink old.notes new.notes in
    let cut = c.in-Err.ensures.broken in
    does_cut g.H.Shelf g.S.Source g.K.Sink g.N.Sink old new.input new.out new.notes
    (on c.args.options force (plan_in begun)) c.in-Err.fault c.of_device_fault.result refl
    (cut_fronts c.args.options begun.wild ahead c.requires.completion c.requires.fresh force
    (world g.H.Shelf g.S.Source old.shelf old.input) out notes
    (cut_begins c.args.options begun.wild ahead c.requires.completion c.requires.fresh force c.in-Err.fault _ _ input
    out notes cut refl (may_alone force (plan_in begun) may) input.old.left refl))
    c.of_device_fault.ensures cut.cause
    (Feeds-LeavesEnd_cut_short input cut.left (seen cut.steps) cut.fed cut.leaves_end)

pub returns-in-Ok-clause-ran : goal.returns-in-Ok-clause-ran
returns-in-Ok-clause-ran g c = λ force may ends.
    let old = c.args.devices.now in
    let new = c.run_imprecise.new in
    let begun = c.args.begun.now in
    let w = whole_run-ImpreciseRanAs _ _ _ _ _ _ _ _ _ _ _ c.in-Ok.ensures.made in
    made_by_words c.args.options begun.wild (ahead_in begun.chooser.chooser) c.requires.completion c.requires.fresh
    c.in-Ok.last new.left new.wild _ _ (drawn g.S.Source old.input new.input)
    (sink_change g.K.Sink old.out new.out) (sink_change g.N.Sink old.notes new.notes) w refl force c.drawn.result
    (ap (λ (n : ℕ). Some n) c.requires.none) (ap (λ (n : ℕ). Some n) (sym c.drawn.ensures)) c.drawn.type_inv may
    c.after_run.result c.after_run.ensures

pub returns-in-Err-clause-ran : goal.returns-in-Err-clause-ran
returns-in-Err-clause-ran g c =
    λ force may ends.
    absurd (HasEnded-not_cut_short c.in-Err.fault c.of_device_fault.result c.of_device_fault.ensures ends)

pub returns-in-Ok-clause-ends : goal.returns-in-Ok-clause-ends
returns-in-Ok-clause-ends g c = λ force may.
    let old = c.args.devices.now in
    let new = c.run_imprecise.new in
    let begun = c.args.begun.now in
    let input = drawn g.S.Source old.input new.input in
    let out = sink_change g.K.Sink old.out new.out in
    let notes = sink_change g.N.Sink old.notes new.notes in
    let w = whole_run-ImpreciseRanAs _ _ _ _ _ _ _ _ _ _ _ c.in-Ok.ensures.made in
    inl (plan_ends c.args.options force (plan_in begun) c.after_run.result input out notes
    (made_by_words c.args.options begun.wild (ahead_in begun.chooser.chooser) c.requires.completion c.requires.fresh
    c.in-Ok.last new.left new.wild _ _ input out notes w refl force c.drawn.result
    (ap (λ (n : ℕ). Some n) c.requires.none) (ap (λ (n : ℕ). Some n) (sym c.drawn.ensures)) c.drawn.type_inv may
    c.after_run.result c.after_run.ensures))

pub returns-in-Err-clause-ends : goal.returns-in-Err-clause-ends
returns-in-Err-clause-ends g c =
    λ force may. cut_fails _ c.in-Err.fault c.of_device_fault.result c.of_device_fault.ensures
