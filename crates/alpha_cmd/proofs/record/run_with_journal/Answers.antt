use Rattle.std.proofs.Common.{◌≡◌, ℕ, Some, refl, sym, ap, inl, inr, ⊎_elim}
use Rattle.alpha_io.specs.SinkChange.{sink_change}
use Rattle.alpha_seq.specs.Devices.{drawn}
use Rattle.alpha_imprecise.specs.Run.{seen}
use Rattle.alpha_run.proofs.ObservedSteps.{Feeds-LeavesEnd, Feeds-LeavesEnd_cut_short}
use Rattle.alpha_cmd.specs.declared.status.Status.TheVariants.{InputFault, SinkFault}
use Rattle.alpha_cmd.specs.AnswerBy.{world}
use Rattle.alpha_cmd.specs.Chooser.{ahead_in}
use Rattle.alpha_cmd.specs.Commands.Imprecise.{plan_in}
use Rattle.alpha_cmd.specs.Commands.Record.{on, unwatched}
use Rattle.alpha_cmd.specs.Ends.{status_in}
use Rattle.alpha_cmd.proofs.CutShort.{IsCutShort-status}
use Rattle.alpha_cmd.proofs.StreamedWrites.{does_cut}
use Rattle.alpha_cmd.proofs.ImpreciseEnds.{may_alone}
use Rattle.alpha_cmd.proofs.ImpreciseRan.{cut_begins}
use Rattle.alpha_cmd.proofs.JournalRan.{record_decides, runs_on, result_at, stopped_by, AttemptPrefixes-by}
use Rattle.alpha_cmd.proofs.JournalRan.{stopped_does}
use Rattle.alpha_cmd.proofs.JournalRan.{unbegun_does}
use Rattle.alpha_cmd.proofs.record.run_with_journal.Goals as goal

pub returns-in-Made-clause-made : goal.returns-in-Made-clause-made
returns-in-Made-clause-made g c = λ force may.
    let old = c.args.devices.now in
    let new = c.make_journal.new in
    let begun = c.args.begun.now in
    let from = begun.wild in
    let ahead = ahead_in begun.chooser.chooser in
    let input = drawn g.S.Source old.input new.input in
    let did = c.in-Made.ensures in
    runs_on c.args.options from ahead c.requires.completion c.requires.fresh force c.in-Made.last c.drawn.result
    c.in-Made.journal c.after_run.result new.wild _ _ input (sink_change g.K.Sink old.out new.out)
    (sink_change g.N.Sink old.notes new.notes) did.made (λ bytes told. did.told bytes ahead told refl c.requires.fresh)
    (c.after_run.ensures input.new.left)
    refl (ap (λ (k : ℕ). Some k) c.requires.none) (ap (λ (k : ℕ). Some k) (sym c.drawn.ensures)) c.drawn.type_inv
    (may_alone force (plan_in begun) may)

pub returns-in-Made-clause-faults_unchanged : goal.returns-in-Made-clause-faults_unchanged
returns-in-Made-clause-faults_unchanged g c = c.in-Made.ensures.made.stops.ran.same

pub returns-in-Made-clause-rest : goal.returns-in-Made-clause-rest
returns-in-Made-clause-rest g c =
    let ran = c.in-Made.ensures.made.stops.ran in
    Feeds-LeavesEnd (drawn g.S.Source c.args.devices.now.input c.make_journal.new.input) (seen ran.steps) ran.fed

pub returns-in-Failed-clause-over : goal.returns-in-Failed-clause-over
returns-in-Failed-clause-over g c = λ force name may.
    let old = c.args.devices.now in
    let new = c.make_journal.new in
    let begun = c.args.begun.now in
    let from = begun.wild in
    let ahead = ahead_in begun.chooser.chooser in
    let input = drawn g.S.Source old.input new.input in
    let out = sink_change g.K.Sink old.out new.out in
    let notes = sink_change g.N.Sink old.notes new.notes in
    let w = world g.H.Shelf g.S.Source old.shelf old.input in
    let did = c.in-Failed.ensures in
    let cut = did.made.cut in
    does_cut g.H.Shelf g.S.Source g.K.Sink g.N.Sink old new.input new.out new.notes
    (on c.args.options force name (plan_in begun)) c.in-Failed.fault c.of_device_fault.result refl
    (AttemptPrefixes-by c.args.options from ahead c.requires.completion c.requires.fresh force name c.in-Failed.fault w
    _ _ input
    out notes
    (may_alone force (plan_in begun) may) refl did.made (λ bytes told. did.told bytes ahead told refl c.requires.fresh)
    (cut_begins (unwatched c.args.options) from ahead c.requires.completion c.requires.fresh force c.in-Failed.fault _ _
    input out notes cut refl
    (may_alone force (plan_in begun) may) w.input refl))
    c.of_device_fault.ensures cut.cause
    (Feeds-LeavesEnd_cut_short input cut.left (seen cut.steps) cut.fed cut.leaves_end)

pub returns-in-Failed-clause-status : goal.returns-in-Failed-clause-status
returns-in-Failed-clause-status g c =
    ⊎_elim
    (λ (is : status_in c.of_device_fault.result ≡ InputFault). inr (inl is))
    (λ (is : status_in c.of_device_fault.result ≡ SinkFault). inr (inr (inl is)))
    (IsCutShort-status c.in-Failed.fault c.of_device_fault.result c.of_device_fault.ensures)

pub returns-in-Full-clause-over : goal.returns-in-Full-clause-over
returns-in-Full-clause-over g c = λ force name may.
    let old = c.args.devices.now in
    let new = c.make_journal.new in
    let begun = c.args.begun.now in
    let from = begun.wild in
    let ahead = ahead_in begun.chooser.chooser in
    let input = drawn g.S.Source old.input new.input in
    let out = sink_change g.K.Sink old.out new.out in
    let notes = sink_change g.N.Sink old.notes new.notes in
    let did = c.in-Full.ensures in
    stopped_does c.args.options from ahead c.requires.completion c.requires.fresh g.H.Shelf g.S.Source g.K.Sink g.N.Sink
    old new.input new.out new.notes force name c.of_status.result c.of_status.ensures.answer
    (stopped_by c.args.options from ahead c.requires.completion c.requires.fresh input out notes
    (λ bytes told. did.told bytes ahead told refl c.requires.fresh)
    (result_at c.args.options from ahead c.requires.completion c.requires.fresh new.wild _ _ input out notes refl
    did.made))
    did.made.stops.ran.same (Feeds-LeavesEnd input (seen did.made.stops.ran.steps) did.made.stops.ran.fed)

pub returns-in-NoMemory-clause-over : goal.returns-in-NoMemory-clause-over
returns-in-NoMemory-clause-over g c = λ force name may.
    let new = c.make_journal.new in
    let none = c.in-NoMemory.ensures.made in
    unbegun_does c.args.options c.args.begun.now.wild (ahead_in c.args.begun.now.chooser.chooser) c.requires.completion
    c.requires.fresh g.H.Shelf g.S.Source g.K.Sink g.N.Sink c.args.devices.now
    new.input new.out new.notes force name c.of_status-in-NoMemory.result c.of_status-in-NoMemory.ensures.answer
    none.source none.sink none.lines

pub returns-in-Made-clause-ran : goal.returns-in-Made-clause-ran
returns-in-Made-clause-ran g c = λ force may.
    let old = c.args.devices.now in
    let new = c.make_journal.new in
    let begun = c.args.begun.now in
    record_decides c.args.options begun.wild (ahead_in begun.chooser.chooser) c.requires.completion c.requires.fresh
    force c.in-Made.last c.drawn.result c.in-Made.journal c.after_run.result new.wild _ _
    (drawn g.S.Source old.input new.input) (sink_change g.K.Sink old.out new.out)
    (sink_change g.N.Sink old.notes new.notes) c.in-Made.ensures.made
    (λ bytes told. c.in-Made.ensures.told bytes (ahead_in begun.chooser.chooser) told refl c.requires.fresh)
    c.after_run.ensures refl (ap (λ (k : ℕ). Some k) c.requires.none)
    (ap (λ (k : ℕ). Some k) (sym c.drawn.ensures)) c.drawn.type_inv may
