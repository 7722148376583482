use Rattle.std.proofs.Common.{◌≡◌, false, sym, ap, subst, ◌∙◌}
use Rattle.alpha_io.specs.SinkChange.{sink_change}
use Rattle.alpha_seq.specs.declared.machine.Machine.{Machine}
use Rattle.alpha_seq.specs.Devices.{drawn}
use Rattle.alpha_imprecise.specs.Oracle.{oracle_of}
use Rattle.alpha_replay.specs.declared.journal_end.JournalEnd.{JournalEnd}
use Rattle.alpha_replay.specs.declared.journal_end.JournalEnd.TheVariants.{Failed}
use Rattle.alpha_replay.specs.JournalEnd.{MakesJournal}
use Rattle.alpha_replay.specs.Recorder.{outcome}
use Rattle.alpha_replay.specs.BuilderState.{BuilderState}
use Rattle.alpha_replay.proofs.JournalLoop.{MakesJournal-ok, made_err, JournalLosesNone-never_loses}
use Rattle.alpha_replay.proofs.JournalTold.{journal_told}
use Rattle.alpha_replay.proofs.make.make_journal.Goals as goal

pub returns-in-Ok-run_and_record-clause-made : goal.returns-in-Ok-run_and_record-clause-made
returns-in-Ok-run_and_record-clause-made g c =
    let old = c.args.wild.now in
    let new = c.run_and_record.new.wild in
    let to = c.run_and_record.new.recorder in
    let last = c.in-Ok-run_and_record.last in
    let before = oracle_of g.C.Chooser.ahead g.C.Chooser.drawn c.args.chooser.now in
    let after = oracle_of g.C.Chooser.ahead g.C.Chooser.drawn c.run_and_record.new.chooser in
    let input = drawn g.S.Source c.args.input.now c.run_and_record.new.input in
    let out = sink_change g.K.Sink c.args.out.now c.run_and_record.new.out in
    let notes = sink_change g.N.Sink c.args.notes.now c.run_and_record.new.notes in
    let did = c.in-Ok-run_and_record.ensures.made in
    let same : c.outcome.result ≡ outcome last old.machine.completion to =
    c.outcome.ensures ∙ ap (λ (m : Machine). outcome last m.completion to) c.machine.ensures in
    subst (λ (e : JournalEnd). MakesJournal e c.args.units old new before after input out notes) (sym same)
    (MakesJournal-ok last c.args.units did.0 old new
    (record { builder = c.in-Ok.tape; full = false }) to before after input out notes
    (ap (λ (t : BuilderState). record { builder = t; full = false }) c.in-Ok.ensures) did.1)

pub returns-in-Ok-run_and_record-clause-told : goal.returns-in-Ok-run_and_record-clause-told
returns-in-Ok-run_and_record-clause-told g c = λ bytes ahead tells told fresh.
    journal_told c.args.units bytes ahead c.args.wild.now c.run_and_record.new.wild
    (oracle_of g.C.Chooser.ahead g.C.Chooser.drawn c.args.chooser.now)
    (oracle_of g.C.Chooser.ahead g.C.Chooser.drawn c.run_and_record.new.chooser)
    (drawn g.S.Source c.args.input.now c.run_and_record.new.input)
    (sink_change g.K.Sink c.args.out.now c.run_and_record.new.out)
    (sink_change g.N.Sink c.args.notes.now c.run_and_record.new.notes)
    tells told fresh c.outcome.result (returns-in-Ok-run_and_record-clause-made g c)

pub returns-in-Ok-run_and_record-clause-found : goal.returns-in-Ok-run_and_record-clause-found
returns-in-Ok-run_and_record-clause-found g c = λ calm never.
    JournalLosesNone-never_loses c.outcome.result c.args.units c.args.wild.now c.run_and_record.new.wild
    (oracle_of g.C.Chooser.ahead g.C.Chooser.drawn c.args.chooser.now)
    (oracle_of g.C.Chooser.ahead g.C.Chooser.drawn c.run_and_record.new.chooser)
    (drawn g.S.Source c.args.input.now c.run_and_record.new.input)
    (sink_change g.K.Sink c.args.out.now c.run_and_record.new.out)
    (sink_change g.N.Sink c.args.notes.now c.run_and_record.new.notes)
    (returns-in-Ok-run_and_record-clause-made g c) calm never

pub returns-in-Err-clause-made : goal.returns-in-Err-clause-made
returns-in-Err-clause-made g c =
    let cut = c.in-Err.ensures.broken in
    made_err c.in-Err.fault c.args.units cut.0 c.args.wild.now c.run_and_record.new.wild
    (record { builder = c.in-Ok.tape; full = false })
    (oracle_of g.C.Chooser.ahead g.C.Chooser.drawn c.args.chooser.now)
    (oracle_of g.C.Chooser.ahead g.C.Chooser.drawn c.run_and_record.new.chooser)
    (drawn g.S.Source c.args.input.now c.run_and_record.new.input)
    (sink_change g.K.Sink c.args.out.now c.run_and_record.new.out)
    (sink_change g.N.Sink c.args.notes.now c.run_and_record.new.notes)
    (ap (λ (t : BuilderState). record { builder = t; full = false }) c.in-Ok.ensures) cut.1

pub returns-in-Err-clause-told : goal.returns-in-Err-clause-told
returns-in-Err-clause-told g c = λ bytes ahead tells told fresh.
    journal_told c.args.units bytes ahead c.args.wild.now c.run_and_record.new.wild
    (oracle_of g.C.Chooser.ahead g.C.Chooser.drawn c.args.chooser.now)
    (oracle_of g.C.Chooser.ahead g.C.Chooser.drawn c.run_and_record.new.chooser)
    (drawn g.S.Source c.args.input.now c.run_and_record.new.input)
    (sink_change g.K.Sink c.args.out.now c.run_and_record.new.out)
    (sink_change g.N.Sink c.args.notes.now c.run_and_record.new.notes)
    tells told fresh (Failed c.in-Err.fault) (returns-in-Err-clause-made g c)
