use Rattle.std.proofs.Common.{◌++◌, ◌∷◌, ◌∙◌, List, [], true, length, sym, ap, subst, append-nil}
use Rattle.alpha_io.specs.Faults.{Faulted}
use Rattle.alpha_io.specs.Files.{Refuses}
use Rattle.alpha_io.specs.History.{Kept, Reply}
use Rattle.alpha_io.specs.ShelfChange.{shelf_change}
use Rattle.alpha_io.specs.SinkChange.{sink_change}
use Rattle.alpha_seq.specs.Devices.{drawn}
use Rattle.alpha_replay.specs.Journal.{spelling}
use Rattle.alpha_cmd.specs.declared.decision.Decision.{Decision}
use Rattle.alpha_cmd.specs.Commands.Imprecise.{plan_in}
use Rattle.alpha_cmd.specs.Ends.{status_in}
use Rattle.alpha_cmd.specs.RecordRan.{DecidesRecord}
use Rattle.alpha_cmd.proofs.Commands.Record.{has_of}
use Rattle.alpha_cmd.proofs.JournalKept.{kept_does}
use Rattle.alpha_cmd.proofs.JournalStatus.{kept_keeps, IsOver-not_imprecise_status, IsOver-no_imprecise_end}
use Rattle.alpha_cmd.proofs.JournalStatus.{RunsOn-end, IsOver-EndsRecord, kept_EndsRecord}
use Rattle.alpha_cmd.proofs.record.record_from_start.Goals as goal

pub returns-in-Made-clause-does : goal.returns-in-Made-clause-does
returns-in-Made-clause-does g c = λ force may.
    kept_does g.H.Shelf g.S.Source g.K.Sink g.N.Sink c.args.devices.now c.run_with_journal.new.devices
    c.keep_journal.new.shelf
    c.args.options force c.args.name.now
    (plan_in c.args.begun.now) c.in-Made.journal c.in-Made.decision c.keep_journal.result
    c.run_with_journal.ensures.shelf
    c.in-Made.ensures.faults_unchanged c.in-Made.ensures.rest
    (c.in-Made.ensures.made force may) (c.keep_journal.ensures.kept, c.keep_journal.ensures.shelf)

pub returns-in-Made-clause-keeps : goal.returns-in-Made-clause-keeps
returns-in-Made-clause-keeps g c = λ force may end lost n is.
    let old = c.args.devices.now in
    let middle = c.run_with_journal.new.devices in
    let name = c.args.name.now in
    let plan = plan_in c.args.begun.now in
    let p = c.in-Made.journal in
    let input = g.S.Source.left old.input in
    let run = c.in-Made.ensures.made force may in
    let out = sink_change g.K.Sink old.out middle.out in
    let notes = sink_change g.N.Sink old.notes middle.notes in (
      p,
      c.keep_journal.ensures.good,
      has_of c.args.options input plan run.shown p run.has,
      kept_keeps c.args.options force name input plan p c.in-Made.decision c.keep_journal.result
          (g.S.Source.left middle.input) out notes run
          (Refuses (g.H.Shelf.files middle.shelf) (g.H.Shelf.takes middle.shelf name (length (spelling p))))
          (Faulted (g.H.Shelf.faults middle.shelf) (g.H.Shelf.faults c.keep_journal.new.shelf))
          (shelf_change g.H.Shelf middle.shelf c.keep_journal.new.shelf) end lost n is c.keep_journal.ensures.kept,
    )

pub returns-in-Over-clause-does : goal.returns-in-Over-clause-does
returns-in-Over-clause-does g c = λ force may. c.in-Over.ensures.over force c.args.name.now may

pub returns-in-Over-clause-keeps : goal.returns-in-Over-clause-keeps
returns-in-Over-clause-keeps g c =
    λ force may end lost n is.
    absurd (IsOver-not_imprecise_status end lost n (status_in c.in-Over.result) is c.in-Over.ensures.status)

pub returns-in-Made-clause-ran : goal.returns-in-Made-clause-ran
returns-in-Made-clause-ran g c = λ force may ends is.
    let old = c.args.devices.now in
    let middle = c.run_with_journal.new.devices in
    let p = c.in-Made.journal in
    let stands = c.keep_journal.ensures.stands ends in (
      p,
      c.keep_journal.ensures.good,
      stands.1
          ∙ ap (λ (l : List Reply). l ++ Kept c.args.name.now (spelling p) true ∷ [])
          (ap g.H.Shelf.replies c.run_with_journal.ensures.shelf),
      subst (λ (d : Decision). DecidesRecord c.args.options force (plan_in c.args.begun.now) p d
          (drawn g.S.Source old.input middle.input) (sink_change g.K.Sink old.out middle.out)
          (sink_change g.N.Sink old.notes middle.notes))
          (sym stands.0) (c.in-Made.ensures.ran force may),
    )

pub returns-in-Over-clause-ran : goal.returns-in-Over-clause-ran
returns-in-Over-clause-ran g c = λ force may ends. IsOver-no_imprecise_end c.in-Over.result c.in-Over.ensures.status _

pub returns-in-Made-clause-ends : goal.returns-in-Made-clause-ends
returns-in-Made-clause-ends g c = λ force may.
    let old = c.args.devices.now in
    let middle = c.run_with_journal.new.devices in
    let p = c.in-Made.journal in
    let d = c.in-Made.decision in
    kept_EndsRecord (g.H.Shelf.replies old.shelf) (g.H.Shelf.replies middle.shelf)
    (g.H.Shelf.replies c.keep_journal.new.shelf) force c.args.name.now p d c.keep_journal.result
    c.keep_journal.ensures.good (ap g.H.Shelf.replies c.run_with_journal.ensures.shelf)
    (RunsOn-end c.args.options force (g.S.Source.left old.input) (plan_in c.args.begun.now) p d
    (g.S.Source.left middle.input) (sink_change g.K.Sink old.out middle.out)
    (sink_change g.N.Sink old.notes middle.notes) (c.in-Made.ensures.made force may)) c.keep_journal.ensures.ends

pub returns-in-Over-clause-ends : goal.returns-in-Over-clause-ends
returns-in-Over-clause-ends g c = λ force may. (
  [],
  ap g.H.Shelf.replies c.run_with_journal.ensures.shelf
      ∙ sym (append-nil (g.H.Shelf.replies c.args.devices.now.shelf)),
  IsOver-EndsRecord force c.args.name.now (status_in c.in-Over.result) c.in-Over.ensures.status,
)
