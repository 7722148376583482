use Rattle.std.proofs.Common.{◌∙◌, List, None, sym, ap, subst, inl}
use Rattle.alpha_io.specs.Faults.{Faulted}
use Rattle.alpha_io.specs.History.{Reply}
use Rattle.alpha_io.specs.SinkChange.{sink_change}
use Rattle.alpha_seq.specs.Devices.{drawn as drawn_in}
use Rattle.alpha_request.specs.Options.{origin_of}
use Rattle.alpha_cmd.specs.Answer.{Answer}
use Rattle.alpha_cmd.specs.AnswerBy.{told}
use Rattle.alpha_cmd.specs.Commands.Imprecise.{Planned, plan_in}
use Rattle.alpha_cmd.specs.Commands.Record.{Records, kind}
use Rattle.alpha_cmd.specs.Ends.{status_in}
use Rattle.alpha_cmd.specs.Form.{needs_files_and_input}
use Rattle.alpha_cmd.specs.RecordRan.{DecidesRecord}
use Rattle.alpha_cmd.specs.RunsAsked.{EndsRecord}
use Rattle.alpha_cmd.proofs.EffectsAfterRead.{does_after, does_stop}
use Rattle.alpha_cmd.proofs.StageEffects.{shelf_call}
use Rattle.alpha_cmd.proofs.JournalStatus.{StopsBy-not_imprecise_status}
use Rattle.alpha_cmd.proofs.Commands.Imprecise.{planned_good, planned_plain}
use Rattle.alpha_cmd.proofs.EndStatuses.{HasEnded-not_stopped}
use Rattle.alpha_cmd.proofs.EndsWhere.{memory_said}
use Rattle.alpha_cmd.proofs.PlansRead.{same_rest}
use Rattle.alpha_cmd.proofs.RunsOnReplies.{IfOk-ReadsAndKeeps}
use Rattle.alpha_cmd.proofs.record.record.Goals as goal

pub returns-in-Ok : goal.returns-in-Ok
returns-in-Ok g c =
    let a = c.args.asked in
    let plan = plan_in c.in-Ok.begun in
    let name = c.args.name.now in
    let is = c.in-Ok.ensures.stage in
    let may =
    planned_good a.force (origin_of a.choices) a.file.now (g.H.Shelf.files c.args.devices.now.shelf) plan is.ok in
    record {
      does =
          does_after g.H.Shelf g.S.Source g.K.Sink g.N.Sink c.args.devices.now c.prepare.new.shelf
          c.record_from_start.new.devices (Planned (origin_of a.choices) a.force a.file.now)
          (Records a.options a.force c.args.name.now) needs_files_and_input
          (kind a.force c.args.name.now) plan c.record_from_start.result _ (λ e. cc) is.ok is.shelf
          (c.record_from_start.ensures.does a.force may);
      ran = λ ends.
          let old = c.args.devices.now in
          let new = c.record_from_start.new.devices in
          IfOk-ReadsAndKeeps g.H.Shelf old.shelf c.prepare.new.shelf new.shelf a.file.now name
          (origin_of a.choices) a.force
          plan c.record_from_start.result
          (λ p journal decision. DecidesRecord a.options a.force p journal decision
          (drawn_in g.S.Source old.input new.input) (sink_change g.K.Sink old.out new.out)
          (sink_change g.N.Sink old.notes new.notes))
          c.in-Ok.ensures.read is.ok (c.record_from_start.ensures.ran a.force may ends);
      ends = λ read_plan middle rest accepted read behind.
          let old = g.H.Shelf.replies c.args.devices.now.shelf in
          let begun = g.H.Shelf.replies c.prepare.new.shelf in
          let (replies, then, ends) = c.record_from_start.ensures.ends a.force may in
          subst (λ (l : List Reply). EndsRecord a.force name l (status_in c.record_from_start.result))
          (same_rest old begun middle replies rest (origin_of a.choices) a.file.now plan read_plan c.in-Ok.ensures.read
          read (sym then ∙ behind)) ends;
      keeps = λ end lost n is_end. (plan, is.ok, c.record_from_start.ensures.keeps a.force may end lost n is_end);
    }

pub returns-in-Err : goal.returns-in-Err
returns-in-Err g c =
    let a = c.args.asked in
    let drawn = origin_of a.choices in
    let name = c.args.name.now in
    let did = shelf_call g.H.Shelf g.S.Source g.K.Sink g.N.Sink c.args.devices.now c.prepare.new.shelf in
    record {
      does =
          does_stop g.H.Shelf g.S.Source g.K.Sink g.N.Sink c.args.devices.now c.prepare.new.shelf
          (Planned drawn a.force a.file.now) (Records a.options a.force name)
          needs_files_and_input (kind a.force name) c.of_stop.result c.in-Err.stop c.of_stop.ensures
          c.in-Err.ensures.stage;
      ran = λ ends. absurd (HasEnded-not_stopped (Planned drawn a.force a.file.now did.shelf.old) _
          (planned_plain drawn a.force a.file.now did.shelf.old) c.in-Err.stop c.of_stop.result c.of_stop.ensures
          c.in-Err.ensures.stage.refused ends);
      ends = λ plan middle rest accepted read behind.
          inl (inl (memory_said c.in-Err.stop c.of_stop.result c.of_stop.ensures
          (c.in-Err.ensures.first plan middle rest accepted read behind)));
      keeps = λ end lost n is.
          absurd (StopsBy-not_imprecise_status a.options drawn a.force a.file.now name (told did)
          (Faulted did.shelf.before did.shelf.now) end lost n c.in-Err.stop
          (sym (ap (λ (x : Answer). x.status) (c.of_stop.ensures None)) ∙ is) c.in-Err.ensures.stage.refused);
    }
