use Rattle.std.proofs.Common.{Ok, refl, inl, inr, sym, ap, subst}
use Rattle.alpha_io.specs.Supply.{Supply}
use Rattle.alpha_io.specs.SinkChange.{sink_change}
use Rattle.alpha_seq.specs.Devices.{drawn}
use Rattle.alpha_debug.specs.declared.end.DebugEnd.TheVariants as ends
use Rattle.alpha_request.specs.declared.request.ImageCommand.TheVariants.{Debug}
use Rattle.alpha_cmd.specs.CommandEffect.{CommandEffect}
use Rattle.alpha_cmd.specs.OfImage.{on}
use Rattle.alpha_cmd.proofs.StageEffects.{does_not_start}
use Rattle.alpha_cmd.proofs.EndStatuses.{HasEnded-not_InputFault, HasEnded-not_memory_status}
use Rattle.alpha_cmd.proofs.InputLeft.{untouched_input}
use Rattle.alpha_cmd.proofs.SessionsTold.{session_decides, session_whole, session_unread, session_unwritten}
use Rattle.alpha_cmd.proofs.SessionsTold.{script_left}
use Rattle.alpha_cmd.proofs.of_image.debug.session.Goals as goal

pub returns-in-Done : goal.returns-in-Done
returns-in-Done g c = record {
  ran = λ over.
      session_decides c.args.image ends.Done c.of_status.result
      (drawn g.S.Source c.args.devices.now.input c.debug.new.script)
      (sink_change g.K.Sink c.args.devices.now.out c.debug.new.out) (g.N.Sink.written c.args.devices.now.notes)
      (g.N.Sink.faults c.args.devices.now.notes) c.of_status.ensures.answer c.in-Done.ensures.effect;
  ends = inl (inl c.of_status.ensures.status);
  shelf = refl;
  does =
      session_whole g.H.Shelf g.S.Source g.K.Sink g.N.Sink c.args.devices.now c.debug.new.script c.debug.new.out
      c.args.image ends.Done c.of_status.result (inl refl)
      c.of_status.ensures.answer c.in-Done.ensures.effect;
  script =
      script_left c.args.image
      (drawn g.S.Source c.args.devices.now.input c.debug.new.script) c.in-Done.ensures.effect.told
      c.in-Done.ensures.effect.follows;
}

pub returns-in-TooLarge : goal.returns-in-TooLarge
returns-in-TooLarge g c = record {
  ran = λ over.
      session_decides c.args.image ends.TooLarge c.of_status-in-TooLarge.result
      (drawn g.S.Source c.args.devices.now.input c.debug.new.script)
      (sink_change g.K.Sink c.args.devices.now.out c.debug.new.out) (g.N.Sink.written c.args.devices.now.notes)
      (g.N.Sink.faults c.args.devices.now.notes) c.of_status-in-TooLarge.ensures.answer c.in-TooLarge.ensures.effect;
  ends = inl (inr c.of_status-in-TooLarge.ensures.status);
  shelf = refl;
  does =
      session_whole g.H.Shelf g.S.Source g.K.Sink g.N.Sink c.args.devices.now c.debug.new.script c.debug.new.out
      c.args.image ends.TooLarge c.of_status-in-TooLarge.result (inr refl)
      c.of_status-in-TooLarge.ensures.answer c.in-TooLarge.ensures.effect;
  script =
      script_left c.args.image
      (drawn g.S.Source c.args.devices.now.input c.debug.new.script) c.in-TooLarge.ensures.effect.told
      c.in-TooLarge.ensures.effect.follows;
}

pub returns-in-InputFault : goal.returns-in-InputFault
returns-in-InputFault g c = record {
  ran = λ over.
      absurd (HasEnded-not_InputFault c.of_status-in-InputFault.result c.of_status-in-InputFault.ensures.status over);
  ends = inr (inr (inl c.of_status-in-InputFault.ensures.status));
  shelf = refl;
  does =
      session_unread g.H.Shelf g.S.Source g.K.Sink g.N.Sink c.args.devices.now c.debug.new.script c.debug.new.out
      c.args.image c.of_status-in-InputFault.result
      c.of_status-in-InputFault.ensures.answer c.in-InputFault.ensures.effect;
  script =
      script_left c.args.image (drawn g.S.Source c.args.devices.now.input c.debug.new.script)
      c.in-InputFault.ensures.effect.told c.in-InputFault.ensures.effect.follows;
}

pub returns-in-SinkFault : goal.returns-in-SinkFault
returns-in-SinkFault g c = record {
  ran = λ over. tt;
  ends = inr (inr (inr refl));
  shelf = refl;
  does =
      session_unwritten g.H.Shelf g.S.Source g.K.Sink g.N.Sink c.args.devices.now c.debug.new.script c.debug.new.out
      c.args.image _ c.in-SinkFault.ensures.effect;
  script =
      script_left c.args.image (drawn g.S.Source c.args.devices.now.input c.debug.new.script)
      c.in-SinkFault.ensures.effect.told c.in-SinkFault.ensures.effect.follows;
}

-- neither device was called
pub returns-in-NoMemory-clause-does : goal.returns-in-NoMemory-clause-does
returns-in-NoMemory-clause-does g c =
    let old = c.args.devices.now in
    let (quiet, calm) = c.in-NoMemory.ensures.same refl in
    subst (λ script. CommandEffect g.H.Shelf g.S.Source g.K.Sink g.N.Sink (on Debug c.args.image)
    (Ok c.of_status-in-NoMemory.result) old (record old { input = script; out = c.debug.new.out }))
    (sym quiet)
    (subst (λ out. CommandEffect g.H.Shelf g.S.Source g.K.Sink g.N.Sink
    (on Debug c.args.image) (Ok c.of_status-in-NoMemory.result) old (record old { out = out }))
    (sym calm)
    (does_not_start g.H.Shelf g.S.Source g.K.Sink g.N.Sink old
    (on Debug c.args.image) c.of_status-in-NoMemory.result c.of_status-in-NoMemory.ensures.answer))

pub returns-in-NoMemory-clause-script : goal.returns-in-NoMemory-clause-script
returns-in-NoMemory-clause-script g c =
    untouched_input (drawn g.S.Source c.args.devices.now.input c.debug.new.script)
    (ap (λ (s : Supply). s.left) c.in-NoMemory.ensures.effect.0.left)

pub returns-in-NoMemory-clause-ran : goal.returns-in-NoMemory-clause-ran
returns-in-NoMemory-clause-ran g c =
    λ over.
    absurd (HasEnded-not_memory_status c.of_status-in-NoMemory.result c.of_status-in-NoMemory.ensures.status over)

pub returns-in-NoMemory-clause-ends : goal.returns-in-NoMemory-clause-ends
returns-in-NoMemory-clause-ends g c = inr (inl c.of_status-in-NoMemory.ensures.status)
