use Rattle.std.proofs.Common.{ap, subst, inl, inr, ◌∙◌}
use Rattle.alpha_io.specs.SinkChange.{sink_change}
use Rattle.alpha_image.specs.Parts.{Parts}
use Rattle.alpha_seq.specs.Devices.{drawn}
use Rattle.alpha_seq.specs.State.{Program}
use Rattle.alpha_seq.specs.declared.machine.Machine.{Machine}
use Rattle.alpha_cmd.specs.Commands.Run.{on}
use Rattle.alpha_cmd.specs.CommandEffect.{CommandEffect}
use Rattle.alpha_cmd.specs.RunsAsked.{DecidesRun, WhereEnded}
use Rattle.alpha_cmd.proofs.StageEffects.{does_not_start}
use Rattle.alpha_cmd.proofs.EndStatuses.{HasEnded-not_memory_status}
use Rattle.alpha_cmd.proofs.run.run_image.Goals as goal

pub returns-in-Ok-clause-does : goal.returns-in-Ok-clause-does
returns-in-Ok-clause-does g c =
    subst (λ (image : Parts). CommandEffect g.H.Shelf g.S.Source g.K.Sink g.N.Sink
    (on c.args.options image) c.run_machine.result c.args.devices.now c.run_machine.new.devices)
    (ap (λ (m : Machine). m.image) c.new-in-Ok.ensures ∙ ap (λ (p : Program). p.image) c.in-Ok.ensures.program)
    c.run_machine.ensures.does

pub returns-in-Err-clause-does : goal.returns-in-Err-clause-does
returns-in-Err-clause-does g c =
    does_not_start g.H.Shelf g.S.Source g.K.Sink g.N.Sink c.args.devices.now
    (on c.args.options c.args.image) c.of_status.result c.of_status.ensures.answer

pub returns-in-Ok-clause-ran : goal.returns-in-Ok-clause-ran
returns-in-Ok-clause-ran g c =
    let old = c.args.devices.now in
    let new = c.run_machine.new.devices in
    subst (λ (image : Parts). WhereEnded c.run_machine.result
    (λ decision. DecidesRun c.args.options image decision (drawn g.S.Source old.input new.input)
    (sink_change g.K.Sink old.out new.out) (sink_change g.N.Sink old.notes new.notes)))
    (ap (λ (m : Machine). m.image) c.new-in-Ok.ensures ∙ ap (λ (p : Program). p.image) c.in-Ok.ensures.program)
    c.run_machine.ensures.ran

pub returns-in-Err-clause-ran : goal.returns-in-Err-clause-ran
returns-in-Err-clause-ran g c =
    λ ends. absurd (HasEnded-not_memory_status c.of_status.result c.of_status.ensures.status ends)

pub returns-in-Err-clause-ends : goal.returns-in-Err-clause-ends
returns-in-Err-clause-ends g c = inr (inl c.of_status.ensures.status)
