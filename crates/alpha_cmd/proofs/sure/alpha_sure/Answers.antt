use Rattle.std.proofs.Common.{◌≢◌, ◌∙◌, sym, ⊎_elim}
use Rattle.alpha_cmd.specs.declared.status.Status.TheVariants.{SinkFault}
use Rattle.alpha_cmd.proofs.AttemptedBy.{told_sure, AttemptedBy-not_input, AttemptedBy-not_shelf, Faulted-none}
use Rattle.alpha_cmd.proofs.AttemptedBy.{NoFault-none}
use Rattle.alpha_cmd.proofs.sure.alpha_sure.Goals as goal

pub returns-clause-answer : goal.returns-clause-answer
returns-clause-answer c = λ a is.
    c.alpha_top.ensures.exact a (told_sure c.args.words.now _ _ _)
    (record { shelf = NoFault-none; input = NoFault-none; out = NoFault-none; notes = NoFault-none }) is

pub returns-clause-whole : goal.returns-clause-whole
returns-clause-whole c = c.alpha_top.ensures.whole

pub returns-clause-script : goal.returns-clause-script
returns-clause-script c = c.alpha_top.ensures.script

pub returns-clause-rest : goal.returns-clause-rest
returns-clause-rest c = c.alpha_top.ensures.rest

pub returns-clause-streams : goal.returns-clause-streams
returns-clause-streams c =
    let calm : c.alpha_top.result ≢ SinkFault =
    λ e. ⊎_elim Faulted-none Faulted-none (c.alpha_top.ensures.part e).failed in
    let ends = c.alpha_top.ensures.whole calm in
    (λ e. AttemptedBy-not_input _ _ c.args.words.now _ ends.tried Faulted-none ends.is (sym ends.status_is ∙ e), calm)

pub returns-clause-shelf : goal.returns-clause-shelf
returns-clause-shelf c = λ command asks there e.
    let calm : c.alpha_top.result ≢ SinkFault =
    λ q. ⊎_elim Faulted-none Faulted-none (c.alpha_top.ensures.part q).failed in
    let ends = c.alpha_top.ensures.whole calm in
    AttemptedBy-not_shelf _ _ c.args.words.now command _ ends.tried Faulted-none asks there ends.is
    (sym ends.status_is ∙ e)

pub returns-clause-files : goal.returns-clause-files
returns-clause-files c = c.alpha_top.ensures.files
