use Rattle.std.proofs.Common.{ℕ, List, [], subst}
use Rattle.alpha_debug.specs.Command.{command_of}
use Rattle.alpha_debug.specs.Effects.{Answers, AnswerFails}
use Rattle.alpha_debug.proofs.ScriptUnderway.{Closes-answered, Closes-failed}
use Rattle.alpha_debug.proofs.HandedSessions.{last_answered, last_failed}
use Rattle.alpha_debug.specs.OutputChange.{output_change}
use Rattle.alpha_debug.proofs.transcript.close.Goals as goal

pub returns-in-Ok-clause-told : goal.returns-in-Ok-clause-told
returns-in-Ok-clause-told g c =
    let out = output_change g.K.Sink c.args.out.now [] c.answer_last.new.out [] in
    λ begun is_held.
    Closes-answered begun c.args.pending.now.items c.in-Ok.field-0 c.args.debugger.now c.answer_last.new.debugger out
    is_held
    (subst (λ (l : List ℕ). Answers (command_of l) c.in-Ok.field-0 c.args.debugger.now c.answer_last.new.debugger out)
    c.as_slice.ensures.value c.in-Ok.ensures.ok)

pub returns-in-Err-clause-told : goal.returns-in-Err-clause-told
returns-in-Err-clause-told g c =
    let out = output_change g.K.Sink c.args.out.now [] c.answer_last.new.out [] in
    λ begun is_held.
    Closes-failed begun c.args.pending.now.items c.args.debugger.now out is_held
    (subst (λ (l : List ℕ). AnswerFails (command_of l) c.args.debugger.now out) c.as_slice.ensures.value
    c.in-Err.ensures.refused)

pub returns-in-Ok-clause-handed : goal.returns-in-Ok-clause-handed
returns-in-Ok-clause-handed g c =
    let out = output_change g.K.Sink c.args.out.now [] c.answer_last.new.out [] in
    λ begun is_held.
    last_answered g.K.Sink c.args.pending.now.items c.args.debugger.now c.args.out.now c.answer_last.new.out
    c.requires.block begun c.in-Ok.field-0 c.answer_last.new.debugger is_held c.in-Ok.ensures.block
    (subst (λ (l : List ℕ). Answers (command_of l) c.in-Ok.field-0 c.args.debugger.now c.answer_last.new.debugger out)
    c.as_slice.ensures.value c.in-Ok.ensures.ok)

pub returns-in-Err-clause-handed : goal.returns-in-Err-clause-handed
returns-in-Err-clause-handed g c =
    let out = output_change g.K.Sink c.args.out.now [] c.answer_last.new.out [] in
    λ begun is_held.
    last_failed g.K.Sink c.args.pending.now.items c.args.debugger.now c.args.out.now c.answer_last.new.out
    c.requires.block begun is_held
    (subst (λ (l : List ℕ). AnswerFails (command_of l) c.args.debugger.now out) c.as_slice.ensures.value
    c.in-Err.ensures.refused)
