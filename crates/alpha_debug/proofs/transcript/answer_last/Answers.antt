use Rattle.std.proofs.Common.{ℕ, List, [], subst}
use Rattle.alpha_debug.specs.Command.{command_of}
use Rattle.alpha_debug.specs.OutputChange.{output_change}
use Rattle.alpha_debug.specs.Effects.{Answers}
use Rattle.alpha_debug.proofs.ScriptPieces.{answers_stopped}
use Rattle.alpha_debug.proofs.transcript.answer_last.Goals as goal
use Rattle.alpha_io.proofs.FileReplacementLaws.{OnErr-always}

pub returns-in_err-flush-clause-refused : goal.returns-in_err-flush-clause-refused
returns-in_err-flush-clause-refused g c =
    let command = command_of c.args.line.now in
    let talk = c.in_ok-talk.talk in
    let old = c.args.debugger.now in
    let new = c.answer_line.new in
    let answers : Answers command talk old new.debugger
    (output_change g.K.Sink c.args.out.now [] new.out new.debugger.watcher.block) =
    subst (λ (l : List ℕ).
    Answers command talk old new.debugger (output_change g.K.Sink c.args.out.now l new.out new.debugger.watcher.block))
    c.requires.block c.in_ok-talk.ensures.ok in
    OnErr-always c.from_residual-in_err-flush.result
    (answers_stopped g.K.Sink c.args.out.now new.out c.flush.new.out new.debugger.watcher.block c.flush.new.self command
    talk old new.debugger answers c.in_err-flush.ensures.refused)
