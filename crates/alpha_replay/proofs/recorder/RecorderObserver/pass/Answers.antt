use Rattle.std.proofs.Common.{true, sym, subst}
use Rattle.alpha_run.specs.RunEffect.{PassesOver}
use Rattle.alpha_replay.specs.Recorder.{recording}
use Rattle.alpha_replay.specs.BuilderState.{BuilderState}
use Rattle.alpha_replay.proofs.RecorderNotes.{passes_over}
use Rattle.alpha_replay.proofs.recorder.RecorderObserver.pass.Goals as goal

pub returns : goal.returns
returns c =
    subst (λ (t : BuilderState).
    PassesOver recording true c.args.count c.args.self.now (record { builder = t; full = c.args.self.now.full }))
    (sym c.note_ones.ensures.value)
    (passes_over true c.args.self.now c.args.count c.note_ones.ensures.within c.requires)
