use Rattle.std.proofs.Common.{◌∙◌}
use Rattle.alpha_replay.proofs.ReplayAnswers.{of_parts, answer-Replays}
use Rattle.alpha_replay.specs.Replay.{replayed}
use Rattle.alpha_replay.proofs.replaying.replay.Goals as goal

pub returns-in-Ok-machine_at_start : goal.returns-in-Ok-machine_at_start
returns-in-Ok-machine_at_start c =
    answer-Replays c.play_all.result (replayed c.args.image c.args.journal.now)
    (c.play_all.ensures c.args.image c.completion.result
    (record { fresh = c.in-Ok-machine_at_start.ensures.fresh; program = c.in-Ok-machine_at_start.ensures.program })
    ∙ of_parts c.args.image c.args.journal.now c.completion.result c.ending.result c.new-input.result.left
    c.output.result.now c.items.result.now
    c.completion.ensures.value c.ending.ensures.value
    (c.new-input.ensures.left ∙ (c.in-Ok.ensures.items ∙ c.input.ensures.value)) c.output.ensures.value
    c.items.ensures.value)
