use Rattle.std.proofs.Common.{◌≡◌, ◌≤◌, length}
use Rattle.alpha_replay.specs.ReplayEffect.{place, first_cursor, Plays}
use Rattle.alpha_replay.proofs.play.play_items.Given as goal

abbrev pub invariant-loop-item : goal.invariant-loop-item
invariant-loop-item l =
    Plays l.expected l.items l.item-index (place l.initial.wild l.initial.input.left first_cursor)
    (place l.wild l.input.left l.stand)
    × (l.stand.seen.at ≤ length l.expected)
    × (l.n ≡ l.item-index)
