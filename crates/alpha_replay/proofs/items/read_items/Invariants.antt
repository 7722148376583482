use Rattle.alpha_replay.proofs.ItemRows.{Reading}
use Rattle.alpha_replay.proofs.items.read_items.Given as goal

abbrev pub invariant-loop-n : goal.invariant-loop-n
invariant-loop-n l = Reading l.count l.bytes l.n l.at l.behind l.items.items
