use Rattle.std.proofs.Common.{append_assoc}
use Rattle.alpha_replay.specs.Journal.{spelling}
use Rattle.alpha_replay.proofs.write.journal_bytes.Goals as goal

pub returns-clause-value : goal.returns-clause-value
unfolding spelling
returns-clause-value c =
    rw (
      c.in_ok-push_items.ensures.ok,
      c.items-items.ensures.value,
      c.in_ok-extend_from_slice-2.ensures.items,
      c.output-output.ensures.value,
      c.in_ok-extend_from_slice.ensures.items,
      c.input-input.ensures.value,
      c.in_ok-push_header.ensures.ok,
      c.in_ok-out.ensures.items,
    )
    (simp append_assoc)
