use Rattle.std.proofs.Common.{refl}
use Rattle.std.proofs.lemmas.List.{take_rest}
use Rattle.alpha_image.proofs.header.Header.read_level.Goals as goal

pub returns-clause-numbers : goal.returns-clause-numbers
returns-clause-numbers c =
    let segments = rw (take_rest c.args.bytes.now 40) at c.read_segments.ensures.value in
    rw (
      segments,
      c.longword_at-count.ensures.value,
      c.quadword_at.ensures.value,
      c.quadword_at-2.ensures.value,
      c.from.ensures,
      c.from-2.ensures,
      c.from-3.ensures,
      c.longword_at.ensures.value,
      c.longword_at-2.ensures.value,
      c.longword_at-3.ensures.value,
    ) refl
