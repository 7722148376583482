-- The bytes that an access may touch, counted from its base.
use Rattle.std.specs.Prelude.{◌≢◌, ◌⊎◌}
use Rattle.alpha_table.specs.declared.columns.MemAccess.{MemAccess}
use Rattle.alpha_table.specs.Spans.{bytes_spanned, SpansMeet}
use Rattle.alpha_shadow.specs.declared.loads.Reach.{Reach}

abbrev pub reach_of : MemAccess → Reach
reach_of a = record { base = a.base; span = bytes_spanned a }

-- two reaches may touch a common byte: by different bases, or by one base where their spans meet
abbrev pub MayTouch : Reach → Reach → Type 0
MayTouch a b = (a.base ≢ b.base) ⊎ SpansMeet a.span b.span
