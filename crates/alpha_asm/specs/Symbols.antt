-- What is gathered of a source whose lines are read.
use Rattle.std.specs.Prelude.{◌≡◌, ℕ, List, map}
use Rattle.std.specs.Str.Lines.{lines}
use Rattle.alpha_asm.specs.declared.symbols.Symbols.TheInside.{Inside}
use Rattle.alpha_asm.specs.Labels.{location_named}
use Rattle.alpha_asm.specs.Layout.{layout, location_of}
use Rattle.alpha_asm.specs.LineKinds.{kinds_of}
use Rattle.alpha_asm.specs.Patches.{insns_of}
use Rattle.alpha_asm.specs.Assembled.{item_at}

-- its labels, the kinds of its lines, and its instructions
pub record IsGathered (i : Inside) : Type 0 where
  pub labels : (name : List ℕ)
      → location_named i.labels name ≡ location_of (layout (map item_at (lines i.source.now))) name
  pub kinds : i.kinds.items ≡ kinds_of (map item_at (lines i.source.now))
  pub code : i.code.items ≡ insns_of (map item_at (lines i.source.now))
