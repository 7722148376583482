-- The place of an item, as the pass has it.
use Rattle.std.specs.Prelude.{ℕ, length, ◌<◌, ◌^◌}
use Rattle.alpha_asm.specs.declared.place.Place.{Place as PlaceHere}
use Rattle.alpha_asm.specs.Layout.{Place}

-- behind so many instructions
abbrev pub place_of_code : ℕ → PlaceHere → Place
place_of_code words p = record {
  level = p.level;
  begun = p.begun;
  section = p.section;
  words = words;
  earlier = p.earlier.items;
  last = p.last;
  has_zero = p.has_zero;
}

-- the sizes are small
pub record IsSmall (p : PlaceHere) : Type 0 where
  pub filled : p.last.filled < 2 ^ 63
  pub zeroed : p.last.zeroed < 2 ^ 62
  pub earlier : length p.earlier.items < 2 ^ 32
