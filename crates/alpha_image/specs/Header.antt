-- The numbers that a `Header` holds.
use Rattle.alpha_image.specs.declared.header.Header.{Header}
use Rattle.alpha_image.specs.Numbers.{Numbers}
use Rattle.alpha_image.specs.Fields.{level_numbers}

abbrev pub header_numbers : Header → Numbers
header_numbers h = level_numbers h.fields h.words h.segments.items
