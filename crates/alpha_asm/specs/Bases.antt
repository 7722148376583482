-- What the addresses of labels depend on, as the code has it.
use Rattle.alpha_asm.specs.declared.bases.Bases.{Bases}
use Rattle.alpha_asm.specs.Labels.{location_named}
use Rattle.alpha_asm.specs.Program.{Known}

abbrev pub known_of : Bases → Known
known_of b = record {
  code_base = b.code_base;
  segments = b.segments.now;
  locations = location_named b.labels.now;
}
