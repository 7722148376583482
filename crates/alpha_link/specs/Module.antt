-- The parts of a `Module`, whose code is held as its instructions.
use Rattle.std.specs.Prelude.{◌≡◌, map, Some}
use Rattle.alpha_table.specs.Decoded.{decoded}
use Rattle.alpha_table.specs.Encoded.{encoded}
use Rattle.alpha_link.specs.declared.module.Module.TheInside.{Inside}
use Rattle.alpha_link.specs.Parts.{ModuleParts, IsModule}

-- the code words are those of the instructions
abbrev pub parts_in : Inside → ModuleParts
parts_in i = record {
  words = map encoded i.insns.items;
  bytes = i.bytes.items;
  zeroed = i.zeroed;
  symbols = i.symbols;
  relocations = i.relocations.items;
}

-- the parts are a good module, and each word stands for its instruction
pub record IsWhole (i : Inside) : Type 0 where
  pub good : IsModule (parts_in i)
  pub insns : map decoded (map encoded i.insns.items) ≡ map Some i.insns.items
