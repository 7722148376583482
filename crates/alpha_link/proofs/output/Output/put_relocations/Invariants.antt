use Rattle.std.proofs.Common.{◌≡◌, drop, not}
use Rattle.std.specs.Prelude.{position}
use Rattle.std.specs.List.{position_from}
use Rattle.alpha_link.specs.Linked.{is_in_range}
use Rattle.alpha_link.specs.Output.{code_with_all, bytes_with_all}
use Rattle.alpha_link.proofs.output.Output.put_relocations.Given as goal

abbrev pub invariant-loop-number : goal.invariant-loop-number
invariant-loop-number l = record {
  relocations : l.relocation-items ≡ l.located.parts.relocations;
  met : position_from (λ r. not (is_in_range l.addresses l.located r)) l.number (drop l.number l.relocation-items)
      ≡ position (λ r. not (is_in_range l.addresses l.located r)) l.relocation-items;
  code : code_with_all l.addresses l.located (drop l.number l.relocation-items) l.self.code.items
      ≡ code_with_all l.addresses l.located l.relocation-items l.initial.self.code.items;
  bytes : bytes_with_all l.addresses l.located (drop l.number l.relocation-items) l.self.bytes.items
      ≡ bytes_with_all l.addresses l.located l.relocation-items l.initial.self.bytes.items;
}
