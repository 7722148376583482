use Rattle.std.proofs.Common.{◌≡◌, ◌+◌, List, ℕ, drop, take, is_some}
use Rattle.std.specs.Prelude.{◌&&◌}
use Rattle.std.specs.Option.{option_or}
use Rattle.std.specs.List.{position_from}
use Rattle.alpha_asm.specs.Layout.{first}
use Rattle.alpha_link.specs.Linked.{named_address, is_defined}
use Rattle.alpha_link.specs.Names.{found_in, again_in}
use Rattle.alpha_link.proofs.table.Names.define_all.Given as goal

abbrev pub invariant-loop-number : goal.invariant-loop-number
invariant-loop-number l = record {
  count : l.self.row.count ≡ l.initial.self.row.count + l.number;
  places : l.self.row.places.now ≡ l.initial.self.row.places.now;
  so_far : (name : List ℕ) → found_in l.self name ≡ option_or (found_in l.initial.self name)
      (first (named_address l.located name) (take l.number l.located.parts.symbols));
  single : position_from (λ s. is_defined s.section && is_some (found_in l.initial.self s.name)) l.number
      (drop l.number l.located.parts.symbols)
      ≡ again_in (found_in l.initial.self) l.located;
}
