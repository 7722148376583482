use Rattle.std.proofs.Common.{◌≡◌, ◌-◌, ◌≤◌, [], length, drop}
use Rattle.alpha_link.specs.Reading.{items_at}
use Rattle.alpha_link.specs.Symbols.{symbol_at}
use Rattle.alpha_link.specs.Listed.{read_in}
use Rattle.alpha_link.proofs.symbols.read_symbols.Given as goal

abbrev pub invariant-loop-number : goal.invariant-loop-number
invariant-loop-number l = record {
  size : length (read_in l.symbols) ≡ l._number;
  reads : items_at (symbol_at l.total l.sizes) (l.sizes.symbols - l._number) (read_in l.symbols) l.rest
      ≡ items_at (symbol_at l.total l.sizes) l.sizes.symbols [] l.bytes;
  bytes : l.symbols.bytes.now ≡ l.bytes;
  place : l.rest ≡ drop (length l.bytes - length l.rest) l.bytes;
  below : length l.rest ≤ length l.bytes;
}
