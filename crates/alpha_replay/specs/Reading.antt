-- What bytes say of a journal, each number at its offset.
use Rattle.std.specs.Prelude.{ℕ, ◌+◌, ◌==◌, false, if◌then◌else◌, List, [], take, drop, slice_index, Result, Ok, Err}
use Rattle.alpha_words.specs.declared.Completion.{Completion}
use Rattle.alpha_words.specs.declared.Completion.TheVariants.{Wrap, Saturate, Stop}
use Rattle.alpha_image.specs.Reading.{quadword_at, longword_at}
use Rattle.alpha_replay.specs.declared.item.Item.{Item}
use Rattle.alpha_replay.specs.Endings.{ending_in}
use Rattle.alpha_replay.specs.Items.{Parsed, parsed}
use Rattle.alpha_replay.specs.Journal.{Parts, Numbers}

unfoldable pub numbers_in : List ℕ → Numbers
numbers_in bytes = record {
  completion = slice_index bytes 8;
  kind = slice_index bytes 9;
  first = quadword_at 10 bytes;
  second = quadword_at 18 bytes;
  input = longword_at 26 bytes;
  output = longword_at 30 bytes;
  items = longword_at 34 bytes;
}

-- the completion of a number; numbers above 2 have none of their own
abbrev pub completion_in : ℕ → Completion
completion_in n = if n == 0 then Wrap else if n == 1 then Saturate else Stop

-- where the items begin
abbrev pub items_at : Numbers → ℕ
items_at n = 38 + (n.input + n.output)

-- the items and the bytes behind them, or the number of the first bad one
unfoldable pub items_in : List ℕ → Result Parsed ℕ
items_in bytes = parsed (numbers_in bytes).items 0 false (drop (items_at (numbers_in bytes)) bytes)

abbrev pub items_or_none : Result Parsed ℕ → List Item
items_or_none (Ok p) = p.items
items_or_none (Err n) = []

-- the journal with these numbers and items whose bytes these are
abbrev pub parts_with : Numbers → List Item → List ℕ → Parts
parts_with n items bytes = record {
  completion = completion_in n.completion;
  ending = ending_in n.kind n.first n.second;
  input = take n.input (drop 38 bytes);
  output = take n.output (drop (38 + n.input) bytes);
  items = items;
}

-- the journal that bytes give
abbrev pub parts_of : List ℕ → Parts
parts_of bytes = parts_with (numbers_in bytes) (items_or_none (items_in bytes)) bytes
