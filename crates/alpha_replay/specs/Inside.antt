-- The parts of a `Journal`.
use Rattle.alpha_replay.specs.declared.journal.Journal.TheInside.{Inside}
use Rattle.alpha_replay.specs.Journal.{Parts, IsJournal}

abbrev pub parts_in : Inside → Parts
parts_in i = record {
  completion = i.completion;
  ending = i.ending;
  input = i.input.items;
  output = i.output.items;
  items = i.items.items;
}

abbrev pub IsGood : Inside → Type 0
IsGood i = IsJournal (parts_in i)
