-- The numbers that the code has read.
use Rattle.alpha_replay.specs.declared.journal_header.JournalHeader.{JournalHeader}
use Rattle.alpha_replay.specs.Journal.{Numbers}

abbrev pub header_numbers : JournalHeader → Numbers
header_numbers f = record {
  completion = f.completion;
  kind = f.kind;
  first = f.first;
  second = f.second;
  input = f.input;
  output = f.output;
  items = f.items;
}
