use Rattle.std.proofs.Common.{◌≡◌, length}
use Rattle.alpha_rows.proofs.RowsOfWords.{AreRows}
use Rattle.alpha_rows.proofs.make.rows_of.Given as goal

abbrev pub invariant-words : goal.invariant-words
invariant-words l = record {
  size : length l.rows.items ≡ l.place;
  each : AreRows l.image l.rows.items;
}
