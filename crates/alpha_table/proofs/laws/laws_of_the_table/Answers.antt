use Rattle.alpha_table.proofs.DecodedInsns.{Row-deterministic, Row-injective, decoded-Row, Row-decoded, IsInsn-Row}
use Rattle.alpha_table.proofs.InsnWords.{encoded-Row, Row-exists}
use Rattle.alpha_table.proofs.laws.laws_of_the_table.Goals as goal

pub returns : goal.returns
returns c = record {
  some_word = Row-exists;
  encoded = encoded-Row;
  one_word = Row-injective;
  one_instruction = Row-deterministic;
  within = IsInsn-Row;
  looked_up = λ w i. (decoded-Row w i, Row-decoded w i);
}
