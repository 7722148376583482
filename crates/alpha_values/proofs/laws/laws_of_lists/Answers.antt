use Rattle.alpha_values.proofs.BitLemmas.{bit_and-and_of, bit_or-or_of, bit_xor-xor_of, complement-inverted}
use Rattle.alpha_values.proofs.ByteLemmas.{extracted_low-bytes_from, extracted_high-bytes_above, inserted-low_placed}
use Rattle.alpha_values.proofs.ByteLemmas.{inserted-high_placed}
use Rattle.alpha_values.proofs.ByteLemmas.{zapped-low_cleared, zapped-high_cleared, zapped-cleared}
use Rattle.alpha_values.proofs.ByteLemmas.{zapped-cleared_complement}
use Rattle.alpha_values.proofs.ListLemmas.{result_on_lists}
use Rattle.alpha_values.proofs.laws.laws_of_lists.Goals as goal

pub returns : goal.returns
returns c = record {
  conjunction = bit_and-and_of;
  disjunction = bit_or-or_of;
  exclusion = bit_xor-xor_of;
  complements = complement-inverted;
  extracts_low = extracted_low-bytes_from;
  extracts_high = extracted_high-bytes_above;
  inserts_low = inserted-low_placed;
  inserts_high = inserted-high_placed;
  masks_low = zapped-low_cleared;
  masks_high = zapped-high_cleared;
  zaps = zapped-cleared;
  zaps_not = zapped-cleared_complement;
  results = result_on_lists;
}
