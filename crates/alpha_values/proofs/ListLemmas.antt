-- The result of each operate instruction is that on lists.
use Rattle.std.proofs.Common.{◌≡◌, ℕ, ◌^◌, ◌<◌, refl, ap, ◌∙◌, arith}
use Rattle.alpha_words.specs.declared.Level.{Level}
use Rattle.alpha_words.specs.declared.Level.TheVariants.{One, Two}
use Rattle.alpha_table.specs.declared.op.Op.{Op}
use Rattle.alpha_table.specs.declared.op.Op.TheVariants.{And, Bic, Bis, Ornot, Xor, Eqv, Amask, Mskbl, Extbl, Insbl}
use Rattle.alpha_table.specs.declared.op.Op.TheVariants.{Mskwl, Extwl, Inswl, Mskll, Extll, Insll, Zap, Zapnot, Mskql}
use Rattle.alpha_table.specs.declared.op.Op.TheVariants.{Extql, Insql, Mskwh, Inswh, Extwh, Msklh, Inslh, Extlh, Mskqh}
use Rattle.alpha_table.specs.declared.op.Op.TheVariants.{Insqh, Extqh}
use Rattle.alpha_values.specs.Bits.{bits_of}
use Rattle.alpha_values.specs.Op.{complement, features, result_of}
use Rattle.alpha_values.specs.Lists.{and_of, or_of, xor_of, on_lists}
use Rattle.alpha_values.proofs.BitLemmas.{bit_and-and_of, bit_or-or_of, bit_xor-xor_of, complement-inverted}
use Rattle.alpha_values.proofs.ByteLemmas.{extracted_low-bytes_from, extracted_high-bytes_above, inserted-low_placed}
use Rattle.alpha_values.proofs.ByteLemmas.{inserted-high_placed}
use Rattle.alpha_values.proofs.ByteLemmas.{zapped-low_cleared, zapped-high_cleared, zapped-cleared}
use Rattle.alpha_values.proofs.ByteLemmas.{zapped-cleared_complement}

complement_fits : (b : ℕ) → complement b < 2 ^ 64
complement_fits b = omega arith

features_fit : (level : Level) → features level < 2 ^ 64
features_fit One = omega arith
features_fit Two = omega arith

pub result_on_lists : (level : Level) (op : Op) (a b old : ℕ) → a < 2 ^ 64 → b < 2 ^ 64
    → result_of level op a b old ≡ on_lists level op a b old
unfolding result_of on_lists
result_on_lists level And a b old p q = bit_and-and_of a b p q
result_on_lists level Bis a b old p q = bit_or-or_of a b p q
result_on_lists level Xor a b old p q = bit_xor-xor_of a b p q
result_on_lists level Bic a b old p q =
    bit_and-and_of a (complement b) p (complement_fits b) ∙ ap (and_of (bits_of a)) (complement-inverted b q)
result_on_lists level Ornot a b old p q =
    bit_or-or_of a (complement b) p (complement_fits b) ∙ ap (or_of (bits_of a)) (complement-inverted b q)
result_on_lists level Eqv a b old p q =
    bit_xor-xor_of a (complement b) p (complement_fits b) ∙ ap (xor_of (bits_of a)) (complement-inverted b q)
result_on_lists level Amask a b old p q =
    bit_and-and_of b (complement (features level)) q (complement_fits (features level))
    ∙ ap (and_of (bits_of b)) (complement-inverted (features level) (features_fit level))
result_on_lists level Extbl a b old p q = extracted_low-bytes_from 1 a b p
result_on_lists level Extwl a b old p q = extracted_low-bytes_from 2 a b p
result_on_lists level Extll a b old p q = extracted_low-bytes_from 4 a b p
result_on_lists level Extql a b old p q = extracted_low-bytes_from 8 a b p
result_on_lists level Extwh a b old p q = extracted_high-bytes_above 2 a b (omega arith) p
result_on_lists level Extlh a b old p q = extracted_high-bytes_above 4 a b (omega arith) p
result_on_lists level Extqh a b old p q = extracted_high-bytes_above 8 a b (omega arith) p
result_on_lists level Insbl a b old p q = inserted-low_placed 1 a b (omega arith)
result_on_lists level Inswl a b old p q = inserted-low_placed 2 a b (omega arith)
result_on_lists level Insll a b old p q = inserted-low_placed 4 a b (omega arith)
result_on_lists level Insql a b old p q = inserted-low_placed 8 a b (omega arith)
result_on_lists level Inswh a b old p q = inserted-high_placed 2 a b (omega arith)
result_on_lists level Inslh a b old p q = inserted-high_placed 4 a b (omega arith)
result_on_lists level Insqh a b old p q = inserted-high_placed 8 a b (omega arith)
result_on_lists level Mskbl a b old p q = zapped-low_cleared 1 a b (omega arith)
result_on_lists level Mskwl a b old p q = zapped-low_cleared 2 a b (omega arith)
result_on_lists level Mskll a b old p q = zapped-low_cleared 4 a b (omega arith)
result_on_lists level Mskql a b old p q = zapped-low_cleared 8 a b (omega arith)
result_on_lists level Mskwh a b old p q = zapped-high_cleared 2 a b (omega arith)
result_on_lists level Msklh a b old p q = zapped-high_cleared 4 a b (omega arith)
result_on_lists level Mskqh a b old p q = zapped-high_cleared 8 a b (omega arith)
result_on_lists level Zap a b old p q = zapped-cleared a b
result_on_lists level Zapnot a b old p q = zapped-cleared_complement a b q
result_on_lists level _ a b old p q = refl
