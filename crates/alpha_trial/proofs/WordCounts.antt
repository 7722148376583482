-- How many words a trial's program has, and how many of them may trap.
use Rattle.std.proofs.Common.{◌≡◌, ◌+◌, ◌*◌, ◌++◌, ℕ, zero, suc, Bool, false, cond, List, [], ◌∷◌, length, Option}
use Rattle.std.proofs.Common.{is_some, refl, ap, ◌∙◌, arith, length-append}
use Rattle.std.specs.List.{count_by}
use Rattle.std.specs.Option.{option_and_then}
use Rattle.std.proofs.lemmas.List.Sums.{sum_by-append}
use Rattle.rand_pcg.specs.Lcg.{Lcg}
use Rattle.rand_pcg.specs.Pcg.{pcg32}
use Rattle.alpha_table.specs.declared.form.Form.{Form}
use Rattle.alpha_table.specs.Columns.{trap_op_of}
use Rattle.alpha_table.specs.Decoded.{decoded, memory_form, branch_form, jump_form, operate_form, misc_form, fetch_form}
use Rattle.alpha_table.specs.Decoded.{pal_form, source_of}
use Rattle.alpha_trial.specs.Program.{seeded}
use Rattle.alpha_trial.specs.Words.{displacement_field, block_words, blocks_words, ending_words, program_words}
use Rattle.alpha_trial.specs.Report.{is_trigger}
use Rattle.alpha_trial.proofs.DecodedProgram.{decoded_first, decoded_second, fixed_words}

blocks_size : (n : ℕ) (g : Lcg) → length (blocks_words n g) ≡ 9 * n
blocks_size zero g = refl
blocks_size (suc n) g =
    let x = pcg32 g in
    let y = pcg32 x.1 in
    let rest = blocks_size n y.1 in
    omega (arith, length-append (block_words x.0 y.0) (blocks_words n y.1))

pub program_size : (n : ℕ) → length (program_words n) ≡ 9 * n + 10
unfolding program_words
program_size n =
    let blocks = blocks_size n (seeded n) in
    omega (arith, length-append (blocks_words n (seeded n)) ending_words)

-- ---- triggers

fixed_count : count_by is_trigger fixed_words ≡ 2
unfolding decoded memory_form branch_form jump_form operate_form misc_form fetch_form pal_form source_of
fixed_count = refl

ending_count : count_by is_trigger ending_words ≡ 0
unfolding decoded memory_form branch_form jump_form operate_form misc_form fetch_form pal_form source_of
ending_count = refl

zero_add : (a b : ℕ) → (0 + a) + b ≡ a + b
zero_add a b = omega arith

-- one word in front, which may trap or not
count_more : (w : ℕ) (ws : List ℕ) (b : Bool) → is_trigger w ≡ b
    → count_by is_trigger (w ∷ ws) ≡ cond b 1 0 + count_by is_trigger ws
count_more w ws b e =
    let one : cond (is_trigger w) 1 0 ≡ cond b 1 0 = ap (λ (c : Bool). cond c 1 0) e in
    let joined : count_by is_trigger (w ∷ ws) ≡ (0 + cond (is_trigger w) 1 0) + count_by is_trigger ws =
    sum_by-append (λ v. cond (is_trigger v) 1 0) (w ∷ []) ws in
    joined
    ∙ (zero_add (cond (is_trigger w) 1 0) (count_by is_trigger ws) ∙ ap (λ (k : ℕ). k + count_by is_trigger ws) one)

block_count : (x y : ℕ) → count_by is_trigger (block_words x y) ≡ 2
block_count x y =
    let one : count_by is_trigger (block_words x y)
    ≡ 0 + count_by is_trigger ((0x245f0000 + displacement_field y) ∷ fixed_words) =
    count_more (0x243f0000 + displacement_field x) ((0x245f0000 + displacement_field y) ∷ fixed_words) false
    (ap (λ (o : Option Form). is_some (option_and_then trap_op_of o)) (decoded_first x)) in
    let two : count_by is_trigger ((0x245f0000 + displacement_field y) ∷ fixed_words)
    ≡ 0 + count_by is_trigger fixed_words =
    count_more (0x245f0000 + displacement_field y) fixed_words false
    (ap (λ (o : Option Form). is_some (option_and_then trap_op_of o)) (decoded_second y)) in
    one ∙ (ap (λ (k : ℕ). 0 + k) (two ∙ ap (λ (k : ℕ). 0 + k) fixed_count))

blocks_count : (n : ℕ) (g : Lcg) → count_by is_trigger (blocks_words n g) ≡ 2 * n
blocks_count zero g = refl
blocks_count (suc n) g =
    let x = pcg32 g in
    let y = pcg32 x.1 in
    let joined : count_by is_trigger (block_words x.0 y.0 ++ blocks_words n y.1)
    ≡ count_by is_trigger (block_words x.0 y.0) + count_by is_trigger (blocks_words n y.1) =
    sum_by-append (λ v. cond (is_trigger v) 1 0) (block_words x.0 y.0) (blocks_words n y.1) in
    let two : 2 + 2 * n ≡ 2 * suc n = omega arith in
    joined
    ∙ (ap (λ (k : ℕ). k + count_by is_trigger (blocks_words n y.1)) (block_count x.0 y.0)
    ∙ (ap (λ (k : ℕ). 2 + k) (blocks_count n y.1) ∙ two))

pub program_count : (n : ℕ) → count_by is_trigger (program_words n) ≡ 2 * n
unfolding program_words
program_count n =
    let joined : count_by is_trigger (blocks_words n (seeded n) ++ ending_words)
    ≡ count_by is_trigger (blocks_words n (seeded n)) + count_by is_trigger ending_words =
    sum_by-append (λ v. cond (is_trigger v) 1 0) (blocks_words n (seeded n)) ending_words in
    let all : 2 * n + 0 ≡ 2 * n = omega arith in
    joined
    ∙ (ap (λ (k : ℕ). k + count_by is_trigger ending_words) (blocks_count n (seeded n))
    ∙ (ap (λ (k : ℕ). 2 * n + k) ending_count ∙ all))
