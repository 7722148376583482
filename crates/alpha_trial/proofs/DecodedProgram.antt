-- The words of a trial's program stand for its instructions.
use Rattle.std.proofs.Common.{◌≡◌, ◌<◌, ◌≤◌, ◌+◌, ◌%◌, ◌^◌, ◌++◌, ℕ, zero, suc, pos, Bool, true, false, cond, ltb, List}
use Rattle.std.proofs.Common.{[], ◌∷◌, map, Option, Some, refl, sym, ap, subst, ◌∙◌, arith}
use Rattle.std.specs.Prelude.{◌-ℤ◌, All, IsSomeAnd}
use Rattle.std.specs.Option.{option_map}
use Rattle.std.proofs.lemmas.Int.{ints}
use Rattle.std.proofs.lemmas.Bool.{ltb-true, ltb-false}
use Rattle.std.proofs.lemmas.List.{map-append}
use Rattle.std.proofs.lemmas.List.Elements.{All-nil, All-cons, All-append}
use Rattle.rand_pcg.specs.Lcg.{Lcg}
use Rattle.rand_pcg.specs.Pcg.{pcg32}
use Rattle.alpha_words.specs.declared.Level.TheVariants as levels
use Rattle.alpha_words.specs.Field.{field}
use Rattle.alpha_table.specs.declared.op.Op.TheVariants.{AddlV, MullV, Xor}
use Rattle.alpha_table.specs.declared.rows.MemOp.TheVariants.{Ldah, Lda}
use Rattle.alpha_table.specs.declared.rows.MiscOp.TheVariants.{Trapb}
use Rattle.alpha_table.specs.declared.form.Src.TheVariants.{Reg}
use Rattle.alpha_table.specs.declared.form.Form.{Form}
use Rattle.alpha_table.specs.declared.form.Form.TheVariants.{Mem, Operate, Misc}
use Rattle.alpha_table.specs.Decoded.{decoded, memory_form, branch_form, jump_form, operate_form, misc_form, fetch_form}
use Rattle.alpha_table.specs.Decoded.{pal_form, source_of}
use Rattle.alpha_table.specs.Class.{address}
use Rattle.alpha_table.specs.ClassOf.{class_of}
use Rattle.alpha_table.specs.Words.{class_in}
use Rattle.alpha_table.specs.Columns.{level_of}
use Rattle.alpha_table.proofs.DecodedInsns.{decoded-Row}
use Rattle.alpha_table.proofs.Classes.{class_in-decoded}
use Rattle.alpha_table.proofs.Levels.{level_in-decoded}
use Rattle.alpha_image.specs.Parts.{IsCodeWord, IsWithin}
use Rattle.alpha_trial.specs.Program.{displacement, block, blocks, ending, program, seeded}
use Rattle.alpha_trial.specs.Words.{displacement_field, block_words, blocks_words, ending_words, program_words}

-- ---- the words with a drawn displacement

signed_half : (f x : ℕ) (b : Bool) → ltb f 32768 ≡ b → f ≡ (x % 65536 + 32768) % 65536
    → cond b (pos f) (pos f -ℤ pos 65536) ≡ displacement x
signed_half f x true t e = let low : f < 32768 = ltb-true f 32768 t in omega (arith, ints)
signed_half f x false t e = let high : 32768 ≤ f = ltb-false f 32768 t in omega (arith, ints)

low_half : (x : ℕ) → displacement_field x < 65536
low_half x = omega arith

first_fields : (d : ℕ) → d < 65536
    → (field 31 26 (0x243f0000 + d) ≡ 9) × (field 25 21 (0x243f0000 + d) ≡ 1) × (field 20 16 (0x243f0000 + d) ≡ 31)
    × (field 15 0 (0x243f0000 + d) ≡ d)
first_fields d small = (omega arith, omega arith, omega arith, omega arith)

second_fields : (d : ℕ) → d < 65536
    → (field 31 26 (0x245f0000 + d) ≡ 9) × (field 25 21 (0x245f0000 + d) ≡ 2) × (field 20 16 (0x245f0000 + d) ≡ 31)
    × (field 15 0 (0x245f0000 + d) ≡ d)
second_fields d small = (omega arith, omega arith, omega arith, omega arith)

pub decoded_first : (x : ℕ) → decoded (0x243f0000 + displacement_field x) ≡ Some (Mem Ldah 1 31 (displacement x))
decoded_first x =
    let w = 0x243f0000 + displacement_field x in
    let f = first_fields (displacement_field x) (low_half x) in
    decoded-Row w (Mem Ldah 1 31 (displacement x))
    (f.0, f.1, f.2, signed_half (field 15 0 w) x (ltb (field 15 0 w) 32768) refl f.3)

pub decoded_second : (x : ℕ) → decoded (0x245f0000 + displacement_field x) ≡ Some (Mem Ldah 2 31 (displacement x))
decoded_second x =
    let w = 0x245f0000 + displacement_field x in
    let f = second_fields (displacement_field x) (low_half x) in
    decoded-Row w (Mem Ldah 2 31 (displacement x))
    (f.0, f.1, f.2, signed_half (field 15 0 w) x (ltb (field 15 0 w) 32768) refl f.3)

-- and their classes
pub class_first : (x : ℕ) → class_in (0x243f0000 + displacement_field x) ≡ Some (address Ldah 1 31 (displacement x))
class_first x = class_in-decoded (0x243f0000 + displacement_field x) ∙ ap (option_map class_of) (decoded_first x)

pub class_second : (x : ℕ) → class_in (0x245f0000 + displacement_field x) ≡ Some (address Ldah 2 31 (displacement x))
class_second x = class_in-decoded (0x245f0000 + displacement_field x) ∙ ap (option_map class_of) (decoded_second x)

-- ---- all of the words

-- a block's words behind the two with a displacement
abbrev pub fixed_words : List ℕ
fixed_words = 0x40220803 ∷ 0x20830001 ∷ 0x4c220805 ∷ 0x63ff0000 ∷ 0x44670807 ∷ 0x44870807 ∷ 0x44a70807 ∷ []

abbrev fixed_insns : List Form
fixed_insns =
    Operate AddlV 1 (Reg 2) 3 ∷ Mem Lda 4 3 (pos 1) ∷ Operate MullV 1 (Reg 2) 5 ∷ Misc Trapb
    ∷ Operate Xor 3 (Reg 7) 7 ∷ Operate Xor 4 (Reg 7) 7 ∷ Operate Xor 5 (Reg 7) 7 ∷ []

abbrev some_form : Form → Option Form
some_form i = Some i

fixed_decoded : map decoded fixed_words ≡ map some_form fixed_insns
unfolding decoded memory_form branch_form jump_form operate_form misc_form fetch_form pal_form source_of
fixed_decoded = refl

block_decoded : (x y : ℕ) → map decoded (block_words x y) ≡ map some_form (block x y)
block_decoded x y =
    ap (λ (o : Option Form). o ∷ decoded (0x245f0000 + displacement_field y) ∷ map decoded fixed_words)
    (decoded_first x)
    ∙ (ap (λ (o : Option Form). Some (Mem Ldah 1 31 (displacement x)) ∷ o ∷ map decoded fixed_words) (decoded_second y)
    ∙ ap (λ (l : List (Option Form)). Some (Mem Ldah 1 31 (displacement x)) ∷ Some (Mem Ldah 2 31 (displacement y)) ∷ l)
    fixed_decoded)

blocks_decoded : (n : ℕ) (g : Lcg) → map decoded (blocks_words n g) ≡ map some_form (blocks n g)
blocks_decoded zero g = refl
blocks_decoded (suc n) g =
    let x = pcg32 g in
    let y = pcg32 x.1 in
    map-append decoded (block_words x.0 y.0) (blocks_words n y.1)
    ∙ (ap (λ (l : List (Option Form)). l ++ map decoded (blocks_words n y.1)) (block_decoded x.0 y.0)
    ∙ (ap (λ (l : List (Option Form)). map some_form (block x.0 y.0) ++ l) (blocks_decoded n y.1)
    ∙ sym (map-append some_form (block x.0 y.0) (blocks n y.1))))

ending_decoded : map decoded ending_words ≡ map some_form ending
unfolding decoded memory_form branch_form jump_form operate_form misc_form fetch_form pal_form source_of
ending_decoded = refl

pub program_decoded : (n : ℕ) → map decoded (program_words n) ≡ map some_form (program n)
unfolding program_words
program_decoded n =
    map-append decoded (blocks_words n (seeded n)) ending_words
    ∙ (ap (λ (l : List (Option Form)). l ++ map decoded ending_words) (blocks_decoded n (seeded n))
    ∙ (ap (λ (l : List (Option Form)). map some_form (blocks n (seeded n)) ++ l) ending_decoded
    ∙ sym (map-append some_form (blocks n (seeded n)) ending)))

-- ---- all are code words

code_word : (w : ℕ) (i : Form) → w < 2 ^ 32 → decoded w ≡ Some i → IsWithin (level_of i) levels.One
    → IsCodeWord levels.One w
code_word w i small e low = (
  small,
  (level_in-decoded levels.One w).1
      (subst (λ (o : Option Form). IsSomeAnd o (λ j. IsWithin (level_of j) levels.One)) (sym e) low),
)

abbrev IsLevelOneWord : ℕ → Type 0
IsLevelOneWord w = IsCodeWord levels.One w

fixed_fine : All IsLevelOneWord fixed_words
unfolding class_in
fixed_fine =
    All-cons IsLevelOneWord 0x40220803
    (0x20830001 ∷ 0x4c220805 ∷ 0x63ff0000 ∷ 0x44670807 ∷ 0x44870807 ∷ 0x44a70807 ∷ [])
    (omega arith, omega arith)
    (All-cons IsLevelOneWord 0x20830001 (0x4c220805 ∷ 0x63ff0000 ∷ 0x44670807 ∷ 0x44870807 ∷ 0x44a70807 ∷ [])
    (omega arith, omega arith)
    (All-cons IsLevelOneWord 0x4c220805 (0x63ff0000 ∷ 0x44670807 ∷ 0x44870807 ∷ 0x44a70807 ∷ [])
    (omega arith, omega arith)
    (All-cons IsLevelOneWord 0x63ff0000 (0x44670807 ∷ 0x44870807 ∷ 0x44a70807 ∷ []) (omega arith, omega arith)
    (All-cons IsLevelOneWord 0x44670807 (0x44870807 ∷ 0x44a70807 ∷ []) (omega arith, omega arith)
    (All-cons IsLevelOneWord 0x44870807 (0x44a70807 ∷ []) (omega arith, omega arith)
    (All-cons IsLevelOneWord 0x44a70807 [] (omega arith, omega arith) (All-nil IsLevelOneWord)))))))

ending_fine : All IsLevelOneWord ending_words
unfolding class_in
ending_fine =
    All-cons IsLevelOneWord 0x251f1000
    (0xb4e80000 ∷ 0x221f0001 ∷ 0x47e80411 ∷ 0x225f0008 ∷ 0x201f0004
    ∷ 0x00000083 ∷ 0x221f0000 ∷ 0x201f0001 ∷ 0x00000083 ∷ [])
    (omega arith, omega arith)
    (All-cons IsLevelOneWord 0xb4e80000
    (0x221f0001 ∷ 0x47e80411 ∷ 0x225f0008 ∷ 0x201f0004 ∷ 0x00000083 ∷ 0x221f0000 ∷ 0x201f0001 ∷ 0x00000083 ∷ [])
    (omega arith, omega arith)
    (All-cons IsLevelOneWord 0x221f0001
    (0x47e80411 ∷ 0x225f0008 ∷ 0x201f0004 ∷ 0x00000083 ∷ 0x221f0000 ∷ 0x201f0001 ∷ 0x00000083 ∷ [])
    (omega arith, omega arith)
    (All-cons IsLevelOneWord 0x47e80411
    (0x225f0008 ∷ 0x201f0004 ∷ 0x00000083 ∷ 0x221f0000 ∷ 0x201f0001 ∷ 0x00000083 ∷ [])
    (omega arith, omega arith)
    (All-cons IsLevelOneWord 0x225f0008 (0x201f0004 ∷ 0x00000083 ∷ 0x221f0000 ∷ 0x201f0001 ∷ 0x00000083 ∷ [])
    (omega arith, omega arith)
    (All-cons IsLevelOneWord 0x201f0004 (0x00000083 ∷ 0x221f0000 ∷ 0x201f0001 ∷ 0x00000083 ∷ [])
    (omega arith, omega arith)
    (All-cons IsLevelOneWord 0x00000083 (0x221f0000 ∷ 0x201f0001 ∷ 0x00000083 ∷ []) (omega arith, omega arith)
    (All-cons IsLevelOneWord 0x221f0000 (0x201f0001 ∷ 0x00000083 ∷ []) (omega arith, omega arith)
    (All-cons IsLevelOneWord 0x201f0001 (0x00000083 ∷ []) (omega arith, omega arith)
    (All-cons IsLevelOneWord 0x00000083 [] (omega arith, omega arith) (All-nil IsLevelOneWord))))))))))

block_fine : (x y : ℕ) → All IsLevelOneWord (block_words x y)
block_fine x y =
    let small = low_half x in
    let low = low_half y in
    All-cons IsLevelOneWord (0x243f0000 + displacement_field x) ((0x245f0000 + displacement_field y) ∷ fixed_words)
    (code_word (0x243f0000 + displacement_field x) (Mem Ldah 1 31 (displacement x)) (omega arith) (decoded_first x)
    (omega arith))
    (All-cons IsLevelOneWord (0x245f0000 + displacement_field y) fixed_words
    (code_word (0x245f0000 + displacement_field y) (Mem Ldah 2 31 (displacement y))
    (omega arith) (decoded_second y) (omega arith))
    fixed_fine)

blocks_fine : (n : ℕ) (g : Lcg) → All IsLevelOneWord (blocks_words n g)
blocks_fine zero g = All-nil IsLevelOneWord
blocks_fine (suc n) g =
    let x = pcg32 g in
    let y = pcg32 x.1 in
    All-append IsLevelOneWord (block_words x.0 y.0) (blocks_words n y.1) (block_fine x.0 y.0) (blocks_fine n y.1)

pub program_words-IsLevelOneWord : (n : ℕ) → All IsLevelOneWord (program_words n)
unfolding program_words
program_words-IsLevelOneWord n =
    All-append IsLevelOneWord (blocks_words n (seeded n)) ending_words (blocks_fine n (seeded n)) ending_fine
