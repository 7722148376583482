-- The program of a trial, by its instructions.
use Rattle.std.specs.Prelude.{ℕ, zero, suc, ◌%◌, ℤ, pos, ◌-ℤ◌, List, [], ◌∷◌, ◌++◌}
use Rattle.rand_core.specs.Pcg32Seed.{pcg32_seed}
use Rattle.rand_pcg.specs.Lcg.{Lcg}
use Rattle.rand_pcg.specs.Pcg.{pcg32, pcg32_of_seed}
use Rattle.alpha_words.specs.declared.PalCall.TheVariants.{Callsys}
use Rattle.alpha_table.specs.declared.op.Op.TheVariants.{AddlV, MullV, Xor, Bis}
use Rattle.alpha_table.specs.declared.rows.MemOp.TheVariants.{Lda, Ldah, Stq}
use Rattle.alpha_table.specs.declared.rows.MiscOp.TheVariants.{Trapb}
use Rattle.alpha_table.specs.declared.form.Src.TheVariants.{Reg}
use Rattle.alpha_table.specs.declared.form.Form.{Form}
use Rattle.alpha_table.specs.declared.form.Form.TheVariants.{Mem, Operate, Misc, Pal}

-- the displacement that a drawn word gives, from -32,768 to 32,767
abbrev pub displacement : ℕ → ℤ
displacement x = pos (x % 65536) -ℤ pos 32768

-- A block adds and multiplies two drawn numbers, and stirs the sum, one more than the sum, and the product into R7. A
-- barrier ends the shadows of its two triggers.
abbrev pub block : ℕ → ℕ → List Form
block x y =
    Mem Ldah 1 31 (displacement x)
    ∷ Mem Ldah 2 31 (displacement y)
    ∷ Operate AddlV 1 (Reg 2) 3
    ∷ Mem Lda 4 3 (pos 1)
    ∷ Operate MullV 1 (Reg 2) 5
    ∷ Misc Trapb
    ∷ Operate Xor 3 (Reg 7) 7
    ∷ Operate Xor 4 (Reg 7) 7
    ∷ Operate Xor 5 (Reg 7) 7
    ∷ []

-- It writes the eight bytes of R7 to the output and exits with 0.
abbrev pub ending : List Form
ending =
    Mem Ldah 8 31 (pos 4096)
    ∷ Mem Stq 7 8 (pos 0)
    ∷ Mem Lda 16 31 (pos 1)
    ∷ Operate Bis 31 (Reg 8) 17
    ∷ Mem Lda 18 31 (pos 8)
    ∷ Mem Lda 0 31 (pos 4)
    ∷ Pal Callsys
    ∷ Mem Lda 16 31 (pos 0)
    ∷ Mem Lda 0 31 (pos 1)
    ∷ Pal Callsys
    ∷ []

-- so many blocks, each by the next two words of a generator, first x and then y
abbrev pub blocks : ℕ → Lcg → List Form
blocks zero g = []
blocks (suc n) g = let x = pcg32 g in let y = pcg32 x.1 in block x.0 y.0 ++ blocks n y.1

-- the generator that a number seeds, PCG XSH RR 64/32
abbrev pub seeded : ℕ → Lcg
seeded seed = pcg32_of_seed (pcg32_seed 16 seed)

-- n blocks by the generator that n seeds, and the ending
abbrev pub program : ℕ → List Form
program n = blocks n (seeded n) ++ ending
