-- The image of a trial is good.
use Rattle.std.specs.Prelude.{All, AllPairs}
use Rattle.std.proofs.Common.{◌<◌, ◌≤◌, ◌+◌, ◌^◌, ℕ, zero, suc, [], ◌∷◌, length, refl, inl, arith}
use Rattle.std.proofs.lemmas.List.Elements.{All-nil, All-cons}
use Rattle.alpha_image.specs.declared.segment.Segment.{Segment}
use Rattle.alpha_image.specs.Numbers.{Numbers}
use Rattle.alpha_image.specs.Rules.{AreApart, IsBase, regions, size_of_segment, FieldsFit}
use Rattle.alpha_image.specs.Parts.{IsImage, IsByte}
use Rattle.alpha_trial.specs.Words.{program_words, trial_image}
use Rattle.alpha_trial.proofs.DecodedProgram.{program_words-IsLevelOneWord}
use Rattle.alpha_trial.proofs.WordCounts.{program_size}

abbrev variables : Segment
variables = record { base = 0x10000000; filled = 0; zeroed = 8 }

-- the numbers of an image with so many words
abbrev with_words : ℕ → Numbers
with_words size =
    record { level = 1; code_base = 0x10000; entry = 0x10000; words = size; stack = 65536; segments = variables ∷ [] }

all_variables : (P : Segment → Type 0) → P variables → All P (variables ∷ [])
all_variables P h = All-cons P variables [] h (All-nil P)

regions-AreApart : (size : ℕ) → size ≤ 180010 → AllPairs AreApart (regions (with_words size))
regions-AreApart size most zero zero d order below = absurd (omega arith)
regions-AreApart size most zero (suc zero) d order below = λ address code stack. omega arith
regions-AreApart size most zero (suc (suc zero)) d order below = λ address code segment. omega arith
regions-AreApart size most zero (suc (suc (suc j))) d order below = absurd (omega arith)
regions-AreApart size most (suc zero) zero d order below = absurd (omega arith)
regions-AreApart size most (suc zero) (suc zero) d order below = absurd (omega arith)
regions-AreApart size most (suc zero) (suc (suc zero)) d order below = λ address stack segment. omega arith
regions-AreApart size most (suc zero) (suc (suc (suc j))) d order below = absurd (omega arith)
regions-AreApart size most (suc (suc i)) j d order below = absurd (omega arith)

FieldsFit-with_words : (size : ℕ) → 0 < size → size ≤ 180010 → FieldsFit (with_words size)
FieldsFit-with_words size some most = record {
  code_base = (refl, omega arith);
  data_bases = (all_variables (λ s. IsBase s.base) (refl, omega arith), λ k below. absurd (omega arith));
  words = (some, omega arith, omega arith);
  filled = all_variables (λ s. s.filled ≤ 16777216) (omega arith);
  zeroed = (omega arith, all_variables (λ s. s.base + size_of_segment s ≤ 2 ^ 30) (omega arith));
  stack = (omega arith, omega arith, refl);
  entry = (refl, (omega arith, omega arith));
  regions = regions-AreApart size most;
  level = inl refl;
  segments = omega arith;
}

pub trial_image-IsImage : (n : ℕ) → n ≤ 20000 → IsImage (trial_image n)
trial_image-IsImage n most =
    let size = program_size n in
    record {
      version = (refl, refl);
      fields = FieldsFit-with_words (length (program_words n)) (omega arith) (omega arith);
      words = program_words-IsLevelOneWord n;
      bytes = All-nil IsByte;
      filled = refl;
    }
