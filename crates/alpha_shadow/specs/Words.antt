-- Which words are refused, and why.
use Rattle.std.specs.Prelude.{◌≡◌, ◌<◌, ◌≤◌, ◌^◌, ℕ, List, length, is_none, position, None, Some}
use Rattle.std.specs.List.{All}
use Rattle.alpha_table.specs.Decoded.{decoded}
use Rattle.alpha_shadow.specs.Least.{IsLeastBroken}
use Rattle.alpha_shadow.specs.declared.words.Refusal.{Refusal}
use Rattle.alpha_shadow.specs.declared.words.Refusal.TheVariants.{TooMany, Unknown, Broken}

-- the word stands for an instruction
abbrev pub IsInTable : ℕ → Type 0
IsInTable word = decoded word ≡ None → ⊥

-- each word stands for an instruction, and its place is a number of 32 bits
pub record AreKnown (words : List ℕ) : Type 0 where
  pub few : length words < 2 ^ 32
  pub known : All IsInTable words

abbrev pub Refuses : List ℕ → Refusal → Type 0
Refuses words TooMany = 2 ^ 32 ≤ length words
Refuses words (Unknown place) = (length words < 2 ^ 32) × (position (λ word. is_none (decoded word)) words ≡ Some place)
Refuses words (Broken b) = AreKnown words × IsLeastBroken words b
