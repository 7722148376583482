-- Code words that the conditions of trap shadows don't tell apart.
use Rattle.std.specs.Prelude.{◌≡◌, ℕ, List, length, Option}
use Rattle.alpha_table.specs.Class.{Class}
use Rattle.alpha_table.specs.Code.{class_at, kind, trap_rc}
use Rattle.alpha_table.specs.Uses.{uses, sets, access}

-- two words of one kind, which use and set the same registers, make the same access and have the same destination
pub record HaveSameColumns (c d : Option Class) : Type 0 where
  pub kind : kind c ≡ kind d
  pub sets : sets c ≡ sets d
  pub uses : (r : ℕ) → uses c r ≡ uses d r
  pub access : access c ≡ access d
  pub destination : trap_rc c ≡ trap_rc d

-- code of one length, whose words are so at each place
pub record AreAlike (a b : List ℕ) : Type 0 where
  pub size : length a ≡ length b
  pub columns : (k : ℕ) → HaveSameColumns (class_at a k) (class_at b k)
