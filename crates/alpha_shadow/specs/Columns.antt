-- What the checker reads of the word at a place.
use Rattle.std.specs.Prelude.{◌≡◌, ◌<◌, ◌↔◌, ℕ, Some, List, length}
use Rattle.std.specs.Option.{unwrap_or}
use Rattle.alpha_words.specs.Regs.{Has}
use Rattle.alpha_table.specs.Columns.{access_of}
use Rattle.alpha_shadow.specs.declared.columns.Columns.{Columns}
use Rattle.alpha_shadow.specs.Code.{kind_at, access_at, sets_at, Uses}

-- the destination of the trigger at a place, the register that it sets, or else 31
abbrev pub destination_of : List ℕ → ℕ → ℕ
destination_of code i = unwrap_or (sets_at code i) 31

-- a word stands at a place, with these columns
pub record HasColumns (code : List ℕ) (at : ℕ) (columns : Columns) : Type 0 where
  pub within : at < length code
  pub kind : kind_at code at ≡ Some columns.kind
  pub sets : sets_at code at ≡ columns.sets
  pub uses : (r : ℕ) → Has columns.uses r ↔ Uses code at r
  pub access : access_at code at ≡ access_of columns.insn
