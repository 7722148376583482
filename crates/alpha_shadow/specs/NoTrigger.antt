-- Where no shadow is open: the words up to the next trigger.
use Rattle.std.specs.Prelude.{◌≡◌, ◌≢◌, ◌<◌, ◌≤◌, ℕ, Some, List, slice_get}
use Rattle.std.specs.Option.{option_and_then}
use Rattle.alpha_table.specs.declared.columns.InsnKind.TheVariants as kinds
use Rattle.alpha_table.specs.declared.form.Form.{Form}
use Rattle.alpha_table.specs.Decoded.{decoded}
use Rattle.alpha_table.specs.Columns.{kind_of}
use Rattle.alpha_shadow.specs.declared.fetch.NextTrigger.{NextTrigger}

-- the word at a place stands for an instruction
abbrev pub IsInsnAt : List ℕ → ℕ → Form → Type 0
IsInsnAt code at i = option_and_then decoded (slice_get code at) ≡ Some i

-- the word at a place is an instruction that is no trigger
pub record IsNoTrigger (code : List ℕ) (at : ℕ) : Type 0 where
  pub insn : Form
  pub there : IsInsnAt code at insn
  pub other : kind_of insn ≢ kinds.Trigger

-- so is each from one place up to another
abbrev pub AreNoTriggers : List ℕ → ℕ → ℕ → Type 0
AreNoTriggers code from to = (k : ℕ) → from ≤ k → k < to → IsNoTrigger code k

-- the first trigger from a place on
pub record IsNextTrigger (code : List ℕ) (from : ℕ) (next : NextTrigger) : Type 0 where
  pub above : from ≤ next.place
  pub quiet : AreNoTriggers code from next.place
  pub there : IsInsnAt code next.place next.insn
  pub trigger : kind_of next.insn ≡ kinds.Trigger
