-- A program, the states in which it may stand, and what comes of a step.
use Rattle.std.specs.Prelude.{ℕ, List, Option}
use Rattle.alpha_words.specs.declared.Completion.{Completion}
use Rattle.alpha_mem.specs.Block.{Block}
use Rattle.alpha_pal.specs.Call.{Traffic}
use Rattle.alpha_image.specs.Parts.{Parts}
use Rattle.alpha_seq.specs.declared.end.End.{End}

-- An image, and what an instruction that overflows leaves. No step changes either.
pub record Program : Type 0 where
  pub image : Parts
  pub completion : Completion

-- The registers, the PC, the memory, the unique value, the number in the lock flag if it is set, how many overflows
-- were logged modulo 2 ^ 64 and the address of the last one.
pub record State : Type 0 where
  pub regs : List ℕ
  pub pc : ℕ
  pub mem : List Block
  pub unique : ℕ
  pub lock : Option ℕ
  pub count : ℕ
  pub logged : ℕ

-- An instruction was executed; a barrier was, with what passed in it and the PC and the registers behind it; the one at
-- this address overflowed and was logged; or the program ended.
pub data Event : Type 0 where
  Went : Event
  Barriered : (traffic : Traffic) (pc : ℕ) (regs : List ℕ) → Event
  Overflowed : (at : ℕ) → Event
  Ends : (end : End) → Event

-- what a step leaves, and how it went
pub record Stepped : Type 0 where
  pub state : State
  pub event : Event

abbrev pub stepped : State → Event → Stepped
stepped state event = record { state = state; event = event }
