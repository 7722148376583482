-- How the run of a journal ends: a kind and two numbers.
use Rattle.std.specs.Prelude.{ℕ, ◌<◌, ◌^◌, ◌==◌, Bool, true, ◌&&◌, ◌||◌, if◌then◌else◌}
use Rattle.alpha_replay.specs.declared.ending.Ending.{Ending}
use Rattle.alpha_replay.specs.declared.ending.Ending.TheVariants.{Spent, Exit, Signal, Fetch, Access, Align, Lost}
use Rattle.alpha_replay.specs.declared.ending.Ending.TheVariants.{Overflow}

abbrev pub ending_kind : Ending → ℕ
ending_kind Spent = 0
ending_kind (Exit value) = 1
ending_kind (Signal code pc) = 2
ending_kind (Fetch pc) = 3
ending_kind (Access pc addr) = 4
ending_kind (Align pc addr) = 5
ending_kind (Lost pc mask) = 6
ending_kind (Overflow pc) = 7

-- numbers that a kind doesn't use are 0
abbrev pub ending_first : Ending → ℕ
ending_first Spent = 0
ending_first (Exit value) = value
ending_first (Signal code pc) = code
ending_first (Fetch pc) = pc
ending_first (Access pc addr) = pc
ending_first (Align pc addr) = pc
ending_first (Lost pc mask) = pc
ending_first (Overflow pc) = pc

abbrev pub ending_second : Ending → ℕ
ending_second Spent = 0
ending_second (Exit value) = 0
ending_second (Signal code pc) = pc
ending_second (Fetch pc) = 0
ending_second (Access pc addr) = addr
ending_second (Align pc addr) = addr
ending_second (Lost pc mask) = mask
ending_second (Overflow pc) = 0

-- the numbers are of 64 bits
pub record FitsEnding (e : Ending) : Type 0 where
  pub first : ending_first e < 2 ^ 64
  pub second : ending_second e < 2 ^ 64

-- the ending of a kind with these numbers; kinds above 7 have none of their own
abbrev pub ending_in : ℕ → ℕ → ℕ → Ending
ending_in kind first second =
    if kind == 0 then Spent
    else if kind == 1 then Exit first
    else if kind == 2 then Signal first second
    else if kind == 3 then Fetch first
    else if kind == 4 then Access first second
    else if kind == 5 then Align first second
    else if kind == 6 then Lost first second
    else Overflow first

-- the kind has no numbers, or they are 0
abbrev pub unused_are_zero : ℕ → ℕ → ℕ → Bool
unused_are_zero kind first second =
    if kind == 0 then first == 0 && second == 0
    else if kind == 1 || kind == 3 || kind == 7 then second == 0
    else true
