-- Laws of a count of faults over one call and over calls in a row.
use Rattle.std.proofs.Common.{◌≡◌, ℕ, ◌≤◌, arith}
use Rattle.alpha_io.specs.Faults.{next_count, Faulted, NoFault}

pub Faulted-next_count : (before : ℕ) → Faulted before (next_count before)
Faulted-next_count before = omega arith

-- a count that rose stays risen
pub Faulted-later : (before middle now : ℕ) → Faulted before middle → middle ≤ now → Faulted before now
Faulted-later before middle now rose later = omega arith

-- a count that rises after it stood higher rose from where it stood before
pub Faulted-earlier : (before middle now : ℕ) → before ≤ middle → Faulted middle now → Faulted before now
Faulted-earlier before middle now later rose = omega arith

-- a count that rose isn't calm
pub Faulted-not_NoFault : (before now : ℕ) → Faulted before now → NoFault before now → ⊥
Faulted-not_NoFault before now rose calm = omega arith

-- a count that is as before, and doesn't count as risen, is below the last value
pub NoFault-from_same : (before now : ℕ) → now ≡ before → ¬ Faulted before now → NoFault before now
NoFault-from_same before now same calm = record { same = same; below = omega arith }

-- calm over two calls is calm over each of them
pub NoFault-first : (before middle now : ℕ) → before ≤ middle → middle ≤ now → NoFault before now
    → NoFault before middle
NoFault-first before middle now first second calm = record { same = omega arith; below = omega arith }

pub NoFault-second : (before middle now : ℕ) → before ≤ middle → middle ≤ now → NoFault before now → NoFault middle now
NoFault-second before middle now first second calm = record { same = omega arith; below = omega arith }

pub NoFault-trans : (before middle now : ℕ) → NoFault before middle → NoFault middle now → NoFault before now
NoFault-trans before middle now first second = record { same = omega arith; below = omega arith }
