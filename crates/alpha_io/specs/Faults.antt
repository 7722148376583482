-- A device's count of faults, which stops at the last value of a u64.
use Rattle.std.specs.Prelude.{◌≡◌, ◌⊎◌, ℕ, ◌+◌, ◌-◌, ◌^◌, ◌<◌, ◌≤◌, min, Result, OnOk, OnErr, IsErr}

-- one more, or the last value of a u64
abbrev pub next_count : ℕ → ℕ
next_count n = min (n + 1) (2 ^ 64 - 1)

-- the count rose, or stands at the last value of a u64
abbrev pub Faulted : ℕ → ℕ → Type 0
Faulted before now = min (before + 1) (2 ^ 64 - 1) ≤ now

-- no count rose: it is as before, and below the last value of a u64
pub record NoFault (before now : ℕ) : Type 0 where
  pub same : now ≡ before
  pub below : now < 2 ^ 64 - 1

-- a call that fails only by a fault
pub record HasCause {T E : Type 0} (before now : ℕ) (result : Result T E) : Type 0 where
  pub later : before ≤ now
  pub ok : OnOk result (now ≡ before)
  pub err : OnErr result (Faulted before now)

-- a call that fails by a fault, or because it is refused, which is no fault
pub record HasCauseOr {T E : Type 0} (refused : Type 0) (before now : ℕ) (result : Result T E) : Type 0 where
  pub later : before ≤ now
  pub ok : OnOk result (now ≡ before)
  pub err : OnErr result (Faulted before now ⊎ refused)
  pub refusal : refused → IsErr result × (now ≡ before)
