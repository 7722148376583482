-- Lines that are written one after the other.
use Rattle.std.proofs.Common.{◌≡◌, ℕ, List, ◌++◌, Option, Result, append_assoc, append-nil, subst}
use Rattle.std.specs.Prelude.{OnOk}
use Rattle.std.specs.Io.KnownBytes.{Appends}
use Rattle.std.proofs.KnownBytes.{Appends-trans}
use Rattle.std.proofs.lemmas.Result.{on_ok_weaker}
use Rattle.alpha_io.specs.Faults.{HasCause}
use Rattle.alpha_seq.specs.Notes.{register_lines, sixteen_registers}

module _ {T E : Type 0} (result : Result T E) where
  -- what a call wrote where one before it had written the front
  pub both_written : (a b c : Option (List ℕ)) (xs ys : List ℕ) → Appends a b xs → OnOk result (Appends b c ys)
      → OnOk result (Appends a c (xs ++ ys))
  both_written a b c xs ys first second = on_ok_weaker result (Appends-trans a b c xs ys first) second

  -- the cause of its failure, where the one before it had none
  pub both_caused : (before middle now : ℕ) → middle ≡ before → HasCause middle now result → HasCause before now result
  both_caused before middle now same second = subst (λ (n : ℕ). HasCause n now result) same second

-- all registers in two halves
pub register_halves : (regs : List ℕ) → register_lines regs ≡ sixteen_registers regs 0 ++ sixteen_registers regs 16
unfolding register_lines
register_halves regs = simp (append_assoc, append-nil)
