-- What one stage of a command did: it went on with what it found, or it stopped early. All stages of all commands stop
-- by one kind of value.
use Rattle.std.specs.Prelude.{◌≡◌, ◌≢◌, ◌⊎◌, List, ℕ, Result, Err, IfOk, IfErr}
use Rattle.alpha_io.specs.Faults.{Faulted}
use Rattle.alpha_io.specs.ShelfChange.{ShelfChange, OnlyReads}
use Rattle.alpha_verdict.specs.Report.{broken_line}
use Rattle.alpha_cmd.specs.declared.status.Status.{Status}
use Rattle.alpha_cmd.specs.declared.status.Status.TheVariants as statuses
use Rattle.alpha_cmd.specs.declared.stop.Stop.{Stop}
use Rattle.alpha_cmd.specs.declared.stop.Stop.TheVariants.{OfStatus, Broken, Unfixable}
use Rattle.alpha_cmd.specs.Outcome.{Outcome, continues, stops}
use Rattle.alpha_cmd.specs.Status.{status_line, unfixable_line}

-- the status of a stop
abbrev pub stop_status : Stop → Status
stop_status (OfStatus status) = status
stop_status (Broken b base) = statuses.NotRestartable b
stop_status (Unfixable b base) = statuses.Unfixable b

-- and the line that says it: that of the status, or of a broken place of code with this base
abbrev pub stop_line : Stop → List ℕ
stop_line (OfStatus status) = status_line status
stop_line (Broken b base) = broken_line b base
stop_line (Unfixable b base) = unfixable_line b base

-- the stops that cut a stage short, each with its cause; the first fact is that the shelf failed
abbrev pub Cuts : Type 0 → Stop → Type 0
Cuts shelf stop = (stop ≡ OfStatus statuses.NoMemory) ⊎ ((stop ≡ OfStatus statuses.ShelfFault) × shelf)

-- it stops for its own reason, or it was cut short; the second fact is that the shelf failed
abbrev pub StopsBy : {X : Type 0} → (Outcome X → Type 0) → Type 0 → Stop → Type 0
StopsBy R shelf stop = R (stops (stop_status stop) (stop_line stop)) ⊎ Cuts shelf stop

-- A stage that reads files. It went on with a value that stands for one of its stage, or stops. It kept no file, and
-- the shelf failed only under its status.
pub record Stage {X Y : Type 0} (R : Outcome X → Type 0) (of : Y → X) (r : Result Y Stop)
    (s : ShelfChange) : Type 0 where
  pub ok : IfOk r (λ v. R (continues (of v)))
  pub refused : IfErr r (StopsBy R (Faulted s.before s.now))
  pub shelf : OnlyReads s (r ≢ Err (OfStatus statuses.ShelfFault))

-- A stage that calls no device. It went on with a value that stands for one of its stage, or stops for its own reason,
-- or memory ran out.
pub record Computes {X Y : Type 0} (R : Outcome X → Type 0) (of : Y → X) (r : Result Y Stop) : Type 0 where
  pub ok : IfOk r (λ v. R (continues (of v)))
  pub refused : IfErr r (λ stop. R (stops (stop_status stop) (stop_line stop)) ⊎ (stop ≡ OfStatus statuses.NoMemory))
