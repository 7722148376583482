-- What reading a whole file answers.
use Rattle.std.specs.Prelude.{◌≡◌, ◌⊎◌, ℕ, ◌<◌, ◌≤◌, List, length, Vec, Result, Ok, Err}
use Rattle.std.specs.declared.alloc.Global.{Global}
use Rattle.alpha_io.specs.declared.read.ReadFault.{ReadFault}
use Rattle.alpha_io.specs.declared.read.ReadFault.TheVariants.{Shelf, TooLarge, NoMemory}
use Rattle.alpha_io.specs.Faults.{Faulted}
use Rattle.alpha_io.specs.Files.{Files, IfTold, HasFile, Lacks}

-- what `read_whole` answers
abbrev pub Reading : Type 0
Reading = Result (Vec ℕ Global) ReadFault

-- the answer's cause, by the files and the count of faults before and after
abbrev pub ReadCause : Files → List ℕ → ℕ → ℕ → ℕ → Reading → Type 0
ReadCause files name limit before now (Ok v) = HasFile files name v.items × (length v.items ≤ limit) × (now ≡ before)
ReadCause files name limit before now (Err Shelf) = Faulted before now ⊎ (Lacks files name × (now ≡ before))
ReadCause files name limit before now (Err TooLarge) = IfTold files name (λ file. limit < length file) × (now ≡ before)
ReadCause files name limit before now (Err NoMemory) = now ≡ before

-- the cause of the answer of one piece, which has no limit
abbrev pub PieceCause : Files → List ℕ → ℕ → ℕ → Result ℕ ReadFault → Type 0
PieceCause files name before now (Ok n) = now ≡ before
PieceCause files name before now (Err Shelf) = Faulted before now ⊎ (Lacks files name × (now ≡ before))
PieceCause files name before now (Err TooLarge) = ⊥
PieceCause files name before now (Err NoMemory) = now ≡ before
