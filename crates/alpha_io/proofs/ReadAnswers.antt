-- When `read_whole` gives which answer, where files are told: but for want of memory, each exactly in its case.
use Rattle.std.proofs.Common.{◌≡◌, ◌⊎◌, ℕ, ◌<◌, ◌≤◌, List, length, Option, Some, None, Ok, Err, IsOkAnd, IsErrOf}
use Rattle.std.proofs.Common.{IsSomeAnd, refl, sym, inl, inr, subst, arith, ap}
use Rattle.alpha_io.specs.declared.read.ReadFault.TheVariants.{Shelf, TooLarge, NoMemory}
use Rattle.alpha_io.specs.Faults.{Faulted, NoFault}
use Rattle.alpha_io.specs.Files.{Files, Lacks}
use Rattle.alpha_io.specs.ReadWhole.{ReadCause, Reading}
use Rattle.alpha_io.proofs.FaultCounts.{Faulted-not_NoFault}
use Rattle.alpha_io.proofs.ShelfLaws.{Lacks-not_told}

-- a name that isn't there
pub ReadCause-lacks : (a : Files) (name : List ℕ) (limit before now : ℕ) (answer : Reading) → Lacks a name
    → ReadCause a name limit before now answer → IsErrOf answer Shelf ⊎ IsErrOf answer NoMemory
ReadCause-lacks a name limit before now (Ok v) lacks cause =
    absurd (Lacks-not_told a name (λ file. file ≡ v.items) lacks cause.0)
ReadCause-lacks a name limit before now (Err Shelf) lacks cause = inl refl
ReadCause-lacks a name limit before now (Err TooLarge) lacks cause =
    absurd (Lacks-not_told a name (λ file. limit < length file) lacks cause.0)
ReadCause-lacks a name limit before now (Err NoMemory) lacks cause = inr refl

no_fault : (files : List ℕ → Option (List ℕ)) (name file : List ℕ) (before now : ℕ) → files name ≡ Some file
    → NoFault before now → Faulted before now ⊎ ((files name ≡ None) × (now ≡ before)) → ⊥
no_fault files name file before now there calm (inl rose) = Faulted-not_NoFault before now rose calm
no_fault files name file before now there calm (inr lacks) = let none = lacks.0 in cc

-- a file within the limit, and no fault
pub ReadCause-within : (files : List ℕ → Option (List ℕ)) (name file : List ℕ) (limit before now : ℕ) (answer : Reading)
    → files name ≡ Some file → length file ≤ limit → NoFault before now
    → ReadCause (Some files) name limit before now answer
    → IsOkAnd answer (λ v. v.items ≡ file) ⊎ IsErrOf answer NoMemory
ReadCause-within files name file limit before now (Ok v) there within calm cause =
    inl (sym (subst (λ o. IsSomeAnd o (λ f. f ≡ v.items)) there cause.0))
ReadCause-within files name file limit before now (Err Shelf) there within calm cause =
    absurd (no_fault files name file before now there calm cause)
ReadCause-within files name file limit before now (Err TooLarge) there within calm cause =
    let longer : limit < length file = subst (λ o. IsSomeAnd o (λ f. limit < length f)) there cause.0 in
    absurd (omega arith)
ReadCause-within files name file limit before now (Err NoMemory) there within calm cause = inr refl

-- a file past the limit, and no fault
pub ReadCause-past : (files : List ℕ → Option (List ℕ)) (name file : List ℕ) (limit before now : ℕ) (answer : Reading)
    → files name ≡ Some file → limit < length file → NoFault before now
    → ReadCause (Some files) name limit before now answer → IsErrOf answer TooLarge ⊎ IsErrOf answer NoMemory
ReadCause-past files name file limit before now (Ok v) there past calm cause =
    let same : file ≡ v.items = subst (λ o. IsSomeAnd o (λ f. f ≡ v.items)) there cause.0 in
    absurd (omega (arith, ap length same, cause.1))
ReadCause-past files name file limit before now (Err Shelf) there past calm cause =
    absurd (no_fault files name file before now there calm cause)
ReadCause-past files name file limit before now (Err TooLarge) there past calm cause = inl refl
ReadCause-past files name file limit before now (Err NoMemory) there past calm cause = inr refl
