-- What is the same of all commands: the form of one is its stages, what it needs to be told, and its kind.
use Rattle.std.specs.Prelude.{◌≡◌, ◌⊎◌, ℕ, List, length, if◌then◌else◌, Bool, true, false, Option, Some, None, IsTrue}
use Rattle.std.specs.Prelude.{IsSome}
use Rattle.std.specs.List.{AllByRecursion}
use Rattle.alpha_io.specs.Files.{Files, IfTold, KeepsFiles, KeepsOtherFiles}
use Rattle.alpha_cmd.specs.declared.status.Status.{Status}
use Rattle.alpha_cmd.specs.declared.status.Status.TheVariants.{Done, ShelfFault, InputFault, SinkFault, NoMemory}
use Rattle.alpha_cmd.specs.Outcome.{Outcome, continues, Then}
use Rattle.alpha_cmd.specs.Answer.{Answer}
use Rattle.alpha_cmd.specs.AnswerBy.{World}
use Rattle.alpha_cmd.specs.Keeping.{KeepsAs}

-- ---- what a command needs to be told, so that it has one answer

pub data Needs : Type 0 where
  needs_nothing : Needs
  needs_files : Needs
  needs_files_and_input : Needs

abbrev pub IsToldFor : Needs → World → Type 0
IsToldFor needs_nothing w = Unit {0}
IsToldFor needs_files w = IsSome w.files
IsToldFor needs_files_and_input w = IsSome w.files × IsSome w.input

-- where files are told, this one is there
abbrev pub IsThere : List ℕ → World → Type 0
IsThere name w = IfTold w.files name (λ bytes. Unit {0})

-- ---- kinds

-- The statuses with which a command ends that has begun its last stage, whether that stage takes input, and the name of
-- the file that it keeps.
pub record Kind : Type 1 where
  pub ends : Status → Type 0
  pub takes : Bool
  pub keeps : Option (List ℕ)

-- a command that keeps nothing and takes no input
abbrev pub reads : Kind
reads = record { ends = λ status. status ≡ Done 0; takes = false; keeps = None }

-- one that keeps a file, as its last stage
abbrev pub keeps_last : List ℕ → Kind
keeps_last out = record { ends = λ status. status ≡ Done 0; takes = false; keeps = Some out }

-- one that writes while it takes input
abbrev pub streams : (Status → Type 0) → Kind
streams IsEndStatus = record { ends = IsEndStatus; takes = true; keeps = None }

-- one that does so, and then keeps a file
abbrev pub records : (Status → Type 0) → List ℕ → Kind
records IsEndStatus out = record { ends = IsEndStatus; takes = true; keeps = Some out }

-- what one of these needs to be told that reads files
abbrev pub needs_by : Kind → Needs
needs_by k = if k.takes then needs_files_and_input else needs_files

-- The statuses under which input may have been taken: those of the end, of a stream that failed on the way, and of a
-- file that was to be kept behind it.
abbrev pub MayTakeBy : Kind → Status → Type 0
MayTakeBy k status =
    IsTrue k.takes
    × (k.ends status
    ⊎ ((status ≡ InputFault)
    ⊎ ((status ≡ SinkFault) ⊎ (IsSome k.keeps × ((status ≡ ShelfFault) ⊎ (status ≡ NoMemory))))))

-- the statuses under which a file may have been changed, and its name
abbrev pub MayKeepBy : Kind → Status → List ℕ → Type 0
MayKeepBy k status name = (k.keeps ≡ Some name) × (k.ends status ⊎ ((status ≡ ShelfFault) ⊎ (status ≡ SinkFault)))

-- told files stay, but for that one
abbrev pub SparesBy : Kind → Status → Files → Files → Type 0
SparesBy k status old new =
    KeepsFiles old new ⊎ ((name : List ℕ) × MayKeepBy k status name × KeepsOtherFiles old new name)

-- ---- forms

pub record Form : Type 1 where
  pub steps : World → Outcome Answer → Type 0
  pub needs : Needs
  pub kind : Kind

-- a command that makes bytes of files, and keeps them as its last stage
abbrev pub making_form : (World → Outcome (List ℕ) → Type 0) → List ℕ → Form
making_form Makes out =
    record { steps = λ w. Then (Makes w) (KeepsAs w out); needs = needs_files; kind = keeps_last out }

-- the files of these names are there, and what is made is taken
abbrev pub making_there : List (List ℕ) → (World → Outcome (List ℕ) → Type 0) → List ℕ → World → Type 0
making_there names Makes out w =
    AllByRecursion (λ name. IsThere name w) names
    × ((bytes : List ℕ) → Makes w (continues bytes) → w.takes out (length bytes) ≡ true)
