-- What becomes of the files.
use Rattle.std.specs.Prelude.{◌≡◌, ◌≤◌, ℕ, List}
use Rattle.alpha_io.specs.Files.{HasFile, KeepsFiles, KeepsOtherFiles}
use Rattle.alpha_io.specs.ShelfChange.{ShelfChange}

-- no file is kept; the file of this name is these bytes; or a file was to be kept under this name, and that failed
pub data Kept : Type 0 where
  nothing : Kept
  file : List ℕ → List ℕ → Kept
  spoilt : List ℕ → Kept

-- what that is where files are told: all other files stay, and of one whose keep failed nothing is known
abbrev pub HasKept : Kept → ShelfChange → Type 0
HasKept nothing s = KeepsFiles s.old s.new
HasKept (file name bytes) s = HasFile s.new name bytes × KeepsOtherFiles s.old s.new name
HasKept (spoilt name) s = KeepsOtherFiles s.old s.new name

-- what the shelf takes stays, and its count of faults doesn't fall. It stays where the fact holds.
pub record Serves (s : ShelfChange) (stays : Type 0) : Type 0 where
  pub takes : s.takes ≡ s.took
  pub later : s.before ≤ s.now
  pub faults_unchanged : stays → s.now ≡ s.before
