-- What a call did to a shelf: what it tells, its count of faults and what its calls answered, before the call and after
-- it.
use Rattle.std.specs.Prelude.{◌≡◌, ℕ, ◌≤◌, List, Bool}
use Rattle.alpha_io.specs.declared.shelf.Shelf.{Ghosts}
use Rattle.alpha_io.specs.Files.{Files, KeepsFiles}
use Rattle.alpha_io.specs.History.{Reply}

pub record ShelfChange : Type 0 where
  pub old : Files
  pub new : Files
  pub took : List ℕ → ℕ → Bool
  pub takes : List ℕ → ℕ → Bool
  pub before : ℕ
  pub now : ℕ
  pub past : List Reply
  pub history : List Reply

-- by the ghosts of the shelf's type, `Shelf.files`, `Shelf.takes`, `Shelf.faults` and `Shelf.replies`
abbrev pub shelf_change : {H : Type 0} → Ghosts H → H → H → ShelfChange
shelf_change g old new = record {
  old = g.files old;
  new = g.files new;
  took = g.takes old;
  takes = g.takes new;
  before = g.faults old;
  now = g.faults new;
  past = g.replies old;
  history = g.replies new;
}

-- no file was kept: told files and what the shelf takes stay, and the count of faults doesn't fall. It stays where the
-- fact holds.
pub record OnlyReads (s : ShelfChange) (stays : Type 0) : Type 0 where
  pub files : KeepsFiles s.old s.new
  pub takes : s.takes ≡ s.took
  pub later : s.before ≤ s.now
  pub faults_unchanged : stays → s.now ≡ s.before
