-- A shelf in memory.
use Rattle.std.specs.Prelude.{ℕ, List, [], ◌∷◌, ◌++◌, true, map, string_bytes, String, Vec, refl}
use Rattle.std.specs.Coded.{Coded, code_by, coded×, coded_ℕ, coded_list}
use Rattle.std.specs.Ordering.{nat_cmp}
use Rattle.std.specs.Cmp.Lexicographic.{slice_cmp}
use Rattle.std.specs.FinMap.{FinMap, code, empty, insert, from_entries}
use Rattle.std.specs.declared.alloc.Global.{Global}
use Rattle.alpha_io.specs.History.{Reply, Kept, replies_code}
use Rattle.alpha_io.specs.Faults.{next_count}

-- from names to files
abbrev pub FileMap : Type 0
FileMap = FinMap (slice_cmp nat_cmp) (List ℕ)

-- the files of a list of names and vectors
abbrev pub file_map : List (String Global × Vec ℕ Global) → FileMap
file_map entries = from_entries (map (λ e. (string_bytes e.0, e.1.items)) entries)

-- the files, the numbers of the calls that fail, how many calls there were, how many faults, and what the calls
-- answered
pub record ShelfState : Type 0 where
  pub files : FileMap
  pub failing : List ℕ
  pub calls : ℕ
  pub faults : ℕ
  pub replies : List Reply

-- it is stored as the tuple of its fields
abbrev pub shelf_code : Coded ShelfState
shelf_code =
    code_by (FileMap × (List ℕ × (ℕ × (ℕ × List Reply))))
    (coded× (code (coded_list coded_ℕ) (coded_list coded_ℕ))
    (coded× (coded_list coded_ℕ) (coded× coded_ℕ (coded× coded_ℕ replies_code))))
    (λ s. (s.files, (s.failing, (s.calls, (s.faults, s.replies)))))
    (λ p. record { files = p.0; failing = p.1.0; calls = p.1.1.0; faults = p.1.1.1.0; replies = p.1.1.1.1 })
    (λ _. refl)

-- one without a file, before any call
abbrev pub shelf_started : List ℕ → ShelfState
shelf_started failing = record { files = empty; failing = failing; calls = 0; faults = 0; replies = [] }

-- with a file put there
abbrev pub shelf_with : ShelfState → List ℕ → List ℕ → ShelfState
shelf_with s name bytes = record s { files = insert s.files name bytes }

-- after a call that was no fault, with this answer
abbrev pub shelf_counted : ShelfState → Reply → ShelfState
shelf_counted s a = record s { calls = next_count s.calls; replies = s.replies ++ a ∷ [] }

-- after a call that was a fault, with this answer
abbrev pub shelf_failed : ShelfState → Reply → ShelfState
shelf_failed s a = record s { calls = next_count s.calls; faults = next_count s.faults; replies = s.replies ++ a ∷ [] }

-- after a call that kept a file
abbrev pub shelf_kept : ShelfState → List ℕ → List ℕ → ShelfState
shelf_kept s name bytes = shelf_counted (shelf_with s name bytes) (Kept name bytes true)
