-- A shelf that never fails.
use Rattle.std.specs.Prelude.{ℕ, List, [], ◌∷◌, ◌++◌, Bool, ◌&&◌, nat_le, bytes_eq, Option, None, Some, if◌then◌else◌}
use Rattle.std.specs.Prelude.{refl}
use Rattle.std.specs.Coded.{Coded, code_by, coded×, coded_ℕ, coded_list, coded_option}
use Rattle.alpha_io.specs.History.{Reply, replies_code}

-- the name and the bytes of its one file, the name that it takes and for how many bytes at most, what was kept there,
-- and what the calls answered
pub record SureShelfState : Type 0 where
  pub name : List ℕ
  pub bytes : List ℕ
  pub out : List ℕ
  pub room : ℕ
  pub kept : Option (List ℕ)
  pub replies : List Reply

-- it is stored as the tuple of its fields
abbrev pub sure_code : Coded SureShelfState
sure_code =
    code_by (List ℕ × (List ℕ × (List ℕ × (ℕ × (Option (List ℕ) × List Reply)))))
    (coded× (coded_list coded_ℕ)
    (coded× (coded_list coded_ℕ)
    (coded× (coded_list coded_ℕ) (coded× coded_ℕ (coded× (coded_option (coded_list coded_ℕ)) replies_code)))))
    (λ s. (s.name, (s.bytes, (s.out, (s.room, (s.kept, s.replies))))))
    (λ p.
    record { name = p.0; bytes = p.1.0; out = p.1.1.0; room = p.1.1.1.0; kept = p.1.1.1.1.0; replies = p.1.1.1.1.1 })
    (λ _. refl)

-- one that kept nothing so far
abbrev pub sure_started : List ℕ → List ℕ → List ℕ → ℕ → SureShelfState
sure_started name bytes out room =
    record { name = name; bytes = bytes; out = out; room = room; kept = None; replies = [] }

-- the file of a name
abbrev pub sure_file : SureShelfState → List ℕ → Option (List ℕ)
sure_file s name = if bytes_eq name s.name then Some s.bytes else (if bytes_eq name s.out then s.kept else None)

-- whether so many bytes may be kept under a name
abbrev pub sure_takes : SureShelfState → List ℕ → ℕ → Bool
sure_takes s name n = bytes_eq name s.out && nat_le n s.room

-- after a call with this answer, and after one that kept these bytes
abbrev pub sure_answered : SureShelfState → Reply → SureShelfState
sure_answered s a = record s { replies = s.replies ++ a ∷ [] }
