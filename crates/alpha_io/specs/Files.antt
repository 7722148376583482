-- The files of a shelf: from a name's bytes to the file's bytes. A shelf that tells nothing has none of this.
use Rattle.std.specs.Prelude.{◌≡◌, ◌≢◌, ◌↔◌, ℕ, ◌≤◌, List, length, take, drop, Bool, false, ⊤, Option, None, Some}
use Rattle.std.specs.Prelude.{IsSomeAnd}

abbrev pub Files : Type 0
Files = Option (List ℕ → Option (List ℕ))

-- where files are told, this name is there and its bytes have P
abbrev pub IfTold : Files → List ℕ → (List ℕ → Type 0) → Type 0
IfTold None name P = ⊤
IfTold (Some file) name P = IsSomeAnd (file name) P

-- where files are told, this name has these bytes
abbrev pub HasFile : Files → List ℕ → List ℕ → Type 0
HasFile files name bytes = IfTold files name (λ file. file ≡ bytes)

-- files are told, and this name isn't there
abbrev pub Lacks : Files → List ℕ → Type 0
Lacks None name = ⊥
Lacks (Some file) name = file name ≡ None

-- files are told, and the test says that this one may not be kept
abbrev pub Refuses : Files → Bool → Type 0
Refuses None taken = ⊥
Refuses (Some file) taken = taken ≡ false

-- told files stay as they are, and stay told
abbrev pub KeepsFiles : Files → Files → Type 0
KeepsFiles None None = ⊤
KeepsFiles None (Some new) = ⊥
KeepsFiles (Some old) None = ⊥
KeepsFiles (Some old) (Some new) = (name : List ℕ) → new name ≡ old name

-- told files stay as they are, but for this name
abbrev pub KeepsOtherFiles : Files → Files → List ℕ → Type 0
KeepsOtherFiles None None name = ⊤
KeepsOtherFiles None (Some new) name = ⊥
KeepsOtherFiles (Some old) None name = ⊥
KeepsOtherFiles (Some old) (Some new) name = (other : List ℕ) → other ≢ name → new other ≡ old other

-- the first n bytes of the buffer are the file's n bytes from `at` on, none exactly at or past its end
pub record IsPiece (file : List ℕ) (at n : ℕ) (buffer : List ℕ) : Type 0 where
  pub bytes : take n buffer ≡ take n (drop at file)
  pub end : (n ≡ 0) ↔ (length file ≤ at)
