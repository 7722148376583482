-- Numbers of names, as they are found in a tree or behind it.
use Rattle.std.specs.Prelude.{◌≡◌, ◌≢◌, ℕ, Bool, true, false, List, Option, None, Some, slice_get, if◌then◌else◌}
use Rattle.std.specs.Borrow.{Bor}
use Rattle.std.specs.BTreeMap.{get_by}
use Rattle.std.specs.Cmp.Lexicographic.{slice_cmp}
use Rattle.std.specs.Ordering.{nat_cmp}
use Rattle.std.specs.Str.{bytes_eq}
use Rattle.alpha_names.specs.Hashes.{quick_hash, slow_hash}
use Rattle.alpha_names.specs.Tree.{slot_in, seek_in}
use Rattle.alpha_names.specs.declared.crowd.Crowd.{Crowd}
use Rattle.alpha_names.specs.declared.numbers.Numbers.{Numbers}
use Rattle.alpha_names.specs.declared.others.Others.{Others}
use Rattle.alpha_names.specs.declared.tree.Slot.{Slot}
use Rattle.alpha_names.specs.declared.tree.Look.{Look}
use Rattle.alpha_names.specs.declared.tree.Look.TheVariants.{Free, Taken, Deep}

-- what finds a name's number: it is told which numbers are right
abbrev pub Finder : Type 0
Finder = (ℕ → Bool) → List ℕ → Option ℕ

abbrev pub reads : Option (Bor (List ℕ)) → List ℕ → Bool
reads None name = false
reads (Some other) name = bytes_eq other.now name

-- whether a name has a number among these
abbrev pub is_named : List (Bor (List ℕ)) → List ℕ → ℕ → Bool
is_named names name number = reads (slice_get names number) name

-- the number that was found, where it is right; what is found elsewhere, where it isn't
abbrev pub taken_or : (ℕ → Bool) → Look → Option ℕ → Option ℕ
taken_or is_right (Free place) elsewhere = None
taken_or is_right (Taken number) elsewhere = if is_right number then Some number else elsewhere
taken_or is_right Deep elsewhere = elsewhere

-- what is found in a tree by a hash, or else elsewhere
abbrev pub found_by : (ℕ → Slot) → (List ℕ → ℕ) → Finder → Finder
found_by slot hash elsewhere is_right name = taken_or is_right (seek_in slot (hash name)) (elsewhere is_right name)

abbrev pub if_right : (ℕ → Bool) → Option ℕ → Option ℕ
if_right is_right None = None
if_right is_right (Some number) = if is_right number then Some number else None

-- the number of a name in the map
abbrev pub other_number : Others → Finder
other_number others is_right name = if_right is_right (get_by (λ n. slice_cmp nat_cmp name n.now) others.numbers)

abbrev pub number_in_crowd : Crowd → Finder
number_in_crowd crowd = found_by (slot_in crowd.tree) slow_hash (other_number crowd.others)

abbrev pub number_in : Numbers → Finder
number_in numbers = found_by (slot_in numbers.tree) quick_hash (number_in_crowd numbers.crowd)

-- a number alone is right
abbrev pub IsOnly : ℕ → (ℕ → Bool) → Type 0
IsOnly number is_right = (is_right number ≡ true) × ((other : ℕ) → is_right other ≡ true → other ≡ number)

-- whatever was found is found again
abbrev pub Keeps : Finder → Finder → Type 0
Keeps old new = (is_right : ℕ → Bool) (name : List ℕ) (number : ℕ) →
    old is_right name ≡ Some number → new is_right name ≡ Some number

-- a name has got a number, and what was found of others is found again
abbrev pub Grows : Finder → Finder → List ℕ → ℕ → Type 0
Grows old new added number =
    ((is_right : ℕ → Bool) (name : List ℕ) (other : ℕ) → name ≢ added →
    old is_right name ≡ Some other → new is_right name ≡ Some other)
    × ((is_right : ℕ → Bool) → IsOnly number is_right → new is_right added ≡ Some number)
