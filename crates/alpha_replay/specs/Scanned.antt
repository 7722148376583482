-- What a pass over items found.
use Rattle.std.specs.Prelude.{◌≡◌, ℕ, ◌≤◌, List, length, drop, Result, Ok, Err}
use Rattle.alpha_replay.specs.declared.item.Item.{Item}
use Rattle.alpha_replay.specs.declared.items.Scanned.{Scanned}
use Rattle.alpha_replay.specs.Items.{Parsed, units_of}

-- it went over all these items
pub record WentOver (s : Scanned) (answer : Result Parsed ℕ) (bytes : List ℕ) : Type 0 where
  pub items : List Item
  pub is : answer ≡ Ok (record { items = items; rest = drop s.bytes bytes })
  pub within : s.bytes ≤ length bytes
  pub units : s.units ≡ units_of items

-- it found the answer of the definition
abbrev pub Scans : Result Scanned ℕ → Result Parsed ℕ → List ℕ → Type 0
Scans (Ok s) answer bytes = WentOver s answer bytes
Scans (Err n) answer bytes = answer ≡ Err n

-- all items are there
abbrev pub Gives : Result Parsed ℕ → Type 0
Gives answer = (p : Parsed) × (answer ≡ Ok p)

-- these are the items
abbrev pub GivesItems : Result Parsed ℕ → List Item → Type 0
GivesItems answer items = (rest : List ℕ) × (answer ≡ Ok (record { items = items; rest = rest }))
