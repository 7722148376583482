-- A command is a row of stages. A stage goes on with what it found, or it stops with a status and its line.
use Rattle.std.specs.Prelude.{◌≡◌, ◌⊎◌, ℕ, List, [], ◌∷◌, ◌++◌}
use Rattle.alpha_cmd.specs.declared.status.Status.{Status}

pub data Outcome (X : Type 0) : Type 0 where
  continues : X → Outcome X
  stops : Status → List ℕ → Outcome X

-- a stage by what it goes on with, and by why it stops
abbrev pub Either : {X : Type 0} → (X → Type 0) → (Status → List ℕ → Type 0) → Outcome X → Type 0
Either Good Why (continues x) = Good x
Either Good Why (stops status line) = Why status line

-- One stage and then another, on what the first goes on with. Where the first stops, both do: so the order of stages is
-- the order of refusals.
abbrev pub Then : {X Y : Type 0} → (Outcome X → Type 0) → (X → Outcome Y → Type 0) → Outcome Y → Type 0
Then {X = X} R S (continues y) = (x : X) × R (continues x) × S x (continues y)
Then {X = X} R S (stops status line) = R (stops status line) ⊎ ((x : X) × R (continues x) × S x (stops status line))

-- a stage that never stops
abbrev pub Never : Status → List ℕ → Type 0
Never status line = ⊥

-- the last stage: it goes on with this
abbrev pub Gives : {X : Type 0} → X → Outcome X → Type 0
Gives x = Either (λ y. y ≡ x) Never

-- A stage for each of a list, in its order, which knows what those before it went on with. It goes on with all of that.
abbrev pub Each : {X Y : Type 0} → (List Y → X → Outcome Y → Type 0) → List Y → List X → Outcome (List Y) → Type 0
Each R before [] = Gives before
Each R before (x ∷ xs) = Then (R before x) (λ y. Each R (before ++ y ∷ []) xs)
