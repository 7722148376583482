-- Steps in a row, and what an observer writes of them.
use Rattle.std.specs.Prelude.{◌≡◌, ⊤, ℕ, ◌+◌, ◌⊎◌, Bool, true, false, List, [], ◌∷◌, ◌++◌, length}
use Rattle.std.specs.List.{flat_map}
use Rattle.alpha_pal.specs.declared.pal_end.Passed.TheVariants.{Nothing}
use Rattle.alpha_pal.specs.Call.{Silent}
use Rattle.alpha_seq.specs.declared.machine.Machine.{Machine}
use Rattle.alpha_seq.specs.declared.event.Event.{Event}
use Rattle.alpha_seq.specs.declared.event.Event.TheVariants as events
use Rattle.alpha_seq.specs.State.{Event as Happened}
use Rattle.alpha_seq.specs.Run.{traffic_of}
use Rattle.alpha_seq.specs.StepLabel.{StepLabel, is_over}

-- from one machine to another by these steps
abbrev pub Row : {M : Type 0} → (M → StepLabel → M → Type 0) → M → List StepLabel → M → Type 0
Row goes old [] new = old ≡ new
Row goes old (p ∷ ps) new = (mid : _) × goes old p mid × Row goes mid ps new

-- the program goes on behind each of them
abbrev pub AreGoing : List StepLabel → Type 0
AreGoing [] = ⊤
AreGoing (p ∷ ps) = (is_over p.event ≡ false) × AreGoing ps

-- A step that only went on, or that passed a barrier which took and put nothing where such barriers are passed: it used
-- a unit and drew no word, and nothing passed in it.
pub record OnlyPassed (barriers : Bool) (p : StepLabel) : Type 0 where
  pub event : (p.event ≡ events.Went) ⊎ ((barriers ≡ true) × (p.event ≡ events.Barrier Nothing))
  pub units : p.units ≡ 1
  pub words : p.words ≡ []
  pub happened : Happened
  pub seen : p.seen ≡ happened ∷ []
  pub silent : traffic_of happened ≡ Silent

abbrev pub ArePassed : Bool → List StepLabel → Type 0
ArePassed barriers [] = ⊤
ArePassed barriers (p ∷ ps) = OnlyPassed barriers p × ArePassed barriers ps

-- from one machine to another by so many such steps
abbrev pub FastSteps : {M : Type 0} → (M → StepLabel → M → Type 0) → Bool → ℕ → M → M → Type 0
FastSteps goes barriers n old new =
    (prints : List StepLabel) × Row goes old prints new × ArePassed barriers prints × (length prints ≡ n)

abbrev pub words_of : StepLabel → List ℕ
words_of p = p.words

abbrev pub events_in : StepLabel → List Happened
events_in p = p.seen

-- all that was seen of them
abbrev pub events_of : List StepLabel → List Happened
events_of ps = flat_map events_in ps

-- the units that they used
abbrev pub units_of : List StepLabel → ℕ
units_of [] = 0
units_of (p ∷ ps) = p.units + units_of ps

-- the lines that an observer writes of them, and what it is behind them
abbrev pub lines_by : {O : Type 0} → (O → Event → Machine → O) → (O → Event → Machine → List ℕ) → O → List StepLabel
    → List ℕ
lines_by after lines o [] = []
lines_by after lines o (p ∷ ps) = lines o p.event p.core ++ lines_by after lines (after o p.event p.core) ps

abbrev pub seen_by : {O : Type 0} → (O → Event → Machine → O) → O → List StepLabel → O
seen_by after o [] = o
seen_by after o (p ∷ ps) = seen_by after (after o p.event p.core) ps

-- it stops behind none of them
abbrev pub Unstopped : {O : Type 0} → (O → Event → Machine → O) → (O → Event → Machine → Bool) → O → List StepLabel
    → Type 0
Unstopped after stops o [] = ⊤
Unstopped after stops o (p ∷ ps) = (stops o p.event p.core ≡ false) × Unstopped after stops (after o p.event p.core) ps
