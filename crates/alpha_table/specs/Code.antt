-- The class of the word at a place of a program, what it is to a trap shadow, and the destination of a trigger. Places
-- are numbers from 0; a place past the last word has no class.
use Rattle.std.specs.Prelude.{◌≢◌, ◌<◌, ◌≤◌, ℕ, Option, Some, None, List, slice_get}
use Rattle.std.specs.Option.{option_map, option_and_then}
use Rattle.alpha_table.specs.declared.columns.InsnKind.{InsnKind}
use Rattle.alpha_table.specs.declared.columns.InsnKind.TheVariants as kinds
use Rattle.alpha_table.specs.Class.{Class, trigger, load, store, load_locked, store_conditional, branch, jump, barrier}
use Rattle.alpha_table.specs.Words.{class_in}

-- the class of the word at a place
unfoldable pub class_at : List ℕ → ℕ → Option Class
class_at code k = option_and_then class_in (slice_get code k)

abbrev pub class_kind : Class → InsnKind
class_kind (trigger op ra src rc) = kinds.Trigger
class_kind (load extension at ra) = kinds.Load
class_kind (store at ra) = kinds.Store
class_kind (load_locked extension at ra) = kinds.Locked
class_kind (store_conditional at ra) = kinds.Locked
class_kind (branch condition ra disp) = kinds.Turn
class_kind (jump ra rb) = kinds.Turn
class_kind (barrier call) = kinds.Barrier
class_kind class = kinds.Plain

-- the register that a trigger writes
abbrev pub trigger_destination : Class → Option ℕ
trigger_destination (trigger op ra src rc) = Some rc
trigger_destination class = None

abbrev pub kind : Option Class → Option InsnKind
kind c = option_map class_kind c

-- the destination of a trigger, register 31 too
abbrev pub trap_rc : Option Class → Option ℕ
trap_rc c = option_and_then trigger_destination c

-- no barrier and no turn stands in [from, to)
abbrev pub Straight : List ℕ → ℕ → ℕ → Type 0
Straight code from to =
    (k : ℕ) → from ≤ k → k < to
    → (kind (class_at code k) ≢ Some kinds.Barrier) × (kind (class_at code k) ≢ Some kinds.Turn)
