-- The items of the moves that a run has made so far.
use Rattle.std.specs.Prelude.{ℕ, zero, suc, ◌+◌, List, [], ◌∷◌, ◌++◌}
use Rattle.alpha_imprecise.specs.StepResult.{ImpreciseEvent}
use Rattle.alpha_replay.specs.declared.item.Item.{Item}
use Rattle.alpha_replay.specs.declared.item.Item.TheVariants.{Units, Trigger, Wait, Report}
use Rattle.alpha_replay.specs.declared.moves.Move.{Move}
use Rattle.alpha_replay.specs.declared.moves.Move.TheVariants.{One, Trips, Waits, Reports}
use Rattle.alpha_replay.specs.Events.{move_of}

-- the items so far, and the steps behind them that are no item yet, each a unit
pub record GatheredItems : Type 0 where
  pub items : List Item
  pub ones : ℕ

abbrev pub no_moves : GatheredItems
no_moves = record { items = []; ones = 0 }

abbrev pub closed_by : List Item → ℕ → List Item
closed_by items zero = items
closed_by items (suc n) = items ++ Units (suc n) ∷ []

-- all of them as items
abbrev pub closed : GatheredItems → List Item
closed k = closed_by k.items k.ones

abbrev pub with_item : GatheredItems → Item → GatheredItems
with_item k i = record { items = closed k ++ i ∷ []; ones = 0 }

-- one move more
abbrev pub gathered_by : GatheredItems → Move → GatheredItems
gathered_by k One = record k { ones = k.ones + 1 }
gathered_by k (Trips value) = with_item k (Trigger value)
gathered_by k (Waits adds value) = with_item k (Wait adds value)
gathered_by k Reports = with_item k Report

-- ---- of a list of steps

abbrev pub gathered_from : GatheredItems → List ImpreciseEvent → GatheredItems
gathered_from k [] = k
gathered_from k (h ∷ hs) = gathered_from (gathered_by k (move_of h)) hs

abbrev pub items_of : List ImpreciseEvent → List Item
items_of steps = closed (gathered_from no_moves steps)
