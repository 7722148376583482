-- The journal of a run, read off its steps, and where a run stops that has one.
use Rattle.std.specs.Prelude.{◌≡◌, ⊤, ℕ, zero, suc, ◌+◌, ◌==◌, Bool, true, false, not, ◌&&◌, ◌||◌, nat_le, is_none}
use Rattle.std.specs.Prelude.{if◌then◌else◌, List, [], ◌∷◌, ◌++◌, length}
use Rattle.alpha_words.specs.declared.Completion.{Completion}
use Rattle.alpha_seq.specs.State.{Program}
use Rattle.alpha_seq.specs.Run.{taken, output}
use Rattle.alpha_imprecise.specs.StepResult.{ImpreciseEvent, StepResult}
use Rattle.alpha_imprecise.specs.Run.{seen, finished, next_step_result, unit_of}
use Rattle.alpha_imprecise.specs.ChosenRun.{ChosenRun, advance_chosen_run}
use Rattle.alpha_replay.specs.Items.{units_of}
use Rattle.alpha_replay.specs.Journal.{Parts, parts, most_bytes, most_items, most_units}
use Rattle.alpha_replay.specs.Replay.{ending_of}
use Rattle.alpha_replay.specs.GatheredItems.{items_of}

-- ---- the journal

-- of these steps, the last of which went so
abbrev pub journal_of : Completion → ImpreciseEvent → List ImpreciseEvent → Parts
journal_of completion last steps =
    parts completion (ending_of last) (taken (seen steps)) (output (seen steps)) (items_of steps)

abbrev pub journal_at : Completion → ChosenRun → Parts
journal_at completion k = journal_of completion k.run.at.last_event k.run.steps

-- whether each of the four numbers is one that a journal may have
abbrev pub is_within : Parts → Bool
is_within p =
    nat_le (length p.input) most_bytes && nat_le (length p.output) most_bytes
    && (nat_le (length p.items) most_items && nat_le (units_of p.items) most_units)

-- ---- where a run stops

-- Behind these steps, which used so many units and led here, a run of n units stops: it is over, its units are used
-- with nothing pending, or its journal is past a limit.
abbrev pub stops_at : ℕ → Completion → ℕ → List ImpreciseEvent → StepResult → Bool
stops_at n completion used steps at =
    not (is_within (journal_of completion at.last_event steps))
    || (finished at.last_event || (is_none at.pending && (used == n)))

-- Behind so many units and these steps it doesn't stop before any of these.
abbrev pub GoesOver : ℕ → Program → ℕ → List ImpreciseEvent → StepResult → List ImpreciseEvent → Type 0
GoesOver n g used before a [] = ⊤
GoesOver n g used before a (h ∷ hs) =
    (stops_at n g.completion used before a ≡ false)
    × GoesOver n g (used + unit_of a.pending) (before ++ h ∷ []) (next_step_result g a h) hs

-- ---- the run that coming words make

abbrev pub has_stopped : ℕ → Completion → ChosenRun → Bool
has_stopped n completion k = stops_at n completion k.run.units k.run.steps k.run.at

-- one step more; a run that has stopped stays
abbrev pub advance_journaled : ℕ → Program → ChosenRun → ChosenRun
advance_journaled n g k = if has_stopped n g.completion k then k else advance_chosen_run g k

-- so many steps more
abbrev pub steps_journaled : ℕ → Program → ChosenRun → ℕ → ChosenRun
steps_journaled n g k zero = k
steps_journaled n g k (suc steps) = advance_journaled n g (steps_journaled n g k steps)

-- Some number of steps leads there, and there the run has stopped. There is one such place.
pub record IsJournaled (n : ℕ) (g : Program) (from to : ChosenRun) : Type 0 where
  pub steps : ℕ
  pub reached : steps_journaled n g from steps ≡ to
  pub stopped : has_stopped n g.completion to ≡ true
