-- The runs that coming words make over an input.
use Rattle.std.specs.Prelude.{◌≡◌, ◌<◌, ◌≤◌, ℕ, zero, suc, ◌+◌, ◌*◌, Bool, true, ◌||◌, if◌then◌else◌, List, [], ◌∷◌}
use Rattle.std.specs.Prelude.{◌++◌, length, drop, Option, Some, None, is_none}
use Rattle.alpha_seq.specs.declared.end.End.{End}
use Rattle.alpha_seq.specs.State.{Program, State, Went}
use Rattle.alpha_seq.specs.Start.{start}
use Rattle.alpha_seq.specs.Run.{end_of, output, notes}
use Rattle.alpha_imprecise.specs.StepResult.{Trap, ImpreciseEvent, Precisely, Triggered, Waited, Reported, Lost}
use Rattle.alpha_imprecise.specs.StepResult.{StepResult, step_result}
use Rattle.alpha_imprecise.specs.Run.{ImpreciseRun, finished, given_to, seen, unit_of}
use Rattle.alpha_imprecise.specs.Chosen.{most_waited, Draw, draw, chosen, waited_after}

-- a run, how many words were executed since the trigger of its pending trap, the words still to come, and how many were
-- drawn
pub record ChosenRun : Type 0 where
  pub run : ImpreciseRun
  pub waited : ℕ
  pub words : List ℕ
  pub count : ℕ

-- no step was made yet
abbrev pub begun : State → List ℕ → Option Trap → ℕ → List ℕ → ChosenRun
begun s input pending waited words = record {
  run = record { at = step_result s pending (Precisely Went); steps = []; left = input; units = 0 };
  waited = waited;
  words = words;
  count = 0;
}

abbrev pub extended_imprecise_run : ImpreciseRun → StepResult → ImpreciseRun
extended_imprecise_run w m = record {
  at = m;
  steps = w.steps ++ m.last_event ∷ [];
  left = drop (length (given_to m.last_event)) w.left;
  units = w.units + unit_of w.at.pending;
}

abbrev pub extended_chosen_run : ChosenRun → Draw → StepResult → ChosenRun
extended_chosen_run k d m = record {
  run = extended_imprecise_run k.run m;
  waited = waited_after m.last_event k.waited;
  words = drop d.count k.words;
  count = k.count + d.count;
}

-- one step more; a run that is over stays
abbrev pub advance_chosen_run : Program → ChosenRun → ChosenRun
advance_chosen_run g k =
    if finished k.run.at.last_event then k else
    extended_chosen_run k (draw g k.run.at.state k.run.at.pending k.waited k.words)
    (chosen g k.run.at.state k.run.at.pending k.waited k.words k.run.left)

-- so many steps more
abbrev pub steps_of_chosen_run : Program → ChosenRun → ℕ → ChosenRun
steps_of_chosen_run g k zero = k
steps_of_chosen_run g k (suc n) = advance_chosen_run g (steps_of_chosen_run g k n)

-- nothing is pending, or the run is over
abbrev pub is_settled : ChosenRun → Bool
is_settled k = finished k.run.at.last_event || is_none k.run.at.pending

-- steps until nothing is pending or the run is over, so many at most
abbrev pub settled_within : ℕ → Program → ChosenRun → ChosenRun
settled_within zero g k = k
settled_within (suc n) g k = if is_settled k then k else settled_within n g (advance_chosen_run g k)

-- a pending trap is reported after so many words at most, and the report is one step more
abbrev pub settled : Program → ChosenRun → ChosenRun
settled g k = settled_within (most_waited + 1) g k

-- The run that uses so many units, fewer where it is over before: a unit is a step with nothing pending, and then steps
-- until nothing is pending again. What is pending at the beginning is reported first.
abbrev pub chosen_run : Program → ChosenRun → ℕ → ChosenRun
chosen_run g k zero = settled g k
chosen_run g k (suc n) = settled g (advance_chosen_run g (chosen_run g k n))

-- ---- how many steps such a run takes

-- The most steps that so many units take with nothing pending at the beginning. A unit is a step that may trigger a
-- trap, then one step for each word that is executed while it is pending, and its report.
abbrev pub most_steps : ℕ → ℕ
most_steps n = 1026 * n

-- so many steps at most lead from a run to another one
pub record IsWithin (most : ℕ) (g : Program) (from to : ChosenRun) : Type 0 where
  pub steps : ℕ
  pub bound : steps ≤ most
  pub reached : steps_of_chosen_run g from steps ≡ to

-- How a step that a run makes brings it to its end: it uses a unit; or it executes one word more while a trap is
-- pending, for which fewer than the most had been executed; or nothing is pending behind it; or the run is over behind
-- it.
pub data Nearer (old new : ChosenRun) : Type 0 where
  Used : new.run.units ≡ old.run.units + 1 → Nearer old new
  Waiting : old.waited < most_waited → new.waited ≡ old.waited + 1 → Nearer old new
  Settled : new.run.at.pending ≡ None → Nearer old new
  Finished : finished new.run.at.last_event ≡ true → Nearer old new

-- ---- what such a run shows

-- how the program ended, if it has
abbrev pub end_of_imprecise_event : ImpreciseEvent → Option End
end_of_imprecise_event (Precisely event) = end_of event
end_of_imprecise_event (Triggered value) = None
end_of_imprecise_event (Waited adds value bytes) = None
end_of_imprecise_event (Reported at) = None
end_of_imprecise_event (Lost pc mask) = None

-- the PC and the mask of a trap that is lost
pub record LostTrap : Type 0 where
  pub pc : ℕ
  pub mask : ℕ

abbrev pub lost_trap : ImpreciseEvent → Option LostTrap
lost_trap (Precisely event) = None
lost_trap (Triggered value) = None
lost_trap (Waited adds value bytes) = None
lost_trap (Reported at) = None
lost_trap (Lost pc mask) = Some (record { pc = pc; mask = mask })

-- What a run shows: how it ended, or a trap that was lost, or neither where all units were used; the number of units;
-- the output, the input left and the notes; and how many words were drawn.
pub record ShownImprecise : Type 0 where
  pub end : Option End
  pub lost : Option LostTrap
  pub units : ℕ
  pub output : List ℕ
  pub left : List ℕ
  pub notes : List ℕ
  pub drawn : ℕ

abbrev pub shown_chosen_run : Bool → ChosenRun → ShownImprecise
shown_chosen_run watch k = record {
  end = end_of_imprecise_event k.run.at.last_event;
  lost = lost_trap k.run.at.last_event;
  units = k.run.units;
  output = output (seen k.run.steps);
  left = k.run.left;
  notes = notes watch (seen k.run.steps);
  drawn = k.count;
}

-- the run of so many units from the start, over an input, by coming words
abbrev pub imprecise : Program → List ℕ → List ℕ → ℕ → Bool → ShownImprecise
imprecise g input words n watch = shown_chosen_run watch (chosen_run g (begun (start g) input None 0 words) n)

-- ---- where the coming words are told

-- the first of them
unfoldable pub first_words : ℕ → (ℕ → ℕ) → List ℕ
first_words zero ahead = []
first_words (suc n) ahead = ahead 0 ∷ first_words n (λ k. ahead (suc k))

-- The most words that so many units draw with nothing pending at the beginning. A unit draws one word for a trigger,
-- and then two for each word that is executed while its trap is pending.
abbrev pub most_words : ℕ → ℕ
most_words n = 2049 * n

-- the run of so many units from the start, over an input, by words that are told
abbrev pub imprecise_by : Program → List ℕ → (ℕ → ℕ) → ℕ → Bool → ShownImprecise
imprecise_by g input ahead n watch = imprecise g input (first_words (most_words n) ahead) n watch
