-- Who chooses, and what a step asks of it.
use Rattle.std.specs.Prelude.{◌≡◌, ℕ, ◌/◌, ◌%◌, ◌==◌, true, false, if◌then◌else◌, [], ◌∷◌, Option, Some, None}
use Rattle.alpha_table.specs.Class.{Class}
use Rattle.alpha_seq.specs.declared.event.Wait.{Wait}
use Rattle.alpha_seq.specs.State.{State}
use Rattle.alpha_seq.specs.Machine.{state_of, class_here}
use Rattle.alpha_imprecise.specs.StepResult.{Trap, Choice}
use Rattle.alpha_imprecise.specs.Step.{triggers}
use Rattle.alpha_imprecise.specs.Chosen.{reporting, triggering, must_report}
use Rattle.alpha_imprecise.specs.Oracle.{Oracle, oracle_of, OracleDraws}
use Rattle.alpha_imprecise.specs.ImpreciseState.{ImpreciseState, trap_in, waited_in}

-- by which the pending trap waits for the word or, at none, is reported
abbrev pub Pick : Type 0
Pick = Option Wait

-- what a step asks of who chooses: nothing, the value that a trigger's destination gets, or a pick
pub data Asked : Type 0 where
  Unasked : Asked
  ValueAsked : Asked
  PickAsked : Asked

-- what the step at a word of this class asks
abbrev pub asked_at : Option Class → State → Option Trap → ℕ → Asked
asked_at o s None waited = if triggers o s then ValueAsked else Unasked
asked_at o s (Some t) waited = if must_report o s waited then Unasked else PickAsked

abbrev pub asked : ImpreciseState → Asked
asked w = asked_at (class_here w.machine) (state_of w.machine) (trap_in w.pending) (waited_in w.pending)

-- the choice by a pick
abbrev pub choice_by : Pick → Choice
choice_by None = (reporting 0).choice
choice_by (Some w) = record { report = false; value = w.value; bytes = w.value; adds = w.adds }

-- Who chooses was asked just this, and the choice is by its answer. Where nothing is asked the choice decides nothing.
abbrev pub Picked : {P : Type 0} → (P → Pick → P → Type 0) → (P → ℕ → P → Type 0) → Asked → Choice → P → P → Type 0
Picked gives_pick values Unasked choice old new = (choice ≡ (reporting 0).choice) × (new ≡ old)
Picked gives_pick values ValueAsked choice old new =
    (value : ℕ) × (choice ≡ (triggering value).choice) × values old value new
Picked gives_pick values PickAsked choice old new = (pick : Pick) × (choice ≡ choice_by pick) × gives_pick old pick new

-- ---- by words

-- A pick that is read off coming words: one word for a report, and two for a wait.
pub data ReadsPick (before after : Oracle) (pick : Pick) : Type 0 where
  Reports : (c : ℕ) → (c % 4 == 0) ≡ true → pick ≡ None → OracleDraws before after (c ∷ [])
      → ReadsPick before after pick
  Waits : (c value : ℕ) → (c % 4 == 0) ≡ false → pick ≡ Some (record { adds = c / 4 % 2 == 1; value = value })
      → OracleDraws before after (c ∷ value ∷ []) → ReadsPick before after pick

-- a chooser that picks by the words that it tells of
abbrev pub reads_pick : {C : Type 0} → (C → Option (ℕ → ℕ)) → (C → Option ℕ) → C → Pick → C → Type 0
reads_pick ahead drawn old pick new = ReadsPick (oracle_of ahead drawn old) (oracle_of ahead drawn new) pick

-- and that answers a value by one word
abbrev pub reads_value : {C : Type 0} → (C → Option (ℕ → ℕ)) → (C → Option ℕ) → C → ℕ → C → Type 0
reads_value ahead drawn old value new = OracleDraws (oracle_of ahead drawn old) (oracle_of ahead drawn new) (value ∷ [])
