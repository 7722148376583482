-- The choices that are made by words of 64 bits: a word draws no choice, one word or two.
use Rattle.std.specs.Prelude.{◌≡◌, ℕ, ◌+◌, ◌/◌, ◌%◌, Bool, true, false, ◌==◌, not, ◌||◌, nat_le, if◌then◌else◌, List}
use Rattle.std.specs.Prelude.{[], ◌∷◌, drop, Option, Some, None}
use Rattle.alpha_table.specs.Class.{Class}
use Rattle.alpha_seq.specs.State.{Program, State}
use Rattle.alpha_seq.specs.Step.{next_class}
use Rattle.alpha_imprecise.specs.StepResult.{Trap, Choice, ImpreciseEvent, Precisely, Triggered, Waited, Reported, Lost}
use Rattle.alpha_imprecise.specs.StepResult.{StepResult}
use Rattle.alpha_imprecise.specs.Step.{triggers, can_wait, imprecise_step}
use Rattle.alpha_imprecise.specs.Run.{given_to, next_step_result}

-- the first of the coming words; behind the last one come zeros
abbrev pub first_word : List ℕ → ℕ
first_word [] = 0
first_word (word ∷ words) = word

-- how many words are executed at most while a trap is pending
abbrev pub most_waited : ℕ
most_waited = 1024

-- a choice, and how many words it took
pub record Draw : Type 0 where
  pub choice : Choice
  pub count : ℕ

-- a report, or a step at which nothing is to be chosen, that takes so many words
abbrev pub reporting : ℕ → Draw
reporting count = record { choice = record { report = true; value = 0; bytes = 0; adds = false }; count = count }

-- the value of a trigger's destination
abbrev pub triggering : ℕ → Draw
triggering value = record { choice = record { report = false; value = value; bytes = value; adds = false }; count = 1 }

-- a word that is executed, by two words: the first one decides whether it adds to the mask, the second one is the value
-- of its destination and the bytes that it stores
abbrev pub executing : ℕ → ℕ → Draw
executing c value =
    record { choice = record { report = false; value = value; bytes = value; adds = c / 4 % 2 == 1 }; count = 2 }

-- whether a pending trap is reported without a word
abbrev pub must_report : Option Class → State → ℕ → Bool
must_report o s waited = not (can_wait o s) || nat_le most_waited waited

-- the choice at a word of this class, by how many words were executed since the trigger, and by the coming words
abbrev pub draw_at : Option Class → State → Option Trap → ℕ → List ℕ → Draw
draw_at o s None waited words = if triggers o s then triggering (first_word words) else reporting 0
draw_at o s (Some t) waited words =
    if must_report o s waited then reporting 0
    else if first_word words % 4 == 0 then reporting 1
    else executing (first_word words) (first_word (drop 1 words))

abbrev pub draw : Program → State → Option Trap → ℕ → List ℕ → Draw
draw g s pending waited words = draw_at (next_class g s.pc) s pending waited words

-- the step that coming words choose, where this is what there is to be read
abbrev pub chosen : Program → State → Option Trap → ℕ → List ℕ → List ℕ → StepResult
chosen g s pending waited words input = imprecise_step g s pending (draw g s pending waited words).choice input

-- how many words were executed since the trigger, after a step; a lost trap leaves the number
abbrev pub waited_after : ImpreciseEvent → ℕ → ℕ
waited_after (Precisely event) n = 0
waited_after (Triggered value) n = 0
waited_after (Waited adds value bytes) n = n + 1
waited_after (Reported at) n = 0
waited_after (Lost pc mask) n = n

-- and how many after steps
abbrev pub waits_behind : List ImpreciseEvent → ℕ → ℕ
waits_behind [] n = n
waits_behind (h ∷ hs) n = waits_behind hs (waited_after h n)

-- these words, one behind another, choose each of the steps, and these are left
abbrev pub Draws : Program → StepResult → ℕ → List ℕ → List ImpreciseEvent → List ℕ → Type 0
Draws g a waited words [] rest = words ≡ rest
Draws g a waited words (h ∷ hs) rest =
    ((chosen g a.state a.pending waited words (given_to h)).last_event ≡ h)
    × Draws g (next_step_result g a h) (waited_after h waited)
    (drop (draw g a.state a.pending waited words).count words) hs rest
