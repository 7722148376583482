-- A run from a fresh machine, and the words that it is told.
use Rattle.std.proofs.Common.{◌≡◌, ◌∙◌, ◌≤◌, ◌<◌, ℕ, zero, suc, List, [], ◌∷◌, ◌++◌, length, slice_index, Option, None}
use Rattle.std.proofs.Common.{Some, refl, ap, subst, arith}
use Rattle.alpha_seq.specs.State.{State, Went}
use Rattle.alpha_seq.specs.Start.{start}
use Rattle.alpha_seq.specs.Machine.{program_of, state_of}
use Rattle.alpha_imprecise.specs.declared.pending.Pending.{Pending}
use Rattle.alpha_imprecise.specs.StepResult.{Precisely, step_result}
use Rattle.alpha_imprecise.specs.Run.{imprecise_start}
use Rattle.alpha_imprecise.specs.ChosenRun.{begun, first_words}
use Rattle.alpha_imprecise.specs.Oracle.{Oracle, ConsumesWords, OracleDraws}
use Rattle.alpha_imprecise.specs.ImpreciseState.{ImpreciseState, trap_in, waited_in, step_result_of, begun_at, IsFresh}

-- no step was made from a fresh machine
pub step_result_of-IsFresh : (w : ImpreciseState) → IsFresh w
    → step_result_of w (Precisely Went) ≡ imprecise_start (start (program_of w.machine))
step_result_of-IsFresh w fresh =
    ap (λ (p : Option Pending). step_result (state_of w.machine) (trap_in p) (Precisely Went)) fresh.nothing_pending
    ∙ ap (λ (s : State). step_result s None (Precisely Went)) fresh.start

pub begun_fresh : (w : ImpreciseState) (bytes words : List ℕ) → IsFresh w
    → begun_at w bytes words ≡ begun (start (program_of w.machine)) bytes None 0 words
begun_fresh w bytes words fresh =
    ap (λ (p : Option Pending). begun (state_of w.machine) bytes (trap_in p) (waited_in p) words) fresh.nothing_pending
    ∙ ap (λ (s : State). begun s bytes None 0 words) fresh.start

-- ---- words that are told

-- told words begin with these
pub record Starts (words list : List ℕ) : Type 0 where
  pub coming : List ℕ
  pub is : list ≡ words ++ coming

Starts-first_words : (words : List ℕ) (n : ℕ) (ahead : ℕ → ℕ) → length words ≤ n
    → ((k : ℕ) → k < length words → ahead k ≡ slice_index words k)
    → Starts words (first_words n ahead)
unfolding first_words
Starts-first_words [] n ahead low same = record { coming = first_words n ahead; is = refl }
Starts-first_words (word ∷ words) zero ahead low same = absurd (omega arith)
Starts-first_words (word ∷ words) (suc n) ahead low same =
    let rest =
    Starts-first_words words n (λ k. ahead (suc k)) (omega (arith, low))
    (λ k below. same (suc k) (omega (arith, below))) in
    record {
      coming = rest.coming;
      is = ap (λ w. w ∷ first_words n (λ k. ahead (suc k))) (same 0 (omega arith)) ∙ ap (λ l. word ∷ l) rest.is;
    }

went_ahead : (ahead : ℕ → ℕ) (after : Option (ℕ → ℕ)) (words : List ℕ) → ConsumesWords (Some ahead) after words
    → (k : ℕ) → k < length words → ahead k ≡ slice_index words k
went_ahead ahead None words went = absurd went
went_ahead ahead (Some rest) words went = went.0

-- the words that a chooser went on by begin those that it tells
pub OracleDraws-Starts : (before after : Oracle) (ahead : ℕ → ℕ) (words : List ℕ) (n : ℕ) → before.ahead ≡ Some ahead
    → OracleDraws before after words → length words ≤ n
    → Starts words (first_words n ahead)
OracleDraws-Starts before after ahead words n tells drew low =
    Starts-first_words words n ahead low
    (went_ahead ahead after.ahead words (subst (λ o. ConsumesWords o after.ahead words) tells drew.went))
