-- The blocks of a trial end nothing and leave memory as it was.
use Rattle.std.proofs.Common.{◌≡◌, ◌<◌, ◌≤◌, ◌+◌, ◌-◌, ◌*◌, ◌++◌, ℕ, zero, suc, Bool, true, false, cond, List, [], ◌∷◌}
use Rattle.std.proofs.Common.{length, Option, Some, None, refl, sym, ap, subst, ◌∙◌, ⊎_elim, arith, add-one}
use Rattle.std.proofs.lemmas.Bool.{cases_lt}
use Rattle.rand_pcg.specs.Lcg.{Lcg}
use Rattle.rand_pcg.specs.Pcg.{pcg32}
use Rattle.alpha_words.specs.declared.Completion.TheVariants.{Wrap}
use Rattle.alpha_words.specs.Regs.{reg, put}
use Rattle.alpha_words.proofs.RegLemmas.{length-put}
use Rattle.alpha_table.specs.Class.{Class, operate, trigger, address, load, store, load_locked, store_conditional}
use Rattle.alpha_table.specs.Class.{branch, jump, barrier, idle}
use Rattle.alpha_table.specs.Code.{class_at}
use Rattle.alpha_table.specs.Words.{class_in}
use Rattle.alpha_values.specs.Source.{source_value}
use Rattle.alpha_values.specs.TrapOp.{overflow_of, completed_of}
use Rattle.alpha_mem.specs.Block.{Block}
use Rattle.alpha_image.specs.Parts.{Parts}
use Rattle.alpha_seq.specs.State.{State, Overflowed, stepped}
use Rattle.alpha_seq.specs.Start.{start_memory, start_regs, start}
use Rattle.alpha_seq.specs.Step.{onward, setting, logging, went, step}
use Rattle.alpha_seq.specs.Run.{after}
use Rattle.alpha_restart.proofs.Registers.{reg-put_unset, but_zero-not_31}
use Rattle.alpha_restart.proofs.StartState.{IsReady-start}
use Rattle.alpha_trial.specs.Program.{seeded}
use Rattle.alpha_trial.specs.Words.{block_words, blocks_words, ending_words, program_words, trial_image}
use Rattle.alpha_trial.specs.Report.{wrapping}
use Rattle.alpha_trial.proofs.DecodedProgram.{class_first, class_second}
use Rattle.alpha_trial.proofs.TrialShadows.{class_at-past_block}
use Rattle.alpha_trial.proofs.GoodImage.{trial_image-IsImage}
use Rattle.alpha_trial.proofs.RunStages.{RegisterFact, register_fact, HoldsFacts, LeavesFacts, Stage, trial_program}
use Rattle.alpha_trial.proofs.RunStages.{next_stage}

-- ---- quiet words

-- the words that end nothing, turn nowhere, and make no access
abbrev has_no_effect : Class → Bool
has_no_effect (operate op ra src rc) = true
has_no_effect (trigger op ra src rc) = true
has_no_effect (address op ra rb disp) = true
has_no_effect (load extension at ra) = false
has_no_effect (store at ra) = false
has_no_effect (load_locked extension at ra) = false
has_no_effect (store_conditional at ra) = false
has_no_effect (branch condition ra disp) = false
has_no_effect (jump ra rb) = false
has_no_effect (barrier None) = true
has_no_effect (barrier (Some call)) = false
has_no_effect idle = true

-- R31 is 0
abbrev pub zero_register_fact : List RegisterFact
zero_register_fact = register_fact 31 0 ∷ []

set_holds : (mem : List Block) (s t : State) (r v : ℕ) → t.regs ≡ put s.regs r v → t.mem ≡ s.mem
    → HoldsFacts zero_register_fact mem s → HoldsFacts zero_register_fact mem t
set_holds mem s t r v regs memory h = record {
  size = ap length regs ∙ (length-put s.regs r v ∙ h.size);
  known =
      (ap (λ (file : List ℕ). reg file 31) regs ∙ (reg-put_unset s.regs r 31 v (but_zero-not_31 r) ∙ h.known.0), tt);
  memory = memory ∙ h.memory;
}

set_leaves : (mem : List Block) (s : State) (r v : ℕ) → HoldsFacts zero_register_fact mem s
    → LeavesFacts zero_register_fact mem [] s (went (setting s r v))
set_leaves mem s r v h =
    record { going = refl; pc = refl; puts = refl; there = set_holds mem s (setting s r v) r v refl refl h }

log_leaves : (mem : List Block) (s : State) (r v : ℕ) → HoldsFacts zero_register_fact mem s
    → LeavesFacts zero_register_fact mem [] s (stepped (logging s r v) (Overflowed s.pc))
log_leaves mem s r v h =
    record { going = refl; pc = refl; puts = refl; there = set_holds mem s (logging s r v) r v refl refl h }

idle_leaves : (mem : List Block) (s : State) (image : Parts) → HoldsFacts zero_register_fact mem s
    → LeavesFacts zero_register_fact mem [] s (step (wrapping image) (Some idle) s [])
    × LeavesFacts zero_register_fact mem [] s (step (wrapping image) (Some (barrier None)) s [])
idle_leaves mem s image h =
    let there : HoldsFacts zero_register_fact mem (onward s) =
    record { size = h.size; known = h.known; memory = h.memory } in (
      record { going = refl; pc = refl; puts = refl; there = there },
      record { going = refl; pc = refl; puts = refl; there = there },
    )

quiet_leaves : (image : Parts) (c : Class) (mem : List Block) (s : State) → has_no_effect c ≡ true
    → HoldsFacts zero_register_fact mem s
    → LeavesFacts zero_register_fact mem [] s (step (wrapping image) (Some c) s [])
quiet_leaves image (operate op ra src rc) mem s e h = set_leaves mem s rc _ h
quiet_leaves image (trigger op ra src rc) mem s e h = by (overflow_of op (reg s.regs ra) (source_value s.regs src))
  where
    by : (b : Bool) → LeavesFacts zero_register_fact mem [] s (cond b
        (stepped (logging s rc (completed_of op (reg s.regs ra) (source_value s.regs src) Wrap)) (Overflowed s.pc))
        (went (setting s rc (completed_of op (reg s.regs ra) (source_value s.regs src) Wrap))))
    by true = log_leaves mem s rc (completed_of op (reg s.regs ra) (source_value s.regs src) Wrap) h
    by false = set_leaves mem s rc (completed_of op (reg s.regs ra) (source_value s.regs src) Wrap) h
quiet_leaves image (address op ra rb disp) mem s e h = set_leaves mem s ra _ h
quiet_leaves image (load extension at ra) mem s e h = cc
quiet_leaves image (store at ra) mem s e h = cc
quiet_leaves image (load_locked extension at ra) mem s e h = cc
quiet_leaves image (store_conditional at ra) mem s e h = cc
quiet_leaves image (branch condition ra disp) mem s e h = cc
quiet_leaves image (jump ra rb) mem s e h = cc
quiet_leaves image (barrier None) mem s e h = (idle_leaves mem s image h).1
quiet_leaves image (barrier (Some call)) mem s e h = cc
quiet_leaves image idle mem s e h = (idle_leaves mem s image h).0

-- ---- the words of the blocks

record NoEffectBlock (o : Option Class) : Type 0 where
  class : Class
  is : o ≡ Some class
  quiet : has_no_effect class ≡ true

quiet_first : (x y : ℕ) (rest : List ℕ) → NoEffectBlock (class_at (block_words x y ++ rest) 0)
unfolding class_at
quiet_first x y rest = record { class = _; is = class_first x; quiet = refl }

quiet_second : (x y : ℕ) (rest : List ℕ) → NoEffectBlock (class_at (block_words x y ++ rest) 1)
unfolding class_at
quiet_second x y rest = record { class = _; is = class_second y; quiet = refl }

NoEffectBlock-block : (x y k : ℕ) (rest : List ℕ) → k < 9 → NoEffectBlock (class_at (block_words x y ++ rest) k)
unfolding class_at class_in
NoEffectBlock-block x y zero rest low = quiet_first x y rest
NoEffectBlock-block x y (suc zero) rest low = quiet_second x y rest
NoEffectBlock-block x y (suc (suc zero)) rest low = record { class = _; is = refl; quiet = refl }
NoEffectBlock-block x y (suc (suc (suc zero))) rest low = record { class = _; is = refl; quiet = refl }
NoEffectBlock-block x y (suc (suc (suc (suc zero)))) rest low = record { class = _; is = refl; quiet = refl }
NoEffectBlock-block x y (suc (suc (suc (suc (suc zero))))) rest low = record { class = _; is = refl; quiet = refl }
NoEffectBlock-block x y (suc (suc (suc (suc (suc (suc zero)))))) rest low =
    record { class = _; is = refl; quiet = refl }
NoEffectBlock-block x y (suc (suc (suc (suc (suc (suc (suc zero))))))) rest low =
    record { class = _; is = refl; quiet = refl }
NoEffectBlock-block x y (suc (suc (suc (suc (suc (suc (suc (suc zero)))))))) rest low =
    record { class = _; is = refl; quiet = refl }
NoEffectBlock-block x y (suc (suc (suc (suc (suc (suc (suc (suc (suc k))))))))) rest low = absurd (omega arith)

NoEffectBlock-at : (n k : ℕ) (g : Lcg) (rest : List ℕ) → k < 9 * n
    → NoEffectBlock (class_at (blocks_words n g ++ rest) k)
NoEffectBlock-at zero k g rest low = absurd (omega arith)
NoEffectBlock-at (suc n) k g rest low =
    let x = pcg32 g in
    let y = pcg32 x.1 in
    ⊎_elim
    (λ (h : k < 9). NoEffectBlock-block x.0 y.0 k (blocks_words n y.1 ++ rest) h)
    (λ (h : 9 ≤ k).
    subst NoEffectBlock (sym (class_at-past_block x.0 y.0 (k - 9) k (blocks_words n y.1 ++ rest) (omega arith)))
    (NoEffectBlock-at n (k - 9) y.1 rest (omega arith)))
    (cases_lt k 9)

behind_blocks : (n j : ℕ) (g : Lcg) (rest : List ℕ) → class_at (blocks_words n g ++ rest) (9 * n + j) ≡ class_at rest j
behind_blocks zero j g rest = ap (class_at rest) (let e : 9 * 0 + j ≡ j = omega arith in e)
behind_blocks (suc n) j g rest =
    let x = pcg32 g in
    let y = pcg32 x.1 in
    class_at-past_block x.0 y.0 (9 * n + j) (9 * suc n + j) (blocks_words n y.1 ++ rest) (omega arith)
    ∙ behind_blocks n j y.1 rest

-- the words of the ending stand behind those of the blocks
pub ending_class : (n j : ℕ) → class_at (program_words n) (9 * n + j) ≡ class_at ending_words j
unfolding program_words
ending_class n j = behind_blocks n j (seeded n) ending_words

-- ---- the blocks' steps

start_holds : (n : ℕ) → n ≤ 20000
    → HoldsFacts zero_register_fact (start_memory (trial_image n)) (start (trial_program n))
unfolding start_regs reg put
start_holds n most = record {
  size = (IsReady-start (trial_program n) (trial_image-IsImage n most)).size;
  known = (refl, tt);
  memory = refl;
}

program-has_no_effect : (n k : ℕ) → k < 9 * n → NoEffectBlock (class_at (program_words n) k)
unfolding program_words
program-has_no_effect n k low = NoEffectBlock-at n k (seeded n) ending_words low

-- where the run stands in the blocks, and behind the last one
pub blocks_stage : (n k : ℕ) → n ≤ 20000 → k ≤ 9 * n → Stage n k zero_register_fact (start_memory (trial_image n)) []
blocks_stage n zero most low =
    record { steps = refl; going = refl; pc = refl; none = refl; puts = refl; here = start_holds n most }
blocks_stage n (suc k) most low =
    let q = program-has_no_effect n k (omega arith) in
    let s = blocks_stage n k most (omega arith) in
    let mem = start_memory (trial_image n) in
    next_stage n most k (suc k) q.class zero_register_fact zero_register_fact mem mem [] [] (sym (add-one k)) q.is s
    (quiet_leaves (trial_image n) q.class mem
    (after (trial_program n) (start (trial_program n)) [] k).at.state q.quiet s.here)
