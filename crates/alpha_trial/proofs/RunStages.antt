-- Where the sequential run of a trial stands after so many steps, over no input.
use Rattle.std.proofs.Common.{◌≡◌, ◌≢◌, ◌<◌, ◌≤◌, ◌+◌, ◌%◌, ◌^◌, ◌&&◌, not, ℕ, ℤ, zero, suc, Bool, true, false, eqb}
use Rattle.std.proofs.Common.{List, [], ◌∷◌, length, Option, Some, refl, sym, ap, subst, ◌∙◌, ◌++◌, drop, append-nil}
use Rattle.std.proofs.Common.{length-append, add-one, arith}
use Rattle.std.proofs.lemmas.Bool.{eq-eqb, and_parts}
use Rattle.alpha_words.specs.Regs.{reg, put}
use Rattle.alpha_words.proofs.RegLemmas.{length-put, reg-put_other, reg-put_same}
use Rattle.alpha_table.specs.declared.rows.MemOp.{MemOp}
use Rattle.alpha_table.specs.Class.{Class, address}
use Rattle.alpha_table.specs.Code.{class_at}
use Rattle.alpha_mem.specs.Block.{Block}
use Rattle.alpha_seq.specs.State.{Program, State, Stepped}
use Rattle.alpha_seq.specs.Start.{start}
use Rattle.alpha_seq.specs.Step.{next_pc, setting, went, lda_value, step}
use Rattle.alpha_seq.specs.Run.{put as put_by, output, given, Run, is_over, extended_by, advance, after}
use Rattle.alpha_seq.proofs.RunSequence.{advance-going}
use Rattle.alpha_run.proofs.StepRows.{output-append}
use Rattle.alpha_imprecise.specs.Step.{address_at}
use Rattle.alpha_restart.proofs.CodeWordBounds.{class_within}
use Rattle.alpha_restart.proofs.ImagePlaces.{next_class-class_at, next_address}
use Rattle.alpha_trial.specs.Words.{program_words, trial_image}
use Rattle.alpha_trial.specs.Report.{wrapping}
use Rattle.alpha_trial.proofs.GoodImage.{trial_image-IsImage}

-- ---- what is known of registers

pub record RegisterFact : Type 0 where
  pub register : ℕ
  pub value : ℕ

abbrev pub register_fact : ℕ → ℕ → RegisterFact
register_fact register value = record { register = register; value = value }

-- the registers have these values
abbrev pub HasFacts : List RegisterFact → List ℕ → Type 0
HasFacts [] regs = Unit {0}
HasFacts (f ∷ facts) regs = (reg regs f.register ≡ f.value) × HasFacts facts regs

-- no fact speaks of the register
abbrev pub facts_spare : ℕ → List RegisterFact → Bool
facts_spare r [] = true
facts_spare r (f ∷ facts) = not (eqb f.register r) && facts_spare r facts

eqb-differ : (a b : ℕ) → not (eqb a b) ≡ true → a ≢ b
eqb-differ a b e same = let f : not true ≡ true = sym (ap not (eq-eqb a b same)) ∙ e in cc

pub HasFacts-put : (facts : List RegisterFact) (regs : List ℕ) (r v : ℕ) → facts_spare r facts ≡ true
    → HasFacts facts regs
    → HasFacts facts (put regs r v)
HasFacts-put [] regs r v e h = tt
HasFacts-put (f ∷ facts) regs r v e h =
    let parts = and_parts (not (eqb f.register r)) (facts_spare r facts) e in
    (reg-put_other regs r f.register v (eqb-differ f.register r parts.0) ∙ h.0, HasFacts-put facts regs r v parts.1 h.1)

-- ---- where a run stands

-- these facts and this memory
pub record HoldsFacts (facts : List RegisterFact) (mem : List Block) (s : State) : Type 0 where
  pub size : length s.regs ≡ 32
  pub known : HasFacts facts s.regs
  pub memory : s.mem ≡ mem

abbrev pub trial_program : ℕ → Program
trial_program n = wrapping (trial_image n)

pub record StageReached (n k : ℕ) (facts : List RegisterFact) (mem : List Block) (out : List ℕ) (r : Run) : Type 0 where
  pub steps : length r.events ≡ k
  pub going : is_over r.at.event ≡ false
  pub pc : r.at.state.pc ≡ address_at (trial_image n) k
  pub none : r.left ≡ []
  pub puts : output r.events ≡ out
  pub here : HoldsFacts facts mem r.at.state

-- what a step leaves that goes on to the next word, and the bytes that it puts
pub record LeavesFacts (facts : List RegisterFact) (mem : List Block) (more : List ℕ) (old : State)
    (t : Stepped) : Type 0 where
  pub going : is_over t.event ≡ false
  pub pc : t.state.pc ≡ next_pc old
  pub puts : put_by t.event ≡ more
  pub there : HoldsFacts facts mem t.state

-- the run of so many steps
abbrev pub Stage : ℕ → ℕ → List RegisterFact → List Block → List ℕ → Type 0
Stage n k facts mem out = StageReached n k facts mem out (after (trial_program n) (start (trial_program n)) [] k)

drop-nil_of : (k : ℕ) (l : List ℕ) → l ≡ [] → drop k l ≡ []
drop-nil_of zero l none = none
drop-nil_of (suc k) l none = ap (drop (suc k)) none

module _ (n : ℕ) (most : n ≤ 20000) where
  -- a step at a word of this class, with no input
  pub advance-at_class : (k : ℕ) (r : Run) (c : Class) → class_at (program_words n) k ≡ Some c
      → is_over r.at.event ≡ false
      → r.at.state.pc ≡ address_at (trial_image n) k
      → r.left ≡ [] → advance (trial_program n) r ≡ extended_by r (step (trial_program n) (Some c) r.at.state [])
  advance-at_class k r c there going at none =
      advance-going (trial_program n) r going
      ∙ (ap (λ (o : Option Class). extended_by r (step (trial_program n) o r.at.state r.left))
      (next_class-class_at (trial_program n) (trial_image-IsImage n most) k r.at.state.pc at ∙ there)
      ∙ ap (λ (l : List ℕ). extended_by r (step (trial_program n) (Some c) r.at.state l)) none)

  one_more : (k : ℕ) (c : Class) (facts later : List RegisterFact) (mem new : List Block) (out more : List ℕ) (r : Run)
      → class_at (program_words n) k ≡ Some c
      → StageReached n k facts mem out r
      → LeavesFacts later new more r.at.state (step (trial_program n) (Some c) r.at.state [])
      → StageReached n (k + 1) later new (out ++ more) (advance (trial_program n) r)
  one_more k c facts later mem new out more r there s l =
      let t = step (trial_program n) (Some c) r.at.state [] in
      subst (λ (q : Run). StageReached n (k + 1) later new (out ++ more) q)
      (sym (advance-at_class k r c there s.going s.pc s.none))
      (record {
        steps = omega (arith, length-append r.events (t.event ∷ []), s.steps);
        going = l.going;
        pc =
            l.pc
            ∙ (ap (λ (a : ℕ). (a + 4) % 2 ^ 64) s.pc
            ∙ next_address (trial_image n) (trial_image-IsImage n most) k (class_within (program_words n) k c there));
        none = drop-nil_of (length (given t.event)) r.left s.none;
        puts =
            output-append r.events (t.event ∷ [])
            ∙ (ap (λ l. l ++ (put_by t.event ++ [])) s.puts
            ∙ ap (λ l. out ++ l) (append-nil (put_by t.event) ∙ l.puts));
        here = l.there;
      })

  pub next_stage : (k j : ℕ) (c : Class) (facts later : List RegisterFact) (mem new : List Block) (out more : List ℕ)
      → j ≡ k + 1 → class_at (program_words n) k ≡ Some c
      → Stage n k facts mem out
      → LeavesFacts later new more (after (trial_program n) (start (trial_program n)) [] k).at.state
      (step (trial_program n) (Some c) (after (trial_program n) (start (trial_program n)) [] k).at.state [])
      → Stage n j later new (out ++ more)
  next_stage k j c facts later mem new out more e there s l =
      subst (λ (m : ℕ). Stage n m later new (out ++ more)) (sym e)
      (subst (λ (q : Run). StageReached n (k + 1) later new (out ++ more) q)
      (sym (ap (after (trial_program n) (start (trial_program n)) []) (add-one k)))
      (one_more k c facts later mem new out more (after (trial_program n) (start (trial_program n)) [] k) there s l))

-- ---- a value in a register

pub setting_leaves : (facts : List RegisterFact) (mem : List Block) (s : State) (r v w : ℕ) → r < 31
    → facts_spare r facts ≡ true
    → v ≡ w
    → HoldsFacts facts mem s → LeavesFacts (register_fact r w ∷ facts) mem [] s (went (setting s r v))
setting_leaves facts mem s r v w small e same h = record {
  going = refl;
  pc = refl;
  puts = refl;
  there = record {
    size = length-put s.regs r v ∙ h.size;
    known = (reg-put_same s.regs r v small h.size ∙ same, HasFacts-put facts s.regs r v e h.known);
    memory = h.memory;
  };
}

-- a word that computes an address
pub address_stage : (n k j : ℕ) (op : MemOp) (ra rb : ℕ) (disp : ℤ)
    (w : ℕ) (facts : List RegisterFact) (mem : List Block) (out : List ℕ)
    → n ≤ 20000 → j ≡ k + 1
    → class_at (program_words n) k ≡ Some (address op ra rb disp) → ra < 31 → facts_spare ra facts ≡ true
    → ((regs : List ℕ) → HasFacts facts regs → lda_value op (reg regs rb) disp ≡ w)
    → Stage n k facts mem out → Stage n j (register_fact ra w ∷ facts) mem out
address_stage n k j op ra rb disp w facts mem out most e there small free value s =
    let s0 : State = (after (trial_program n) (start (trial_program n)) [] k).at.state in
    subst (Stage n j (register_fact ra w ∷ facts) mem) (append-nil out)
    (next_stage n most k j (address op ra rb disp) facts (register_fact ra w ∷ facts) mem mem out [] e there s
    (setting_leaves facts mem s0 ra (lda_value op (reg s0.regs rb) disp) w small free
    (value s0.regs s.here.known) s.here))
