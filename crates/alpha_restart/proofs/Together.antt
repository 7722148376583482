-- After a step with nothing pending the machines are still together.
use Rattle.std.proofs.Common.{◌≡◌, ℕ, Bool, true, false, cond, List, Option, Some, None, refl, sym, ap, subst, ◌∙◌}
use Rattle.std.proofs.Common.{option_and_then}
use Rattle.alpha_words.specs.declared.Completion.{Completion}
use Rattle.alpha_words.specs.Regs.{reg}
use Rattle.alpha_table.specs.Class.{Class, operate, trigger, address}
use Rattle.alpha_table.specs.Code.{class_at}
use Rattle.alpha_values.specs.Source.{source_value}
use Rattle.alpha_values.specs.TrapOp.{overflow_of}
use Rattle.alpha_mem.specs.Block.{Block}
use Rattle.alpha_mem.specs.Memory.{IsLayout}
use Rattle.alpha_image.specs.Parts.{IsImage, place_of}
use Rattle.alpha_image.proofs.CodePlaces.{place_of-code}
use Rattle.alpha_seq.specs.State.{Program, State, Went, Stepped}
use Rattle.alpha_seq.specs.Step.{setting, went, overflowed, next_class, step, step_from}
use Rattle.alpha_seq.proofs.SingleSteps.{StepLeaves-step}
use Rattle.alpha_imprecise.specs.StepResult.{Choice, Precisely, step_result}
use Rattle.alpha_imprecise.specs.Step.{triggers, triggered, precisely, address_at, imprecise_step}
use Rattle.alpha_restart.specs.Safe.{IsSafe}
use Rattle.alpha_restart.specs.Match.{Match}
use Rattle.alpha_restart.specs.Trigger.{Trigger, trigger_value}
use Rattle.alpha_restart.specs.Invariant.{IsReady, Exact, Together, exact}
use Rattle.alpha_restart.proofs.RegistersAlike.{Alike-refl, Alike-end}
use Rattle.alpha_restart.proofs.BytesAlike.{SameBytes-refl, SameBytes-end}
use Rattle.alpha_restart.proofs.StepsWithoutPending.{overflows}

-- a state is matched with itself
match_same : (code : List ℕ) (q : ℕ) (s : State) → IsReady s → Match code q q s s
match_same code q s h = record {
  registers = Alike-refl code q s.regs h.size;
  memory = SameBytes-refl code q s.regs s.mem h.layout;
  lock = refl;
  count = refl;
  logged = refl;
  unique = refl;
}

-- states with the same parts
same_state : (s a : State) → a.regs ≡ s.regs → a.pc ≡ s.pc → a.mem ≡ s.mem → a.unique ≡ s.unique → a.lock ≡ s.lock
    → a.count ≡ s.count → a.logged ≡ s.logged → a ≡ s
same_state s a regs pc mem unique lock count logged =
    ap (λ (x : List ℕ). record a { regs = x }) regs
    ∙ (ap (λ x. record a { regs = s.regs; pc = x }) pc
    ∙ (ap (λ (x : List Block). record a { regs = s.regs; pc = s.pc; mem = x }) mem
    ∙ (ap (λ x. record a { regs = s.regs; pc = s.pc; mem = s.mem; unique = x }) unique
    ∙ (ap (λ (x : Option ℕ). record a { regs = s.regs; pc = s.pc; mem = s.mem; unique = s.unique; lock = x }) lock
    ∙ (ap (λ x. record a { regs = s.regs; pc = s.pc; mem = s.mem; unique = s.unique; lock = s.lock; count = x }) count
    ∙ ap (λ x.
    record a { regs = s.regs; pc = s.pc; mem = s.mem; unique = s.unique; lock = s.lock; count = s.count; logged = x })
    logged)))))

pub match_end : (code : List ℕ) (q : ℕ) (s a : State) → Match code q q s a → a.pc ≡ s.pc → a ≡ s
match_end code q s a h pc =
    same_state s a (Alike-end code q s.regs a.regs h.registers) pc
    (SameBytes-end code q s.regs s.mem a.mem h.memory) h.unique h.lock h.count h.logged

-- the step of a trigger that overflows
pub overflowed-cond : (completion : Completion) (s : State) (rc v : ℕ) (b : Bool) → b ≡ true
    → overflowed completion s rc v ≡ cond b (overflowed completion s rc v) (went (setting s rc v))
overflowed-cond completion s rc v true e = refl
overflowed-cond completion s rc v false e = cc

module _ (g : Program) (good : IsImage g.image) (safe : IsSafe g.image.words) (s : State) (c : Choice) (input : List ℕ)
    (ready : IsReady s) where
  -- ---- from the same state

  same_step : (o : Option Class) → Exact (step g o s input) (precisely (step g o s input))
  same_step o =
      let leaves = StepLeaves-step g o s input in
      record {
        pending = refl;
        state = refl;
        last = refl;
        ready =
            record { size = leaves.registers ∙ ready.size; layout = subst IsLayout (sym leaves.blocks) ready.layout };
      }

  -- the place of the next word
  placed : (o : Option Class) → next_class g s.pc ≡ o → (class : Class) → o ≡ Some class
      → (q : ℕ) × (class_at g.image.words q ≡ Some class) × (s.pc ≡ address_at g.image q)
  placed o is class e = by (place_of g.image s.pc) refl
    where
      by : (p : Option ℕ) → place_of g.image s.pc ≡ p
          → (q : ℕ) × (class_at g.image.words q ≡ Some class) × (s.pc ≡ address_at g.image q)
      by None f = let none : next_class g s.pc ≡ None = ap (option_and_then (class_at g.image.words)) f in cc
      by (Some q) f =
          let there : next_class g s.pc ≡ class_at g.image.words q = ap (option_and_then (class_at g.image.words)) f in
          (q, sym there ∙ (is ∙ e), ((place_of-code g.image good s.pc q).0 f).1)

  same_overflow : (o : Option Class) → next_class g s.pc ≡ o → triggers o s ≡ true
      → Together g (step g o s input) (triggered g o s c)
  same_overflow None is over = cc
  same_overflow (Some (operate op ra src rc)) is over = cc
  same_overflow (Some (trigger op ra src rc)) is over =
      let t : Trigger = record { op = op; ra = ra; src = src; rc = rc } in
      let at = placed (Some (trigger op ra src rc)) is (trigger op ra src rc) refl in
      subst (λ (x : Stepped). Together g x (triggered g (Some (trigger op ra src rc)) s c))
      (overflowed-cond g.completion s rc (trigger_value g.completion t s.regs)
      (overflow_of op (reg s.regs ra) (source_value s.regs src)) over)
      (overflows g good safe at.0 at.0 t (went s) (step_result s None (Precisely Went)) c at.1
      (match_same g.image.words at.0 s ready) at.2 refl)
  same_overflow (Some (address op ra rb disp)) is over = cc
  same_overflow o is over = cc

  pub from_same : Together g (step_from g s input) (imprecise_step g s None c input)
  from_same = by (triggers (next_class g s.pc) s) refl
    where
      by : (b : Bool) → triggers (next_class g s.pc) s ≡ b
          → Together g (step g (next_class g s.pc) s input)
          (cond b (triggered g (next_class g s.pc) s c) (precisely (step g (next_class g s.pc) s input)))
      by true e = same_overflow (next_class g s.pc) refl e
      by false e = exact (same_step (next_class g s.pc))
