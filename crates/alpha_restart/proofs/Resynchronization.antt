-- After a step with nothing pending machines that were matched are together.
use Rattle.std.proofs.Common.{◌≡◌, ◌<◌, ◌≤◌, ◌+◌, ◌%◌, ◌^◌, ℕ, Bool, true, false, cond, List, [], ◌∷◌, Option, Some}
use Rattle.std.proofs.Common.{None, refl, sym, ap, subst, ◌∙◌, ⊎_elim, arith}
use Rattle.std.proofs.lemmas.Bool.{cases_lt}
use Rattle.alpha_words.specs.Regs.{reg}
use Rattle.alpha_table.specs.Class.{Class, operate, trigger, address}
use Rattle.alpha_table.specs.Code.{class_at}
use Rattle.alpha_values.specs.Source.{source_value}
use Rattle.alpha_values.specs.TrapOp.{overflow_of}
use Rattle.alpha_image.specs.Parts.{IsImage}
use Rattle.alpha_pal.specs.Call.{Traffic}
use Rattle.alpha_seq.specs.State.{Program, State, Event, Went, Barriered, Stepped}
use Rattle.alpha_seq.specs.Step.{step, step_from}
use Rattle.alpha_seq.specs.Run.{is_over}
use Rattle.alpha_imprecise.specs.StepResult.{Choice, Precisely, StepResult}
use Rattle.alpha_imprecise.specs.Step.{triggers, triggered, precisely, address_at, imprecise_step, imprecise_step_at}
use Rattle.alpha_restart.specs.Safe.{IsSafe, is_steady}
use Rattle.alpha_restart.specs.Match.{Match}
use Rattle.alpha_restart.specs.Trigger.{Trigger, trigger_value}
use Rattle.alpha_restart.specs.Invariant.{Synced, Together, synced}
use Rattle.alpha_restart.proofs.MatchedSteps.{BothWent, advances, same_trigger}
use Rattle.alpha_restart.proofs.ImagePlaces.{next_class-class_at, next_address, steady_within}
use Rattle.alpha_restart.proofs.StepsWithoutPending.{overflows}
use Rattle.alpha_restart.proofs.Together.{match_end, overflowed-cond, from_same}

no_barrier : (event : Event) → event ≡ Went → (traffic : Traffic) (pc : ℕ) (regs : List ℕ)
    → Precisely event ≡ Precisely (Barriered traffic pc regs) → ⊥
no_barrier event e traffic pc regs f = let g : event ≡ Barriered traffic pc regs = cc in cc

module _ (g : Program) (good : IsImage g.image) (safe : IsSafe g.image.words) (r : Stepped) (w : StepResult)
    (c : Choice) (input : List ℕ) (h : Synced g r w) where
  module _ (less : h.at < h.to) where
    steady_here : is_steady (class_at g.image.words h.at) ≡ true
    steady_here = h.matched.registers.steady h.at (omega arith) less

    behind : (pc old : ℕ) → pc ≡ (old + 4) % 2 ^ 64 → old ≡ address_at g.image h.at → pc ≡ address_at g.image (h.at + 1)
    behind pc old e f =
        e
        ∙ (ap (λ n. (n + 4) % 2 ^ 64) f ∙ next_address g.image good h.at (steady_within g.image.words h.at steady_here))

    went_on : (x y : Stepped) → BothWent g.image.words (h.at + 1) h.to r.state w.state x y → Synced g x (precisely y)
    went_on x y b = record {
      at = h.at + 1;
      to = h.to;
      pending = refl;
      pc = behind x.state.pc r.state.pc b.pc h.pc;
      pc_too = behind y.state.pc w.state.pc b.pc_too (h.pc_too ∙ h.pc) ∙ sym (behind x.state.pc r.state.pc b.pc h.pc);
      shows = ap (λ (e : Event). e ∷ []) (b.actual ∙ sym b.precise);
      going = ap is_over b.precise;
      going_too = ap is_over b.actual;
      no_barrier = no_barrier y.event b.actual;
      matched = b.matched;
    }

    overflow_on : (o : Option Class) → class_at g.image.words h.at ≡ o → triggers o w.state ≡ true
        → Together g (step g o r.state input) (triggered g o w.state c)
    overflow_on None is over = cc
    overflow_on (Some (operate op ra src rc)) is over = cc
    overflow_on (Some (trigger op ra src rc)) is over =
        let t : Trigger = record { op = op; ra = ra; src = src; rc = rc } in
        let there : triggers (Some (trigger op ra src rc)) r.state ≡ true =
        sym (same_trigger g.image.words h.at h.to r.state w.state h.matched op ra src rc is) ∙ over in
        subst (λ (x : Stepped). Together g x (triggered g (Some (trigger op ra src rc)) w.state c))
        (overflowed-cond g.completion r.state rc (trigger_value g.completion t r.state.regs)
        (overflow_of op (reg r.state.regs ra) (source_value r.state.regs src)) there)
        (overflows g good safe h.at h.to t r w c is h.matched h.pc h.pc_too)
    overflow_on (Some (address op ra rb disp)) is over = cc
    overflow_on o is over = cc

    at_word : (o : Option Class) → class_at g.image.words h.at ≡ o
        → Together g (step g o r.state input) (imprecise_step_at g o w.state None c input)
    at_word o is = by (triggers o w.state) refl
      where
        by : (b : Bool) → triggers o w.state ≡ b
            → Together g (step g o r.state input)
            (cond b (triggered g o w.state c) (precisely (step g o w.state input)))
        by true e = overflow_on o is e
        by false e =
            synced (went_on (step g o r.state input) (step g o w.state input)
            (advances g.image.words h.at h.to r.state w.state h.matched g input less o is
            (ap is_steady (sym is) ∙ steady_here) e))

    before_end : Together g (step_from g r.state input) (imprecise_step g w.state None c input)
    before_end =
        subst (λ (x : Option Class). Together g (step g x r.state input) (imprecise_step g w.state None c input))
        (sym (next_class-class_at g good h.at r.state.pc h.pc))
        (subst (λ (y : Option Class).
        Together g (step g (class_at g.image.words h.at) r.state input) (imprecise_step_at g y w.state None c input))
        (sym (next_class-class_at g good h.at w.state.pc (h.pc_too ∙ h.pc)))
        (at_word (class_at g.image.words h.at) refl))

  pub from_synced : Together g (step_from g r.state input) (imprecise_step g w.state None c input)
  from_synced = ⊎_elim
      (λ (less : h.at < h.to). before_end less)
      (λ (past : h.to ≤ h.at).
      let same : h.to ≡ h.at = (let order = h.matched.registers.order in omega arith) in
      let m : Match g.image.words h.at h.at r.state w.state =
      subst (λ e. Match g.image.words h.at e r.state w.state) same h.matched in
      let equal : w.state ≡ r.state = match_end g.image.words h.at r.state w.state m h.pc_too in
      subst (λ (x : State). Together g (step_from g r.state input) (imprecise_step g x None c input)) (sym equal)
      (from_same g good safe r.state c input
      (record { size = h.matched.registers.size; layout = h.matched.memory.layout })))
      (cases_lt h.at h.to)
