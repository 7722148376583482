-- A step with nothing pending: the machines go on together, or a trap is pending behind it.
use Rattle.std.proofs.Common.{◌≡◌, ◌≢◌, ◌+◌, ◌%◌, ◌^◌, ℕ, Bool, true, false, cond, Some, refl, sym, ap, ◌∙◌, arith, max}
use Rattle.alpha_words.specs.Regs.{reg, put}
use Rattle.alpha_table.specs.declared.columns.InsnKind.TheVariants as kinds
use Rattle.alpha_table.specs.Code.{class_at, kind}
use Rattle.alpha_table.specs.Uses.{sets}
use Rattle.alpha_values.specs.Source.{source_value}
use Rattle.alpha_values.specs.TrapOp.{stops}
use Rattle.alpha_image.specs.Parts.{IsImage}
use Rattle.alpha_seq.specs.declared.end.End.TheVariants.{Overflow}
use Rattle.alpha_seq.specs.State.{Program, Overflowed, Ends, Stepped, stepped}
use Rattle.alpha_seq.specs.Step.{ended, logging, overflowed}
use Rattle.alpha_imprecise.specs.StepResult.{Choice, StepResult}
use Rattle.alpha_imprecise.specs.Step.{triggered, address_at}
use Rattle.alpha_restart.specs.Safe.{IsSafe, is_steady}
use Rattle.alpha_restart.specs.Match.{Match}
use Rattle.alpha_restart.specs.Trigger.{Trigger, trigger_word, trigger_value}
use Rattle.alpha_restart.specs.Invariant.{Window, Stopping, Together, window, stopping}
use Rattle.alpha_restart.proofs.Registers.{reg-put_unset}
use Rattle.alpha_restart.proofs.BytesAlike.{SameBytes-next_word}
use Rattle.alpha_restart.proofs.MatchedSteps.{same_ra, same_src}
use Rattle.alpha_restart.proofs.Shadows.{trigger_shadow}
use Rattle.alpha_restart.proofs.ImagePlaces.{next_address, steady_within}
use Rattle.alpha_restart.proofs.Trails.{counted, trail_start}

module _ (g : Program) (good : IsImage g.image) (safe : IsSafe g.image.words) where
  -- ---- an overflow

  module _ (q e : ℕ) (t : Trigger) (r : Stepped) (w : StepResult) (c : Choice)
      (word : class_at g.image.words q ≡ trigger_word t) (h : Match g.image.words q e r.state w.state)
      (here : r.state.pc ≡ address_at g.image q) (here_too : w.state.pc ≡ r.state.pc) where
    -- what the trigger sets is its destination
    same_unset_by : (v x : ℕ) → sets (class_at g.image.words q) ≢ Some x
        → reg (put r.state.regs t.rc v) x ≡ reg r.state.regs x
    same_unset_by v x n = reg-put_unset r.state.regs t.rc x v (λ f. n (ap sets word ∙ f))

    opens : stops g.completion ≡ false
        → Window g (stepped (logging r.state t.rc (trigger_value g.completion t r.state.regs)) (Overflowed r.state.pc))
        (triggered g (trigger_word t) w.state c)
    opens goes = record {
      place = q;
      at = q + 1;
      to = max e (q + 1);
      t = t;
      trail = trail_start g good safe q t w.state c word (here_too ∙ here);
      not_stopping = goes;
      pc =
          ap (λ n. (n + 4) % 2 ^ 64) here
          ∙ next_address g.image good q (steady_within g.image.words q (ap is_steady word));
      last = ap Overflowed here;
      shadow =
          trigger_shadow g.image.words safe g.completion q t word e c.value r.state.regs w.state.regs h.registers
          (counted g good safe q t word)
          (same_ra_at) (same_src_at);
      memory =
          SameBytes-next_word g.image.words q e (max e (q + 1)) r.state.regs
          (put r.state.regs t.rc (trigger_value g.completion t r.state.regs)) r.state.mem w.state.mem
          (λ f. let f' : kind (trigger_word t) ≡ Some kinds.Store = ap kind (sym word) ∙ f in cc)
          (same_unset_by (trigger_value g.completion t r.state.regs)) h.memory
          (omega arith) (λ i low high. omega arith);
      lock = refl;
      count = ap (λ n. (n + 1) % 2 ^ 64) (sym h.count);
      logged = here;
      unique = h.unique;
    }
      where
        same_ra_at : reg w.state.regs t.ra ≡ reg r.state.regs t.ra
        same_ra_at = same_ra g.image.words q e r.state w.state h t.op t.ra t.src t.rc word

        same_src_at : source_value w.state.regs t.src ≡ source_value r.state.regs t.src
        same_src_at = same_src g.image.words q e r.state w.state h t.op t.ra t.src t.rc word

    halts : stops g.completion ≡ true
        → Stopping g (ended r.state (Overflow r.state.pc)) (triggered g (trigger_word t) w.state c)
    halts stop = record {
      place = q;
      at = q + 1;
      trail = trail_start g good safe q t w.state c word (here_too ∙ here);
      halts = stop;
      last = ap (λ n. Ends (Overflow n)) here;
      pc = here;
      unique = h.unique;
    }

    pub overflows : Together g (overflowed g.completion r.state t.rc (trigger_value g.completion t r.state.regs))
        (triggered g (trigger_word t) w.state c)
    overflows = by (stops g.completion) refl
      where
        by : (b : Bool) → stops g.completion ≡ b
            → Together g
            (cond b (ended r.state (Overflow r.state.pc))
            (stepped (logging r.state t.rc (trigger_value g.completion t r.state.regs)) (Overflowed r.state.pc)))
            (triggered g (trigger_word t) w.state c)
        by true e = stopping (halts e)
        by false e = window (opens e)
