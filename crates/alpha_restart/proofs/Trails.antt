-- The mask of a pending trap: it has the trigger's destination, and only destinations of triggers on the way.
use Rattle.std.proofs.Common.{◌≡◌, ◌≢◌, ◌<◌, ◌≤◌, ◌+◌, ◌%◌, ◌^◌, ◌⊎◌, ℕ, Bool, true, false, cond, eqb, bit_or, Option}
use Rattle.std.proofs.Common.{Some, None, refl, sym, ap, subst, ◌∙◌, ⊎_elim, inl, inr, arith}
use Rattle.std.specs.Prelude.{unwrap_or}
use Rattle.std.proofs.lemmas.Bool.{cases_eq, cases_lt, eqb-true}
use Rattle.std.proofs.lemmas.Nat.Bits.{bit_at-pow_same, bit_at-pow_other, bit_at-zero}
use Rattle.alpha_words.specs.Regs.{Has}
use Rattle.alpha_words.proofs.SetMembers.{Has-or}
use Rattle.alpha_table.specs.Class.{Class}
use Rattle.alpha_table.specs.Code.{class_at, trap_rc}
use Rattle.alpha_image.specs.Parts.{IsImage, place_of}
use Rattle.alpha_seq.specs.State.{Program, State}
use Rattle.alpha_imprecise.specs.StepResult.{with_register, Choice, StepResult}
use Rattle.alpha_imprecise.specs.Step.{trap_destination, triggered, address_at, unpredictable_state, waited}
use Rattle.alpha_imprecise.specs.ImpreciseState.{mask_after}
use Rattle.alpha_restart.specs.Safe.{IsSafe, is_steady}
use Rattle.alpha_restart.specs.Trigger.{Trigger, trigger_word}
use Rattle.alpha_restart.specs.Invariant.{Trail}
use Rattle.alpha_restart.proofs.CodeWordBounds.{trap_rc-lt}
use Rattle.alpha_restart.proofs.ImagePlaces.{place_within, next_address, steady_within}

-- ---- masks

pub with_register-keeps : (mask r x : ℕ) → Has mask x → Has (with_register mask r) x
with_register-keeps mask r x h = by (eqb r 31)
  where
    by : (b : Bool) → Has (cond b mask (bit_or mask (2 ^ r))) x
    by true = h
    by false = (Has-or mask (2 ^ r) x).1 (inl h)

pub with_register-has : (mask r : ℕ) → r < 31 → Has (with_register mask r) r
with_register-has mask r low = by (eqb r 31) refl
  where
    by : (b : Bool) → eqb r 31 ≡ b → Has (cond b mask (bit_or mask (2 ^ r))) r
    by true e = let same = eqb-true r 31 e in absurd (omega arith)
    by false e = (Has-or mask (2 ^ r) r).1 (inr (bit_at-pow_same r))

pub with_register-only : (mask r x : ℕ) → Has (with_register mask r) x → Has mask x ⊎ (x ≡ r)
with_register-only mask r x h = by (eqb r 31) h
  where
    by : (b : Bool) → Has (cond b mask (bit_or mask (2 ^ r))) x → Has mask x ⊎ (x ≡ r)
    by true f = inl f
    by false f = ⊎_elim (λ (p : Has mask x). inl p)
        (λ (p : Has (2 ^ r) x). ⊎_elim (λ (same : x ≡ r). inr same)
        (λ (apart : x ≡ r → ⊥). let zero_bit = bit_at-pow_other r x apart in absurd (omega arith)) (cases_eq x r))
        ((Has-or mask (2 ^ r) x).0 f)

none_in_zero : (x : ℕ) → Has 0 x → ⊥
none_in_zero x h = let e = bit_at-zero x in omega arith

-- the destination of a word, where it is a register that counts
destination_is : (o : Option Class) (r : ℕ) → r < 31 → r ≡ trap_destination o → trap_rc o ≡ Some r
destination_is o r low e = by (trap_rc o) e
  where
    by : (d : Option ℕ) → r ≡ unwrap_or d 31 → d ≡ Some r
    by None f = absurd (omega arith)
    by (Some x) f = ap Some (sym f)

-- ---- the trail

module _ (g : Program) (good : IsImage g.image) (safe : IsSafe g.image.words) where
  -- a trigger's destination isn't R31
  pub counted : (q : ℕ) (t : Trigger) → class_at g.image.words q ≡ trigger_word t → t.rc < 31
  counted q t word =
      let is : trap_rc (class_at g.image.words q) ≡ Some t.rc = ap trap_rc word in
      let low = trap_rc-lt g.image.words q t.rc is in
      let apart : t.rc ≢ 31 = λ e. safe.zero q (is ∙ ap Some e) in
      omega arith

  -- at the trigger
  pub trail_start : (q : ℕ) (t : Trigger) (s : State) (c : Choice) → class_at g.image.words q ≡ trigger_word t
      → s.pc ≡ address_at g.image q
      → Trail g q (q + 1) (triggered g (trigger_word t) s c)
  trail_start q t s c word at =
      let here : is_steady (class_at g.image.words q) ≡ true = ap is_steady word in
      let low = steady_within g.image.words q here in
      record {
        rc = t.rc;
        mask = with_register 0 t.rc;
        pending = ap (λ (n : Option ℕ). Some (record { place = unwrap_or n 0; mask = with_register 0 t.rc }))
            (ap (place_of g.image) at ∙ place_within g.image good q low);
        pc = ap (λ n. (n + 4) % 2 ^ 64) at ∙ next_address g.image good q low;
        going = refl;
        silent = refl;
        above = omega arith;
        steady = λ k from to.
            subst (λ j. is_steady (class_at g.image.words j) ≡ true) (let same : q ≡ k = omega arith in same) here;
        destination = ap trap_rc word;
        counted = counted q t word;
        has = with_register-has 0 t.rc (counted q t word);
        covers = λ r small h. ⊎_elim
            (λ (p : Has 0 r). absurd (none_in_zero r p))
            (λ (same : r ≡ t.rc). (q, omega arith, omega arith, ap trap_rc word ∙ ap Some (sym same)))
            (with_register-only 0 t.rc r h);
      }

  -- over a word that waits
  pub trail_on : (p i : ℕ) (w : StepResult) (c : Choice) (h : Trail g p i w)
      → is_steady (class_at g.image.words i) ≡ true
      → (unpredictable_state (class_at g.image.words i) w.state c).pc ≡ (w.state.pc + 4) % 2 ^ 64
      → Trail g p (i + 1) (waited (class_at g.image.words i) w.state (record { place = p; mask = h.mask }) c)
  trail_on p i w c h here moved =
      let low = steady_within g.image.words i here in
      let above = h.above in
      record {
        rc = h.rc;
        mask = mask_after (class_at g.image.words i) h.mask c.adds;
        pending = refl;
        pc = moved ∙ (ap (λ n. (n + 4) % 2 ^ 64) h.pc ∙ next_address g.image good i low);
        going = refl;
        silent = refl;
        above = omega arith;
        steady = λ k from to. ⊎_elim
            (λ (before : k < i). h.steady k from before)
            (λ (past : i ≤ k).
            subst (λ j. is_steady (class_at g.image.words j) ≡ true) (let same : i ≡ k = omega arith in same) here)
            (cases_lt k i);
        destination = h.destination;
        counted = h.counted;
        has = has_by c.adds;
        covers = λ r small f. covers_by c.adds r small f;
      }
    where
      has_by : (b : Bool) → Has (mask_after (class_at g.image.words i) h.mask b) h.rc
      has_by true = with_register-keeps h.mask (trap_destination (class_at g.image.words i)) h.rc h.has
      has_by false = h.has

      old : (r : ℕ) → r < 31 → Has h.mask r
          → (k : ℕ) × (p ≤ k) × (k < i + 1) × (trap_rc (class_at g.image.words k) ≡ Some r)
      old r small f = let d = h.covers r small f in let below : d.0 < i = d.2 in (d.0, d.1, omega arith, d.3)

      covers_by : (b : Bool) (r : ℕ) → r < 31 → Has (mask_after (class_at g.image.words i) h.mask b) r
          → (k : ℕ) × (p ≤ k) × (k < i + 1) × (trap_rc (class_at g.image.words k) ≡ Some r)
      covers_by true r small f = ⊎_elim
          (λ (q : Has h.mask r). old r small q)
          (λ (same : r ≡ trap_destination (class_at g.image.words i)). (
            i,
            (let above = h.above in omega arith),
            omega arith,
            destination_is (class_at g.image.words i) r small same,
          ))
          (with_register-only h.mask (trap_destination (class_at g.image.words i)) r f)
      covers_by false r small f = old r small f
