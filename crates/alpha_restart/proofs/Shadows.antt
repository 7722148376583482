-- Registers while a trap is pending: from the trigger over the words that wait to the report.
use Rattle.std.proofs.Common.{◌≡◌, ◌≢◌, ◌<◌, ◌≤◌, ◌+◌, ◌⊎◌, ℕ, zero, suc, true, false, Bool, List, length, Option, Some}
use Rattle.std.proofs.Common.{None, refl, sym, ap, ◌∙◌, ⊎_elim, inl, inr, arith, max}
use Rattle.std.proofs.lemmas.Bool.{cases_eq, cases_lt}
use Rattle.alpha_words.specs.declared.Completion.{Completion}
use Rattle.alpha_words.specs.Regs.{reg, put}
use Rattle.alpha_words.proofs.RegLemmas.{length-put, reg-put_other, reg-put_same}
use Rattle.alpha_table.specs.declared.columns.InsnKind.{InsnKind}
use Rattle.alpha_table.specs.declared.columns.InsnKind.TheVariants as kinds
use Rattle.alpha_table.specs.declared.columns.MemAccess.{MemAccess}
use Rattle.alpha_table.specs.declared.form.Src.{Src}
use Rattle.alpha_table.specs.declared.form.Src.TheVariants.{Reg, Lit}
use Rattle.alpha_table.specs.Class.{Class}
use Rattle.alpha_table.specs.Code.{class_kind, class_at, kind, Straight}
use Rattle.alpha_table.specs.Uses.{source_registers, sets, uses, access}
use Rattle.alpha_values.specs.Source.{source_value}
use Rattle.alpha_values.specs.TrapOp.{completed_of}
use Rattle.alpha_restart.specs.Safe.{Shadowed, IsSafe, steady_kind, Steady, is_steady}
use Rattle.alpha_restart.specs.Match.{Dead, Alike}
use Rattle.alpha_restart.specs.Trigger.{Trigger, trigger_word, trigger_value}
use Rattle.alpha_restart.specs.Shadow.{Shadow}
use Rattle.alpha_restart.proofs.Registers.{option-equal_or_not, reg-past, reg-put_unset, but_zero-below_31}
use Rattle.alpha_restart.proofs.SourcesAlike.{counts_first, source_used, counts_source, set_not_31}
use Rattle.alpha_restart.proofs.RegistersAlike.{Dead-next_word, dead_more, Steady-next_word}
use Rattle.alpha_restart.proofs.BytesAlike.{SameUnset}

-- steady words run straight on
steady_straight : (i : InsnKind) → steady_kind i ≡ true → (Some i ≢ Some kinds.Barrier) × (Some i ≢ Some kinds.Turn)
steady_straight kinds.Plain e = (λ f. cc, λ f. cc)
steady_straight kinds.Trigger e = (λ f. cc, λ f. cc)
steady_straight kinds.Barrier e = cc
steady_straight kinds.Load e = (λ f. cc, λ f. cc)
steady_straight kinds.Store e = (λ f. cc, λ f. cc)
steady_straight kinds.Locked e = cc
steady_straight kinds.Turn e = cc

class_straight : (o : Option Class) → is_steady o ≡ true → (kind o ≢ Some kinds.Barrier) × (kind o ≢ Some kinds.Turn)
class_straight None e = cc
class_straight (Some class) e = steady_straight (class_kind class) e

pub Steady-Straight : (code : List ℕ) (p e : ℕ) → Steady code p e → Straight code p e
Steady-Straight code p e h = λ k low high. class_straight (class_at code k) (h k low high)

-- a trigger's shadow reaches over steady words
pub Steady-Shadowed : (code : List ℕ) (p e : ℕ) (t : Trigger) → class_at code p ≡ trigger_word t → p ≤ e
    → Steady code p e
    → Shadowed code p e
Steady-Shadowed code p e t is order h =
    record { trigger_kind = ap kind is; order = order; straight = Steady-Straight code p e h }

module _ (code : List ℕ) (safe : IsSafe code) (completion : Completion) (p : ℕ) (t : Trigger)
    (word : class_at code p ≡ trigger_word t) where
  -- what a word of the shadow changes is no source of the trigger
  source_same : (i x : ℕ) (a b : List ℕ) → Shadowed code p i → length a ≡ 32 → length b ≡ 32 → SameUnset code i a b
      → (x < 31 → uses (trigger_word t) x ≡ true) → reg b x ≡ reg a x
  source_same i x a b h size also same_unset used = ⊎_elim
      (λ (set : sets (class_at code i) ≡ Some x). ⊎_elim
      (λ (low : x < 31). absurd (safe.source p i p x h (omega arith) h.order set (ap (λ o. uses o x) word ∙ used low)
      (λ k above below. absurd (omega arith))))
      (λ (high : 31 ≤ x). ⊎_elim
      (λ (is : x ≡ 31). absurd (set_not_31 (class_at code i) (set ∙ ap Some is)))
      (λ (past : x ≡ 31 → ⊥). reg-past b a x also size (omega arith))
      (cases_eq x 31))
      (cases_lt x 31))
      (λ (n : sets (class_at code i) ≢ Some x). same_unset x n)
      (option-equal_or_not (sets (class_at code i)) x)

  second_same : (i : ℕ) (src : Src) (a b : List ℕ) → t.src ≡ src → Shadowed code p i → length a ≡ 32 → length b ≡ 32
      → SameUnset code i a b
      → source_value b src ≡ source_value a src
  second_same i (Reg x) a b is h size also same_unset =
      source_same i x a b h size also same_unset
      (λ low. counts_source false t.ra t.rc x (source_registers t.src) low (source_used x t.src is))
  second_same i (Lit n) a b is h size also same_unset = refl

  pub value_same : (i : ℕ) (a b : List ℕ) → Shadowed code p i → length a ≡ 32 → length b ≡ 32 → SameUnset code i a b
      → trigger_value completion t b ≡ trigger_value completion t a
  value_same i a b h size also same_unset =
      ap (λ x. completed_of t.op x (source_value b t.src) completion)
      (source_same i t.ra a b h size also same_unset (λ low. counts_first t.ra (source_registers t.src) low))
      ∙ ap (λ y. completed_of t.op (reg a t.ra) y completion) (second_same i t.src a b refl h size also same_unset)

  -- ---- the first word behind the trigger that sets a register

  record First (r : ℕ) : Type 0 where
    at : ℕ
    above : p < at
    written : sets (class_at code at) ≡ Some r
    least : (k : ℕ) → p < k → k < at → sets (class_at code k) ≢ Some r

  first_below : (r n : ℕ) → ((k : ℕ) → p < k → k < n → sets (class_at code k) ≢ Some r) ⊎ ((f : First r) × (f.at < n))
  first_below r zero = inl (λ k low high. absurd (omega arith))
  first_below r (suc n) = ⊎_elim
      (λ (none : (k : ℕ) → p < k → k < n → sets (class_at code k) ≢ Some r).
      last none (option-equal_or_not (sets (class_at code n)) r) (cases_lt p n))
      (λ (f : (f : First r) × (f.at < n)). inr (f.0, (let low : f.0.at < n = f.1 in omega arith)))
      (first_below r n)
    where
      last : ((k : ℕ) → p < k → k < n → sets (class_at code k) ≢ Some r)
          → (sets (class_at code n) ≡ Some r) ⊎ (sets (class_at code n) ≢ Some r)
          → (p < n) ⊎ (n ≤ p)
          → ((k : ℕ) → p < k → k < suc n → sets (class_at code k) ≢ Some r) ⊎ ((f : First r) × (f.at < suc n))
      last none (inl set) (inl above) = inr (record { at = n; above = above; written = set; least = none }, omega arith)
      last none (inl set) (inr low) = inl (λ k above below. absurd (omega arith))
      last none (inr unset) c = inl (λ k above below. ⊎_elim
          (λ (is : k ≡ n). (λ e. unset (ap (λ j. sets (class_at code j)) (sym is) ∙ e)))
          (λ (apart : k ≡ n → ⊥). none k above (omega arith))
          (cases_eq k n))

  -- a register that a word of the shadow sets, and the trigger doesn't, is dead
  pub new_dead : (i f r : ℕ) → p < i → i < f → Steady code p f → sets (class_at code p) ≢ Some r
      → sets (class_at code i) ≡ Some r → Dead code (p + 1) f r
  new_dead i f r above below steady own set = ⊎_elim
      (λ (none : (k : ℕ) → p < k → k < i + 1 → sets (class_at code k) ≢ Some r).
      absurd (none i above (omega arith) set))
      (λ (w : (d : First r) × (d.at < i + 1)). made w.0 w.1)
      (first_below r (i + 1))
    where
      not_used : (d : First r) → d.at < i + 1 → (j : ℕ) → p + 1 ≤ j → j ≤ d.at → (b : Bool)
          → uses (class_at code j) r ≡ b → b ≡ false
      not_used d low j from to false e = refl
      not_used d low j from to true e = absurd (safe.source p d.at j r
          (Steady-Shadowed code p d.at t word (let up = d.above in omega arith) (λ k a b. steady k a (omega arith)))
          (omega arith) to d.written e (λ k over under. ⊎_elim
          (λ (is : k ≡ p). (λ f. own (ap (λ j. sets (class_at code j)) (sym is) ∙ f)))
          (λ (apart : k ≡ p → ⊥). d.least k (omega arith) (omega arith))
          (cases_eq k p)))

      made : (d : First r) → d.at < i + 1 → Dead code (p + 1) f r
      made d low = record {
        at = d.at;
        above = let up = d.above in omega arith;
        below = omega arith;
        written = d.written;
        unused = λ j from to. not_used d low j from to (uses (class_at code j) r) refl;
      }

  -- what the trigger sets is its destination
  own_set : t.rc < 31 → sets (class_at code p) ≡ Some t.rc
  own_set low = ap sets word ∙ but_zero-below_31 t.rc low

  -- ---- the window

  -- at the trigger
  pub trigger_shadow : (e v : ℕ) (s a : List ℕ) → Alike code p e s a → t.rc < 31 → reg a t.ra ≡ reg s t.ra
      → source_value a t.src ≡ source_value s t.src
      → Shadow code completion p (p + 1) (max e (p + 1)) t (put s t.rc (trigger_value completion t s)) (put a t.rc v)
  trigger_shadow e v s a h low same same_too =
      let same_unset : SameUnset code p a (put a t.rc v) =
      λ x n. reg-put_unset a t.rc x v (λ f. n (ap sets word ∙ f)) in
      let size : length (put s t.rc (trigger_value completion t s)) ≡ 32 =
      length-put s t.rc (trigger_value completion t s) ∙ h.size in
      let also : length (put a t.rc v) ≡ 32 = length-put a t.rc v ∙ h.size_too in
      record {
        order = omega arith;
        above = omega arith;
        word = word;
        counted = low;
        size = size;
        size_too = also;
        registers = λ r n. ⊎_elim
            (λ (e : reg a r ≡ reg s r).
            inl (reg-put_other a t.rc r v n ∙ (e ∙ sym (reg-put_other s t.rc r (trigger_value completion t s) n))))
            (λ (d : Dead code p e r). inr (Dead-next_word code p e (max e (p + 1)) r
            (λ f. n (let f' : Some r ≡ Some t.rc = sym f ∙ own_set low in cc)) d (omega arith)))
            (h.registers r);
        steady = Steady-next_word code p p e h.steady h.order (ap is_steady word);
        value =
            value_same p a (put a t.rc v)
            (Steady-Shadowed code p p t word (omega arith) (λ k above below. absurd (omega arith))) h.size_too also
            same_unset
            ∙ (ap (λ x. completed_of t.op x (source_value a t.src) completion) same
            ∙ ap (λ y. completed_of t.op (reg s t.ra) y completion) same_too)
            ∙ sym (reg-put_same s t.rc (trigger_value completion t s) low h.size);
      }

  -- over a word that waits
  pub wait_shadow : (i e : ℕ) (s a b : List ℕ) → is_steady (class_at code i) ≡ true → length b ≡ 32
      → SameUnset code i a b
      → Shadow code completion p i e t s a → Shadow code completion p (i + 1) (max e (i + 1)) t s b
  wait_shadow i e s a b here also same_unset h =
      let more : Steady code p (max e (i + 1)) = Steady-next_word code p i e h.steady h.order here in
      record {
        order = omega arith;
        above = let up = h.above in omega arith;
        word = word;
        counted = h.counted;
        size = h.size;
        size_too = also;
        registers = λ r n. ⊎_elim
            (λ (set : sets (class_at code i) ≡ Some r). inr (new_dead i (max e (i + 1)) r h.above (omega arith) more
            (λ f. n (let f' : Some r ≡ Some t.rc = sym f ∙ own_set h.counted in cc)) set))
            (λ (unset : sets (class_at code i) ≢ Some r). ⊎_elim
            (λ (same : reg a r ≡ reg s r). inl (same_unset r unset ∙ same))
            (λ (d : Dead code (p + 1) e r). inr (dead_more code (p + 1) e (max e (i + 1)) r d (omega arith)))
            (h.registers r n))
            (option-equal_or_not (sets (class_at code i)) r);
        steady = more;
        value =
            value_same i a b (Steady-Shadowed code p i t word (let up = h.above in omega arith)
            (λ k low high. h.steady k low (let o = h.order in omega arith))) h.size_too also same_unset ∙ h.value;
      }

  -- the base of an access in the window is the same in both machines
  pub base_same : (i e : ℕ) (s a : List ℕ) (c : MemAccess) → Shadow code completion p i e t s a
      → access (class_at code i) ≡ Some c
      → (c.base < 31 → uses (class_at code i) c.base ≡ true) → reg a c.base ≡ reg s c.base
  base_same i e s a c h accesses used = ⊎_elim
      (λ (is : c.base ≡ t.rc).
      absurd (safe.base p i p c reach h.above accesses (omega arith) h.above (own_set h.counted ∙ ap Some (sym is))))
      (λ (apart : c.base ≡ t.rc → ⊥). ⊎_elim
      (λ (same : reg a c.base ≡ reg s c.base). same)
      (λ (d : Dead code (p + 1) e c.base). dead d)
      (h.registers c.base apart))
      (cases_eq c.base t.rc)
    where
      reach : Shadowed code p i
      reach =
          Steady-Shadowed code p i t word (let up = h.above in omega arith)
          (λ k low high. h.steady k low (let o = h.order in omega arith))

      dead : Dead code (p + 1) e c.base → reg a c.base ≡ reg s c.base
      dead d = ⊎_elim
          (λ (before : d.at < i).
          absurd (safe.base p i d.at c reach h.above accesses (let low = d.above in omega arith) before d.written))
          (λ (from : i ≤ d.at). ⊎_elim
          (λ (low : c.base < 31). let u = used low in
          let n = d.unused i (let up = h.above in omega arith) from in
          absurd cc)
          (λ (high : 31 ≤ c.base). ⊎_elim
          (λ (is : c.base ≡ 31). absurd (set_not_31 (class_at code d.at) (d.written ∙ ap Some is)))
          (λ (past : c.base ≡ 31 → ⊥). reg-past a s c.base h.size_too h.size (omega arith))
          (cases_eq c.base 31))
          (cases_lt c.base 31))
          (cases_lt d.at i)

  -- the report puts the completed value, and from the word behind the trigger on the registers are alike
  pub report_alike : (i e : ℕ) (s a : List ℕ) → Shadow code completion p i e t s a
      → Alike code (p + 1) e s (put a t.rc (trigger_value completion t a))
  report_alike i e s a h = record {
    order = let up = h.above in let o = h.order in omega arith;
    size = h.size;
    size_too = length-put a t.rc (trigger_value completion t a) ∙ h.size_too;
    registers = λ r. ⊎_elim
        (λ (is : r ≡ t.rc). inl (ap (λ k. reg (put a t.rc (trigger_value completion t a)) k) is
        ∙ (reg-put_same a t.rc (trigger_value completion t a) h.counted h.size_too
        ∙ (h.value ∙ ap (λ k. reg s k) (sym is)))))
        (λ (apart : r ≡ t.rc → ⊥). ⊎_elim
        (λ (same : reg a r ≡ reg s r). inl (reg-put_other a t.rc r (trigger_value completion t a) apart ∙ same))
        (λ (d : Dead code (p + 1) e r). inr d)
        (h.registers r apart))
        (cases_eq r t.rc);
    steady = λ k low high. h.steady k (omega arith) high;
  }
