-- A word that is executed while a trap waits.
use Rattle.std.proofs.Common.{◌≡◌, ◌<◌, ◌+◌, ◌%◌, ◌^◌, ℕ, List, true, [], length, Option, Some, None, is_none, is_some}
use Rattle.std.proofs.Common.{refl, sym, ap, subst, ◌∙◌, arith, max}
use Rattle.alpha_words.specs.Digits.{low_bytes}
use Rattle.alpha_words.specs.Regs.{reg, put}
use Rattle.alpha_words.proofs.RegLemmas.{length-put}
use Rattle.alpha_table.specs.declared.columns.MemAccess.{MemAccess}
use Rattle.alpha_table.specs.Class.{Class, operate, trigger, address, load, store, load_locked, store_conditional}
use Rattle.alpha_table.specs.Class.{branch, jump, barrier, idle}
use Rattle.alpha_table.specs.Code.{class_at, kind}
use Rattle.alpha_table.specs.Uses.{but_zero, sets, uses, access}
use Rattle.alpha_values.specs.Address.{access_address}
use Rattle.alpha_mem.specs.declared.access.MemFault.{MemFault}
use Rattle.alpha_mem.specs.Intent.{Load, Store}
use Rattle.alpha_mem.specs.Block.{shapes}
use Rattle.alpha_mem.specs.Fault.{fault_of}
use Rattle.alpha_mem.specs.Memory.{write_bytes}
use Rattle.alpha_mem.proofs.LawLemmas as mem
use Rattle.alpha_image.specs.Parts.{IsImage}
use Rattle.alpha_seq.specs.State.{Program, State, Stepped}
use Rattle.alpha_seq.specs.Step.{accessed}
use Rattle.alpha_imprecise.specs.StepResult.{Choice, StepResult}
use Rattle.alpha_imprecise.specs.Step.{can_wait, unpredictable_state, waited}
use Rattle.alpha_trap.proofs.ClassTests.{has_rc_trigger}
use Rattle.alpha_restart.specs.Safe.{Shadowed, IsSafe, is_steady}
use Rattle.alpha_restart.specs.Match.{Reached, SameBytes, intent_of}
use Rattle.alpha_restart.specs.Trigger.{Trigger}
use Rattle.alpha_restart.specs.Shadow.{Shadow}
use Rattle.alpha_restart.specs.Invariant.{Trail, Window, Stopping}
use Rattle.alpha_restart.proofs.Registers.{reg-put_unset}
use Rattle.alpha_restart.proofs.SourcesAlike.{counts_first, counts_second}
use Rattle.alpha_restart.proofs.BytesAlike.{SameUnset}
use Rattle.alpha_restart.proofs.Shadows.{Steady-Straight, Steady-Shadowed, base_same, wait_shadow}
use Rattle.alpha_restart.proofs.UnpredictableBytes.{SameBytes-later_end, SameBytes-unpredictable}
use Rattle.alpha_restart.proofs.Trails.{trail_on}

-- ---- what the word leaves

-- the next word, the destination's value, and no more but for the memory and the lock flag
pub record UnpredictableStep (code : List ℕ) (i : ℕ) (a b : State) : Type 0 where
  pub pc : b.pc ≡ (a.pc + 4) % 2 ^ 64
  pub size : length b.regs ≡ length a.regs
  pub same_unset : SameUnset code i a.regs b.regs
  pub count : b.count ≡ a.count
  pub unique : b.unique ≡ a.unique

module _ (code : List ℕ) (i : ℕ) (a : State) (c : Choice) where
  -- a word that sets a register
  set_spoils : (o : Option Class) (rc : ℕ) → class_at code i ≡ o → sets o ≡ but_zero (Some rc)
      → UnpredictableStep code i a (record a { regs = put a.regs rc c.value; pc = (a.pc + 4) % 2 ^ 64 })
  set_spoils o rc is set = record {
    pc = refl;
    size = length-put a.regs rc c.value;
    same_unset = λ x n. reg-put_unset a.regs rc x c.value (λ f. n (ap sets is ∙ (set ∙ f)));
    count = refl;
    unique = refl;
  }

  pub unpredictable-step : (o : Option Class) → class_at code i ≡ o → is_steady o ≡ true
      → UnpredictableStep code i a (unpredictable_state o a c)
  unpredictable-step None is steady = cc
  unpredictable-step (Some (operate op ra src rc)) is steady = set_spoils _ rc is refl
  unpredictable-step (Some (trigger op ra src rc)) is steady = set_spoils _ rc is refl
  unpredictable-step (Some (address op ra rb disp)) is steady = set_spoils _ ra is refl
  unpredictable-step (Some (load extension at ra)) is steady = set_spoils _ ra is refl
  unpredictable-step (Some (store at ra)) is steady =
      record { pc = refl; size = refl; same_unset = λ x n. refl; count = refl; unique = refl }
  unpredictable-step (Some (load_locked extension at ra)) is steady = cc
  unpredictable-step (Some (store_conditional at ra)) is steady = cc
  unpredictable-step (Some (branch condition ra disp)) is steady = cc
  unpredictable-step (Some (jump ra rb)) is steady = cc
  unpredictable-step (Some (barrier call)) is steady = cc
  unpredictable-step (Some idle) is steady =
      record { pc = refl; size = refl; same_unset = λ x n. refl; count = refl; unique = refl }

-- in a trigger's shadow a word that can wait is steady
pub waits_steady : (code : List ℕ) (p i : ℕ) (a : State) → IsSafe code → Shadowed code p i → (o : Option Class)
    → class_at code i ≡ o → can_wait o a ≡ true
    → is_steady o ≡ true
waits_steady code p i a safe h None is can = cc
waits_steady code p i a safe h (Some (operate op ra src rc)) is can = refl
waits_steady code p i a safe h (Some (trigger op ra src rc)) is can = refl
waits_steady code p i a safe h (Some (address op ra rb disp)) is can = refl
waits_steady code p i a safe h (Some (load extension at ra)) is can = refl
waits_steady code p i a safe h (Some (store at ra)) is can = refl
waits_steady code p i a safe h (Some (load_locked extension at ra)) is can = absurd (safe.locked p i h (ap kind is))
waits_steady code p i a safe h (Some (store_conditional at ra)) is can = absurd (safe.locked p i h (ap kind is))
waits_steady code p i a safe h (Some (branch condition ra disp)) is can = absurd (safe.turn p i h (ap kind is))
waits_steady code p i a safe h (Some (jump ra rb)) is can = absurd (safe.turn p i h (ap kind is))
waits_steady code p i a safe h (Some (barrier call)) is can = cc
waits_steady code p i a safe h (Some idle) is can = refl

-- ---- the memory

no_fault : (o : Option MemFault) → is_none o ≡ true → o ≡ None
no_fault None e = refl
no_fault (Some f) e = cc

module _ (code : List ℕ) (safe : IsSafe code) (completion : _) (p i e : ℕ) (t : Trigger) (s a : State) (c : Choice)
    (h : Shadow code completion p i e t s.regs a.regs) (bytes : SameBytes code (p + 1) e s.regs s.mem a.mem) where
  reach : Shadowed code p i
  reach =
      Steady-Shadowed code p i t h.word (let up = h.above in omega arith)
      (λ k low high. h.steady k low (let o = h.order in omega arith))

  same_base : (o : Option Class) (d : MemAccess) → class_at code i ≡ o → access o ≡ Some d
      → (d.base < 31 → uses o d.base ≡ true)
      → access_address d (reg a.regs d.base) ≡ access_address d (reg s.regs d.base)
  same_base o d is accesses used =
      ap (access_address d)
      (base_same code safe completion p t h.word i e s.regs a.regs d h (ap access is ∙ accesses)
      (λ low. ap (λ (x : Option Class). uses x d.base) is ∙ used low))

  -- an access that goes well at the actual address is reached
  reached_by : (o : Option Class) (d : MemAccess) (intent : _) → class_at code i ≡ o → access o ≡ Some d
      → (d.base < 31 → uses o d.base ≡ true)
      → intent_of (kind o) ≡ intent → is_none (fault_of (shapes a.mem) intent (accessed d a) d.bytes) ≡ true
      → Reached code (p + 1) i d s.regs (shapes s.mem)
  reached_by o d intent is accesses used meant well = record {
    base = λ k low high. safe.base p i k d reach h.above (ap access is ∙ accesses) (omega arith) high;
    granted =
        ap (λ (x : Option Class).
        fault_of (shapes s.mem) (intent_of (kind x)) (access_address d (reg s.regs d.base)) d.bytes)
        is
        ∙ (ap (λ x. fault_of (shapes s.mem) x (access_address d (reg s.regs d.base)) d.bytes) meant
        ∙ (ap (λ n. fault_of (shapes s.mem) intent n d.bytes) (sym (same_base o d is accesses used))
        ∙ (ap (λ ss. fault_of ss intent (access_address d (reg a.regs d.base)) d.bytes) (sym bytes.blocks)
        ∙ no_fault _ well)));
  }

  more : (o : Option Class) → class_at code i ≡ o
      → ((d : MemAccess) → access o ≡ Some d → Reached code (p + 1) i d s.regs (shapes s.mem))
      → SameBytes code (p + 1) (max e (i + 1)) s.regs s.mem a.mem
  more o is reached = SameBytes-later_end code (p + 1) e (max e (i + 1)) s.regs s.mem a.mem bytes (omega arith)
      (λ j d low high accesses.
      let same : j ≡ i = (let order = h.order in omega arith) in
      subst (λ k. Reached code (p + 1) k d s.regs (shapes s.mem)) (sym same)
      (reached d (ap access (sym is) ∙ (ap (λ k. access (class_at code k)) (sym same) ∙ accesses))))

  same_access : (d f : MemAccess) (P : MemAccess → Type 0) → Some d ≡ Some f → P d → P f
  same_access d f P e x = subst P (let g : d ≡ f = cc in g) x

  store_bytes : (at : MemAccess) (ra : ℕ) → class_at code i ≡ Some (store at ra)
      → can_wait (Some (store at ra)) a ≡ true
      → SameBytes code (p + 1) (max e (i + 1)) s.regs s.mem
      (write_bytes a.mem (accessed at a) (low_bytes at.bytes c.bytes))
  store_bytes at ra is can =
      let wider =
      more (Some (store at ra)) is (λ d f. same_access at d (λ x. Reached code (p + 1) i x s.regs (shapes s.mem)) f
      (reached_by (Some (store at ra)) at Store is refl (λ low. counts_second ra at.base [] low) refl can)) in
      subst
      (λ n. SameBytes code (p + 1) (max e (i + 1)) s.regs s.mem (write_bytes a.mem n (low_bytes at.bytes c.bytes)))
      (sym (same_base (Some (store at ra)) at is refl (λ low. counts_second ra at.base [] low)))
      (SameBytes-unpredictable code safe p i (max e (i + 1)) s.regs s.mem a.mem at wider reach h.above (omega arith)
      (ap access is)
      (ap kind is)
      (low_bytes at.bytes c.bytes) (mem.low_bytes-length at.bytes c.bytes))

  no_access : (o : Option Class) → class_at code i ≡ o → access o ≡ None
      → SameBytes code (p + 1) (max e (i + 1)) s.regs s.mem a.mem
  no_access o is none = more o is (λ d f. let f' : None ≡ Some d = sym none ∙ f in cc)

  pub unpredictable-bytes : (o : Option Class) → class_at code i ≡ o → is_steady o ≡ true → can_wait o a ≡ true
      → SameBytes code (p + 1) (max e (i + 1)) s.regs s.mem (unpredictable_state o a c).mem
  unpredictable-bytes None is steady can = cc
  unpredictable-bytes (Some (operate op ra src rc)) is steady can = no_access _ is refl
  unpredictable-bytes (Some (trigger op ra src rc)) is steady can = no_access _ is refl
  unpredictable-bytes (Some (address op ra rb disp)) is steady can = no_access _ is refl
  unpredictable-bytes (Some (load extension at ra)) is steady can =
      more (Some (load extension at ra)) is
      (λ d f. same_access at d (λ x. Reached code (p + 1) i x s.regs (shapes s.mem)) f
      (reached_by (Some (load extension at ra)) at Load is refl (λ low. counts_first at.base [] low) refl can))
  unpredictable-bytes (Some (store at ra)) is steady can = store_bytes at ra is can
  unpredictable-bytes (Some (load_locked extension at ra)) is steady can = cc
  unpredictable-bytes (Some (store_conditional at ra)) is steady can = cc
  unpredictable-bytes (Some (branch condition ra disp)) is steady can = cc
  unpredictable-bytes (Some (jump ra rb)) is steady can = cc
  unpredictable-bytes (Some (barrier call)) is steady can = cc
  unpredictable-bytes (Some idle) is steady can = no_access _ is refl

-- ---- both machines

module _ (g : Program) (good : IsImage g.image) (safe : IsSafe g.image.words) where
  -- the trigger's shadow reaches to where the machine has come
  pub trail_shadowed : (p i : ℕ) (w : StepResult) → Trail g p i w → Shadowed g.image.words p i
  trail_shadowed p i w h = record {
    trigger_kind = has_rc_trigger (class_at g.image.words p) (ap is_some h.destination);
    order = (let up = h.above in omega arith);
    straight = Steady-Straight g.image.words p i h.steady;
  }

  -- the state and the trap behind the word
  abbrev pub waited_run : StepResult → ℕ → ℕ → ℕ → Choice → StepResult
  waited_run w p i mask c = waited (class_at g.image.words i) w.state (record { place = p; mask = mask }) c

  pub waits_window : (r : Stepped) (w : StepResult) (c : Choice) (h : Window g r w)
      → can_wait (class_at g.image.words h.at) w.state ≡ true
      → Window g r (waited_run w h.place h.at h.trail.mask c)
  waits_window r w c h can =
      let reach = trail_shadowed h.place h.at w h.trail in
      let steady = waits_steady g.image.words h.place h.at w.state safe reach (class_at g.image.words h.at) refl can in
      let leaves = unpredictable-step g.image.words h.at w.state c (class_at g.image.words h.at) refl steady in
      record {
        place = h.place;
        at = h.at + 1;
        to = max h.to (h.at + 1);
        t = h.t;
        trail = trail_on g good safe h.place h.at w c h.trail steady leaves.pc;
        not_stopping = h.not_stopping;
        last = h.last;
        pc = h.pc;
        shadow =
            wait_shadow g.image.words safe g.completion h.place h.t h.shadow.word h.at h.to r.state.regs w.state.regs
            (unpredictable_state (class_at g.image.words h.at) w.state c).regs steady
            (leaves.size ∙ h.shadow.size_too) leaves.same_unset h.shadow;
        memory =
            unpredictable-bytes g.image.words safe g.completion h.place h.at h.to h.t r.state w.state c h.shadow
            h.memory
            (class_at g.image.words h.at) refl steady can;
        lock = h.lock;
        count = h.count ∙ ap (λ n. (n + 1) % 2 ^ 64) (sym leaves.count);
        logged = h.logged;
        unique = leaves.unique ∙ h.unique;
      }

  pub waits_stopping : (r : Stepped) (w : StepResult) (c : Choice) (h : Stopping g r w)
      → can_wait (class_at g.image.words h.at) w.state ≡ true
      → Stopping g r (waited_run w h.place h.at h.trail.mask c)
  waits_stopping r w c h can =
      let reach = trail_shadowed h.place h.at w h.trail in
      let steady = waits_steady g.image.words h.place h.at w.state safe reach (class_at g.image.words h.at) refl can in
      let leaves = unpredictable-step g.image.words h.at w.state c (class_at g.image.words h.at) refl steady in
      record {
        place = h.place;
        at = h.at + 1;
        trail = trail_on g good safe h.place h.at w c h.trail steady leaves.pc;
        halts = h.halts;
        last = h.last;
        pc = h.pc;
        unique = leaves.unique ∙ h.unique;
      }
