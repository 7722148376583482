-- One precise step in both machines, at a word where nothing overflows: they stay matched.
use Rattle.std.proofs.Common.{◌≡◌, ◌≢◌, ◌<◌, ◌+◌, ℕ, Bool, true, false, cond, List, [], ◌∷◌, Option, Some, None, refl}
use Rattle.std.proofs.Common.{sym, ap, subst, ◌∙◌, arith}
use Rattle.alpha_words.specs.Digits.{low_bytes, little}
use Rattle.alpha_words.specs.Regs.{reg, put}
use Rattle.alpha_words.proofs.RegLemmas.{length-put}
use Rattle.alpha_table.specs.declared.op.Op.{Op}
use Rattle.alpha_table.specs.declared.op.TrapOp.{TrapOp}
use Rattle.alpha_table.specs.declared.rows.Extension.{Extension}
use Rattle.alpha_table.specs.declared.columns.InsnKind.TheVariants as kinds
use Rattle.alpha_table.specs.declared.columns.MemAccess.{MemAccess}
use Rattle.alpha_table.specs.declared.form.Src.{Src}
use Rattle.alpha_table.specs.declared.form.Src.TheVariants.{Reg}
use Rattle.alpha_table.specs.Class.{Class, operate, trigger, address, load, store, load_locked, store_conditional}
use Rattle.alpha_table.specs.Class.{branch, jump, barrier, idle}
use Rattle.alpha_table.specs.Code.{class_at, kind}
use Rattle.alpha_table.specs.Uses.{source_registers, is_move, but_zero, sets, uses, access}
use Rattle.alpha_values.specs.Op.{result_of}
use Rattle.alpha_values.specs.Source.{source_value}
use Rattle.alpha_values.specs.TrapOp.{overflow_of, completed_of}
use Rattle.alpha_values.specs.Address.{access_address}
use Rattle.alpha_mem.specs.declared.access.MemFault.{MemFault}
use Rattle.alpha_mem.specs.Intent.{Load, Store}
use Rattle.alpha_mem.specs.Block.{shapes}
use Rattle.alpha_mem.specs.Fault.{fault_of}
use Rattle.alpha_mem.specs.Memory.{bytes_at, write_bytes}
use Rattle.alpha_mem.proofs.LawLemmas as mem
use Rattle.alpha_seq.specs.State.{Program, State, Went, Stepped}
use Rattle.alpha_seq.specs.Step.{next_pc, onward, setting, went, overflowed, lda_value, accessed, unless, loaded}
use Rattle.alpha_seq.specs.Step.{written_memory, step}
use Rattle.alpha_seq.specs.Executed.{filled}
use Rattle.alpha_seq.proofs.LoadedValues.{loaded_filled}
use Rattle.alpha_imprecise.specs.Step.{triggers}
use Rattle.alpha_restart.specs.Safe.{is_steady}
use Rattle.alpha_restart.specs.Match.{Alike, SameBytes, Match}
use Rattle.alpha_restart.proofs.Registers.{reg-put_unset, reg-put_both}
use Rattle.alpha_restart.proofs.SourcesAlike.{counts_first, counts_second, counts_moved, counts_source, source_used}
use Rattle.alpha_restart.proofs.SourcesAlike.{Alike-read_register, source_value-Alike, result_of-old_unused}
use Rattle.alpha_restart.proofs.RegistersAlike.{Alike-next_word}
use Rattle.alpha_restart.proofs.BytesAlike.{SameBytes-next_word}
use Rattle.alpha_restart.proofs.Accesses.{granted_here, granted_there, same_loaded, bytes_stored}

-- both steps executed a word, and left matched states behind it
pub record BothWent (code : List ℕ) (q e : ℕ) (s a : State) (x y : Stepped) : Type 0 where
  pub precise : x.event ≡ Went
  pub actual : y.event ≡ Went
  pub pc : x.state.pc ≡ next_pc s
  pub pc_too : y.state.pc ≡ next_pc a
  pub matched : Match code q e x.state y.state

module _ (code : List ℕ) (q e : ℕ) (s a : State) (h : Match code q e s a) where
  used_at : (o : Option Class) (x : ℕ) → class_at code q ≡ o → uses o x ≡ true → uses (class_at code q) x ≡ true
  used_at o x is u = ap (λ (c : Option Class). uses c x) is ∙ u

  read_at : (o : Option Class) (x : ℕ) → class_at code q ≡ o → (x < 31 → uses o x ≡ true) → reg a.regs x ≡ reg s.regs x
  read_at o x is u = Alike-read_register code q e x s.regs a.regs h.registers (λ low. used_at o x is (u low))

  source_at : (o : Option Class) (src : Src) → class_at code q ≡ o → ((x : ℕ) → src ≡ Reg x → x < 31 → uses o x ≡ true)
      → source_value a.regs src ≡ source_value s.regs src
  source_at o src is u =
      source_value-Alike code q e src s.regs a.regs h.registers (λ x f low. used_at o x is (u x f low))

  -- a trigger's operands are the same
  pub same_ra : (op : TrapOp) (ra : ℕ) (src : Src) (rc : ℕ) → class_at code q ≡ Some (trigger op ra src rc)
      → reg a.regs ra ≡ reg s.regs ra
  same_ra op ra src rc is = read_at (Some (trigger op ra src rc)) ra is (λ low. counts_first ra _ low)

  pub same_src : (op : TrapOp) (ra : ℕ) (src : Src) (rc : ℕ) → class_at code q ≡ Some (trigger op ra src rc)
      → source_value a.regs src ≡ source_value s.regs src
  same_src op ra src rc is = source_at (Some (trigger op ra src rc)) src is
      (λ x f low. counts_source false ra rc x (source_registers src) low (source_used x src f))

  pub same_trigger : (op : TrapOp) (ra : ℕ) (src : Src) (rc : ℕ) → class_at code q ≡ Some (trigger op ra src rc)
      → triggers (Some (trigger op ra src rc)) a ≡ triggers (Some (trigger op ra src rc)) s
  same_trigger op ra src rc is =
      ap (λ x. overflow_of op x (source_value a.regs src)) (same_ra op ra src rc is)
      ∙ ap (λ y. overflow_of op (reg s.regs ra) y) (same_src op ra src rc is)

  module _ (g : Program) (input : List ℕ) (less : q < e) where
    -- the word sets a register to one value in both machines
    set_on : (o : Option Class) (r v w : ℕ) → class_at code q ≡ o → kind o ≢ Some kinds.Store
        → sets o ≡ but_zero (Some r) → w ≡ v
        → BothWent code (q + 1) e s a (went (setting s r v)) (went (setting a r w))
    set_on o r v w is plain set same =
        let size = h.registers.size in
        let also = h.registers.size_too in
        let which : sets (class_at code q) ≡ but_zero (Some r) = ap sets is ∙ set in
        record {
          precise = refl;
          actual = refl;
          pc = refl;
          pc_too = refl;
          matched = record {
            registers = Alike-next_word code q e s.regs a.regs (put s.regs r v) (put a.regs r w) h.registers less
                (length-put s.regs r v ∙ size) (length-put a.regs r w ∙ also)
                (λ x n. reg-put_unset s.regs r x v (λ f. n (which ∙ f)))
                (λ x n. reg-put_unset a.regs r x w (λ f. n (which ∙ f)))
                (λ x f. ap (λ u. reg (put a.regs r u) x) same
                ∙ reg-put_both a.regs s.regs r x v (sym which ∙ f) also size);
            memory =
                SameBytes-next_word code q e e s.regs (put s.regs r v) s.mem a.mem (λ f. plain (ap kind (sym is) ∙ f))
                (λ x n. reg-put_unset s.regs r x v (λ f. n (which ∙ f))) h.memory (omega arith) (λ i low high. high);
            lock = h.lock;
            count = h.count;
            logged = h.logged;
            unique = h.unique;
          };
        }

    operate_on : (op : Op) (ra : ℕ) (src : Src) (rc : ℕ) → class_at code q ≡ Some (operate op ra src rc)
        → BothWent code (q + 1) e s a (step g (Some (operate op ra src rc)) s input)
        (step g (Some (operate op ra src rc)) a input)
    operate_on op ra src rc is =
        let one = read_at (Some (operate op ra src rc)) ra is (λ low. counts_first ra _ low) in
        let two = source_at (Some (operate op ra src rc)) src is
        (λ x f low. counts_source (is_move op) ra rc x (source_registers src) low (source_used x src f)) in
        set_on (Some (operate op ra src rc)) rc _ _ is (λ f. cc) refl
        (ap (λ x. result_of g.image.level op x (source_value a.regs src) (reg a.regs rc)) one
        ∙ (ap (λ y. result_of g.image.level op (reg s.regs ra) y (reg a.regs rc)) two
        ∙ result_of-old_unused g.image.level op (reg s.regs ra) (source_value s.regs src) (reg a.regs rc)
        (reg s.regs rc)
        (λ move. read_at (Some (operate op ra src rc)) rc is
        (λ low. counts_moved (is_move op) ra rc (source_registers src) move low))))

    address_on : (op : _) (ra rb : ℕ) (disp : _) → class_at code q ≡ Some (address op ra rb disp)
        → BothWent code (q + 1) e s a (step g (Some (address op ra rb disp)) s input)
        (step g (Some (address op ra rb disp)) a input)
    address_on op ra rb disp is =
        set_on (Some (address op ra rb disp)) ra _ _ is (λ f. cc) refl
        (ap (λ x. lda_value op x disp) (read_at (Some (address op ra rb disp)) rb is (λ low. counts_first rb [] low)))

    never_triggers : (op : TrapOp) (x y rc : ℕ) (z : State) (b : Bool) → b ≡ false
        → went (setting z rc (completed_of op x y g.completion))
        ≡ cond b (overflowed g.completion z rc (completed_of op x y g.completion))
        (went (setting z rc (completed_of op x y g.completion)))
    never_triggers op x y rc z true f = cc
    never_triggers op x y rc z false f = refl

    trigger_on : (op : TrapOp) (ra : ℕ) (src : Src) (rc : ℕ) → class_at code q ≡ Some (trigger op ra src rc)
        → triggers (Some (trigger op ra src rc)) a ≡ false
        → BothWent code (q + 1) e s a (step g (Some (trigger op ra src rc)) s input)
        (step g (Some (trigger op ra src rc)) a input)
    trigger_on op ra src rc is none =
        let there : triggers (Some (trigger op ra src rc)) s ≡ false = sym (same_trigger op ra src rc is) ∙ none in
        let plain =
        set_on (Some (trigger op ra src rc)) rc (completed_of op (reg s.regs ra) (source_value s.regs src) g.completion)
        (completed_of op (reg a.regs ra) (source_value a.regs src) g.completion) is (λ f. cc) refl
        (ap (λ x. completed_of op x (source_value a.regs src) g.completion) (same_ra op ra src rc is)
        ∙ ap (λ y. completed_of op (reg s.regs ra) y g.completion) (same_src op ra src rc is)) in
        subst (λ x. BothWent code (q + 1) e s a x (step g (Some (trigger op ra src rc)) a input))
        (never_triggers op (reg s.regs ra) (source_value s.regs src) rc s _ there)
        (subst (λ y. BothWent code (q + 1) e s a
        (went (setting s rc (completed_of op (reg s.regs ra) (source_value s.regs src) g.completion))) y)
        (never_triggers op (reg a.regs ra) (source_value a.regs src) rc a _ none) plain)

    -- an access that doesn't fault
    granted : (fault : Option MemFault) (addr : ℕ) (z after : State) → fault ≡ None
        → went after ≡ unless fault addr z after
    granted None addr z after f = refl
    granted (Some fault) addr z after f = cc

    same_accessed : (o : Option Class) (c : MemAccess) → class_at code q ≡ o → (c.base < 31 → uses o c.base ≡ true)
        → accessed c a ≡ accessed c s
    same_accessed o c is u = ap (λ v. access_address c v) (read_at o c.base is u)

    load_on : (extension : Extension) (c : MemAccess) (ra : ℕ) → class_at code q ≡ Some (load extension c ra)
        → BothWent code (q + 1) e s a (step g (Some (load extension c ra)) s input)
        (step g (Some (load extension c ra)) a input)
    load_on extension c ra is =
        let accesses : access (class_at code q) ≡ Some c = ap access is in
        let kind_is : kind (class_at code q) ≡ Some kinds.Load = ap kind is in
        let where_too = same_accessed (Some (load extension c ra)) c is (λ low. counts_first c.base [] low) in
        let fine = granted_here code q e s.regs s.mem a.mem c h.memory less accesses kinds.Load kind_is in
        let fine_too = ap (λ n. fault_of (shapes a.mem) Load n c.bytes) where_too
        ∙ granted_there code q e s.regs s.mem a.mem c h.memory less accesses kinds.Load kind_is in
        let value : loaded extension c a ≡ loaded extension c s =
        loaded_filled extension c a
        ∙ (ap (λ n. filled extension (little (bytes_at a.mem n c.bytes))) where_too
        ∙ (ap (λ l. filled extension (little l))
        (same_loaded code q e s.regs s.mem a.mem c h.memory less accesses kind_is)
        ∙ sym (loaded_filled extension c s))) in
        subst (λ x. BothWent code (q + 1) e s a x (step g (Some (load extension c ra)) a input))
        (granted _ (accessed c s) s (setting s ra (loaded extension c s)) fine)
        (subst (λ y. BothWent code (q + 1) e s a (went (setting s ra (loaded extension c s))) y)
        (granted _ (accessed c a) a (setting a ra (loaded extension c a)) fine_too)
        (set_on (Some (load extension c ra)) ra (loaded extension c s) (loaded extension c a) is (λ f. cc) refl value))

    -- the registers behind a word that sets none
    alike_unset : (o : Option Class) → class_at code q ≡ o → sets o ≡ None → Alike code (q + 1) e s.regs a.regs
    alike_unset o is none =
        Alike-next_word code q e s.regs a.regs s.regs a.regs h.registers less h.registers.size h.registers.size_too
        (λ x n. refl) (λ x n. refl)
        (λ x f. let g : None ≡ Some x = sym none ∙ (ap sets (sym is) ∙ f) in cc)

    storing : State → MemAccess → ℕ → State
    storing z c ra = record (onward z) { mem = written_memory c ra z }

    store_on : (c : MemAccess) (ra : ℕ) → class_at code q ≡ Some (store c ra)
        → BothWent code (q + 1) e s a (step g (Some (store c ra)) s input) (step g (Some (store c ra)) a input)
    unfolding storing
    store_on c ra is =
        let accesses : access (class_at code q) ≡ Some c = ap access is in
        let kind_is : kind (class_at code q) ≡ Some kinds.Store = ap kind is in
        let where_too = same_accessed (Some (store c ra)) c is (λ low. counts_second ra c.base [] low) in
        let same_value = read_at (Some (store c ra)) ra is (λ low. counts_first ra (c.base ∷ []) low) in
        let fine = granted_here code q e s.regs s.mem a.mem c h.memory less accesses kinds.Store kind_is in
        let fine_too = ap (λ n. fault_of (shapes a.mem) Store n c.bytes) where_too
        ∙ granted_there code q e s.regs s.mem a.mem c h.memory less accesses kinds.Store kind_is in
        let bytes : written_memory c ra a ≡ write_bytes a.mem (accessed c s) (low_bytes c.bytes (reg s.regs ra)) =
        ap (λ n. write_bytes a.mem n (low_bytes c.bytes (reg a.regs ra))) where_too
        ∙ ap (λ v. write_bytes a.mem (accessed c s) (low_bytes c.bytes v)) same_value in
        let plain : BothWent code (q + 1) e s a (went (storing s c ra)) (went (storing a c ra)) = record {
          precise = refl;
          actual = refl;
          pc = refl;
          pc_too = refl;
          matched = record {
            registers = alike_unset (Some (store c ra)) is refl;
            memory = subst (λ n. SameBytes code (q + 1) e s.regs (written_memory c ra s) n) (sym bytes)
                (bytes_stored code q e s.regs s.mem a.mem c h.memory less accesses (low_bytes c.bytes (reg s.regs ra))
                (mem.low_bytes-length c.bytes (reg s.regs ra)) kind_is);
            lock = h.lock;
            count = h.count;
            logged = h.logged;
            unique = h.unique;
          };
        } in
        subst (λ x. BothWent code (q + 1) e s a x (step g (Some (store c ra)) a input))
        (granted _ (accessed c s) s (storing s c ra) fine)
        (subst (λ y. BothWent code (q + 1) e s a (went (storing s c ra)) y)
        (granted _ (accessed c a) a (storing a c ra) fine_too) plain)

    idle_on : class_at code q ≡ Some idle
        → BothWent code (q + 1) e s a (step g (Some idle) s input) (step g (Some idle) a input)
    idle_on is = record {
      precise = refl;
      actual = refl;
      pc = refl;
      pc_too = refl;
      matched = record {
        registers = alike_unset (Some idle) is refl;
        memory =
            SameBytes-next_word code q e e s.regs s.regs s.mem a.mem
            (λ f. let u : kind (Some idle) ≡ Some kinds.Store = ap kind (sym is) ∙ f in cc) (λ x n. refl) h.memory
            (omega arith) (λ i low high. high);
        lock = h.lock;
        count = h.count;
        logged = h.logged;
        unique = h.unique;
      };
    }

    -- at each word that is steady
    pub advances : (o : Option Class) → class_at code q ≡ o → is_steady o ≡ true → triggers o a ≡ false
        → BothWent code (q + 1) e s a (step g o s input) (step g o a input)
    advances None is steady none = cc
    advances (Some (operate op ra src rc)) is steady none = operate_on op ra src rc is
    advances (Some (trigger op ra src rc)) is steady none = trigger_on op ra src rc is none
    advances (Some (address op ra rb disp)) is steady none = address_on op ra rb disp is
    advances (Some (load extension c ra)) is steady none = load_on extension c ra is
    advances (Some (store c ra)) is steady none = store_on c ra is
    advances (Some (load_locked extension c ra)) is steady none = cc
    advances (Some (store_conditional c ra)) is steady none = cc
    advances (Some (branch condition ra disp)) is steady none = cc
    advances (Some (jump ra rb)) is steady none = cc
    advances (Some (barrier call)) is steady none = cc
    advances (Some idle) is steady none = idle_on is
