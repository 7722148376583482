-- A step changes the registers that its columns name, and depends on those alone that they name.
use Rattle.std.proofs.Common.{◌≡◌, ◌≢◌, ◌<◌, ◌≤◌, ◌⊎◌, ◌/◌, ◌*◌, ◌==◌, ℕ, ℤ, Bool, not, take, true, false, cond, List}
use Rattle.std.proofs.Common.{[], ◌∷◌, length, Option, Some, None, refl, sym, ap, subst, ◌∙◌, ⊎_elim, inl, inr, arith}
use Rattle.std.specs.List.{list_any}
use Rattle.std.proofs.lemmas.Bool.{cases_eq, cases_lt}
use Rattle.std.specs.Int.{w32}
use Rattle.alpha_words.specs.Digits.{low_bytes, little}
use Rattle.alpha_words.specs.Regs.{reg, put}
use Rattle.alpha_words.specs.declared.PalCall.{PalCall}
use Rattle.alpha_words.specs.declared.PalCall.TheVariants.{Bpt, Bugchk, Callsys, Imb, Rdunique, Wrunique, Gentrap}
use Rattle.alpha_words.proofs.RegLemmas.{length-put, reg-put_other}
use Rattle.alpha_table.specs.declared.op.Op.{Op}
use Rattle.alpha_table.specs.declared.op.Cond.{Cond}
use Rattle.alpha_table.specs.declared.op.TrapOp.{TrapOp}
use Rattle.alpha_table.specs.declared.rows.Extension.{Extension}
use Rattle.alpha_table.specs.declared.rows.Extension.TheVariants.{Zero, Sign}
use Rattle.alpha_table.specs.declared.columns.MemAccess.{MemAccess}
use Rattle.alpha_table.specs.declared.form.Src.{Src}
use Rattle.alpha_table.specs.declared.form.Src.TheVariants.{Reg, Lit}
use Rattle.alpha_table.specs.Class.{Class, operate, trigger, address, load, store, load_locked, store_conditional}
use Rattle.alpha_table.specs.Class.{branch, jump, barrier, idle}
use Rattle.alpha_table.specs.Uses.{source_registers, is_move, but_zero, sets, uses}
use Rattle.alpha_values.specs.Numbers.{signed, register_of}
use Rattle.alpha_values.specs.Op.{result_of}
use Rattle.alpha_values.specs.Source.{source_value}
use Rattle.alpha_values.specs.TrapOp.{overflow_of, completed_of, stops}
use Rattle.alpha_values.specs.Cond.{is_taken}
use Rattle.alpha_values.specs.Address.{access_address}
use Rattle.alpha_mem.specs.declared.access.MemFault.{MemFault}
use Rattle.alpha_mem.specs.Intent.{Load, Store}
use Rattle.alpha_mem.specs.Block.{Block, shapes, within}
use Rattle.alpha_mem.specs.Fault.{fault_of}
use Rattle.alpha_mem.specs.Memory.{bytes_at, write_bytes}
use Rattle.alpha_pal.specs.Call.{Traffic, Silent, Called, exits, answers, read, write, callsys, call}
use Rattle.alpha_seq.specs.declared.end.End.{End}
use Rattle.alpha_seq.specs.declared.end.End.TheVariants as ends
use Rattle.alpha_seq.specs.State.{Program, State, Overflowed, Stepped, stepped}
use Rattle.alpha_seq.specs.Step.{next_pc, onward, setting, went, ended, logging, overflowed, trap, lda_value, fault_end}
use Rattle.alpha_seq.specs.Step.{unless, accessed, loaded, lock_block, matches, conditional, branch_target, returned}
use Rattle.alpha_seq.specs.Step.{step}
use Rattle.alpha_restart.specs.Columns.{answer_registers, MayWrite, AgreeFor, GoAlike}
use Rattle.alpha_restart.proofs.Registers.{option-equal_or_not, reg-put_unset, reg-put_both, reg-past}
use Rattle.alpha_restart.proofs.SourcesAlike.{counts_first, counts_second, counts_moved, counts_source, source_used}
use Rattle.alpha_restart.proofs.SourcesAlike.{result_of-old_unused}

-- ---- what a step changes

abbrev KeepsUnlessWritten : Option Class → List ℕ → List ℕ → ℕ → Type 0
KeepsUnlessWritten class regs after r = (reg after r ≡ reg regs r) ⊎ MayWrite class r

put_keeps : (class : Option Class) (regs : List ℕ) (d v r : ℕ) → sets class ≡ but_zero (Some d)
    → KeepsUnlessWritten class regs (put regs d v) r
put_keeps class regs d v r e =
    ⊎_elim (λ (h : but_zero (Some d) ≡ Some r). inr (inl (e ∙ h)))
    (λ (n : but_zero (Some d) ≢ Some r). inl (reg-put_unset regs d r v n))
    (option-equal_or_not (but_zero (Some d)) r)

-- an answer of a PALcode call
answer_keeps : (call : PalCall) (regs after : List ℕ) (d v r : ℕ)
    → list_any (λ x. x == d) (answer_registers (Some (barrier (Some call)))) ≡ true
    → KeepsUnlessWritten (Some (barrier (Some call))) regs after r
    → KeepsUnlessWritten (Some (barrier (Some call))) regs (put after d v) r
answer_keeps call regs after d v r there h =
    ⊎_elim (λ (e : r ≡ d). inr (inr (ap (λ k. list_any (λ x. x == k) (0 ∷ 19 ∷ [])) e ∙ there)))
    (λ (n : r ≡ d → ⊥).
    ⊎_elim (λ (same : reg after r ≡ reg regs r). inl (reg-put_other after d r v n ∙ same)) (λ w. inr w) h)
    (cases_eq r d)

either_keeps : (class : Option Class) (regs : List ℕ) (r : ℕ) (b : Bool) (t u : Stepped)
    → KeepsUnlessWritten class regs t.state.regs r → KeepsUnlessWritten class regs u.state.regs r
    → KeepsUnlessWritten class regs (cond b t u).state.regs r
either_keeps class regs r true t u p q = p
either_keeps class regs r false t u p q = q

unless_keeps : (class : Option Class) (s after : State) (r addr : ℕ) (f : Option MemFault)
    → KeepsUnlessWritten class s.regs after.regs r
    → KeepsUnlessWritten class s.regs (unless f addr s after).state.regs r
unless_keeps class s after r addr None h = h
unless_keeps class s after r addr (Some fault) h = inl refl

conditional_keeps : (s : State) (at : MemAccess) (ra r : ℕ) (b : Bool)
    → KeepsUnlessWritten (Some (store_conditional at ra)) s.regs (conditional b at ra s).regs r
conditional_keeps s at ra r true = put_keeps (Some (store_conditional at ra)) s.regs ra 1 r refl
conditional_keeps s at ra r false = put_keeps (Some (store_conditional at ra)) s.regs ra 0 r refl

either_called : (s : State) (r : ℕ) (b : Bool) (x y : Called)
    → KeepsUnlessWritten (Some (barrier (Some Callsys))) s.regs (returned Callsys x s).state.regs r
    → KeepsUnlessWritten (Some (barrier (Some Callsys))) s.regs (returned Callsys y s).state.regs r
    → KeepsUnlessWritten (Some (barrier (Some Callsys))) s.regs (returned Callsys (cond b x y) s).state.regs r
either_called s r true x y p q = p
either_called s r false x y p q = q

answers_keeps : (s : State) (r result failed : ℕ) (mem : List Block) (unique : ℕ) (traffic : Traffic)
    → KeepsUnlessWritten (Some (barrier (Some Callsys))) s.regs
    (returned Callsys (answers result failed s.regs mem unique traffic) s).state.regs r
answers_keeps s r result failed mem unique traffic =
    answer_keeps Callsys s.regs (put s.regs 0 result) 19 failed r refl
    (answer_keeps Callsys s.regs s.regs 0 result r refl (inl refl))

read_keeps : (s : State) (r d at n : ℕ) (mem : List Block) (unique : ℕ) (input : List ℕ)
    → KeepsUnlessWritten (Some (barrier (Some Callsys))) s.regs
    (returned Callsys (read d at n s.regs mem unique input) s).state.regs r
read_keeps s r d at n mem unique input =
    either_called s r (not (d == 0)) _ _ (answers_keeps s r 9 1 mem unique Silent)
    (either_called s r (not (within (shapes mem) Store at n)) _ _ (answers_keeps s r 14 1 mem unique Silent)
    (answers_keeps s r (length (take n input)) 0 mem unique Silent))

write_keeps : (s : State) (r d at n : ℕ) (mem : List Block) (unique : ℕ)
    → KeepsUnlessWritten (Some (barrier (Some Callsys))) s.regs
    (returned Callsys (write d at n s.regs mem unique) s).state.regs r
write_keeps s r d at n mem unique =
    either_called s r (not (d == 1)) _ _ (answers_keeps s r 9 1 mem unique Silent)
    (either_called s r (not (within (shapes mem) Load at n)) _ _ (answers_keeps s r 14 1 mem unique Silent)
    (answers_keeps s r n 0 mem unique Silent))

callsys_keeps : (s : State) (r number : ℕ) (mem : List Block) (unique : ℕ) (input : List ℕ)
    → KeepsUnlessWritten (Some (barrier (Some Callsys))) s.regs
    (returned Callsys (callsys number s.regs mem unique input) s).state.regs r
callsys_keeps s r number mem unique input =
    either_called s r (number == 1) _ _ (inl refl)
    (either_called s r (number == 3) _ _
    (read_keeps s r (reg s.regs 16) (reg s.regs 17) (reg s.regs 18) mem unique input)
    (either_called s r (number == 4) _ _ (write_keeps s r (reg s.regs 16) (reg s.regs 17) (reg s.regs 18) mem unique)
    (answers_keeps s r 78 1 mem unique Silent)))

returned_keeps : (function : PalCall) (s : State) (input : List ℕ) (r : ℕ)
    → KeepsUnlessWritten (Some (barrier (Some function))) s.regs
    (returned function (call function s.regs s.mem s.unique input) s).state.regs r
unfolding call
returned_keeps Bpt s input r = inl refl
returned_keeps Bugchk s input r = inl refl
returned_keeps Gentrap s input r = inl refl
returned_keeps Imb s input r = inl refl
returned_keeps Rdunique s input r = answer_keeps Rdunique s.regs s.regs 0 s.unique r refl (inl refl)
returned_keeps Wrunique s input r = inl refl
returned_keeps Callsys s input r = callsys_keeps s r (reg s.regs 0) s.mem s.unique input

pub step-unwritten_register : (g : Program) (class : Option Class) (s : State) (input : List ℕ) (r : ℕ)
    → (reg (step g class s input).state.regs r ≡ reg s.regs r) ⊎ MayWrite class r
step-unwritten_register g None s input r = inl refl
step-unwritten_register g (Some (operate op ra src rc)) s input r =
    put_keeps (Some (operate op ra src rc)) s.regs rc _ r refl
step-unwritten_register g (Some (trigger op ra src rc)) s input r =
    let class = Some (trigger op ra src rc) in
    let value = completed_of op (reg s.regs ra) (source_value s.regs src) g.completion in
    either_keeps class s.regs r (overflow_of op (reg s.regs ra) (source_value s.regs src))
    (overflowed g.completion s rc value) (went (setting s rc value))
    (either_keeps class s.regs r (stops g.completion) (ended s (ends.Overflow s.pc))
    (stepped (logging s rc value) (Overflowed s.pc)) (inl refl) (put_keeps class s.regs rc value r refl))
    (put_keeps class s.regs rc value r refl)
step-unwritten_register g (Some (address op ra rb disp)) s input r =
    put_keeps (Some (address op ra rb disp)) s.regs ra _ r refl
step-unwritten_register g (Some (load extension at ra)) s input r =
    unless_keeps (Some (load extension at ra)) s _ r _ _ (put_keeps (Some (load extension at ra)) s.regs ra _ r refl)
step-unwritten_register g (Some (store at ra)) s input r = unless_keeps (Some (store at ra)) s _ r _ _ (inl refl)
step-unwritten_register g (Some (load_locked extension at ra)) s input r =
    unless_keeps (Some (load_locked extension at ra)) s _ r _ _
    (put_keeps (Some (load_locked extension at ra)) s.regs ra _ r refl)
step-unwritten_register g (Some (store_conditional at ra)) s input r =
    unless_keeps (Some (store_conditional at ra)) s _ r _ _
    (conditional_keeps s at ra r (matches s.lock (lock_block at s)))
step-unwritten_register g (Some (branch None ra disp)) s input r =
    put_keeps (Some (branch None ra disp)) s.regs ra (next_pc s) r refl
step-unwritten_register g (Some (branch (Some c) ra disp)) s input r = inl refl
step-unwritten_register g (Some (jump ra rb)) s input r = put_keeps (Some (jump ra rb)) s.regs ra (next_pc s) r refl
step-unwritten_register g (Some (barrier None)) s input r = inl refl
step-unwritten_register g (Some (barrier (Some function))) s input r = returned_keeps function s input r
step-unwritten_register g (Some idle) s input r = inl refl

-- ---- on what it depends

-- a register has the same value in both files, or what it had in these
abbrev RegistersAlike : List ℕ → List ℕ → List ℕ → List ℕ → ℕ → Type 0
RegistersAlike regs other x y r = (reg y r ≡ reg x r) ⊎ ((reg y r ≡ reg other r) × (reg x r ≡ reg regs r))

put_alike : (regs other x y : List ℕ) (d v w r : ℕ) → length x ≡ 32 → length y ≡ 32 → w ≡ v
    → RegistersAlike regs other x y r
    → RegistersAlike regs other (put x d v) (put y d w) r
put_alike regs other x y d v w r size also same h =
    ⊎_elim
    (λ (set : but_zero (Some d) ≡ Some r).
    inl (ap (λ u. reg (put y d u) r) same ∙ reg-put_both y x d r v set also size))
    (λ (n : but_zero (Some d) ≢ Some r). ⊎_elim
    (λ (one : reg y r ≡ reg x r). inl (reg-put_unset y d r w n ∙ (one ∙ sym (reg-put_unset x d r v n))))
    (λ (both : (reg y r ≡ reg other r) × (reg x r ≡ reg regs r)).
    inr (reg-put_unset y d r w n ∙ both.0, reg-put_unset x d r v n ∙ both.1))
    h)
    (option-equal_or_not (but_zero (Some d)) r)

-- the steps of accesses at an address, with the value that is stored

abbrev value_of : Extension → List ℕ → ℕ
value_of Zero bytes = little bytes
value_of Sign bytes = register_of (signed w32 (little bytes))

loaded_is : (extension : Extension) (at : MemAccess) (z : State)
    → value_of extension (bytes_at z.mem (accessed at z) at.bytes) ≡ loaded extension at z
loaded_is Zero at z = refl
loaded_is Sign at z = refl

abbrev load_step : Extension → MemAccess → ℕ → ℕ → State → Stepped
load_step extension at ra n z =
    unless (fault_of (shapes z.mem) Load n at.bytes) n z (setting z ra (value_of extension (bytes_at z.mem n at.bytes)))

loading_is : (g : Program) (extension : Extension) (at : MemAccess) (ra : ℕ) (z : State) (input : List ℕ)
    → load_step extension at ra (accessed at z) z ≡ step g (Some (load extension at ra)) z input
loading_is g extension at ra z input =
    ap (λ v. unless (fault_of (shapes z.mem) Load (accessed at z) at.bytes) (accessed at z) z (setting z ra v))
    (loaded_is extension at z)

abbrev locked_load_step : Extension → MemAccess → ℕ → ℕ → State → Stepped
locked_load_step extension at ra n z =
    unless (fault_of (shapes z.mem) Load n at.bytes) n z
    (record (setting z ra (value_of extension (bytes_at z.mem n at.bytes))) { lock = Some (n / 16) })

locking_is : (g : Program) (extension : Extension) (at : MemAccess) (ra : ℕ) (z : State) (input : List ℕ)
    → locked_load_step extension at ra (accessed at z) z ≡ step g (Some (load_locked extension at ra)) z input
locking_is g extension at ra z input =
    ap (λ v. unless (fault_of (shapes z.mem) Load (accessed at z) at.bytes)
    (accessed at z) z (record (setting z ra v) { lock = Some (lock_block at z) }))
    (loaded_is extension at z)

abbrev store_step : MemAccess → ℕ → ℕ → State → Stepped
store_step at n v z =
    unless (fault_of (shapes z.mem) Store n at.bytes) n z
    (record (onward z) { mem = write_bytes z.mem n (low_bytes at.bytes v) })

abbrev conditionally : MemAccess → ℕ → ℕ → ℕ → Bool → State → State
conditionally at ra n v true z =
    record z { regs = put z.regs ra 1; pc = next_pc z; mem = write_bytes z.mem n (low_bytes at.bytes v); lock = None }
conditionally at ra n v false z = record z { regs = put z.regs ra 0; pc = next_pc z; lock = None }

abbrev conditional_store_step : MemAccess → ℕ → ℕ → ℕ → State → Stepped
conditional_store_step at ra n v z =
    unless (fault_of (shapes z.mem) Store n at.bytes) n z (conditionally at ra n v (matches z.lock (n / 16)) z)

conditionally_is : (at : MemAccess) (ra : ℕ) (b : Bool) (z : State)
    → conditionally at ra (access_address at (reg z.regs at.base)) (reg z.regs ra) b z ≡ conditional b at ra z
conditionally_is at ra true z = refl
conditionally_is at ra false z = refl

trying_is : (g : Program) (at : MemAccess) (ra : ℕ) (z : State) (input : List ℕ)
    → conditional_store_step at ra (access_address at (reg z.regs at.base)) (reg z.regs ra) z
    ≡ step g (Some (store_conditional at ra)) z input
trying_is g at ra z input =
    let n = access_address at (reg z.regs at.base) in
    ap (unless (fault_of (shapes z.mem) Store n at.bytes) n z) (conditionally_is at ra (matches z.lock (n / 16)) z)

module _ (class : Option Class) (s : State) (other : List ℕ) (agree : AgreeFor class s.regs other) where
  abbrev too : State
  too = record s { regs = other }

  read_at : (r : ℕ) → (r < 31 → uses class r ≡ true) → reg other r ≡ reg s.regs r
  read_at r used =
      ⊎_elim
      (λ (low : r < 31). agree.read r (inl (used low)))
      (λ (high : 31 ≤ r). ⊎_elim
      (λ (is : r ≡ 31). ap (reg other) is ∙ (agree.zero ∙ ap (reg s.regs) (sym is)))
      (λ (past : r ≡ 31 → ⊥). reg-past other s.regs r agree.size_too agree.size (omega arith))
      (cases_eq r 31))
      (cases_lt r 31)

  source_at : (src : Src) → ((x : ℕ) → src ≡ Reg x → x < 31 → uses class x ≡ true)
      → source_value other src ≡ source_value s.regs src
  source_at (Reg x) used = read_at x (used x refl)
  source_at (Lit n) used = refl

  stays : (r : ℕ) → RegistersAlike s.regs other s.regs other r
  stays r = inr (refl, refl)

  puts : (d v w r : ℕ) → w ≡ v → RegistersAlike s.regs other (put s.regs d v) (put other d w) r
  puts d v w r same = put_alike s.regs other s.regs other d v w r agree.size agree.size_too same (stays r)

  end_alike : (e : End) → GoAlike s.regs other (ended s e) (ended too e)
  end_alike e = record { event = refl; state = refl; registers = stays }

  set_alike : (d v w : ℕ) → w ≡ v → GoAlike s.regs other (went (setting s d v)) (went (setting too d w))
  set_alike d v w same = record { event = refl; state = refl; registers = λ r. puts d v w r same }

  log_alike : (d v : ℕ)
      → GoAlike s.regs other (stepped (logging s d v) (Overflowed s.pc)) (stepped (logging too d v) (Overflowed s.pc))
  log_alike d v = record { event = refl; state = refl; registers = λ r. puts d v v r refl }

  either_alike : (b : Bool) (t u x y : Stepped) → GoAlike s.regs other t u → GoAlike s.regs other x y
      → GoAlike s.regs other (cond b t x) (cond b u y)
  either_alike true t u x y p q = p
  either_alike false t u x y p q = q

  unless_alike : (f : Option MemFault) (addr : ℕ) (x y : State) → GoAlike s.regs other (went x) (went y)
      → GoAlike s.regs other (unless f addr s x) (unless f addr too y)
  unless_alike None addr x y h = h
  unless_alike (Some fault) addr x y h = end_alike (fault_end fault s.pc addr)

  trap_alike : (g : Program) (op : TrapOp) (a b rc : ℕ)
      → GoAlike s.regs other (trap g.completion op a b rc s) (trap g.completion op a b rc too)
  trap_alike g op a b rc =
      let v = completed_of op a b g.completion in
      either_alike (overflow_of op a b) (overflowed g.completion s rc v) (overflowed g.completion too rc v)
      (went (setting s rc v)) (went (setting too rc v))
      (either_alike (stops g.completion) (ended s (ends.Overflow s.pc)) (ended too (ends.Overflow s.pc))
      (stepped (logging s rc v) (Overflowed s.pc)) (stepped (logging too rc v) (Overflowed s.pc))
      (end_alike (ends.Overflow s.pc)) (log_alike rc v))
      (set_alike rc v v refl)

  -- the same access in both
  accessed_alike : (at : MemAccess) → (at.base < 31 → uses class at.base ≡ true)
      → access_address at (reg other at.base) ≡ access_address at (reg s.regs at.base)
  accessed_alike at used = ap (access_address at) (read_at at.base used)

  conditionally_alike : (at : MemAccess) (ra n v : ℕ) (b : Bool)
      → GoAlike s.regs other (went (conditionally at ra n v b s)) (went (conditionally at ra n v b too))
  conditionally_alike at ra n v true = record { event = refl; state = refl; registers = λ r. puts ra 1 1 r refl }
  conditionally_alike at ra n v false = record { event = refl; state = refl; registers = λ r. puts ra 0 0 r refl }

  loading_alike : (extension : Extension) (at : MemAccess) (ra n : ℕ)
      → GoAlike s.regs other (load_step extension at ra n s) (load_step extension at ra n too)
  loading_alike extension at ra n = unless_alike (fault_of (shapes s.mem) Load n at.bytes) n _ _ (set_alike ra _ _ refl)

  locking_alike : (extension : Extension) (at : MemAccess) (ra n : ℕ)
      → GoAlike s.regs other (locked_load_step extension at ra n s) (locked_load_step extension at ra n too)
  locking_alike extension at ra n =
      unless_alike (fault_of (shapes s.mem) Load n at.bytes) n _ _
      (record { event = refl; state = refl; registers = λ r. puts ra _ _ r refl })

  storing_alike : (at : MemAccess) (n v : ℕ) → GoAlike s.regs other (store_step at n v s) (store_step at n v too)
  storing_alike at n v =
      unless_alike (fault_of (shapes s.mem) Store n at.bytes) n _ _
      (record { event = refl; state = refl; registers = stays })

  trying_alike : (at : MemAccess) (ra n v : ℕ)
      → GoAlike s.regs other (conditional_store_step at ra n v s) (conditional_store_step at ra n v too)
  trying_alike at ra n v =
      unless_alike (fault_of (shapes s.mem) Store n at.bytes) n _ _
      (conditionally_alike at ra n v (matches s.lock (n / 16)))

-- ---- PALcode calls

-- a system call with these arguments
abbrev call_by_number : ℕ → ℕ → ℕ → ℕ → List ℕ → List Block → ℕ → List ℕ → Called
call_by_number number a0 a1 a2 regs mem unique input =
    cond (number == 1) (exits a0) (cond (number == 3) (read a0 a1 a2 regs mem unique input)
    (cond (number == 4) (write a0 a1 a2 regs mem unique) (answers 78 1 regs mem unique Silent)))

module _ (s : State) (other : List ℕ) (agree : AgreeFor (Some (barrier (Some Callsys))) s.regs other) where
  abbrev CallAlike : Called → Called → Type 0
  CallAlike x y = GoAlike s.regs other (returned Callsys x s) (returned Callsys y (record s { regs = other }))

  either_call : (b : Bool) (x y v w : Called) → CallAlike x y → CallAlike v w → CallAlike (cond b x v) (cond b y w)
  either_call true x y v w p q = p
  either_call false x y v w p q = q

  answers_alike : (result failed : ℕ) (mem : List Block) (unique : ℕ) (traffic : Traffic)
      → CallAlike (answers result failed s.regs mem unique traffic) (answers result failed other mem unique traffic)
  answers_alike result failed mem unique traffic = record {
    event = refl;
    state = refl;
    registers = λ r.
        put_alike s.regs other (put s.regs 0 result) (put other 0 result) 19 failed failed r
        (length-put s.regs 0 result ∙ agree.size) (length-put other 0 result ∙ agree.size_too) refl
        (puts (Some (barrier (Some Callsys))) s other agree 0 result result r refl);
  }

  exits_alike : (v : ℕ) → CallAlike (exits v) (exits v)
  exits_alike v = end_alike (Some (barrier (Some Callsys))) s other agree (ends.Exit v)

  read_alike : (d at n : ℕ) (mem : List Block) (unique : ℕ) (input : List ℕ)
      → CallAlike (read d at n s.regs mem unique input) (read d at n other mem unique input)
  read_alike d at n mem unique input =
      either_call (not (d == 0)) _ _ _ _ (answers_alike 9 1 mem unique Silent)
      (either_call (not (within (shapes mem) Store at n)) _ _ _ _ (answers_alike 14 1 mem unique Silent)
      (answers_alike _ 0 _ _ _))

  write_alike : (d at n : ℕ) (mem : List Block) (unique : ℕ)
      → CallAlike (write d at n s.regs mem unique) (write d at n other mem unique)
  write_alike d at n mem unique =
      either_call (not (d == 1)) _ _ _ _ (answers_alike 9 1 mem unique Silent)
      (either_call (not (within (shapes mem) Load at n)) _ _ _ _ (answers_alike 14 1 mem unique Silent)
      (answers_alike n 0 mem _ _))

  asked_alike : (number a0 a1 a2 : ℕ) (mem : List Block) (unique : ℕ) (input : List ℕ)
      → CallAlike (call_by_number number a0 a1 a2 s.regs mem unique input)
      (call_by_number number a0 a1 a2 other mem unique input)
  asked_alike number a0 a1 a2 mem unique input =
      either_call (number == 1) _ _ _ _ (exits_alike a0)
      (either_call (number == 3) _ _ _ _ (read_alike a0 a1 a2 mem unique input)
      (either_call (number == 4) _ _ _ _ (write_alike a0 a1 a2 mem unique) (answers_alike 78 1 mem unique Silent)))

  callsys_alike : (mem : List Block) (unique : ℕ) (input : List ℕ)
      → CallAlike (callsys (reg s.regs 0) s.regs mem unique input) (callsys (reg other 0) other mem unique input)
  callsys_alike mem unique input =
      let r0 : reg other 0 ≡ reg s.regs 0 = agree.read 0 (inr refl) in
      let r16 : reg other 16 ≡ reg s.regs 16 = agree.read 16 (inr refl) in
      let r17 : reg other 17 ≡ reg s.regs 17 = agree.read 17 (inr refl) in
      let r18 : reg other 18 ≡ reg s.regs 18 = agree.read 18 (inr refl) in
      let x = callsys (reg s.regs 0) s.regs mem unique input in
      subst (λ n. CallAlike x (call_by_number n (reg other 16) (reg other 17) (reg other 18) other mem unique input))
      (sym r0)
      (subst (λ a. CallAlike x (call_by_number (reg s.regs 0) a (reg other 17) (reg other 18) other mem unique input))
      (sym r16)
      (subst (λ a. CallAlike x (call_by_number (reg s.regs 0) (reg s.regs 16) a (reg other 18) other mem unique input))
      (sym r17)
      (subst (λ a. CallAlike x (call_by_number (reg s.regs 0) (reg s.regs 16) (reg s.regs 17) a other mem unique input))
      (sym r18)
      (asked_alike (reg s.regs 0) (reg s.regs 16) (reg s.regs 17) (reg s.regs 18) mem unique input))))

returned_alike : (function : PalCall) (s : State) (other input : List ℕ)
    → AgreeFor (Some (barrier (Some function))) s.regs other
    → GoAlike s.regs other (returned function (call function s.regs s.mem s.unique input) s)
    (returned function (call function other s.mem s.unique input) (record s { regs = other }))
unfolding call
returned_alike Bpt s other input agree = end_alike (Some (barrier (Some Bpt))) s other agree (ends.Signal 0 s.pc)
returned_alike Bugchk s other input agree = end_alike (Some (barrier (Some Bugchk))) s other agree (ends.Signal 1 s.pc)
returned_alike Gentrap s other input agree =
    end_alike (Some (barrier (Some Gentrap))) s other agree (ends.Signal 2 s.pc)
returned_alike Imb s other input agree = record { event = refl; state = refl; registers = λ r. inr (refl, refl) }
returned_alike Rdunique s other input agree = record {
  event = refl;
  state = refl;
  registers = λ r. puts (Some (barrier (Some Rdunique))) s other agree 0 s.unique s.unique r refl;
}
returned_alike Wrunique s other input agree = record {
  event = refl;
  state = ap (λ u. record (onward s) { unique = u }) (agree.read 16 (inr refl));
  registers = λ r. inr (refl, refl);
}
returned_alike Callsys s other input agree = callsys_alike s other agree s.mem s.unique input

-- ---- a step

-- by the same number in place of one that is the same
by_number : (regs other : List ℕ) (t : Stepped) (u : ℕ → Stepped) (n m : ℕ) → m ≡ n → GoAlike regs other t (u n)
    → GoAlike regs other t (u m)
by_number regs other t u n m same h = subst (λ k. GoAlike regs other t (u k)) (sym same) h

module _ (g : Program) (s : State) (other input : List ℕ) where
  abbrev too_at : State
  too_at = record s { regs = other }

  operate_alike : (op : Op) (ra : ℕ) (src : Src) (rc : ℕ) → AgreeFor (Some (operate op ra src rc)) s.regs other
      → GoAlike s.regs other (step g (Some (operate op ra src rc)) s input)
      (step g (Some (operate op ra src rc)) too_at input)
  operate_alike op ra src rc agree =
      let class = Some (operate op ra src rc) in
      let one = read_at class s other agree ra (λ low. counts_first ra _ low) in
      let two = source_at class s other agree src
      (λ x f low. counts_source (is_move op) ra rc x (source_registers src) low (source_used x src f)) in
      set_alike class s other agree rc _ _
      (ap (λ x. result_of g.image.level op x (source_value other src) (reg other rc)) one
      ∙ (ap (λ y. result_of g.image.level op (reg s.regs ra) y (reg other rc)) two
      ∙ result_of-old_unused g.image.level op (reg s.regs ra) (source_value s.regs src) (reg other rc) (reg s.regs rc)
      (λ move.
      read_at class s other agree rc (λ low. counts_moved (is_move op) ra rc (source_registers src) move low))))

  trigger_alike : (op : TrapOp) (ra : ℕ) (src : Src) (rc : ℕ) → AgreeFor (Some (trigger op ra src rc)) s.regs other
      → GoAlike s.regs other (step g (Some (trigger op ra src rc)) s input)
      (step g (Some (trigger op ra src rc)) too_at input)
  trigger_alike op ra src rc agree =
      let class = Some (trigger op ra src rc) in
      let one = read_at class s other agree ra (λ low. counts_first ra _ low) in
      let two = source_at class s other agree src
      (λ x f low. counts_source false ra rc x (source_registers src) low (source_used x src f)) in
      let t = step g (Some (trigger op ra src rc)) s input in
      by_number s.regs other t (λ a. trap g.completion op a (source_value other src) rc too_at) (reg s.regs ra)
      (reg other ra) one
      (by_number s.regs other t (λ b. trap g.completion op (reg s.regs ra) b rc too_at) (source_value s.regs src)
      (source_value other src) two
      (trap_alike class s other agree g op (reg s.regs ra) (source_value s.regs src) rc))

  load_alike : (extension : Extension) (at : MemAccess) (ra : ℕ) → AgreeFor (Some (load extension at ra)) s.regs other
      → GoAlike s.regs other (step g (Some (load extension at ra)) s input)
      (step g (Some (load extension at ra)) too_at input)
  load_alike extension at ra agree =
      let class = Some (load extension at ra) in
      let n = access_address at (reg s.regs at.base) in
      subst (λ x. GoAlike s.regs other x (step g class too_at input)) (loading_is g extension at ra s input)
      (subst (λ y. GoAlike s.regs other (load_step extension at ra n s) y) (loading_is g extension at ra too_at input)
      (by_number s.regs other (load_step extension at ra n s) (λ m. load_step extension at ra m too_at) n
      (access_address at (reg other at.base))
      (accessed_alike class s other agree at (λ low. counts_first at.base [] low))
      (loading_alike class s other agree extension at ra n)))

  load_locked_alike : (extension : Extension) (at : MemAccess) (ra : ℕ)
      → AgreeFor (Some (load_locked extension at ra)) s.regs other
      → GoAlike s.regs other (step g (Some (load_locked extension at ra)) s input)
      (step g (Some (load_locked extension at ra)) too_at input)
  load_locked_alike extension at ra agree =
      let class = Some (load_locked extension at ra) in
      let n = access_address at (reg s.regs at.base) in
      subst (λ x. GoAlike s.regs other x (step g class too_at input)) (locking_is g extension at ra s input)
      (subst (λ y. GoAlike s.regs other (locked_load_step extension at ra n s) y)
      (locking_is g extension at ra too_at input)
      (by_number s.regs other (locked_load_step extension at ra n s) (λ m. locked_load_step extension at ra m too_at) n
      (access_address at (reg other at.base))
      (accessed_alike class s other agree at (λ low. counts_first at.base [] low))
      (locking_alike class s other agree extension at ra n)))

  store_alike : (at : MemAccess) (ra : ℕ) → AgreeFor (Some (store at ra)) s.regs other
      → GoAlike s.regs other (step g (Some (store at ra)) s input) (step g (Some (store at ra)) too_at input)
  store_alike at ra agree =
      let class = Some (store at ra) in
      let t = step g class s input in
      let value = read_at class s other agree ra (λ low. counts_first ra (at.base ∷ []) low) in
      let place = accessed_alike class s other agree at (λ low. counts_second ra at.base [] low) in
      by_number s.regs other t (λ n. store_step at n (reg other ra) too_at) (access_address at (reg s.regs at.base))
      (access_address at (reg other at.base)) place
      (by_number s.regs other t (λ v. store_step at (access_address at (reg s.regs at.base)) v too_at) (reg s.regs ra)
      (reg other ra) value
      (storing_alike class s other agree at (access_address at (reg s.regs at.base)) (reg s.regs ra)))

  store_conditional_alike : (at : MemAccess) (ra : ℕ) → AgreeFor (Some (store_conditional at ra)) s.regs other
      → GoAlike s.regs other (step g (Some (store_conditional at ra)) s input)
      (step g (Some (store_conditional at ra)) too_at input)
  store_conditional_alike at ra agree =
      let class = Some (store_conditional at ra) in
      let n = access_address at (reg s.regs at.base) in
      let t = conditional_store_step at ra n (reg s.regs ra) s in
      let value = read_at class s other agree ra (λ low. counts_first ra (at.base ∷ []) low) in
      let place = accessed_alike class s other agree at (λ low. counts_second ra at.base [] low) in
      subst (λ x. GoAlike s.regs other x (step g class too_at input)) (trying_is g at ra s input)
      (subst (λ y. GoAlike s.regs other t y) (trying_is g at ra too_at input)
      (by_number s.regs other t (λ m. conditional_store_step at ra m (reg other ra) too_at) n
      (access_address at (reg other at.base)) place
      (by_number s.regs other t (λ v. conditional_store_step at ra n v too_at) (reg s.regs ra) (reg other ra) value
      (trying_alike class s other agree at ra n (reg s.regs ra)))))

  branch_alike : (c : Cond) (ra : ℕ) (disp : ℤ) → AgreeFor (Some (branch (Some c) ra disp)) s.regs other
      → GoAlike s.regs other (step g (Some (branch (Some c) ra disp)) s input)
      (step g (Some (branch (Some c) ra disp)) too_at input)
  branch_alike c ra disp agree =
      let class = Some (branch (Some c) ra disp) in
      let pc : Bool → State → Stepped = λ b z. went (record z { pc = cond b (branch_target z disp) (next_pc z) }) in
      by_number s.regs other (step g class s input) (λ v. pc (is_taken c v) too_at) (reg s.regs ra) (reg other ra)
      (read_at class s other agree ra (λ low. counts_first ra [] low))
      (record { event = refl; state = refl; registers = stays class s other agree })

  jump_alike : (ra rb : ℕ) → AgreeFor (Some (jump ra rb)) s.regs other
      → GoAlike s.regs other (step g (Some (jump ra rb)) s input) (step g (Some (jump ra rb)) too_at input)
  jump_alike ra rb agree =
      let class = Some (jump ra rb) in
      by_number s.regs other (step g class s input)
      (λ v. went (record too_at { regs = put other ra (next_pc s); pc = v / 4 * 4 })) (reg s.regs rb) (reg other rb)
      (read_at class s other agree rb (λ low. counts_first rb [] low))
      (record {
        event = refl;
        state = refl;
        registers = λ r. puts class s other agree ra (next_pc s) (next_pc s) r refl;
      })

pub step_alike : (g : Program) (class : Option Class) (s : State) (other input : List ℕ) → AgreeFor class s.regs other
    → GoAlike s.regs other (step g class s input) (step g class (record s { regs = other }) input)
step_alike g None s other input agree = end_alike None s other agree (ends.Fetch s.pc)
step_alike g (Some (operate op ra src rc)) s other input agree = operate_alike g s other input op ra src rc agree
step_alike g (Some (trigger op ra src rc)) s other input agree = trigger_alike g s other input op ra src rc agree
step_alike g (Some (address op ra rb disp)) s other input agree =
    let class = Some (address op ra rb disp) in
    set_alike class s other agree ra _ _
    (ap (λ x. lda_value op x disp) (read_at class s other agree rb (λ low. counts_first rb [] low)))
step_alike g (Some (load extension at ra)) s other input agree = load_alike g s other input extension at ra agree
step_alike g (Some (store at ra)) s other input agree = store_alike g s other input at ra agree
step_alike g (Some (load_locked extension at ra)) s other input agree =
    load_locked_alike g s other input extension at ra agree
step_alike g (Some (store_conditional at ra)) s other input agree = store_conditional_alike g s other input at ra agree
step_alike g (Some (branch None ra disp)) s other input agree = record {
  event = refl;
  state = refl;
  registers = λ r. puts (Some (branch None ra disp)) s other agree ra (next_pc s) (next_pc s) r refl;
}
step_alike g (Some (branch (Some c) ra disp)) s other input agree = branch_alike g s other input c ra disp agree
step_alike g (Some (jump ra rb)) s other input agree = jump_alike g s other input ra rb agree
step_alike g (Some (barrier None)) s other input agree =
    record { event = refl; state = refl; registers = λ r. inr (refl, refl) }
step_alike g (Some (barrier (Some function))) s other input agree = returned_alike function s other input agree
step_alike g (Some idle) s other input agree = record { event = refl; state = refl; registers = λ r. inr (refl, refl) }
