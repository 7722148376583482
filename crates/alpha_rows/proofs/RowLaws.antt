-- What follows from what a row says.
use Rattle.std.proofs.Common.{◌≡◌, ℕ, ◌+◌, ◌*◌, ◌%◌, ◌/◌, ◌-◌, ◌^◌, ◌<◌, ◌≤◌, ℤ, pos, ◌+ℤ◌, Bool}
use Rattle.std.proofs.Common.{true, false, cond, List, length, slice_get, Option, Some, None, refl, sym}
use Rattle.std.proofs.Common.{ap, subst, ◌∙◌, arith}
use Rattle.std.specs.Int.{w16}
use Rattle.std.specs.Option.{option_and_then}
use Rattle.std.proofs.lemmas.Int.{ints}
use Rattle.std.proofs.lemmas.Option.{slice_get_within}
use Rattle.alpha_words.specs.Regs.{reg, put}
use Rattle.alpha_words.specs.declared.Level.{Level}
use Rattle.alpha_table.specs.declared.op.Cond.{Cond}
use Rattle.alpha_table.specs.declared.rows.MemOp.{MemOp}
use Rattle.alpha_table.specs.declared.form.Form.{Form}
use Rattle.alpha_table.specs.declared.form.Form.TheVariants.{Mem, Operate}
use Rattle.alpha_table.specs.Class.{Class, operate, trigger, address, load, store, load_locked, store_conditional}
use Rattle.alpha_table.specs.Class.{branch, jump, barrier, idle}
use Rattle.alpha_table.specs.ClassOf.{class_of}
use Rattle.alpha_table.specs.Decoded.{decoded}
use Rattle.alpha_values.specs.Numbers.{signed, register_of}
use Rattle.alpha_values.specs.Cond.{is_taken}
use Rattle.alpha_values.proofs.MachineWords.{register_of-mod}
use Rattle.alpha_mem.specs.Block.{Block}
use Rattle.alpha_image.specs.Parts.{Parts, IsImage}
use Rattle.alpha_seq.specs.State.{State, Went, Stepped, stepped}
use Rattle.alpha_seq.specs.Step.{next_pc}
use Rattle.alpha_seq.specs.Machine.{state_of}
use Rattle.alpha_seq.specs.FastSteps.{machine_at, ExecutesFast}
use Rattle.alpha_seq.proofs.FastStepLaws.{next_place, ExecutesFast-operate, ExecutesFast-idle, ExecutesFast-turn}
use Rattle.alpha_seq.proofs.FastStepLaws.{ExecutesFast-branch}
use Rattle.alpha_rows.specs.declared.row.Row.{Row}
use Rattle.alpha_rows.specs.Meaning.{RowMeaning, leaves, idles, operates, accesses, tests, branches, links, jumps}
use Rattle.alpha_rows.specs.Meaning.{meaning_of, source_in, IsIdle, BranchesTo, Denotes, value_in}
use Rattle.alpha_rows.specs.Rows.{DenotesInsn, IsRowAt, ExecutesRow}

-- ---- places

pub decoded-within : (words : List ℕ) (k : ℕ) (i : Form) → option_and_then decoded (slice_get words k) ≡ Some i
    → k < length words
decoded-within words k i e = by (slice_get words k) refl e
  where
    by : (o : Option ℕ) → slice_get words k ≡ o → option_and_then decoded o ≡ Some i → k < length words
    by None is h = absurd cc
    by (Some w) is h = slice_get_within words k w is

pub decoded-next_within : (p : Parts) (k : ℕ) (i : Form) → option_and_then decoded (slice_get p.words k) ≡ Some i
    → (k + 1) % 2 ^ 64 ≤ length p.words
decoded-next_within p k i e = let below = decoded-within p.words k i e in omega arith

-- ---- each kind of row

pub ExecutesRow-operate : (level : Level) (p : Parts) (regs : List ℕ) (mem : List Block) (k v : ℕ) (s : Row)
    → p.level ≡ level → IsRowAt p k s
    → Some v ≡ value_in level (meaning_of s.op) s regs
    → ExecutesRow p regs mem k (put regs s.c v) mem ((k + 1) % 2 ^ 64)
ExecutesRow-operate level p regs mem k v s levels row is = by (meaning_of s.op) refl is
  where
    by : (meaning : RowMeaning) → meaning_of s.op ≡ meaning → Some v ≡ value_in level meaning s regs
        → ExecutesRow p regs mem k (put regs s.c v) mem ((k + 1) % 2 ^ 64)
    by (operates op literal) e h =
        let st : DenotesInsn p k s = row (λ l. let no : operates op literal ≡ leaves = sym e ∙ l in cc) in
        let said : st.insn ≡ Operate op s.a (source_in literal s) s.c =
        subst (λ (w : RowMeaning). Denotes w s (length p.words) k st.insn) e st.denoted in
        record {
          insn = st.insn;
          there = st.there;
          executes =
              subst (λ (i : Form). ExecutesFast p (class_of i) regs mem k (put regs s.c v) mem ((k + 1) % 2 ^ 64))
              (sym said)
              (ExecutesFast-operate level op s.a (source_in literal s) s.c regs mem k v p h levels);
          within = decoded-next_within p k st.insn st.there;
        }
    by leaves e h = absurd cc
    by idles e h = absurd cc
    by (accesses op) e h = absurd cc
    by (tests c) e h = absurd cc
    by branches e h = absurd cc
    by links e h = absurd cc
    by jumps e h = absurd cc

pub ExecutesRow-access : (op : MemOp) (p : Parts) (regs regs' : List ℕ) (mem mem' : List Block) (k k' : ℕ) (s : Row)
    → IsRowAt p k s → meaning_of s.op ≡ accesses op
    → k' ≡ (k + 1) % 2 ^ 64 → ExecutesFast p (class_of (Mem op s.a s.b (signed w16 s.imm))) regs mem k regs' mem' k'
    → ExecutesRow p regs mem k regs' mem' k'
ExecutesRow-access op p regs regs' mem mem' k k' s row e next passes =
    let st : DenotesInsn p k s = row (λ l. let no : accesses op ≡ leaves = sym e ∙ l in cc) in
    let said : st.insn ≡ Mem op s.a s.b (signed w16 s.imm) =
    subst (λ (w : RowMeaning). Denotes w s (length p.words) k st.insn) e st.denoted in
    record {
      insn = st.insn;
      there = st.there;
      executes = subst (λ (i : Form). ExecutesFast p (class_of i) regs mem k regs' mem' k') (sym said) passes;
      within = subst (λ (n : ℕ). n ≤ length p.words) (sym next) (decoded-next_within p k st.insn st.there);
    }

-- a write of R31 is none
put-zero : (regs : List ℕ) (r value : ℕ) → r ≡ 31 → put regs r value ≡ regs
unfolding put
put-zero regs r value e = rw e refl

-- the step that a word makes
abbrev fast_step : State → List ℕ → List Block → ℕ → Stepped
fast_step s regs mem pc = stepped (record s { regs = regs; mem = mem; pc = pc }) Went

ExecutesFast-IsIdle : (class : Class) (p : Parts) (regs : List ℕ) (mem : List Block) (k : ℕ) → IsIdle class
    → ExecutesFast p class regs mem k regs mem ((k + 1) % 2 ^ 64)
ExecutesFast-IsIdle idle p regs mem k h = ExecutesFast-idle regs mem k p
ExecutesFast-IsIdle (operate op ra src rc) p regs mem k h = record {
  does = λ m same. record {
    is = λ input.
        let s = state_of (machine_at m regs mem k) in
        ap (λ (l : List ℕ). fast_step s l mem (next_pc s)) (put-zero regs rc _ h) ∙ ap (fast_step s regs mem)
        (next_place m.image.code_base k);
    program = refl;
    kernel = refl;
  };
}
ExecutesFast-IsIdle (address op ra rb disp) p regs mem k h = record {
  does = λ m same. record {
    is = λ input.
        let s = state_of (machine_at m regs mem k) in
        ap (λ (l : List ℕ). fast_step s l mem (next_pc s)) (put-zero regs ra _ h) ∙ ap (fast_step s regs mem)
        (next_place m.image.code_base k);
    program = refl;
    kernel = refl;
  };
}
ExecutesFast-IsIdle (trigger op ra src rc) p regs mem k h = absurd h
ExecutesFast-IsIdle (load extension at ra) p regs mem k h = absurd h
ExecutesFast-IsIdle (store at ra) p regs mem k h = absurd h
ExecutesFast-IsIdle (load_locked extension at ra) p regs mem k h = absurd h
ExecutesFast-IsIdle (store_conditional at ra) p regs mem k h = absurd h
ExecutesFast-IsIdle (branch c ra disp) p regs mem k h = absurd h
ExecutesFast-IsIdle (jump ra rb) p regs mem k h = absurd h
ExecutesFast-IsIdle (barrier call) p regs mem k h = absurd h

pub ExecutesRow-idle : (p : Parts) (regs : List ℕ) (mem : List Block) (k k' : ℕ) (s : Row) → IsRowAt p k s
    → meaning_of s.op ≡ idles → k' ≡ (k + 1) % 2 ^ 64
    → ExecutesRow p regs mem k regs mem k'
ExecutesRow-idle p regs mem k k' s row e next =
    let st : DenotesInsn p k s = row (λ l. let no : idles ≡ leaves = sym e ∙ l in cc) in
    let said : IsIdle (class_of st.insn) =
    subst (λ (w : RowMeaning). Denotes w s (length p.words) k st.insn) e st.denoted in
    record {
      insn = st.insn;
      there = st.there;
      executes =
          subst (λ (n : ℕ). ExecutesFast p (class_of st.insn) regs mem k regs mem n) (sym next)
          (ExecutesFast-IsIdle (class_of st.insn) p regs mem k said);
      within = subst (λ (n : ℕ). n ≤ length p.words) (sym next) (decoded-next_within p k st.insn st.there);
    }

-- the target of a branch, as the definitions count it
BranchesTo-place : (k target n : ℕ) (disp : ℤ) → pos target ≡ pos (k + 1) +ℤ disp → target ≤ n → n < 2 ^ 62 → k < n
    → register_of (pos ((k + 1) % 2 ^ 64) +ℤ disp) ≡ target
BranchesTo-place k target n disp e within small below =
    let plain : (k + 1) % 2 ^ 64 ≡ k + 1 = omega arith in
    ap (λ (m : ℕ). register_of (pos m +ℤ disp)) plain
    ∙ (ap register_of (sym e) ∙ (register_of-mod (pos target) 0 target (omega (arith, ints)) ∙ omega arith))

pub ExecutesRow-branch : (c : Cond) (p : Parts) (regs : List ℕ) (mem : List Block) (k k' : ℕ) (taken : Bool) (s : Row)
    → IsImage p → IsRowAt p k s → meaning_of s.op ≡ tests c
    → is_taken c (reg regs s.a) ≡ taken → k' ≡ cond taken s.imm ((k + 1) % 2 ^ 64)
    → ExecutesRow p regs mem k regs mem k'
ExecutesRow-branch c p regs mem k k' taken s good row e takes is =
    let st : DenotesInsn p k s = row (λ l. let no : tests c ≡ leaves = sym e ∙ l in cc) in
    let said : BranchesTo (Some c) s.a s.imm (length p.words) k (class_of st.insn) =
    subst (λ (w : RowMeaning). Denotes w s (length p.words) k st.insn) e st.denoted in
    let words = good.fields.words in
    let at : register_of (pos ((k + 1) % 2 ^ 64) +ℤ said.disp) ≡ s.imm =
    BranchesTo-place k s.imm (length p.words) said.disp said.there said.within (omega arith)
    (decoded-within p.words k st.insn st.there) in
    record {
      insn = st.insn;
      there = st.there;
      executes =
          subst (λ (class : Class). ExecutesFast p class regs mem k regs mem k') (sym said.is)
          (ExecutesFast-branch c s.a said.disp regs mem k k' taken p said.fits takes
          (is ∙ ap (λ (t : ℕ). cond taken t ((k + 1) % 2 ^ 64)) (sym at)));
      within =
          subst (λ (n : ℕ). n ≤ length p.words) (sym is)
          (by taken said.within (decoded-next_within p k st.insn st.there));
    }
  where
    by : (b : Bool) → s.imm ≤ length p.words → (k + 1) % 2 ^ 64 ≤ length p.words
        → cond b s.imm ((k + 1) % 2 ^ 64) ≤ length p.words
    by true a b = a
    by false a b = b

ExecutesRow-unconditional : (ra : ℕ) (p : Parts) (regs : List ℕ) (mem : List Block) (k next : ℕ) (s : Row) → IsImage p
    → (st : DenotesInsn p k s) → BranchesTo None ra s.imm (length p.words) k (class_of st.insn)
    → next ≡ (p.code_base + 4 * ((k + 1) % 2 ^ 64)) % 2 ^ 64 → ExecutesRow p regs mem k (put regs ra next) mem s.imm
ExecutesRow-unconditional ra p regs mem k next s good st said is =
    let words = good.fields.words in
    let at : register_of (pos ((k + 1) % 2 ^ 64) +ℤ said.disp) ≡ s.imm =
    BranchesTo-place k s.imm (length p.words) said.disp said.there said.within (omega arith)
    (decoded-within p.words k st.insn st.there) in
    record {
      insn = st.insn;
      there = st.there;
      executes =
          subst (λ (class : Class). ExecutesFast p class regs mem k (put regs ra next) mem s.imm) (sym said.is)
          (subst (λ (t : ℕ). ExecutesFast p (branch None ra said.disp) regs mem k (put regs ra next) mem t) at
          (ExecutesFast-turn ra said.disp regs mem k next p said.fits is));
      within = said.within;
    }

pub ExecutesRow-link : (p : Parts) (regs regs' : List ℕ) (mem : List Block) (k next : ℕ) (s : Row) → IsImage p
    → IsRowAt p k s → meaning_of s.op ≡ links
    → next ≡ (p.code_base + 4 * ((k + 1) % 2 ^ 64)) % 2 ^ 64 → regs' ≡ put regs s.a next
    → ExecutesRow p regs mem k regs' mem s.imm
ExecutesRow-link p regs regs' mem k next s good row e is left =
    let st : DenotesInsn p k s = row (λ l. let no : links ≡ leaves = sym e ∙ l in cc) in
    let said : BranchesTo None s.a s.imm (length p.words) k (class_of st.insn) =
    subst (λ (w : RowMeaning). Denotes w s (length p.words) k st.insn) e st.denoted in
    subst (λ (l : List ℕ). ExecutesRow p regs mem k l mem s.imm) (sym left)
    (ExecutesRow-unconditional s.a p regs mem k next s good st said is)

pub ExecutesRow-branch_always : (p : Parts) (regs : List ℕ) (mem : List Block) (k : ℕ) (s : Row) → IsImage p
    → IsRowAt p k s → meaning_of s.op ≡ branches → ExecutesRow p regs mem k regs mem s.imm
ExecutesRow-branch_always p regs mem k s good row e =
    let st : DenotesInsn p k s = row (λ l. let no : branches ≡ leaves = sym e ∙ l in cc) in
    let said : BranchesTo None 31 s.imm (length p.words) k (class_of st.insn) =
    subst (λ (w : RowMeaning). Denotes w s (length p.words) k st.insn) e st.denoted in
    let next = (p.code_base + 4 * ((k + 1) % 2 ^ 64)) % 2 ^ 64 in
    subst (λ (l : List ℕ). ExecutesRow p regs mem k l mem s.imm) (put-zero regs 31 next refl)
    (ExecutesRow-unconditional 31 p regs mem k next s good st said refl)

jump-address_of_place : (base target to : ℕ) → base % 8192 ≡ 0 → base < 2 ^ 30 → target % 4 ≡ 0 → target < 2 ^ 64
    → to ≡ (target + (2 ^ 64 - base)) % 2 ^ 64 / 4 → target ≡ (base + 4 * to) % 2 ^ 64
jump-address_of_place base target to a b c d e = omega arith

pub ExecutesRow-jump : (p : Parts) (regs regs' : List ℕ) (mem : List Block) (k next target to : ℕ) (s : Row) → IsImage p
    → IsRowAt p k s → meaning_of s.op ≡ jumps
    → next ≡ (p.code_base + 4 * ((k + 1) % 2 ^ 64)) % 2 ^ 64 → regs' ≡ put regs s.a next → target ≡ reg regs s.b / 4 * 4
    → target < 2 ^ 64
    → to ≡ (target + (2 ^ 64 - p.code_base)) % 2 ^ 64 / 4 → to ≤ length p.words → ExecutesRow p regs mem k regs' mem to
ExecutesRow-jump p regs regs' mem k next target to s good row e is left at small there within =
    let st : DenotesInsn p k s = row (λ l. let no : jumps ≡ leaves = sym e ∙ l in cc) in
    let said : class_of st.insn ≡ jump s.a s.b =
    subst (λ (w : RowMeaning). Denotes w s (length p.words) k st.insn) e st.denoted in
    let base = good.fields.code_base in
    let address : target ≡ (p.code_base + 4 * to) % 2 ^ 64 =
    jump-address_of_place p.code_base target to base.0 base.1 (omega (arith, at)) small there in
    record {
      insn = st.insn;
      there = st.there;
      executes = subst (λ (class : Class). ExecutesFast p class regs mem k regs' mem to) (sym said) (record {
        does = λ m same. record {
          is = λ input.
              let now = state_of (machine_at m regs mem k) in
              let next_is : next_pc now ≡ next =
              next_place m.image.code_base k ∙ (ap (λ (q : Parts). (q.code_base + 4 * ((k + 1) % 2 ^ 64)) % 2 ^ 64) same
              ∙ sym is) in
              ap (λ (n : ℕ). fast_step now (put regs s.a n) mem (reg regs s.b / 4 * 4)) next_is
              ∙ (ap (λ (l : List ℕ). fast_step now l mem (reg regs s.b / 4 * 4)) (sym left)
              ∙ ap (fast_step now regs' mem) (sym at
              ∙ (address ∙ ap (λ (q : Parts). (q.code_base + 4 * to) % 2 ^ 64) (sym same))));
          program = refl;
          kernel = refl;
        };
      });
      within = within;
    }
