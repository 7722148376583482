-- The ten words behind a trial's blocks: they put eight bytes and exit with 0.
use Rattle.std.proofs.Common.{◌≡◌, ◌≤◌, ◌+◌, ◌*◌, ℕ, pos, true, false, List, [], ◌∷◌, length, Option, Some, None, refl}
use Rattle.std.proofs.Common.{sym, ap, subst, ◌∙◌, arith, append-nil, length-append, add-one, bit_or}
use Rattle.alpha_words.specs.declared.Level.{Level}
use Rattle.alpha_words.specs.declared.Level.TheVariants.{One}
use Rattle.alpha_words.specs.declared.PalCall.TheVariants.{Callsys}
use Rattle.alpha_words.specs.Digits.{low_bytes}
use Rattle.alpha_words.specs.Regs.{reg, put}
use Rattle.alpha_words.proofs.RegLemmas.{length-put}
use Rattle.alpha_table.specs.declared.op.Op.TheVariants.{Bis}
use Rattle.alpha_table.specs.declared.rows.MemOp.TheVariants.{Lda, Ldah}
use Rattle.alpha_table.specs.declared.columns.MemAccess.{MemAccess}
use Rattle.alpha_table.specs.declared.form.Src.TheVariants.{Reg}
use Rattle.alpha_table.specs.Class.{operate, address, store, barrier}
use Rattle.alpha_table.specs.Code.{class_at}
use Rattle.alpha_table.specs.Words.{class_in}
use Rattle.alpha_values.specs.Numbers.{register_of}
use Rattle.alpha_values.specs.Op.{result_of}
use Rattle.alpha_values.specs.Address.{address_of, high_address_of, access_address}
use Rattle.alpha_mem.specs.declared.access.MemFault.{MemFault}
use Rattle.alpha_mem.specs.Intent.{Load, Store}
use Rattle.alpha_mem.specs.Block.{Block, shapes, within}
use Rattle.alpha_mem.specs.Fault.{fault_of}
use Rattle.alpha_mem.specs.Memory.{bytes_at, write_bytes}
use Rattle.alpha_pal.specs.Call.{Wrote, Called, continues, exits, call}
use Rattle.alpha_image.specs.Parts.{Parts}
use Rattle.alpha_seq.specs.declared.end.End.TheVariants.{Exit}
use Rattle.alpha_seq.specs.State.{State, Stepped, stepped, Ends}
use Rattle.alpha_seq.specs.Start.{start_memory, start}
use Rattle.alpha_seq.specs.Step.{onward, unless, returned, step}
use Rattle.alpha_seq.specs.Run.{Run, output, is_over, extended_by, advance, after}
use Rattle.alpha_run.proofs.StepRows.{output-append}
use Rattle.alpha_seq.proofs.RunsOverInput.{after-over}
use Rattle.alpha_trial.specs.Words.{program_words, trial_image}
use Rattle.alpha_trial.specs.Report.{wrapping, sequential_run}
use Rattle.alpha_trial.specs.Lines.{Exits}
use Rattle.alpha_trial.proofs.WordCounts.{program_size}
use Rattle.alpha_trial.proofs.DataBuffer.{data_base, HoldsEight, buffer-fault_of, buffer_written-HoldsEight}
use Rattle.alpha_trial.proofs.RunStages.{RegisterFact, register_fact, HoldsFacts, StageReached, LeavesFacts, Stage}
use Rattle.alpha_trial.proofs.RunStages.{trial_program}
use Rattle.alpha_trial.proofs.RunStages.{advance-at_class, next_stage}
use Rattle.alpha_trial.proofs.RunStages.{setting_leaves, address_stage, HasFacts-put}
use Rattle.alpha_trial.proofs.StepsWithoutEffect.{zero_register_fact, ending_class, blocks_stage}

-- ---- the words

abbrev data_access : MemAccess
data_access = record { base = 8; disp = pos 0; bytes = 8; clears = false }

record Words (n : ℕ) : Type 0 where
  word0 : class_at (program_words n) (9 * n) ≡ Some (address Ldah 8 31 (pos 4096))
  word1 : class_at (program_words n) (9 * n + 1) ≡ Some (store data_access 7)
  word2 : class_at (program_words n) (9 * n + 2) ≡ Some (address Lda 16 31 (pos 1))
  word3 : class_at (program_words n) (9 * n + 3) ≡ Some (operate Bis 31 (Reg 8) 17)
  word4 : class_at (program_words n) (9 * n + 4) ≡ Some (address Lda 18 31 (pos 8))
  word5 : class_at (program_words n) (9 * n + 5) ≡ Some (address Lda 0 31 (pos 4))
  word6 : class_at (program_words n) (9 * n + 6) ≡ Some (barrier (Some Callsys))
  word7 : class_at (program_words n) (9 * n + 7) ≡ Some (address Lda 16 31 (pos 0))
  word8 : class_at (program_words n) (9 * n + 8) ≡ Some (address Lda 0 31 (pos 1))
  word9 : class_at (program_words n) (9 * n + 9) ≡ Some (barrier (Some Callsys))

words_are : (n : ℕ) → Words n
unfolding class_at class_in
words_are n =
    let at = ending_class n in
    record {
      word0 = ap (class_at (program_words n)) (let e : 9 * n ≡ 9 * n + 0 = omega arith in e) ∙ at 0;
      word1 = at 1;
      word2 = at 2;
      word3 = at 3;
      word4 = at 4;
      word5 = at 5;
      word6 = at 6;
      word7 = at 7;
      word8 = at 8;
      word9 = at 9;
    }

-- ---- what they compute

low_address : (regs : List ℕ) (d w : ℕ) → address_of 0 (pos d) ≡ w → reg regs 31 ≡ 0
    → address_of (reg regs 31) (pos d) ≡ w
low_address regs d w e zero_is = ap (λ (x : ℕ). address_of x (pos d)) zero_is ∙ e

record Numbers : Type 0 where
  zero_is : address_of 0 (pos 0) ≡ 0
  one : address_of 0 (pos 1) ≡ 1
  four : address_of 0 (pos 4) ≡ 4
  eight : address_of 0 (pos 8) ≡ 8
  data_start : high_address_of 0 (pos 4096) ≡ data_base
  data_there : access_address data_access data_base ≡ data_base

numbers : Numbers
unfolding address_of high_address_of access_address register_of
numbers = record { zero_is = refl; one = refl; four = refl; eight = refl; data_start = refl; data_there = refl }

-- ---- facts

abbrev facts1 : List RegisterFact
facts1 = register_fact 8 data_base ∷ zero_register_fact

abbrev facts3 : List RegisterFact
facts3 = register_fact 16 1 ∷ facts1

abbrev facts4 : List RegisterFact
facts4 = register_fact 17 data_base ∷ facts3

abbrev facts5 : List RegisterFact
facts5 = register_fact 18 8 ∷ facts4

abbrev facts6 : List RegisterFact
facts6 = register_fact 0 4 ∷ facts5

abbrev facts8 : List RegisterFact
facts8 = register_fact 16 0 ∷ zero_register_fact

abbrev facts9 : List RegisterFact
facts9 = register_fact 0 1 ∷ facts8

-- ---- the store

store_leaves : (image : Parts) (facts : List RegisterFact) (mem : List Block) (s : State) → reg s.regs 8 ≡ data_base
    → fault_of (shapes mem) Store data_base 8 ≡ None → HoldsFacts facts mem s
    → LeavesFacts facts (write_bytes mem data_base (low_bytes 8 (reg s.regs 7))) [] s
    (step (wrapping image) (Some (store data_access 7)) s [])
store_leaves image facts mem s at none h =
    let place = access_address data_access (reg s.regs 8) in
    let bytes = low_bytes 8 (reg s.regs 7) in
    let there : place ≡ data_base = ap (access_address data_access) at ∙ numbers.data_there in
    let fine : fault_of (shapes s.mem) Store place 8 ≡ None =
    ap (λ (a : ℕ). fault_of (shapes s.mem) Store a 8) there
    ∙ (ap (λ (m : List Block). fault_of (shapes m) Store data_base 8) h.memory ∙ none) in
    let behind : State = record (onward s) { mem = write_bytes s.mem place bytes } in
    subst (λ (t : Stepped). LeavesFacts facts (write_bytes mem data_base bytes) [] s t)
    (sym (ap (λ (o : Option MemFault). unless o place s behind) fine))
    (record {
      going = refl;
      pc = refl;
      puts = refl;
      there = record {
        size = h.size;
        known = h.known;
        memory =
            ap (λ (a : ℕ). write_bytes s.mem a bytes) there
            ∙ ap (λ (m : List Block). write_bytes m data_base bytes) h.memory;
      };
    })

-- ---- the system calls

callsys-write : (regs : List ℕ) (mem : List Block) (unique : ℕ) → reg regs 0 ≡ 4 → reg regs 16 ≡ 1
    → reg regs 17 ≡ data_base
    → reg regs 18 ≡ 8
    → within (shapes mem) Load data_base 8 ≡ true
    → call Callsys regs mem unique []
    ≡ continues (put (put regs 0 8) 19 0) mem unique (Wrote (bytes_at mem data_base 8))
unfolding call
callsys-write regs mem unique number a0 a1 a2 readable = rw (number, a0, a1, a2, readable) refl

callsys-exit : (regs : List ℕ) (mem : List Block) (unique : ℕ) → reg regs 0 ≡ 1 → reg regs 16 ≡ 0
    → call Callsys regs mem unique [] ≡ exits 0
unfolding call
callsys-exit regs mem unique number a0 = rw (number, a0) refl

write_leaves : (image : Parts) (mem : List Block) (s : State) → HoldsEight mem → HoldsFacts facts6 mem s
    → LeavesFacts zero_register_fact mem (bytes_at mem data_base 8) s
    (step (wrapping image) (Some (barrier (Some Callsys))) s [])
write_leaves image mem s eight h =
    let k = h.known in
    let readable : within (shapes s.mem) Load data_base 8 ≡ true =
    ap (λ (m : List Block). within (shapes m) Load data_base 8) h.memory ∙ eight.readable in
    let does = callsys-write s.regs s.mem s.unique k.0 k.1.1.1.0 k.1.1.0 k.1.0 readable in
    subst (λ (t : Stepped). LeavesFacts zero_register_fact mem (bytes_at mem data_base 8) s t)
    (sym (ap (λ (c : Called). returned Callsys c s) does))
    (record {
      going = refl;
      pc = refl;
      puts = ap (λ (m : List Block). bytes_at m data_base 8) h.memory;
      there = record {
        size = length-put (put s.regs 0 8) 19 0 ∙ (length-put s.regs 0 8 ∙ h.size);
        known =
            HasFacts-put zero_register_fact (put s.regs 0 8) 19 0 refl
            (HasFacts-put zero_register_fact s.regs 0 8 refl (k.1.1.1.1.1));
        memory = h.memory;
      };
    })

result_of-bis : (level : Level) (a b old : ℕ) → a ≡ 0 → b ≡ data_base → result_of level Bis a b old ≡ data_base
unfolding result_of
result_of-bis level a b old e f = ap (λ (x : ℕ). bit_or x b) e ∙ f

-- ---- the steps

abbrev exit_memory : ℕ → List Block
exit_memory n = start_memory (trial_image n)

module _ (n : ℕ) (most : n ≤ 20000) where
  few : length (program_words n) ≤ 200000
  few = omega (arith, program_size n)

  stage1 : Stage n (9 * n + 1) facts1 (exit_memory n) []
  stage1 =
      address_stage n (9 * n) (9 * n + 1) Ldah 8 31 (pos 4096) data_base zero_register_fact (exit_memory n) [] most refl
      (words_are n).word0 (omega arith) refl
      (λ regs known. ap (λ (x : ℕ). high_address_of x (pos 4096)) known.0 ∙ numbers.data_start)
      (blocks_stage n (9 * n) most (omega arith))

  -- the state before the store
  abbrev before : State
  before = (after (trial_program n) (start (trial_program n)) [] (9 * n + 1)).at.state

  abbrev buffer : List Block
  buffer = write_bytes (exit_memory n) data_base (low_bytes 8 (reg before.regs 7))

  buffer_eight : HoldsEight buffer
  buffer_eight = buffer_written-HoldsEight (program_words n) 65536 (reg before.regs 7) few

  abbrev put_bytes : List ℕ
  put_bytes = bytes_at buffer data_base 8

  stage2 : Stage n (9 * n + 2) facts1 buffer []
  stage2 =
      next_stage n most (9 * n + 1) (9 * n + 2) (store data_access 7) facts1 facts1 (exit_memory n) buffer [] []
      (omega arith) (words_are n).word1 stage1
      (store_leaves (trial_image n) facts1 (exit_memory n) before stage1.here.known.0
      (buffer-fault_of (program_words n) 65536) stage1.here)

  stage3 : Stage n (9 * n + 3) facts3 buffer []
  stage3 =
      address_stage n (9 * n + 2) (9 * n + 3) Lda 16 31 (pos 1) 1 facts1 buffer [] most (omega arith)
      (words_are n).word2 (omega arith) refl
      (λ regs known. low_address regs 1 1 numbers.one known.1.0)
      stage2

  stage4 : Stage n (9 * n + 4) facts4 buffer []
  stage4 =
      let s : State = (after (trial_program n) (start (trial_program n)) [] (9 * n + 3)).at.state in
      let h = stage3.here in
      next_stage n most (9 * n + 3) (9 * n + 4) (operate Bis 31 (Reg 8) 17) facts3 facts4 buffer buffer [] []
      (omega arith) (words_are n).word3 stage3
      (setting_leaves facts3 buffer s 17 (result_of One Bis (reg s.regs 31) (reg s.regs 8) (reg s.regs 17)) data_base
      (omega arith) refl
      (result_of-bis One (reg s.regs 31) (reg s.regs 8) (reg s.regs 17) h.known.1.1.0 h.known.1.0) h)

  stage5 : Stage n (9 * n + 5) facts5 buffer []
  stage5 =
      address_stage n (9 * n + 4) (9 * n + 5) Lda 18 31 (pos 8) 8 facts4 buffer [] most (omega arith)
      (words_are n).word4 (omega arith) refl
      (λ regs known. low_address regs 8 8 numbers.eight known.1.1.1.0)
      stage4

  stage6 : Stage n (9 * n + 6) facts6 buffer []
  stage6 =
      address_stage n (9 * n + 5) (9 * n + 6) Lda 0 31 (pos 4) 4 facts5 buffer [] most (omega arith) (words_are n).word5
      (omega arith) refl
      (λ regs known. low_address regs 4 4 numbers.four known.1.1.1.1.0)
      stage5

  stage7 : Stage n (9 * n + 7) zero_register_fact buffer put_bytes
  stage7 =
      let s : State = (after (trial_program n) (start (trial_program n)) [] (9 * n + 6)).at.state in
      next_stage n most (9 * n + 6) (9 * n + 7) (barrier (Some Callsys)) facts6 zero_register_fact buffer buffer
      [] put_bytes
      (omega arith) (words_are n).word6 stage6
      (write_leaves (trial_image n) buffer s buffer_eight stage6.here)

  stage8 : Stage n (9 * n + 8) facts8 buffer put_bytes
  stage8 =
      address_stage n (9 * n + 7) (9 * n + 8) Lda 16 31 (pos 0) 0 zero_register_fact buffer put_bytes most (omega arith)
      (words_are n).word7 (omega arith) refl
      (λ regs known. low_address regs 0 0 numbers.zero_is known.0)
      stage7

  stage9 : Stage n (9 * n + 9) facts9 buffer put_bytes
  stage9 =
      address_stage n (9 * n + 8) (9 * n + 9) Lda 0 31 (pos 1) 1 facts8 buffer put_bytes most (omega arith)
      (words_are n).word8 (omega arith) refl
      (λ regs known. low_address regs 1 1 numbers.one known.1.0)
      stage8

  exit_step : (k : ℕ) (r : Run) → class_at (program_words n) k ≡ Some (barrier (Some Callsys))
      → StageReached n k facts9 buffer put_bytes r → Exits (k + 1) (advance (trial_program n) r)
  exit_step k r there s =
      let h = s.here in
      let t : Stepped = stepped r.at.state (Ends (Exit 0)) in
      let ends : step (trial_program n) (Some (barrier (Some Callsys))) r.at.state [] ≡ t =
      ap (λ (c : Called). returned Callsys c r.at.state)
      (callsys-exit r.at.state.regs r.at.state.mem r.at.state.unique h.known.0 h.known.1.0) in
      subst (λ (q : Run). Exits (k + 1) q)
      (sym (advance-at_class n most k r (barrier (Some Callsys)) there s.going s.pc s.none))
      (subst (λ (x : Stepped). Exits (k + 1) (extended_by r x)) (sym ends)
      (record {
        last = refl;
        steps_are = omega (arith, length-append r.events (t.event ∷ []), s.steps);
        eight =
            ap length (output-append r.events (t.event ∷ []) ∙ (append-nil (output r.events) ∙ s.puts))
            ∙ buffer_eight.eight;
      }))

  ends_there : Exits (9 * n + 10) (after (trial_program n) (start (trial_program n)) [] (9 * n + 10))
  ends_there =
      subst (λ (m : ℕ). Exits m (after (trial_program n) (start (trial_program n)) [] m))
      (let e : 9 * n + 9 + 1 ≡ 9 * n + 10 = omega arith in e)
      (subst (λ (q : Run). Exits (9 * n + 9 + 1) q)
      (sym (ap (after (trial_program n) (start (trial_program n)) []) (add-one (9 * n + 9))))
      (exit_step (9 * n + 9) (after (trial_program n) (start (trial_program n)) [] (9 * n + 9))
      (words_are n).word9 stage9))

-- the run of enough steps is that of as many as the program has words
pub sequential_run-after : (n units : ℕ) → n ≤ 20000 → 9 * n + 10 ≤ units
    → sequential_run units (trial_image n) ≡ after (trial_program n) (start (trial_program n)) [] (9 * n + 10)
unfolding sequential_run
sequential_run-after n units most enough =
    after-over (trial_program n) (start (trial_program n)) [] units (9 * n + 10) enough
    (ap is_over (ends_there n most).last)

pub sequential_run-Exits : (n units : ℕ) → n ≤ 20000 → 9 * n + 10 ≤ units
    → Exits (9 * n + 10) (sequential_run units (trial_image n))
sequential_run-Exits n units most enough =
    subst (Exits (9 * n + 10)) (sym (sequential_run-after n units most enough)) (ends_there n most)
