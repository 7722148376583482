-- What each step leaves as it was. The function of `src/laws.rt` carries these as its contract.
use Rattle.std.proofs.Common.{◌≡◌, ℕ, Bool, true, false, cond, List, length, Option, None, Some, refl, ap}
use Rattle.alpha_words.specs.declared.Completion.{Completion}
use Rattle.alpha_words.specs.declared.Completion.TheVariants.{Wrap, Saturate, Stop}
use Rattle.alpha_words.specs.declared.PalCall.{PalCall}
use Rattle.alpha_words.proofs.RegLemmas.{length-put}
use Rattle.alpha_table.specs.declared.columns.MemAccess.{MemAccess}
use Rattle.alpha_table.specs.Class.{Class, operate, trigger, address, load, store, load_locked, store_conditional}
use Rattle.alpha_table.specs.Class.{branch, jump, barrier, idle}
use Rattle.alpha_mem.specs.declared.access.MemFault.{MemFault}
use Rattle.alpha_mem.specs.Block.{shapes}
use Rattle.alpha_mem.proofs.LawLemmas.{shapes-write_bytes}
use Rattle.alpha_pal.specs.Call.{Called, continues, exits, signals, call}
use Rattle.alpha_pal.proofs.LawLemmas.{shapes-call, length-call}
use Rattle.alpha_seq.specs.declared.end.End.{End}
use Rattle.alpha_seq.specs.State.{Program, State, Event, Ends, Stepped}
use Rattle.alpha_seq.specs.Step.{step, ended, went, unless, overflowed, conditional, matches, lock_block, returned}
use Rattle.alpha_seq.specs.Run.{is_over}

-- as many registers, the blocks where they lie, and where the program ends all as it was
pub record StepLeaves (s : State) (t : Stepped) : Type 0 where
  pub registers : length t.state.regs ≡ length s.regs
  pub blocks : shapes t.state.mem ≡ shapes s.mem
  pub all : (e : End) → t.event ≡ Ends e → t.state ≡ s

no_end : (event : Event) (e : End) → is_over event ≡ false → event ≡ Ends e → ⊥
no_end event e n h = let y : is_over event ≡ true = ap is_over h in cc

retired-step : (s : State) (t : Stepped) → is_over t.event ≡ false → length t.state.regs ≡ length s.regs
    → shapes t.state.mem ≡ shapes s.mem → StepLeaves s t
retired-step s t n registers blocks = record {
  registers = registers;
  blocks = blocks;
  all = λ e h. absurd (no_end t.event e n h);
}

StepLeaves-ended : (s : State) (e : End) → StepLeaves s (ended s e)
StepLeaves-ended s e = record { registers = refl; blocks = refl; all = λ e h. refl }

StepLeaves-cond : (s : State) (b : Bool) (x y : Stepped) → StepLeaves s x → StepLeaves s y → StepLeaves s (cond b x y)
StepLeaves-cond s true x y p q = p
StepLeaves-cond s false x y p q = q

StepLeaves-unless : (s : State) (fault : Option MemFault) (addr : ℕ) (t : State) → length t.regs ≡ length s.regs
    → shapes t.mem ≡ shapes s.mem → StepLeaves s (unless fault addr s t)
StepLeaves-unless s None addr t registers blocks = retired-step s (went t) refl registers blocks
StepLeaves-unless s (Some fault) addr t registers blocks = StepLeaves-ended s _

StepLeaves-overflowed : (completion : Completion) (s : State) (rc v : ℕ) → StepLeaves s (overflowed completion s rc v)
StepLeaves-overflowed Wrap s rc v = retired-step s (overflowed Wrap s rc v) refl (length-put s.regs rc v) refl
StepLeaves-overflowed Saturate s rc v = retired-step s (overflowed Saturate s rc v) refl (length-put s.regs rc v) refl
StepLeaves-overflowed Stop s rc v = StepLeaves-ended s _

StepLeaves-conditional : (b : Bool) (at : MemAccess) (ra : ℕ) (s : State)
    → (length (conditional b at ra s).regs ≡ length s.regs) × (shapes (conditional b at ra s).mem ≡ shapes s.mem)
StepLeaves-conditional true at ra s = (length-put s.regs ra 1, shapes-write_bytes s.mem _ _)
StepLeaves-conditional false at ra s = (length-put s.regs ra 0, refl)

StepLeaves-returned : (function : PalCall) (c : Called) (s : State) (input : List ℕ)
    → call function s.regs s.mem s.unique input ≡ c → StepLeaves s (returned function c s)
StepLeaves-returned function (continues regs mem unique traffic) s input e =
    retired-step s (returned function (continues regs mem unique traffic) s) refl
    (length-call function s.regs regs s.mem mem s.unique unique input traffic e)
    (shapes-call function s.regs regs s.mem mem s.unique unique input traffic e)
StepLeaves-returned function (exits v) s input e = StepLeaves-ended s _
StepLeaves-returned function (signals code) s input e = StepLeaves-ended s _

pub StepLeaves-step : (g : Program) (class : Option Class) (s : State) (input : List ℕ)
    → StepLeaves s (step g class s input)
StepLeaves-step g None s input = StepLeaves-ended s _
StepLeaves-step g (Some (operate op ra src rc)) s input = retired-step s _ refl (length-put s.regs rc _) refl
StepLeaves-step g (Some (trigger op ra src rc)) s input =
    StepLeaves-cond s _ _ _ (StepLeaves-overflowed g.completion s rc _)
    (retired-step s _ refl (length-put s.regs rc _) refl)
StepLeaves-step g (Some (address op ra rb disp)) s input = retired-step s _ refl (length-put s.regs ra _) refl
StepLeaves-step g (Some (load extension at ra)) s input = StepLeaves-unless s _ _ _ (length-put s.regs ra _) refl
StepLeaves-step g (Some (store at ra)) s input = StepLeaves-unless s _ _ _ refl (shapes-write_bytes s.mem _ _)
StepLeaves-step g (Some (load_locked extension at ra)) s input = StepLeaves-unless s _ _ _ (length-put s.regs ra _) refl
StepLeaves-step g (Some (store_conditional at ra)) s input =
    let parts = StepLeaves-conditional (matches s.lock (lock_block at s)) at ra s in
    StepLeaves-unless s _ _ _ parts.0 parts.1
StepLeaves-step g (Some (branch None ra disp)) s input = retired-step s _ refl (length-put s.regs ra _) refl
StepLeaves-step g (Some (branch (Some c) ra disp)) s input = retired-step s _ refl refl refl
StepLeaves-step g (Some (jump ra rb)) s input = retired-step s _ refl (length-put s.regs ra _) refl
StepLeaves-step g (Some (barrier None)) s input = retired-step s _ refl refl refl
StepLeaves-step g (Some (barrier (Some function))) s input = StepLeaves-returned function _ s input refl
StepLeaves-step g (Some idle) s input = retired-step s _ refl refl refl
