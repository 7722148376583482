-- A step looks at as many bytes of the input as it asks for, and is given those.
use Rattle.std.proofs.Common.{◌≡◌, ℕ, zero, suc, Bool, true, false, cond, List, [], ◌∷◌, length, take, drop, Option}
use Rattle.std.proofs.Common.{Some, None, refl, sym, ap, ◌∙◌}
use Rattle.alpha_words.specs.declared.Completion.{Completion}
use Rattle.alpha_words.specs.declared.Completion.TheVariants.{Wrap, Saturate, Stop}
use Rattle.alpha_words.specs.declared.PalCall.{PalCall}
use Rattle.alpha_table.specs.declared.columns.MemAccess.{MemAccess}
use Rattle.alpha_table.specs.Class.{Class, operate, trigger, address, load, store, load_locked, store_conditional}
use Rattle.alpha_table.specs.Class.{branch, jump, barrier, idle}
use Rattle.alpha_values.specs.TrapOp.{overflow_of}
use Rattle.alpha_mem.specs.declared.access.MemFault.{MemFault}
use Rattle.alpha_mem.specs.Intent.{Intent, Load, Store}
use Rattle.alpha_mem.specs.Block.{shapes}
use Rattle.alpha_mem.specs.Fault.{fault_of}
use Rattle.alpha_pal.specs.Call.{Silent, asked_in, given_in, Called, continues, exits, signals, call}
use Rattle.alpha_pal.proofs.InputRequests.{passed_in, call-asks}
use Rattle.alpha_seq.specs.State.{Program, State, Event, Stepped}
use Rattle.alpha_seq.specs.Step.{onward, setting, accessed, loaded, written_memory, lock_block, matches, next_class}
use Rattle.alpha_seq.specs.Step.{step, step_from, returned, unless, overflowed, conditional}
use Rattle.alpha_seq.specs.Run.{traffic_of, asked, given}

pub drop-taken : (n : ℕ) (l : List ℕ) → drop (length (take n l)) l ≡ drop n l
drop-taken zero l = refl
drop-taken (suc n) [] = refl
drop-taken (suc n) (x ∷ l) = drop-taken n l

pub record StepRequests (f : List ℕ → Stepped) : Type 0 where
  pub count : ℕ
  pub only : (input : List ℕ) → f input ≡ f (take count input)
  pub asks : (input : List ℕ) → asked (f input).event ≡ count
  pub gives : (input : List ℕ) → given (f input).event ≡ take count input

-- one that passes nothing
StepRequests-silent : (t : Stepped) → traffic_of t.event ≡ Silent → StepRequests (λ input. t)
StepRequests-silent t quiet =
    record { count = 0; only = λ input. refl; asks = λ input. ap asked_in quiet; gives = λ input. ap given_in quiet }

StepRequests-cond : (b : Bool) (f h : List ℕ → Stepped) → StepRequests f → StepRequests h
    → StepRequests (λ input. cond b (f input) (h input))
StepRequests-cond true f h p q = p
StepRequests-cond false f h p q = q

StepRequests-overflowed : (completion : Completion) (s : State) (rc v : ℕ)
    → StepRequests (λ input. overflowed completion s rc v)
StepRequests-overflowed Wrap s rc v = StepRequests-silent _ refl
StepRequests-overflowed Saturate s rc v = StepRequests-silent _ refl
StepRequests-overflowed Stop s rc v = StepRequests-silent _ refl

StepRequests-unless : (fault : Option MemFault) (addr : ℕ) (s t : State) → StepRequests (λ input. unless fault addr s t)
StepRequests-unless None addr s t = StepRequests-silent _ refl
StepRequests-unless (Some fault) addr s t = StepRequests-silent _ refl

returned-traffic : (function : PalCall) (c : Called) (s : State)
    → traffic_of (returned function c s).event ≡ passed_in c
returned-traffic function (continues regs mem unique traffic) s = refl
returned-traffic function (exits v) s = refl
returned-traffic function (signals code) s = refl

each_call : (function : PalCall) (s : State)
    → StepRequests (λ input. returned function (call function s.regs s.mem s.unique input) s)
each_call function s =
    let f = call-asks function s.regs s.mem s.unique in
    let same = λ (input : List ℕ). returned-traffic function (call function s.regs s.mem s.unique input) s in
    record {
      count = f.count;
      only = λ input. ap (λ (c : Called). returned function c s) (f.only input);
      asks = λ input. ap asked_in (same input) ∙ f.asks input;
      gives = λ input. ap given_in (same input) ∙ f.gives input;
    }

abbrev fault_at : Intent → MemAccess → State → Option MemFault
fault_at intent at s = fault_of (shapes s.mem) intent (accessed at s) at.bytes

pub step-asks : (g : Program) (class : Option Class) (s : State) → StepRequests (step g class s)
step-asks g None s = StepRequests-silent _ refl
step-asks g (Some (operate op ra src rc)) s = StepRequests-silent _ refl
step-asks g (Some (trigger op ra src rc)) s =
    StepRequests-cond (overflow_of op _ _) _ _ (StepRequests-overflowed g.completion s rc _)
    (StepRequests-silent _ refl)
step-asks g (Some (address op ra rb disp)) s = StepRequests-silent _ refl
step-asks g (Some (load extension at ra)) s =
    StepRequests-unless (fault_at Load at s) (accessed at s) s (setting s ra (loaded extension at s))
step-asks g (Some (store at ra)) s =
    StepRequests-unless (fault_at Store at s) (accessed at s) s (record (onward s) { mem = written_memory at ra s })
step-asks g (Some (load_locked extension at ra)) s =
    StepRequests-unless (fault_at Load at s) (accessed at s) s
    (record (setting s ra (loaded extension at s)) { lock = Some (lock_block at s) })
step-asks g (Some (store_conditional at ra)) s =
    StepRequests-unless (fault_at Store at s) (accessed at s) s (conditional (matches s.lock (lock_block at s)) at ra s)
step-asks g (Some (branch None ra disp)) s = StepRequests-silent _ refl
step-asks g (Some (branch (Some c) ra disp)) s = StepRequests-silent _ refl
step-asks g (Some (jump ra rb)) s = StepRequests-silent _ refl
step-asks g (Some (barrier None)) s = StepRequests-silent _ refl
step-asks g (Some (barrier (Some function))) s = each_call function s
step-asks g (Some idle) s = StepRequests-silent _ refl

-- ---- a step by what its event was given

-- over an input it is the same as over what it was given of it
pub step-over_given : (g : Program) (s : State) (input : List ℕ)
    → step_from g s (given (step_from g s input).event) ≡ step_from g s input
step-over_given g s input =
    let f = step-asks g (next_class g s.pc) s in
    ap (step_from g s) (f.gives input) ∙ sym (f.only input)

-- a step with this event is the one over each input that gives it that
pub step-over_enough : (g : Program) (s : State) (event : Event) (input : List ℕ)
    → (step_from g s (given event)).event ≡ event
    → given event ≡ take (asked event) input → step_from g s input ≡ step_from g s (given event)
step-over_enough g s event input same fed =
    let f = step-asks g (next_class g s.pc) s in
    let count : asked event ≡ f.count = ap asked (sym same) ∙ f.asks (given event) in
    f.only input ∙ ap (step_from g s) (sym (fed ∙ ap (λ n. take n input) count))

pub step-given_taken : (g : Program) (s : State) (input : List ℕ)
    → let e = (step_from g s input).event in given e ≡ take (asked e) input
step-given_taken g s input =
    let f = step-asks g (next_class g s.pc) s in
    f.gives input ∙ ap (λ n. take n input) (sym (f.asks input))
