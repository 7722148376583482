-- The imprecise step as a table: what the machine may do at each moment, with nothing said of how it is chosen.
use Rattle.std.specs.Prelude.{◌≡◌, ◌<◌, ◌*◌, ◌/◌, ◌^◌, ℕ, ℤ, Bool, true, false, ◌⊎◌, All, List, [], ◌∷◌, length, map}
use Rattle.std.specs.Prelude.{Option, Some, None, unwrap_or, ⊤}
use Rattle.alpha_words.specs.declared.Completion.{Completion}
use Rattle.alpha_words.specs.Regs.{reg, put}
use Rattle.alpha_table.specs.declared.op.Cond.{Cond}
use Rattle.alpha_table.specs.declared.columns.MemAccess.{MemAccess}
use Rattle.alpha_table.specs.Class.{Class, operate, trigger, address, load, store, load_locked, store_conditional}
use Rattle.alpha_table.specs.Class.{branch, jump, barrier, idle}
use Rattle.alpha_mem.specs.Intent.{Load, Store}
use Rattle.alpha_mem.specs.Memory.{write_bytes}
use Rattle.alpha_image.specs.Parts.{Parts, IsByte, place_of}
use Rattle.alpha_seq.specs.State.{Program, State}
use Rattle.alpha_seq.specs.Start.{start}
use Rattle.alpha_seq.specs.Step.{onward, setting, accessed, lock_block, matches, branch_target, branched, next_class}
use Rattle.alpha_seq.specs.Step.{step}
use Rattle.alpha_imprecise.specs.StepResult.{Trap, with_register, Choice, ImpreciseEvent, Triggered, Waited, StepResult}
use Rattle.alpha_imprecise.specs.StepResult.{step_result}
use Rattle.alpha_imprecise.specs.Step.{triggers, trap_destination, precisely, report, goes_well}
use Rattle.alpha_imprecise.specs.Run.{finished, seen, imprecise_start}
use Rattle.alpha_imprecise.specs.Restart.{Agrees}

-- ---- a word that is executed while a trap waits

-- a register gets any value of 64 bits
abbrev pub SetsAny : (ℕ → State) → State → Type 0
SetsAny after b = (value : ℕ) × (value < 2 ^ 64) × (b ≡ after value)

-- so many bytes, any ones
abbrev pub AreBytes : ℕ → List ℕ → Type 0
AreBytes n bytes = (length bytes ≡ n) × All IsByte bytes

-- a store puts any bytes at its actual address
abbrev pub StoresAny : MemAccess → State → (List ℕ → State) → State → Type 0
StoresAny at s after b = (bytes : List ℕ) × AreBytes at.bytes bytes × (b ≡ after bytes)

-- the state after bytes were stored at the actual address
abbrev pub storing : MemAccess → State → State → List ℕ → State
storing at s t bytes = record t { mem = write_bytes s.mem (accessed at s) bytes }

-- A conditional store whose flag has its number puts any bytes. In both cases its register gets any value, and the flag
-- is clear.
abbrev pub StoresIf : Bool → MemAccess → ℕ → State → State → Type 0
StoresIf true at ra s b =
    (value : ℕ) × (value < 2 ^ 64) × StoresAny at s (storing at s (record (setting s ra value) { lock = None })) b
StoresIf false at ra s b = SetsAny (λ value. record (setting s ra value) { lock = None }) b

-- a branch goes by its actual register; one that leaves the next address leaves any value
abbrev pub Branches : Option Cond → ℕ → ℤ → State → State → Type 0
Branches None ra disp s b = SetsAny (λ value. record s { regs = put s.regs ra value; pc = branch_target s disp }) b
Branches (Some condition) ra disp s b = b ≡ branched (Some condition) ra disp s

-- The word of this class is executed while a trap waits: a destination gets any value, a store puts any bytes, and a
-- turn and the lock flag go by the actual registers. A barrier isn't executed, nor an access that faults, nor outside
-- the code.
abbrev pub Executed : Option Class → State → State → Type 0
Executed None s b = ⊥
Executed (Some (operate op ra src rc)) s b = SetsAny (setting s rc) b
Executed (Some (trigger op ra src rc)) s b = SetsAny (setting s rc) b
Executed (Some (address op ra rb disp)) s b = SetsAny (setting s ra) b
Executed (Some (load extension at ra)) s b = (goes_well Load at s ≡ true) × SetsAny (setting s ra) b
Executed (Some (store at ra)) s b = (goes_well Store at s ≡ true) × StoresAny at s (storing at s (onward s)) b
Executed (Some (load_locked extension at ra)) s b =
    (goes_well Load at s ≡ true) × SetsAny (λ value. record (setting s ra value) { lock = Some (lock_block at s) }) b
Executed (Some (store_conditional at ra)) s b =
    (goes_well Store at s ≡ true) × StoresIf (matches s.lock (lock_block at s)) at ra s b
Executed (Some (branch condition ra disp)) s b = Branches condition ra disp s b
Executed (Some (jump ra rb)) s b =
    SetsAny (λ value. record s { regs = put s.regs ra value; pc = reg s.regs rb / 4 * 4 }) b
Executed (Some (barrier call)) s b = ⊥
Executed (Some idle) s b = b ≡ onward s

-- ---- the rows

-- how a step went, with nothing told of what was chosen in it
abbrev pub untold : ImpreciseEvent → ImpreciseEvent
untold (Triggered value) = Triggered 0
untold (Waited adds value bytes) = Waited false 0 0
untold event = event

abbrev pub unchosen : StepResult → StepResult
unchosen m = step_result m.state m.pending (untold m.last_event)

-- nothing is pending and the word doesn't overflow: the precise step
pub record Steps (g : Program) (s : State) (pending : Option Trap) (input : List ℕ) (m : StepResult) : Type 0 where
  pub none : pending ≡ None
  pub no_trigger : triggers (next_class g s.pc) s ≡ false
  pub is : m ≡ precisely (step g (next_class g s.pc) s input)

-- nothing is pending and the word overflows: its destination gets any value, and its trap is pending
pub record Overflows (g : Program) (s : State) (pending : Option Trap) (m : StepResult) : Type 0 where
  pub none : pending ≡ None
  pub over : triggers (next_class g s.pc) s ≡ true
  pub value : ℕ
  pub small : value < 2 ^ 64
  pub is : let o = next_class g s.pc in
      let t : Trap =
      record { place = unwrap_or (place_of g.image s.pc) 0; mask = with_register 0 (trap_destination o) } in
      m ≡ step_result (setting s (trap_destination o) value) (Some t) (Triggered 0)

-- a pending trap is reported, at any place
pub record Reports (g : Program) (s : State) (pending : Option Trap) (m : StepResult) : Type 0 where
  pub t : Trap
  pub some : pending ≡ Some t
  pub is : m ≡ report g s t

-- a trap is pending and the word is executed; the mask stays, or has the destination of a word that may trap too
pub record Waits (g : Program) (s : State) (pending : Option Trap) (m : StepResult) : Type 0 where
  pub t : Trap
  pub some : pending ≡ Some t
  pub after : State
  pub executed : Executed (next_class g s.pc) s after
  pub mask : ℕ
  pub adds : (mask ≡ t.mask) ⊎ (mask ≡ with_register t.mask (trap_destination (next_class g s.pc)))
  pub is : m ≡ step_result after (Some (record { place = t.place; mask = mask })) (Waited false 0 0)

-- a row where this is what there is to be read
pub data Row (g : Program) (s : State) (pending : Option Trap) (input : List ℕ) (m : StepResult) : Type 0 where
  steps : Steps g s pending input m → Row g s pending input m
  overflows : Overflows g s pending m → Row g s pending input m
  reports : Reports g s pending m → Row g s pending input m
  waits : Waits g s pending m → Row g s pending input m

-- a choice whose value and bytes fit registers: such choices make just the rows
pub record IsChoice (c : Choice) : Type 0 where
  pub value : c.value < 2 ^ 64
  pub bytes : c.bytes < 2 ^ 64

-- ---- walks

-- each step of a list is a row, whatever it is given to read, and the run was not over before it
abbrev pub IsWalk : Program → StepResult → List StepResult → Type 0
IsWalk g a [] = ⊤
IsWalk g a (m ∷ ms) =
    (finished a.last_event ≡ false) × ((input : List ℕ) × Row g a.state a.pending input m) × IsWalk g m ms

-- where the steps of a list lead
abbrev pub walked : StepResult → List StepResult → StepResult
walked a [] = a
walked a (m ∷ ms) = walked m ms

-- every walk from the start agrees with the precise run, by every completion
abbrev pub WalksAgree : Parts → Type 0
WalksAgree image = (completion : Completion) (steps : List StepResult)
    → let g : Program = record { image = image; completion = completion } in
    IsWalk g (imprecise_start (start g)) steps
    → Agrees g (start g) (seen (map (λ m. m.last_event) steps)) (walked (imprecise_start (start g)) steps)
