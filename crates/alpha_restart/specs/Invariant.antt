-- How the two machines stand to each other after as many precise steps as the imprecise run used units.
use Rattle.std.specs.Prelude.{◌≡◌, ◌<◌, ◌+◌, ◌%◌, ◌^◌, ℕ, List, true, false, [], ◌∷◌, length, Some, None}
use Rattle.alpha_words.specs.Regs.{Has}
use Rattle.alpha_table.specs.Code.{class_at, trap_rc}
use Rattle.alpha_values.specs.TrapOp.{stops}
use Rattle.alpha_mem.specs.Block.{shapes}
use Rattle.alpha_mem.specs.Memory.{IsLayout}
use Rattle.alpha_pal.specs.Call.{Traffic}
use Rattle.alpha_seq.specs.declared.end.End.TheVariants.{Overflow}
use Rattle.alpha_seq.specs.State.{Program, State, Barriered, Overflowed, Ends, Stepped}
use Rattle.alpha_seq.specs.Run.{is_over}
use Rattle.alpha_trap.specs.Finds.{Covers}
use Rattle.alpha_imprecise.specs.StepResult.{Precisely, StepResult}
use Rattle.alpha_imprecise.specs.Step.{address_at}
use Rattle.alpha_imprecise.specs.Run.{seen_of, finished}
use Rattle.alpha_restart.specs.Safe.{Steady}
use Rattle.alpha_restart.specs.Match.{SameBytes, Match}
use Rattle.alpha_restart.specs.Trigger.{Trigger}
use Rattle.alpha_restart.specs.Shadow.{Shadow}

-- there are 32 registers, and the blocks lie as they must
pub record IsReady (s : State) : Type 0 where
  pub size : length s.regs ≡ 32
  pub layout : IsLayout (shapes s.mem)

-- nothing is pending, and both machines are in the same state
pub record Exact (r : Stepped) (w : StepResult) : Type 0 where
  pub pending : w.pending ≡ None
  pub state : w.state ≡ r.state
  pub last : w.last_event ≡ Precisely r.event
  pub ready : IsReady r.state

-- nothing is pending, and up to a place all that differs is written again before it is read
pub record Synced (g : Program) (r : Stepped) (w : StepResult) : Type 0 where
  pub at : ℕ
  pub to : ℕ
  pub pending : w.pending ≡ None
  pub pc : r.state.pc ≡ address_at g.image at
  pub pc_too : w.state.pc ≡ r.state.pc
  pub shows : seen_of w.last_event ≡ r.event ∷ []
  pub going : is_over r.event ≡ false
  pub going_too : finished w.last_event ≡ false
  pub no_barrier : (traffic : Traffic) (pc : ℕ) (regs : List ℕ) → w.last_event ≡ Precisely (Barriered traffic pc regs)
      → ⊥
  pub matched : Match g.image.words at to r.state w.state

-- The trap of a trigger is pending, and the imprecise machine has come straight on to a place, of which nothing was
-- seen. The trigger's destination is in the mask, and the mask has only destinations of triggers on the way.
pub record Trail (g : Program) (place at : ℕ) (w : StepResult) : Type 0 where
  pub rc : ℕ
  pub mask : ℕ
  pub pending : w.pending ≡ Some (record { place = place; mask = mask })
  pub pc : w.state.pc ≡ address_at g.image at
  pub going : finished w.last_event ≡ false
  pub silent : seen_of w.last_event ≡ []
  pub above : place < at
  pub steady : Steady g.image.words place at
  pub destination : trap_rc (class_at g.image.words place) ≡ Some rc
  pub counted : rc < 31
  pub has : Has mask rc
  pub covers : Covers g.image.words mask place at

-- a trap is pending that will be completed, and the precise machine has just completed and logged it
pub record Window (g : Program) (r : Stepped) (w : StepResult) : Type 0 where
  pub place : ℕ
  pub at : ℕ
  pub to : ℕ
  pub t : Trigger
  pub trail : Trail g place at w
  pub not_stopping : stops g.completion ≡ false
  pub last : r.event ≡ Overflowed (address_at g.image place)
  pub pc : r.state.pc ≡ address_at g.image (place + 1)
  pub shadow : Shadow g.image.words g.completion place at to t r.state.regs w.state.regs
  pub memory : SameBytes g.image.words (place + 1) to r.state.regs r.state.mem w.state.mem
  pub unique : w.state.unique ≡ r.state.unique
  pub lock : r.state.lock ≡ None
  pub count : r.state.count ≡ (w.state.count + 1) % 2 ^ 64
  pub logged : r.state.logged ≡ address_at g.image place

-- a trap is pending that will stop the program, and has just stopped the precise machine
pub record Stopping (g : Program) (r : Stepped) (w : StepResult) : Type 0 where
  pub place : ℕ
  pub at : ℕ
  pub trail : Trail g place at w
  pub halts : stops g.completion ≡ true
  pub last : r.event ≡ Ends (Overflow (address_at g.image place))
  pub pc : r.state.pc ≡ address_at g.image place
  pub unique : w.state.unique ≡ r.state.unique

-- both machines have stopped at the same overflow
pub record Stopped (r : Stepped) (w : StepResult) : Type 0 where
  pub at : ℕ
  pub pending : w.pending ≡ None
  pub last : r.event ≡ Ends (Overflow at)
  pub last_too : w.last_event ≡ Precisely (Ends (Overflow at))
  pub pc : w.state.pc ≡ r.state.pc
  pub unique : w.state.unique ≡ r.state.unique

-- one of these holds after every step
pub data Together (g : Program) (r : Stepped) (w : StepResult) : Type 0 where
  exact : Exact r w → Together g r w
  synced : Synced g r w → Together g r w
  window : Window g r w → Together g r w
  stopping : Stopping g r w → Together g r w
  stopped : Stopped r w → Together g r w
