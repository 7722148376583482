-- What it means that a program can be restarted after each late trap: whatever the imprecise machine chooses and
-- whatever it is given to read, no trap is lost, and wherever no trap is pending, what was seen of its run is a run of
-- the precise machine, to the same state behind each barrier and at the end.
use Rattle.std.specs.Prelude.{◌≡◌, ◌≢◌, ℕ, List, Some, None}
use Rattle.alpha_words.specs.declared.Completion.{Completion}
use Rattle.alpha_pal.specs.Call.{Traffic}
use Rattle.alpha_image.specs.Parts.{Parts}
use Rattle.alpha_seq.specs.declared.end.End.{End}
use Rattle.alpha_seq.specs.declared.end.End.TheVariants.{Overflow}
use Rattle.alpha_seq.specs.State.{Program, State, Event, Barriered, Ends, Stepped}
use Rattle.alpha_seq.specs.Start.{start}
use Rattle.alpha_seq.specs.Run.{begins, Runs}
use Rattle.alpha_trap.specs.Scan.{scan}
use Rattle.alpha_imprecise.specs.StepResult.{Trap, ImpreciseEvent, Precisely, Lost, StepResult}
use Rattle.alpha_imprecise.specs.Run.{seen, imprecise_start, RunsImprecisely}

-- A run of the precise machine with these events has come to the same unique value; behind a barrier to the same state;
-- and at the end to the same PC and, but for a stop by an overflow, to the same state. At such a stop registers and
-- bytes may differ.
pub record Follows (g : Program) (s : State) (events : List Event) (w : StepResult) : Type 0 where
  pub last : Stepped
  pub runs : Runs g (begins s) events last
  pub unique : last.state.unique ≡ w.state.unique
  pub barrier : (traffic : Traffic) (pc : ℕ) (regs : List ℕ) → w.last_event ≡ Precisely (Barriered traffic pc regs)
      → last.state ≡ w.state
  pub stopped : (e : End) → w.last_event ≡ Precisely (Ends e) → last.state.pc ≡ w.state.pc
  pub ended : (e : End) → w.last_event ≡ Precisely (Ends e) → ((at : ℕ) → e ≢ Overflow at) → last.state ≡ w.state

-- No trap is lost, and the scan finds the trigger of a pending one; wherever nothing is pending, the precise machine
-- has a run with the events that were seen.
pub record Agrees (g : Program) (s : State) (events : List Event) (w : StepResult) : Type 0 where
  pub found : (pc mask : ℕ) → w.last_event ≢ Lost pc mask
  pub scanned : (t : Trap) → w.pending ≡ Some t → scan g.image w.state.pc t.mask ≡ Some t.place
  pub follows : w.pending ≡ None → Follows g s events w

-- every imprecise run from a state with nothing pending, whatever is chosen and whatever is given
abbrev pub RestartsFrom : Program → State → Type 0
RestartsFrom g s =
    (steps : List ImpreciseEvent) (w : StepResult) → RunsImprecisely g (imprecise_start s) steps w
    → Agrees g s (seen steps) w

-- an image can be restarted, by every completion
abbrev pub IsRestartable : Parts → Type 0
IsRestartable image = (completion : Completion)
    → let g : Program = record { image = image; completion = completion } in RestartsFrom g (start g)

-- whatever the machine chooses and whatever its steps are given, no trap is lost, from any state with nothing pending
abbrev pub NeverLoses : Parts → Type 0
NeverLoses image = (completion : Completion) (s : State) (steps : List ImpreciseEvent) (w : StepResult) (pc mask : ℕ)
    → let g : Program = record { image = image; completion = completion } in
    RunsImprecisely g (imprecise_start s) steps w → w.last_event ≢ Lost pc mask
