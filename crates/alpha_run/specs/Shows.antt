-- What a run shows, by its answer.
use Rattle.std.specs.Prelude.{◌≡◌, ◌≤◌, ⊤, ℕ, Bool, List, ◌++◌, length, Option, Some, None, Result, IfOk}
use Rattle.alpha_io.specs.SinkChange.{SinkChange, Puts}
use Rattle.alpha_io.specs.Written.{WritesPrefix}
use Rattle.alpha_seq.specs.declared.machine.Machine.{Machine}
use Rattle.alpha_seq.specs.declared.end.End.{End}
use Rattle.alpha_seq.specs.declared.event.Event.{Event}
use Rattle.alpha_seq.specs.declared.event.Event.TheVariants as events
use Rattle.alpha_pal.specs.declared.fault.Fault.{Fault}
use Rattle.alpha_seq.specs.Run.{Shown, output, notes, after, shown, sequential}
use Rattle.alpha_seq.specs.Machine.{program_of, state_of}
use Rattle.alpha_seq.specs.Devices.{Drawn}
use Rattle.alpha_imprecise.specs.Run.{seen}
use Rattle.alpha_imprecise.specs.ChosenRun.{ChosenRun, chosen_run, LostTrap, ShownImprecise, most_words}
use Rattle.alpha_imprecise.specs.Oracle.{Oracle, CountsWords, OracleDraws}
use Rattle.alpha_imprecise.specs.ImpreciseState.{ImpreciseState, trap_in, begun_at}
use Rattle.alpha_run.specs.SeqRun.{ended_by}
use Rattle.alpha_run.specs.ImpreciseRan.{ended_as}

-- the run didn't end by a trap that is lost
abbrev pub LosesNone : Option Event → Type 0
LosesNone (Some (events.Lost pc mask)) = ⊥
LosesNone _ = ⊤

-- the answer, the bytes put, the bytes left and the lines are those that a run shows
pub record Shows (s : Shown) (last : Option Event) (input : Drawn) (out notes : SinkChange) : Type 0 where
  pub answer_is : last ≡ ended_by s.end
  pub bytes : Puts out s.output
  pub left : input.new.left ≡ Some s.left
  pub lines : Puts notes s.notes

-- prefixes of the bytes and of the lines that a run shows were written
pub record ShowsPart (s : Shown) (out notes : SinkChange) : Type 0 where
  pub bytes : WritesPrefix out.old out.new s.output
  pub lines : WritesPrefix notes.old notes.new s.notes

-- What the sequential run of n steps from the start shows, over this input, and no trap is lost; where it was cut short
-- a prefix of that.
pub record ShowsSequential (n : ℕ) (watch : Bool) (bytes : List ℕ) (answer : Result (Option Event) Fault) (m : Machine)
    (input : Drawn) (out notes : SinkChange) : Type 0 where
  pub found : IfOk answer LosesNone
  pub shows : IfOk answer (λ last. Shows (sequential (program_of m) bytes n watch) last input out notes)
  pub part : ShowsPart (sequential (program_of m) bytes n watch) out notes

-- ---- where the input is told

-- what the definition's run of so many steps from here shows, over this input
abbrev pub shown_from : Machine → List ℕ → ℕ → Bool → Shown
shown_from m input n watch = shown watch (after (program_of m) (state_of m) input n)

-- a run that words make came to where the machine stands, and this is what it shows
pub record IsMade (k : ChosenRun) (last : Option Event) (watch : Bool) (new : ImpreciseState) (input : Drawn)
    (out sink : SinkChange) : Type 0 where
  pub last_is : last ≡ ended_as k.run.at.last_event
  pub state : k.run.at.state ≡ state_of new.machine
  pub pending : k.run.at.pending ≡ trap_in new.pending
  pub bytes : Puts out (output (seen k.run.steps))
  pub left : input.new.left ≡ Some k.run.left
  pub lines : Puts sink (notes watch (seen k.run.steps))

-- the run of so many units over this input, by the words that the chooser went on by, whatever comes behind them; these
-- are all that it draws
pub record ShowsMade (n : ℕ) (watch : Bool) (bytes : List ℕ) (last : Option Event) (old new : ImpreciseState)
    (before after : Oracle)
    (input : Drawn) (out sink : SinkChange) : Type 0 where
  pub words : List ℕ
  pub drew : OracleDraws before after words
  pub is : (coming : List ℕ)
      → IsMade (chosen_run (program_of old.machine) (begun_at old bytes (words ++ coming)) n) last watch new input out
      sink
  pub count : (coming : List ℕ)
      → (chosen_run (program_of old.machine) (begun_at old bytes (words ++ coming)) n).count ≡ length words

-- prefixes of what that run shows were written
pub record ShowsMadePart (n : ℕ) (watch : Bool) (bytes : List ℕ) (old : ImpreciseState) (before after : Oracle)
    (out sink : SinkChange) : Type 0 where
  pub words : List ℕ
  pub drew : OracleDraws before after words
  pub bytes_part : (coming : List ℕ)
      → WritesPrefix out.old out.new
      (output (seen (chosen_run (program_of old.machine) (begun_at old bytes (words ++ coming)) n).run.steps))
  pub lines_part : (coming : List ℕ)
      → WritesPrefix sink.old sink.new
      (notes watch (seen (chosen_run (program_of old.machine) (begun_at old bytes (words ++ coming)) n).run.steps))

-- ---- by words that are told

-- the step behind which a run is over, by how the program ended or by the trap that was lost
abbrev pub ended_or_lost : Option End → Option LostTrap → Option Event
ended_or_lost (Some end) lost = Some (events.Ended end)
ended_or_lost None (Some t) = Some (events.Lost t.pc t.mask)
ended_or_lost None None = None

-- The answer, the bytes put, the bytes left and the lines are those that a run shows, and as many words were drawn.
pub record ShowsImprecise (s : ShownImprecise) (last : Option Event) (before after : Oracle) (input : Drawn)
    (out notes : SinkChange) : Type 0 where
  pub answer_is : last ≡ ended_or_lost s.end s.lost
  pub bytes : Puts out s.output
  pub left : input.new.left ≡ Some s.left
  pub lines : Puts notes s.notes
  pub drawn : CountsWords before.count after.count s.drawn

-- fronts of what a run shows were written
pub record ShowsImprecisePart (whole : ShownImprecise) (out sink : SinkChange) : Type 0 where
  pub bytes : WritesPrefix out.old out.new whole.output
  pub lines : WritesPrefix sink.old sink.new whole.notes

-- no more words were drawn than so many units can
pub record DrawsFew (n : ℕ) (before after : Oracle) : Type 0 where
  pub words : List ℕ
  pub drew : OracleDraws before after words
  pub few : length words ≤ most_words n
