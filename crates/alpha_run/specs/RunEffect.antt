-- What a run did, by its answer.
use Rattle.std.specs.Prelude.{◌≡◌, ◌<◌, ℕ, ◌+◌, ◌||◌, Bool, true, List, [], ◌∷◌, ◌++◌, length, Option, Some, None}
use Rattle.std.specs.List.{flat_map}
use Rattle.std.specs.Io.KnownBytes.{Appends}
use Rattle.alpha_io.specs.Supply.{Supply}
use Rattle.alpha_io.specs.SinkChange.{SinkChange, Puts}
use Rattle.alpha_io.specs.Written.{WritesPrefix}
use Rattle.alpha_seq.specs.declared.machine.Machine.{Machine}
use Rattle.alpha_seq.specs.Run.{output}
use Rattle.alpha_seq.specs.Devices.{Drawn, LeavesEnd, Feeds, WouldFeed, WritesBetween, Idles, drawn_from, sunk_from}
use Rattle.alpha_imprecise.specs.Oracle.{Oracle, OracleDraws}
use Rattle.alpha_seq.specs.declared.event.Event.{Event}
use Rattle.alpha_pal.specs.declared.fault.Fault.{Fault}
use Rattle.alpha_pal.specs.declared.fault.Fault.TheVariants as faults
use Rattle.alpha_seq.specs.StepLabel.{StepLabel, is_over}
use Rattle.alpha_run.specs.Row.{Row, AreGoing, ArePassed, FastSteps, words_of, events_of, units_of, lines_by, seen_by}
use Rattle.alpha_run.specs.Row.{Unstopped}
use Rattle.alpha_seq.specs.StepEffect.{Causes}

-- How an observer goes on, what it writes, and where it stops the run.
pub record Watching (O : Type 0) : Type 0 where
  pub after : O → Event → Machine → O
  pub lines : O → Event → Machine → List ℕ
  pub stops : O → Event → Machine → Bool

abbrev pub watching : {O : Type 0} → (O → Event → Machine → O) → (O → Event → Machine → List ℕ)
    → (O → Event → Machine → Bool) → Watching O
watching after lines stops = record { after = after; lines = lines; stops = stops }

-- whether the run ends behind a step: the observer stops it, or it is over
abbrev pub ends_at : {O : Type 0} → Watching O → O → Event → Machine → Bool
ends_at w o event m = w.stops o event m || is_over event

-- An observer that has passed over so many steps that only went on, or passed barriers where these are passed, is as if
-- it had seen each: it writes no line of them, and stops behind none.
abbrev pub PassesOver : {O : Type 0} → Watching O → Bool → ℕ → O → O → Type 0
PassesOver w barriers n old new = (prints : List StepLabel) → ArePassed barriers prints → length prints ≡ n
    → (new ≡ seen_by w.after old prints) × (lines_by w.after w.lines old prints ≡ [])
    × Unstopped w.after w.stops old prints

-- What steps did to the devices: each word drawn, each byte put and each line, and where the input is told, they read
-- it.
pub record RunEffect {O : Type 0} (w : Watching O) (from to : O) (ps : List StepLabel) (before after : Oracle)
    (input : Drawn) (out notes : SinkChange) : Type 0 where
  pub seen : to ≡ seen_by w.after from ps
  pub drew : OracleDraws before after (flat_map words_of ps)
  pub fed : Feeds input (events_of ps)
  pub same : input.now ≡ input.before
  pub wrote : Puts out (output (events_of ps))
  pub lines : Puts notes (lines_by w.after w.lines from ps)

-- what was done to an input of which this was left
abbrev pub drawn_to : Drawn → Supply → Drawn
drawn_to d supply = record d { new = supply }

-- What they did where a device's fault cut the last one short: all of the first, and of the last a front. Before that
-- one this was left of the input, and this was written to the output and to the notes.
pub record PartialRunEffect {O : Type 0} (w : Watching O) (from : O) (ps : List StepLabel) (p : StepLabel)
    (before after : Oracle) (input : Drawn) (out notes : SinkChange) : Type 0 where
  pub drew : OracleDraws before after (flat_map words_of (ps ++ p ∷ []))
  pub left : Supply
  pub fed : Feeds (drawn_to input left) (events_of ps)
  pub would_feed : WouldFeed (drawn_from input left input.before) p.seen
  pub leaves_end : LeavesEnd (drawn_from input left input.before)
  pub written : Option (List ℕ)
  pub wrote : Appends out.old written (output (events_of ps))
  pub noted : Option (List ℕ)
  pub notes_are : Appends notes.old noted (lines_by w.after w.lines from ps)
  pub bytes : WritesBetween out.old out.new (output (events_of ps)) (output (events_of ps ++ p.seen))
  pub lines : WritesBetween notes.old notes.new (lines_by w.after w.lines from ps)
      (lines_by w.after w.lines from (ps ++ p ∷ []))

-- ---- what a fault leaves

-- a step was made: all that it puts was put, and of the input is left what it leaves
pub record StepMade {M : Type 0} (p : StepLabel) (would new : M) (input : Drawn) (out : SinkChange) : Type 0 where
  pub is : new ≡ would
  pub fed : Feeds input p.seen
  pub wrote : Puts out (output p.seen)

-- What a fault leaves of a machine whose step it cut short, by what it leaves of a step and by the machine to which the
-- step leads. Where the notes failed, the step was made; else nothing was noted of it.
abbrev pub StateAfterFault : {M : Type 0} → (Fault → M → M → Drawn → SinkChange → Type 0) → Fault → StepLabel → M → M
    → M → Drawn → SinkChange → SinkChange → Type 0
StateAfterFault leaves faults.Input p old would new input out notes =
    leaves faults.Input old new input out × Idles notes
StateAfterFault leaves faults.Output p old would new input out notes =
    leaves faults.Output old new input out × Idles notes
StateAfterFault leaves faults.Notes p old would new input out notes = StepMade p would new input out

-- ---- a step and what the observer wrote of it

pub record IsObservedStep {M O : Type 0} (steps_to : M → StepLabel → M → Type 0) (uses : M → ℕ) (w : Watching O)
    (event : Event) (last : Bool) (old new : M) (from to : O)
    (before after : Oracle) (input : Drawn) (out notes : SinkChange) : Type 0 where
  pub label : StepLabel
  pub is : steps_to old label new
  pub units : label.units ≡ uses old
  pub event_is : label.event ≡ event
  pub last_is : last ≡ ends_at w from label.event label.core
  pub effect : RunEffect w from to (label ∷ []) before after input out notes

-- one that a device's fault cut short
pub record FaultedStep {M O : Type 0} (steps_to : M → StepLabel → M → Type 0) (uses : M → ℕ)
    (leaves : Fault → M → M → Drawn → SinkChange → Type 0) (w : Watching O)
    (fault : Fault) (old new : M) (from : O)
    (before after : Oracle) (input : Drawn) (out notes : SinkChange) : Type 0 where
  pub intended : M
  pub label : StepLabel
  pub is : steps_to old label intended
  pub units : label.units ≡ uses old
  pub drew : OracleDraws before after label.words
  pub would_feed : WouldFeed input label.seen
  pub leaves_end : LeavesEnd input
  pub bytes : WritesPrefix out.old out.new (output label.seen)
  pub lines : WritesPrefix notes.old notes.new (w.lines from label.event label.core)
  pub after_fault : StateAfterFault leaves fault label old intended new input out notes
  pub cause : Causes fault input out notes

-- Steps that only went on or passed barriers, a unit each, and that the observer has passed over.
pub record RunsFast {M O : Type 0} (steps_to : M → StepLabel → M → Type 0) (w : Watching O) (units left : ℕ)
    (old new : M)
    (from to : O) : Type 0 where
  pub count : ℕ
  pub barriers : Bool
  pub used : count + left ≡ units
  pub fast_steps : FastSteps steps_to barriers count old new
  pub passed : PassesOver w barriers count from to

-- ---- a run

-- steps behind each of which the run goes on, which leave so many of the units
pub record ContinuesRun {M O : Type 0} (steps_to : M → StepLabel → M → Type 0) (w : Watching O) (units left : ℕ)
    (old new : M) (from to : O)
    (before after : Oracle) (input : Drawn) (out notes : SinkChange) : Type 0 where
  pub labels : List StepLabel
  pub row : Row steps_to old labels new
  pub going : AreGoing labels
  pub unstopped : Unstopped w.after w.stops from labels
  pub used : units_of labels + left ≡ units
  pub effect : RunEffect w from to labels before after input out notes

-- such steps, and one more, behind which it ends
pub record EndsRun {M O : Type 0} (steps_to : M → StepLabel → M → Type 0) (w : Watching O) (units left : ℕ)
    (event : Event)
    (old new : M) (from to : O)
    (before after : Oracle) (input : Drawn) (out notes : SinkChange) : Type 0 where
  pub labels : List StepLabel
  pub mid : M
  pub label : StepLabel
  pub row : Row steps_to old labels mid
  pub going : AreGoing labels
  pub unstopped : Unstopped w.after w.stops from labels
  pub is : steps_to mid label new
  pub event_is : label.event ≡ event
  pub ends : ends_at w (seen_by w.after from labels) label.event label.core ≡ true
  pub used : units_of labels + label.units + left ≡ units
  pub effect : RunEffect w from to (labels ++ label ∷ []) before after input out notes

-- the run to its last step, or until the units that are left are fewer than the next step uses
abbrev pub RunsTo : {M O : Type 0} → Option Event → (M → StepLabel → M → Type 0) → (M → ℕ) → Watching O → ℕ → ℕ → M → M
    → O → O → Oracle → Oracle → Drawn → SinkChange → SinkChange → Type 0
RunsTo None steps_to uses w units left old new from to before after input out notes =
    (left < uses new) × ContinuesRun steps_to w units left old new from to before after input out notes
RunsTo (Some event) steps_to uses w units left old new from to before after input out notes =
    EndsRun steps_to w units left event old new from to before after input out notes

-- such steps, and one more that a device's fault cut short
pub record IsPrefixRun {M O : Type 0} (fault : Fault) (steps_to : M → StepLabel → M → Type 0)
    (leaves : Fault → M → M → Drawn → SinkChange → Type 0) (w : Watching O)
    (units left : ℕ) (old new : M) (from : O)
    (before after : Oracle) (input : Drawn) (out notes : SinkChange) : Type 0 where
  pub labels : List StepLabel
  pub mid : M
  pub label : StepLabel
  pub intended : M
  pub row : Row steps_to old labels mid
  pub going : AreGoing labels
  pub unstopped : Unstopped w.after w.stops from labels
  pub is : steps_to mid label intended
  pub used : units_of labels + label.units + left ≡ units
  pub effect : PartialRunEffect w from labels label before after input out notes
  pub after_fault : StateAfterFault leaves fault label mid intended new (drawn_from input effect.left input.before)
      (sunk_from out effect.written out.before) (sunk_from notes effect.noted notes.before)
  pub cause : Causes fault input out notes
