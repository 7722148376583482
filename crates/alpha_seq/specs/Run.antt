-- A run is a list of the events of its steps, which ends where the program does. All that it shows is read off that
-- list.
use Rattle.std.specs.Prelude.{◌≡◌, ⊤, ℕ, zero, suc, Bool, true, false, if◌then◌else◌, List, [], ◌∷◌, ◌++◌, length, take}
use Rattle.std.specs.Prelude.{drop, Option, Some, None}
use Rattle.std.specs.List.{flat_map}
use Rattle.alpha_pal.specs.Call.{Traffic, Silent, Read, asked_in, given_in, put_in}
use Rattle.alpha_seq.specs.declared.end.End.{End}
use Rattle.alpha_seq.specs.State.{Program, State, Event, Went, Barriered, Overflowed, Ends, Stepped, stepped}
use Rattle.alpha_seq.specs.Start.{start}
use Rattle.alpha_seq.specs.Step.{step_from}
use Rattle.alpha_seq.specs.Notes.{overflow_line, barrier_lines}

-- ---- what is read off an event

-- what passed in its step, how many bytes were asked for, those that were given, and those that were put
abbrev pub traffic_of : Event → Traffic
traffic_of (Barriered traffic pc regs) = traffic
traffic_of event = Silent

abbrev pub asked : Event → ℕ
asked event = asked_in (traffic_of event)

abbrev pub given : Event → List ℕ
given event = given_in (traffic_of event)

abbrev pub put : Event → List ℕ
put event = put_in (traffic_of event)

-- its lines, those of barriers only where they are watched
abbrev pub lines_of : Bool → Event → List ℕ
lines_of watch (Barriered traffic pc regs) = if watch then barrier_lines pc regs else []
lines_of watch (Overflowed at) = overflow_line at
lines_of watch event = []

abbrev pub is_over : Event → Bool
is_over (Ends end) = true
is_over event = false

-- how the program ended, if it has
abbrev pub end_of : Event → Option End
end_of (Ends end) = Some end
end_of event = None

-- ---- what is read off a run

abbrev pub taken : List Event → List ℕ
taken events = flat_map given events

abbrev pub output : List Event → List ℕ
output events = flat_map put events

abbrev pub notes : Bool → List Event → List ℕ
notes watch events = flat_map (lines_of watch) events

-- the addresses of the overflows that were logged
abbrev pub logged_by : Event → List ℕ
logged_by (Overflowed at) = at ∷ []
logged_by event = []

abbrev pub log : List Event → List ℕ
log events = flat_map logged_by events

-- ---- runs

-- no step was made
abbrev pub begins : State → Stepped
begins s = stepped s Went

-- the step that was given what this event was given
abbrev pub next : Program → Stepped → Event → Stepped
next g a event = step_from g a.state (given event)

-- From one moment to another by steps with these events. None follows the end.
abbrev pub Runs : Program → Stepped → List Event → Stepped → Type 0
Runs g a [] b = a ≡ b
Runs g a (event ∷ events) b =
    (is_over a.event ≡ false) × ((next g a event).event ≡ event) × Runs g (next g a event) events b

-- ---- over an input

-- what is left of an input behind a step
abbrev pub left_by : Event → List ℕ → List ℕ
left_by event input = drop (length (given event)) input

-- The steps read this input, each what it asks for or all that is left, and this is left of it.
abbrev pub Fed : List ℕ → List Event → List ℕ → Type 0
Fed input [] left = input ≡ left
Fed input (event ∷ events) left = (given event ≡ take (asked event) input) × Fed (left_by event input) events left

-- whether a step read: a system call did that asked for a good read, whatever it was given
abbrev pub is_read : Traffic → Bool
is_read (Read asked given) = true
is_read traffic = false

abbrev pub ReadNothing : List Event → Type 0
ReadNothing [] = ⊤
ReadNothing (event ∷ events) = (is_read (traffic_of event) ≡ false) × ReadNothing events

-- where the program stands behind the events so far, and what is left of the input
pub record Run : Type 0 where
  pub at : Stepped
  pub events : List Event
  pub left : List ℕ

abbrev pub started : State → List ℕ → Run
started s input = record { at = begins s; events = []; left = input }

abbrev pub extended_by : Run → Stepped → Run
extended_by r b = record { at = b; events = r.events ++ b.event ∷ []; left = left_by b.event r.left }

-- one step more; a run that is over stays
abbrev pub advance : Program → Run → Run
advance g r = if is_over r.at.event then r else extended_by r (step_from g r.at.state r.left)

-- the run of n steps from a state over an input, fewer where it ends
abbrev pub after : Program → State → List ℕ → ℕ → Run
after g s input zero = started s input
after g s input (suc n) = advance g (after g s input n)

-- ---- what is seen of a run

-- What a run shows that is cut after some steps: how it ended, or nothing where all steps were made and it hasn't;
-- the number of steps; the output, the input left and the notes.
pub record Shown : Type 0 where
  pub end : Option End
  pub steps : ℕ
  pub output : List ℕ
  pub left : List ℕ
  pub notes : List ℕ

abbrev pub shown : Bool → Run → Shown
shown watch r = record {
  end = end_of r.at.event;
  steps = length r.events;
  output = output r.events;
  left = r.left;
  notes = notes watch r.events;
}

-- the run of at most n steps from the start, over an input
abbrev pub sequential : Program → List ℕ → ℕ → Bool → Shown
sequential g input n watch = shown watch (after g (start g) input n)
