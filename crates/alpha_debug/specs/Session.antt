-- A debugger's session: how it stands, and what it answers to a command.
use Rattle.std.specs.Prelude.{◌≡◌, ℕ, zero, suc, Bool, true, false, ◌==◌, ◌||◌, not, if◌then◌else◌, List, [], ◌∷◌, ◌++◌}
use Rattle.std.specs.Prelude.{length, codes, Option, Some, None}
use Rattle.std.specs.List.{list_any, filter}
use Rattle.alpha_words.specs.declared.Completion.TheVariants.{Wrap}
use Rattle.alpha_image.specs.Parts.{Parts, place_of}
use Rattle.alpha_shadow.specs.declared.broken.Broken.{Broken}
use Rattle.alpha_shadow.specs.Broken.{IsAccepted}
use Rattle.alpha_shadow.specs.Least.{IsLeastBroken}
use Rattle.alpha_seq.specs.declared.end.End.{End}
use Rattle.alpha_seq.specs.State.{Program, State, Event, Went, Barriered, Overflowed, Ends}
use Rattle.alpha_seq.specs.Step.{step_from}
use Rattle.alpha_seq.specs.Start.{start}
use Rattle.alpha_seq.specs.Run.{put, end_of, is_over}
use Rattle.alpha_seq.specs.Notes.{register_lines}
use Rattle.alpha_debug.specs.declared.command.Command.{Command}
use Rattle.alpha_debug.specs.declared.command.Command.TheVariants.{Nothing, Step, Go, Barrier, Break, Clear, Registers}
use Rattle.alpha_debug.specs.declared.command.Command.TheVariants.{Memory, Listing, Shadow, Log, Quit}
use Rattle.alpha_debug.specs.declared.watcher.Until.{Until}
use Rattle.alpha_debug.specs.declared.watcher.Until.TheVariants as until
use Rattle.alpha_debug.specs.Command.{most_steps}
use Rattle.alpha_debug.specs.Lines.{ended, where_line, memory_lines, code_lines, verdict_line, log_line}

-- what a session doesn't change: the program, and the least broken place of its code, if there is one
pub record Setting : Type 0 where
  pub program : Program
  pub verdict : Option Broken

-- How a session stands: the state of the program, whose input is empty; all that the session and the program have
-- written; the breakpoints; how the program ended, if it has; and whether `quit` came.
pub record Session : Type 0 where
  pub state : State
  pub text : List ℕ
  pub points : List ℕ
  pub end : Option End
  pub over : Bool

-- ---- the start

-- the verdict on the words of some code
abbrev pub IsVerdict : List ℕ → Option Broken → Type 0
IsVerdict words None = IsAccepted words
IsVerdict words (Some broken) = IsLeastBroken words broken

-- an overflow wraps
pub record IsSetting (image : Parts) (g : Setting) : Type 0 where
  pub program : g.program ≡ record { image = image; completion = Wrap }
  pub verdict : IsVerdict image.words g.verdict

-- the program stands at its start, over an empty input
abbrev pub opened : Setting → Session
opened g = record { state = start g.program; text = []; points = []; end = None; over = false }

-- ---- what is written

-- all that a session has written
abbrev pub text_of : Session → List ℕ
text_of s = s.text

abbrev pub with_text : Session → List ℕ → Session
with_text s bytes = record s { text = s.text ++ bytes }

-- ---- steps

abbrev pub has_point : List ℕ → ℕ → Bool
has_point points at = list_any (λ point. point == at) points

abbrev pub is_barrier : Event → Bool
is_barrier Went = false
is_barrier (Barriered traffic pc regs) = true
is_barrier (Overflowed at) = false
is_barrier (Ends end) = false

-- whether a step is the last one that is made, by whether it was a barrier and the PC behind it
abbrev pub is_reached : Until → List ℕ → Bool → ℕ → Bool
is_reached until.Spent points barrier pc = false
is_reached until.Breakpoint points barrier pc = has_point points pc
is_reached until.Barrier points barrier pc = barrier

abbrev pub is_last : Until → List ℕ → Event → ℕ → Bool
is_last wanted points event pc = is_over event || is_reached wanted points (is_barrier event) pc

-- where some steps lead, what is written then, and how the program ended, if it has
pub record StepsResult : Type 0 where
  pub state : State
  pub text : List ℕ
  pub end : Option End

-- at most n steps with no input, behind a text, fewer where the program ends or the wanted step came
unfoldable pub step_until : Program → Until → List ℕ → ℕ → State → List ℕ → StepsResult
step_until g wanted points zero s text = record { state = s; text = text; end = None }
step_until g wanted points (suc n) s text =
    let t = step_from g s [] in
    if is_last wanted points t.event t.state.pc
    then record { state = t.state; text = text ++ put t.event; end = end_of t.event }
    else step_until g wanted points n t.state (text ++ put t.event)

abbrev pub with_steps : Session → StepsResult → Session
with_steps s w = record s { state = w.state; text = w.text; end = w.end }

-- a program that has ended makes no step
abbrev pub if_going : Option End → Session → StepsResult → Session
if_going None s w = with_steps s w
if_going (Some end) s w = s

-- where the program stands is said
abbrev pub with_where_line : Session → Session
with_where_line s = with_text s (where_line s.end s.state.pc)

abbrev pub if_not_ended : Setting → Until → ℕ → Session → Session
if_not_ended g wanted most s = if_going s.end s (step_until g.program wanted s.points most s.state s.text)

abbrev pub continue_until : Setting → Until → ℕ → Session → Session
continue_until g wanted most s = with_where_line (if_not_ended g wanted most s)

-- ---- breakpoints

-- the most breakpoints
abbrev pub most_points : ℕ
most_points = 64

abbrev pub ok : List ℕ
ok = ended (codes "ok")

-- one more, unless it is there or there is no room
abbrev pub adding : Session → ℕ → Session
adding s at =
    if has_point s.points at then with_text s ok
    else if length s.points == most_points then with_text s (ended (codes "full"))
    else with_text (record s { points = s.points ++ at ∷ [] }) ok

-- without one, if it is there
abbrev pub clearing : Session → ℕ → Session
clearing s at = with_text (record s { points = filter (λ point. not (point == at)) s.points }) ok

-- ---- commands

-- whether a command changes nothing but what is written
abbrev pub is_shown : Command → Bool
is_shown Nothing = false
is_shown (Step n) = false
is_shown Go = false
is_shown Barrier = false
is_shown (Break at) = false
is_shown (Clear at) = false
is_shown Quit = false
is_shown command = true

-- what such a command says, at a state of the program
abbrev pub shown : Setting → Command → State → List ℕ
shown g Registers s = register_lines s.regs
shown g (Memory at count) s = memory_lines s.mem at count
shown g (Listing at count) s = code_lines g.program.image (place_of g.program.image at) count
shown g Shadow s = verdict_line g.verdict g.program.image.code_base
shown g Log s = log_line s.count s.logged
shown g command s = ended (codes "?")

abbrev pub answer : Setting → Command → Session → Session
answer g Nothing s = s
answer g (Step n) s = continue_until g until.Spent n s
answer g Go s = continue_until g until.Breakpoint most_steps s
answer g Barrier s = continue_until g until.Barrier most_steps s
answer g (Break at) s = adding s at
answer g (Clear at) s = clearing s at
answer g Quit s = record s { over = true }
answer g command s = with_text s (shown g command s.state)

-- how a session stands when the steps of a command are made, and nothing is said of them yet
abbrev pub behind_steps : Setting → Command → Session → Session
behind_steps g (Step n) s = if_not_ended g until.Spent n s
behind_steps g Go s = if_not_ended g until.Breakpoint most_steps s
behind_steps g Barrier s = if_not_ended g until.Barrier most_steps s
behind_steps g command s = s
