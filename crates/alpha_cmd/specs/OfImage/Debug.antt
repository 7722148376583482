-- `debug FILE`: what a session of the debugger on the image's program tells, its status, and what it leaves of its
-- script.
use Rattle.std.specs.Prelude.{◌≡◌, ◌⊎◌, ℕ, ◌+◌, ◌≤◌, List, [], length, Option, Some, None}
use Rattle.alpha_image.specs.Parts.{Parts}
use Rattle.alpha_seq.specs.Devices.{Drawn, LeavesEnd}
use Rattle.alpha_debug.specs.declared.end.DebugEnd.{DebugEnd}
use Rattle.alpha_debug.specs.declared.end.DebugEnd.TheVariants as ends
use Rattle.alpha_debug.specs.Script.{Transcript, IsTranscript, script_limit}
use Rattle.alpha_cmd.specs.declared.status.Status.{Status}
use Rattle.alpha_cmd.specs.declared.status.Status.TheVariants.{Done, InputFault, SinkFault, TooLarge, NoMemory}
use Rattle.alpha_cmd.specs.Status.{status_line}
use Rattle.alpha_cmd.specs.Outcome.{Outcome, Either, Never}
use Rattle.alpha_cmd.specs.Kept.{nothing}
use Rattle.alpha_cmd.specs.Answer.{Answer}

-- the transcript at an image of the script that the input tells; where it tells nothing, that of some script
abbrev pub MayTell : Option (List ℕ) → Parts → Transcript → Type 0
MayTell None image t = (script : List ℕ) × IsTranscript image script t
MayTell (Some script) image t = IsTranscript image script t

-- the status of a session
abbrev pub session_status : DebugEnd → Status
session_status ends.Done = Done 0
session_status ends.InputFault = InputFault
session_status ends.SinkFault = SinkFault
session_status ends.TooLarge = TooLarge script_limit
session_status ends.NoMemory = NoMemory

-- the most bytes of a script that are taken: those that count and one
abbrev pub script_most : ℕ
script_most = script_limit + 1

-- Of an input that is told an end is left, and no more was taken than so many bytes.
abbrev pub LeavesOfScript : Drawn → Type 0
LeavesOfScript d =
    LeavesEnd d
    × ((bytes rest : List ℕ) → d.old.left ≡ Some bytes → d.new.left ≡ Some rest
    → length bytes ≤ length rest + script_most)

-- what a session tells; how much of the script is left is not said here (`LeavesOfScript`)
abbrev pub answer_told : Transcript → Answer
answer_told t = record {
  status = session_status t.end;
  output = t.text;
  trace = [];
  line = status_line (session_status t.end);
  left = None;
  kept = nothing;
}

-- a session on the program of an image, over this input as its script
abbrev pub Debugs : Option (List ℕ) → Parts → Outcome Answer → Type 0
Debugs input image = Either (λ a. (t : Transcript) × MayTell input image t × (a ≡ answer_told t)) Never

-- the statuses of a session's end
abbrev pub IsEndStatus : Status → Type 0
IsEndStatus status = (status ≡ Done 0) ⊎ (status ≡ TooLarge script_limit)
