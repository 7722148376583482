-- What a session did, by its answer, where devices may tell nothing.
use Rattle.std.specs.Prelude.{◌≡◌, ℕ, ◌+◌, ◌≤◌, List, ◌++◌, length}
use Rattle.alpha_io.specs.History.{HasGiven}
use Rattle.alpha_io.specs.Faults.{Faulted}
use Rattle.alpha_io.specs.SinkChange.{SinkChange, Puts, WritesPartly, HasFailed}
use Rattle.alpha_pal.specs.CallEffect.{Takes}
use Rattle.alpha_image.specs.Parts.{Parts}
use Rattle.alpha_seq.specs.Devices.{Drawn, Rests, Idles}
use Rattle.alpha_debug.specs.declared.end.DebugEnd.{DebugEnd}
use Rattle.alpha_debug.specs.declared.end.DebugEnd.TheVariants.{Done, InputFault, SinkFault, TooLarge, NoMemory}
use Rattle.alpha_debug.specs.Script.{Transcript, IsTranscript, script_limit}

-- The transcript of a script at an image. These bytes of the script were taken, no more than those that count and one,
-- and the rest is left. A script that is told is what was taken and the rest. Told or not, its calls gave what was
-- taken.
pub record Follows (image : Parts) (script : Drawn) (t : Transcript) : Type 0 where
  pub taken : List ℕ
  pub rest : List ℕ
  pub is : IsTranscript image (taken ++ rest) t
  pub took : Takes script.old.left script.new.left taken rest
  pub calls : HasGiven script.old.replies script.new.replies taken
  pub most : length taken ≤ script_limit + 1

-- a session to its end: all of the transcript was written, which is that of the bytes that were taken, whatever follows
-- them
pub record IsWhole (end : DebugEnd) (image : Parts) (script : Drawn) (out : SinkChange) : Type 0 where
  pub told : Transcript
  pub follows : Follows image script told
  pub alone : IsTranscript image follows.taken told
  pub same : script.now ≡ script.before
  pub wrote : Puts out told.text
  pub end_is : told.end ≡ end

-- a session whose script failed: a prefix of the transcript was written, and the sink didn't fail
pub record IsUnread (image : Parts) (script : Drawn) (out : SinkChange) : Type 0 where
  pub told : Transcript
  pub follows : Follows image script told
  pub later : script.before ≤ script.now
  pub cause : Faulted script.before script.now
  pub part : WritesPartly out told.text
  pub same : out.now ≡ out.before

-- a session whose sink failed: a prefix of the transcript was written, and the script didn't fail
pub record IsUnwritten (image : Parts) (script : Drawn) (out : SinkChange) : Type 0 where
  pub told : Transcript
  pub follows : Follows image script told
  pub same : script.now ≡ script.before
  pub part : WritesPartly out told.text
  pub cause : HasFailed out

-- what a session did, by its answer: without memory nothing
abbrev pub DebugEffect : DebugEnd → Parts → Drawn → SinkChange → Type 0
DebugEffect Done image script out = IsWhole Done image script out
DebugEffect TooLarge image script out = IsWhole TooLarge image script out
DebugEffect InputFault image script out = IsUnread image script out
DebugEffect SinkFault image script out = IsUnwritten image script out
DebugEffect NoMemory image script out = Rests script × Idles out
