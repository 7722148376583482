-- What a call of `debug FILE` shows, by the bytes that the calls of its devices gave and took, whatever these tell
-- beforehand.
use Rattle.std.specs.Prelude.{◌≡◌, ℕ, ◌≤◌, List, [], length}
use Rattle.alpha_io.specs.History.{HasGiven}
use Rattle.alpha_io.specs.SinkChange.{SinkChange, Puts}
use Rattle.alpha_image.specs.Parts.{Parts}
use Rattle.alpha_seq.specs.Devices.{Drawn}
use Rattle.alpha_debug.specs.Script.{Transcript, IsTranscript}
use Rattle.alpha_cmd.specs.declared.decision.Decision.{Decision}
use Rattle.alpha_cmd.specs.declared.status.Status.{Status}
use Rattle.alpha_cmd.specs.Status.{status_line}
use Rattle.alpha_cmd.specs.Call.{Call}
use Rattle.alpha_cmd.specs.OfImage.Debug.{script_most, session_status}

-- The transcript at an image of the script that the calls of the source gave, which was asked for nothing else: no more
-- than the bytes of a script that count and one.
pub record SessionOnReplies (image : Parts) (d : Drawn) : Type 0 where
  pub script : List ℕ
  pub gave : HasGiven d.old.replies d.new.replies script
  pub most : length script ≤ script_most
  pub told : Transcript
  pub is : IsTranscript image script told

-- The status is that of its end. Its text was put and the status's line noted, all of them and nothing else.
pub record ShowsSession (image : Parts) (status : Status) (c : Call) : Type 0 where
  pub session : SessionOnReplies image c.input
  pub status_is : status ≡ session_status session.told.end
  pub put : Puts c.out session.told.text
  pub noted : Puts c.notes (status_line (session_status session.told.end))

-- its text was put, and its status and the line of that are still to be said
pub record DecidesSession (image : Parts) (decision : Decision) (d : Drawn) (out sink : SinkChange) : Type 0 where
  pub session : SessionOnReplies image d
  pub status_is : decision.status ≡ session_status session.told.end
  pub no_more : decision.output ≡ []
  pub line_is : decision.line ≡ status_line (session_status session.told.end)
  pub put : Puts out session.told.text
  pub noted : Puts sink []
