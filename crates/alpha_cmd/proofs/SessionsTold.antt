-- From what a session did to what is done of an image by it.
use Rattle.std.proofs.Common.{◌≡◌, ◌∙◌, ◌+◌, ℕ, List, [], ◌++◌, length, Option, None, Some, Ok, Err, refl, sym, ap}
use Rattle.std.proofs.Common.{subst, inl, arith}
use Rattle.std.proofs.lemmas.List.{length-append}
use Rattle.alpha_io.specs.declared.Failed.{Failed}
use Rattle.alpha_io.specs.declared.shelf.Shelf as shelves
use Rattle.alpha_io.specs.declared.source.Source as sources
use Rattle.alpha_io.specs.declared.sink.Sink as sinks
use Rattle.alpha_io.specs.SinkChange.{SinkChange, sink_change, WritesPartly}
use Rattle.alpha_io.proofs.Sinks.{Puts-none, WritesPartly-none}
use Rattle.alpha_pal.specs.declared.fault.Fault.TheVariants as faults
use Rattle.alpha_pal.specs.CallEffect.{Takes}
use Rattle.alpha_image.specs.Parts.{Parts}
use Rattle.alpha_request.specs.declared.request.ImageCommand.TheVariants.{Debug}
use Rattle.alpha_seq.specs.Devices.{Drawn, LeavesEnd, drawn}
use Rattle.alpha_debug.specs.declared.end.DebugEnd.{DebugEnd}
use Rattle.alpha_debug.specs.Script.{Transcript, IsTranscript}
use Rattle.alpha_debug.specs.DebugEffect.{Follows, IsWhole, IsUnread, IsUnwritten}
use Rattle.alpha_cmd.specs.declared.decision.Decision.{Decision}
use Rattle.alpha_cmd.specs.declared.devices.Devices.{Devices}
use Rattle.alpha_cmd.specs.Status.{status_line}
use Rattle.alpha_cmd.specs.Outcome.{continues}
use Rattle.alpha_cmd.specs.OfImage.Debug.{MayTell, session_status, LeavesOfScript, answer_told, IsEndStatus}
use Rattle.alpha_cmd.specs.Answer.{Answer}
use Rattle.alpha_cmd.specs.AnswerBy.{AnswerBy, status_answer, told}
use Rattle.alpha_cmd.specs.Ends.{still}
use Rattle.alpha_cmd.specs.SessionRan.{DecidesSession}
use Rattle.alpha_cmd.specs.Call.{called}
use Rattle.alpha_cmd.specs.Decision.{answer_in, IsCutShort}
use Rattle.alpha_cmd.specs.CommandEffect.{CommandEffect}
use Rattle.alpha_cmd.specs.OfImage.{on}
use Rattle.alpha_cmd.proofs.CutShort.{AttemptPrefixes}
use Rattle.alpha_cmd.proofs.StreamedWrites.{streamed_devices, does_whole, does_cut}

-- ---- the script

told_by : (image : Parts) (old now : Option (List ℕ)) (taken rest : List ℕ) (t : Transcript) → Takes old now taken rest
    → IsTranscript image (taken ++ rest) t → MayTell old image t
told_by image None now taken rest t took is = (taken ++ rest, is)
told_by image (Some script) now taken rest t took is =
    subst (λ (bytes : List ℕ). IsTranscript image bytes t) (sym took.0) is

pub may_tell : (image : Parts) (d : Drawn) (t : Transcript) → Follows image d t → MayTell d.old.left image t
may_tell image d t follows = told_by image d.old.left d.new.left follows.taken follows.rest t follows.took follows.is

-- what is left of it
pub script_left : (image : Parts) (d : Drawn) (t : Transcript) → Follows image d t → LeavesOfScript d
script_left image d t follows =
    let took = λ (bytes : List ℕ) (tells : d.old.left ≡ Some bytes).
    subst (λ (old : Option (List ℕ)). Takes old d.new.left follows.taken follows.rest) tells follows.took in (
      λ bytes tells. (follows.taken, follows.rest, (took bytes tells).0, (took bytes tells).1),
      λ bytes rest tells left.
          let same : rest ≡ follows.rest = (let e = sym left ∙ (took bytes tells).1 in cc) in
          let all : length bytes ≡ length follows.taken + length follows.rest =
          ap length (took bytes tells).0 ∙ length-append follows.taken follows.rest in
          omega (arith, all, ap length same, follows.most),
    )

-- ---- what is done of an image by a session

module _ {H S K N : Type 0} (h : shelves.Ghosts H) (s : sources.Ghosts S) (k : sinks.Ghosts K) (n : sinks.Ghosts N)
    (old : Devices H S K N) (input : S) (out : K) (image : Parts) where
  abbrev new : Devices H S K N
  new = streamed_devices h s k n old input out old.notes

  rest : (t : Transcript) → Follows image (drawn s old.input input) t → LeavesEnd (drawn s old.input input)
  rest t follows = (script_left image (drawn s old.input input) t follows).0

  -- its transcript is an answer
  answers : (t : Transcript) → Follows image (drawn s old.input input) t
      → AnswerBy (on Debug image).steps (told (called h s k n old new)) (answer_told t)
  answers t follows = (continues (answer_told t), (t, may_tell image (drawn s old.input input) t follows, refl), refl)

  -- a front of it was written
  session_prefixes : (t : Transcript) → Follows image (drawn s old.input input) t
      → WritesPartly (sink_change k old.out out) t.text
      → AttemptPrefixes (on Debug image) (told (called h s k n old new)) (sink_change k old.out out)
      (sink_change n old.notes old.notes)
  session_prefixes t follows part = record {
    answer = answer_told t;
    kept = inl refl;
    is = answers t follows;
    bytes = part.prefix;
    lines = (WritesPartly-none (n.written old.notes) (n.faults old.notes) []).prefix;
  }

  pub session_whole : (end : DebugEnd) (d : Decision) → IsEndStatus (session_status end)
      → ((left : Option (List ℕ))
      → answer_in left d ≡ status_answer left (session_status end) (status_line (session_status end)))
      → IsWhole end image (drawn s old.input input) (sink_change k old.out out)
      → CommandEffect h s k n (on Debug image) (Ok d) old new
  session_whole end d ends says did =
      does_whole h s k n old input out old.notes (on Debug image) d (answer_told did.told) (session_status end)
      (status_line (session_status end))
      (answers did.told did.follows) says (ap session_status (sym did.end_is))
      (ap (λ e. status_line (session_status e)) (sym did.end_is))
      did.wrote (Puts-none (n.written old.notes) (n.faults old.notes)) tt refl (refl, inl ends) did.same
      (rest did.told did.follows)

  pub session_unread : (d : Decision) → IsCutShort faults.Input (Ok d)
      → IsUnread image (drawn s old.input input) (sink_change k old.out out)
      → CommandEffect h s k n (on Debug image) (Ok d) old new
  session_unread d says did =
      does_cut h s k n old input out old.notes (on Debug image) faults.Input (Ok d) refl
      (session_prefixes did.told did.follows did.part) says
      (record { later = did.later; source = did.cause; sink = did.same; lines = refl }) (rest did.told did.follows)

  pub session_unwritten : (e : Failed) → IsUnwritten image (drawn s old.input input) (sink_change k old.out out)
      → CommandEffect h s k n (on Debug image) (Err e) old new
  session_unwritten e did =
      does_cut h s k n old input out old.notes (on Debug image) faults.Output (Err e) refl
      (session_prefixes did.told did.follows did.part) tt
      (record { source = did.same; later = did.part.later; sink = did.cause; lines = refl }) (rest did.told did.follows)

-- a session to its end, by what the calls of its script gave
pub session_decides : (image : Parts) (end : DebugEnd) (d : Decision) (script : Drawn) (out : SinkChange)
    (notes : Option (List ℕ)) (count : ℕ)
    → ((left : Option (List ℕ))
    → answer_in left d ≡ status_answer left (session_status end) (status_line (session_status end)))
    → IsWhole end image script out → DecidesSession image d script out (still notes count)
session_decides image end d script out notes count says did =
    let e = says None in
    let same : session_status end ≡ session_status did.told.end = ap session_status (sym did.end_is) in
    record {
      session = record {
        script = did.follows.taken;
        gave = did.follows.calls;
        most = did.follows.most;
        told = did.told;
        is = did.alone;
      };
      status_is = ap (λ (a : Answer). a.status) e ∙ same;
      no_more = ap (λ (a : Answer). a.output) e;
      line_is = ap (λ (a : Answer). a.line) e ∙ ap status_line same;
      put = did.wrote;
      noted = Puts-none notes count;
    }
