-- A session from the start, against the transcript.
use Rattle.std.proofs.Common.{◌≡◌, ◌∙◌, ℕ, List, [], ◌++◌, refl, sym, ap, subst}
use Rattle.alpha_io.specs.SinkChange.{SinkChange, Puts, WritesPartly}
use Rattle.alpha_io.proofs.Sinks.{WritesPartly-whole}
use Rattle.alpha_image.specs.Parts.{Parts}
use Rattle.alpha_seq.specs.Devices.{Drawn}
use Rattle.alpha_debug.specs.declared.debugger.Debugger.{Debugger}
use Rattle.alpha_debug.specs.declared.end.DebugEnd.{DebugEnd}
use Rattle.alpha_debug.specs.declared.end.DebugEnd.TheVariants.{Done, InputFault, SinkFault, TooLarge, NoMemory}
use Rattle.alpha_debug.specs.Session.{Session}
use Rattle.alpha_debug.specs.Script.{Transcript, transcript, transcript_from, script_limit}
use Rattle.alpha_debug.specs.Effects.{setting_of, IsOpened, told_from, Reads, Tells, ReadingFails, SessionSinkFails}
use Rattle.alpha_debug.specs.Effects.{TellEffect}
use Rattle.alpha_debug.specs.DebugEffect.{Follows, IsWhole, IsUnread, IsUnwritten, DebugEffect}
use Rattle.alpha_debug.proofs.SinkEffects.{output_without_block, Puts-output_change}

-- the transcript is that from the start
told-is : (image : Parts) (d : Debugger) (script : List ℕ) → IsOpened image d
    → told_from d [] script_limit [] script ≡ transcript (setting_of d) script
unfolding transcript
told-is image d script opens = ap (λ (s : Session). transcript_from (setting_of d) s script_limit [] script) opens.start

Follows-told : (image : Parts) (d : Debugger) (script : Drawn) (taken rest : List ℕ) → IsOpened image d
    → Reads script taken rest → Follows image script (told_from d [] script_limit [] (taken ++ rest))
Follows-told image d script taken rest opens reads = record {
  taken = taken;
  rest = rest;
  is = record { setting = setting_of d; is_setting = opens.setting; is = told-is image d (taken ++ rest) opens };
  took = reads.took;
  calls = reads.calls;
  most = reads.most;
}

IsWhole-told : (end : DebugEnd) (image : Parts) (d : Debugger) (script : Drawn) (out : SinkChange) → IsOpened image d
    → Tells d end script (output_without_block out) → IsWhole end image script out
unfolding Follows-told
IsWhole-told end image d script out opens tells =
    let t : Transcript = told_from d [] script_limit [] (tells.taken ++ tells.rest) in
    let is : t ≡ record { text = tells.put; end = end } = tells.is [] in
    record {
      told = t;
      follows = Follows-told image d script tells.taken tells.rest opens tells.reads;
      alone = record {
        setting = setting_of d;
        is_setting = opens.setting;
        is = is ∙ (sym (tells.alone []) ∙ told-is image d tells.taken opens);
      };
      same = tells.same;
      wrote =
          subst (λ (u : Transcript). Puts out u.text) (sym is)
          (Puts-output_change (output_without_block out) tells.put refl refl tells.wrote);
      end_is = ap (λ (u : Transcript). u.end) is;
    }

IsUnread-reading_fails : (image : Parts) (d : Debugger) (script : Drawn) (out : SinkChange) → IsOpened image d
    → ReadingFails d script (output_without_block out) → IsUnread image script out
IsUnread-reading_fails image d script out opens fails =
    let t : Transcript = told_from d [] script_limit [] (fails.taken ++ fails.rest) in
    let more = fails.more [] in
    let wrote : Puts out fails.put = Puts-output_change (output_without_block out) fails.put refl refl fails.wrote in
    record {
      told = t;
      follows = Follows-told image d script fails.taken fails.rest opens fails.reads;
      later = fails.later;
      cause = fails.cause;
      part = subst (WritesPartly out) (sym more.is) (WritesPartly-whole out fails.put more.bytes wrote);
      same = wrote.same;
    }

unwritten : (image : Parts) (d : Debugger) (script : Drawn) (out : SinkChange) → IsOpened image d
    → SessionSinkFails d script (output_without_block out) → IsUnwritten image script out
unwritten image d script out opens fails =
    let t : Transcript = told_from d [] script_limit [] (fails.taken ++ fails.rest) in
    let breaks = fails.breaks [] in
    record {
      told = t;
      follows = Follows-told image d script fails.taken fails.rest opens fails.reads;
      same = fails.same;
      part = subst (WritesPartly out) (sym breaks.is) breaks.stops.part;
      cause = breaks.stops.failed;
    }

pub opened_effect : (end : DebugEnd) (image : Parts) (d : Debugger) (script : Drawn) (out : SinkChange)
    → IsOpened image d → TellEffect end d script (output_without_block out) → DebugEffect end image script out
opened_effect Done image d script out opens did = IsWhole-told Done image d script out opens did
opened_effect TooLarge image d script out opens did = IsWhole-told TooLarge image d script out opens did
opened_effect InputFault image d script out opens did = IsUnread-reading_fails image d script out opens did
opened_effect SinkFault image d script out opens did = unwritten image d script out opens did
opened_effect NoMemory image d script out opens did = absurd did
