-- What was answered to a piece of a script, behind which all that waited is put.
use Rattle.std.proofs.Common.{◌≡◌, ◌∙◌, ◌-◌, ℕ, List, [], ◌++◌, length, refl, sym, ap, subst, append-nil}
use Rattle.alpha_io.specs.declared.sink.Sink.{Ghosts}
use Rattle.alpha_io.specs.SinkChange.{sink_change, Puts}
use Rattle.alpha_debug.specs.declared.command.Command.{Command}
use Rattle.alpha_debug.specs.declared.debugger.Debugger.{Debugger}
use Rattle.alpha_debug.specs.declared.debugger.SessionState.{SessionState}
use Rattle.alpha_debug.specs.declared.debugger.SessionState.TheVariants.{Continues, Quits}
use Rattle.alpha_debug.specs.Session.{text_of}
use Rattle.alpha_debug.specs.Script.{Transcript}
use Rattle.alpha_debug.specs.OutputChange.{output_change, AppendsOutput, SinkFailsWith}
use Rattle.alpha_debug.specs.Effects.{Grows, FailsBehind, with_block, Answers, AnswerFails, FeedsBytes, FeedFails}
use Rattle.alpha_debug.specs.Effects.{told_after}
use Rattle.alpha_debug.proofs.SinkEffects.{Grows-same, FailsBehind-more, AppendsOutput-both, SinkFailsWith-after}
use Rattle.alpha_debug.proofs.BlockContents.{AppendsOutput-flushed}
use Rattle.alpha_debug.proofs.ScriptLines.{told_from-Grows}

told_after-grows : (talk : SessionState) (d : Debugger) (text : List ℕ) (most : ℕ) (begun rest : List ℕ)
    → Grows text (told_after talk d text most begun rest).text
told_after-grows Continues d text most begun rest = told_from-Grows d text most begun rest
told_after-grows Quits d text most begun rest = Grows-same text

-- what waits is no part of the transcript
told_after-with : (talk : SessionState) (d : Debugger) (waits text : List ℕ) (most : ℕ) (begun rest : List ℕ)
    → told_after talk d text most begun rest ≡ told_after talk (with_block d waits) text most begun rest
told_after-with Continues d waits text most begun rest = refl
told_after-with Quits d waits text most begun rest = refl

module _ {K : Type 0} (g : Ghosts K) (o p q : K) (waits : List ℕ) where
  put-all : (bytes : List ℕ) → AppendsOutput (output_change g o [] p waits) bytes → Puts (sink_change g p q) waits
      → AppendsOutput (output_change g o [] q []) bytes
  put-all bytes wrote puts =
      subst (AppendsOutput (output_change g o [] q [])) (append-nil bytes)
      (AppendsOutput-both g.written g.faults (o, []) (p, waits) (q, []) bytes [] wrote
      (AppendsOutput-flushed g p q waits puts))

  put-part : (left bytes : List ℕ) → AppendsOutput (output_change g o [] p waits) bytes
      → SinkFailsWith (output_change g p waits q left) [] → SinkFailsWith (output_change g o [] q []) bytes
  put-part left bytes wrote stops =
      subst (SinkFailsWith (output_change g o [] q [])) (append-nil bytes)
      (SinkFailsWith-after g.written g.faults (o, []) (p, waits) (q, left) bytes [] wrote stops)

  pub answers_stopped : (left : List ℕ) (command : Command) (talk : SessionState) (old new : Debugger)
      → Answers command talk old new (output_change g o [] p waits) → SinkFailsWith (output_change g p waits q left) []
      → AnswerFails command old (output_change g o [] q [])
  answers_stopped left command talk old new answers stops text = record {
    bytes = answers.bytes;
    is = ap text_of (answers.is text);
    stops = put-part left answers.bytes answers.wrote stops;
  }

  pub FeedsBytes-put : (left bytes begun : List ℕ) (talk : SessionState) (old new : Debugger) (held : List ℕ)
      → FeedsBytes bytes begun talk old new held (output_change g o [] p waits) → Puts (sink_change g p q) waits
      → FeedsBytes bytes begun talk old (with_block new left) held (output_change g o [] q [])
  FeedsBytes-put left bytes begun talk old new held hears puts = record {
    put = hears.put;
    line = hears.line;
    wrote = put-all hears.put hears.wrote puts;
    pending_is = hears.pending_is;
    is =
        λ text most rest l. hears.is text most rest l
        ∙ told_after-with talk new left (text ++ hears.put) (most - length bytes) hears.line rest;
  }

  pub FeedsBytes-stopped : (left bytes begun : List ℕ) (talk : SessionState) (old new : Debugger) (held : List ℕ)
      → FeedsBytes bytes begun talk old new held (output_change g o [] p waits)
      → SinkFailsWith (output_change g p waits q left) [] → FeedFails bytes begun old (output_change g o [] q [])
  FeedsBytes-stopped left bytes begun talk old new held hears stops text most rest l =
      let s = output_change g o [] q [] in
      let behind : Transcript = told_after talk new (text ++ hears.put) (most - length bytes) hears.line rest in
      subst (λ (t : Transcript). FailsBehind s text t.text) (sym (hears.is text most rest l))
      (FailsBehind-more s text (text ++ hears.put) behind.text
      (record { bytes = hears.put; is = refl; stops = put-part left hears.put hears.wrote stops })
      (told_after-grows talk new (text ++ hears.put) (most - length bytes) hears.line rest))
