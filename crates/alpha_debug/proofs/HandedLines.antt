-- Lines of a script in a row, and what was put between them.
use Rattle.std.specs.Prelude.{◌==◌}
use Rattle.std.proofs.Common.{◌≡◌, ◌∙◌, ◌⊎◌, inl, inr, ⊎_elim, ℕ, suc, ◌+◌, ◌-◌, ◌≤◌, true, false, List, [], ◌∷◌, ◌++◌}
use Rattle.std.proofs.Common.{length, take, refl, sym, ap, subst, append_assoc, append-nil, arith}
use Rattle.std.proofs.lemmas.List.{length-append}
use Rattle.std.specs.Str.Lines.{strip_carriage_return}
use Rattle.alpha_io.specs.declared.sink.Sink.{Ghosts}
use Rattle.alpha_io.specs.SinkChange.{sink_change, Puts}
use Rattle.alpha_io.proofs.Sinks.{Puts-then}
use Rattle.alpha_debug.specs.declared.command.Command.{Command}
use Rattle.alpha_debug.specs.declared.debugger.Debugger.{Debugger}
use Rattle.alpha_debug.specs.declared.debugger.SessionState.{SessionState}
use Rattle.alpha_debug.specs.declared.debugger.SessionState.TheVariants.{Continues, Quits}
use Rattle.alpha_debug.specs.declared.end.DebugEnd.{DebugEnd}
use Rattle.alpha_debug.specs.declared.end.DebugEnd.TheVariants.{Done, InputFault, SinkFault, TooLarge, NoMemory}
use Rattle.alpha_debug.specs.Command.{command_of}
use Rattle.alpha_debug.specs.Session.{Setting, Session, text_of, behind_steps, answer}
use Rattle.alpha_debug.specs.Script.{lines_within}
use Rattle.alpha_debug.specs.OutputChange.{output_change, output_change_by, SinkFailsWith}
use Rattle.alpha_debug.specs.Handed.{HandsLine, IsHandedOver, text_behind, Stops, HandsEach}
use Rattle.alpha_debug.specs.Effects.{Grows, session_of, setting_of, left_by, with_block, HandsSteps, Answers}
use Rattle.alpha_debug.specs.Effects.{AnswerFails, IsPendingLine, hands_from, hands_after, Carries, CarryFails}
use Rattle.alpha_debug.proofs.SinkEffects.{Grows-same, AppendsOutput-both, SinkFailsWith-more, SinkFailsWith-after}
use Rattle.alpha_debug.proofs.BlockContents.{AppendsOutput-flushed}
use Rattle.alpha_debug.proofs.Sessions.{answer-grows}
use Rattle.alpha_debug.proofs.ScriptLines.{LineHasNoFeed, lines_within-other_byte, lines_within-line_feed}
use Rattle.alpha_debug.proofs.Scripts.{line-command}

-- ---- where a session stops

module _ {K : Type 0} (k : Ghosts K) where
  pub stops-each : (g : Setting) (end : DebugEnd) (last : K) (s : Session) (lines : List (List ℕ)) (sink : K)
      (waits : List ℕ) → Stops k g end last s lines sink waits → HandsEach k g end last s lines sink waits
  stops-each g end last s [] sink waits stops = stops
  stops-each g end last s (line ∷ more) sink waits stops = inl stops

  behind-grows : (g : Setting) (s : Session) (lines : List (List ℕ)) → Grows (text_of s) (text_behind g s lines)
  behind-grows g s [] = Grows-same (text_of s)
  behind-grows g s (line ∷ more) = answer-grows g (command_of line) s

  -- what waited was to be put
  in-part : (g : Setting) (p q : K) (waits left : List ℕ) → SinkFailsWith (output_change k p waits q left) []
      → (s : Session) (lines : List (List ℕ)) → Stops k g SinkFault q s lines p waits
  in-part g p q waits left stops s lines =
      let more = behind-grows g s lines in
      record {
        bytes = more.bytes;
        is = more.is;
        stops = SinkFailsWith-more (output_change k p waits q left) [] more.bytes stops;
      }

  -- ---- a line

  line-handed : (command : Command) (talk : SessionState) (old new : Debugger) (o p : K) (text : List ℕ)
      → Answers command talk old new (output_change k o old.watcher.block p new.watcher.block)
      → HandsSteps (behind_steps (setting_of old) command) old new
      → HandsLine (setting_of old) command (session_of old text)
      (output_change k o old.watcher.block p new.watcher.block)
  line-handed command talk old new o p text answers handed = record {
    bytes = answers.bytes;
    is = ap text_of (answers.is text);
    wrote = answers.wrote;
    handed =
        ⊎_elim
        (λ (quiet : (t : List ℕ) → text_of (behind_steps (setting_of old) command (session_of old t)) ≡ t).
        inl (quiet text)) (λ (none : new.watcher.block ≡ []). inr none) handed;
  }

  after-line : (talk : SessionState) (end : DebugEnd) (last : K) (old new : Debugger) (text : List ℕ) (n : ℕ)
      (rest : List ℕ) (p : K) → setting_of new ≡ setting_of old → hands_after k talk end last new text n [] rest p
      → HandsEach k (setting_of old) end last (left_by talk new text) (lines_within n [] rest) p new.watcher.block
  after-line Continues end last old new text n rest p same next =
      subst (λ (g : Setting). HandsEach k g end last (session_of new text) (lines_within n [] rest) p new.watcher.block)
      same next
  after-line Quits end last old new text n rest p same next =
      subst (λ (g : Setting).
      HandsEach k g end last (left_by Quits new text) (lines_within n [] rest) p new.watcher.block) same
      (stops-each (setting_of new) end last (left_by Quits new text) (lines_within n [] rest) p new.watcher.block
      (next (lines_within n [] rest)))

  pub line-carries : (command : Command) (talk : SessionState) (old new : Debugger) (o p : K) (end : DebugEnd)
      (last : K) (text : List ℕ) (lines : List (List ℕ))
      → (answers : Answers command talk old new (output_change k o old.watcher.block p new.watcher.block))
      → HandsSteps (behind_steps (setting_of old) command) old new
      → HandsEach k (setting_of old) end last (left_by talk new (text ++ answers.bytes)) lines p new.watcher.block
      → HandsLine (setting_of old) command (session_of old text)
      (output_change k o old.watcher.block p new.watcher.block)
      × HandsEach k (setting_of old) end last (answer (setting_of old) command (session_of old text)) lines p
      new.watcher.block
  line-carries command talk old new o p end last text lines answers handed next = (
    line-handed command talk old new o p text answers handed,
    subst (λ (s : Session). HandsEach k (setting_of old) end last s lines p new.watcher.block)
        (sym (answers.is text)) next,
  )

  pub carries_feed : (begun held line : List ℕ) (talk : SessionState) (old new : Debugger) (o p : K)
      → IsPendingLine begun held → line ≡ strip_carriage_return held → setting_of new ≡ setting_of old
      → Answers (command_of line) talk old new (output_change k o old.watcher.block p new.watcher.block)
      → HandsSteps (behind_steps (setting_of old) (command_of line)) old new
      → Carries k (10 ∷ []) begun talk old new [] o p
  carries_feed begun held line talk old new o p is_held e same answers handed = record {
    put = answers.bytes;
    line = [];
    pending_is = record { front = refl; line = λ i d l. absurd (omega arith) };
    on = λ end last text most rest l next.
        let n : ℕ = most - 1 in
        let more : most ≡ suc n = omega arith in
        let g : Setting = setting_of old in
        let lines : lines_within most begun (10 ∷ rest) ≡ strip_carriage_return begun ∷ lines_within n [] rest =
        ap (λ (m : ℕ). lines_within m begun (10 ∷ rest)) more ∙ lines_within-line_feed n begun rest is_held.line in
        let both = line-carries (command_of line) talk old new o p end last text (lines_within n [] rest) answers handed
        (after-line talk end last old new (text ++ answers.bytes) n rest p same next) in
        let moved = subst (λ (c : Command). HandsLine g c (session_of old text)
        (output_change k o old.watcher.block p new.watcher.block)
        × HandsEach k g end last (answer g c (session_of old text)) (lines_within n [] rest) p new.watcher.block)
        (line-command begun held line is_held e) both in
        subst (λ (ls : List (List ℕ)). HandsEach k g end last (session_of old text) ls o old.watcher.block) (sym lines)
        (inr (refl, p, new.watcher.block, moved.0, moved.1));
  }

  pub carry_feed_fails : (begun held line : List ℕ) (old : Debugger) (o p : K) (waits : List ℕ)
      → IsPendingLine begun held
      → line ≡ strip_carriage_return held
      → AnswerFails (command_of line) old (output_change k o old.watcher.block p waits)
      → CarryFails k (10 ∷ []) begun old o p
  carry_feed_fails begun held line old o p waits is_held e fails text most rest l =
      let n : ℕ = most - 1 in
      let more : most ≡ suc n = omega arith in
      let g : Setting = setting_of old in
      let lines : lines_within most begun (10 ∷ rest) ≡ strip_carriage_return begun ∷ lines_within n [] rest =
      ap (λ (m : ℕ). lines_within m begun (10 ∷ rest)) more ∙ lines_within-line_feed n begun rest is_held.line in
      let breaks = fails text in
      subst (λ (ls : List (List ℕ)). HandsEach k g SinkFault p (session_of old text) ls o old.watcher.block) (sym lines)
      (inl (record {
        bytes = breaks.bytes;
        is =
            ap (λ (c : Command). text_of (answer g c (session_of old text)))
            (sym (line-command begun held line is_held e))
            ∙ breaks.is;
        stops = breaks.stops;
      }))

  -- ---- another byte, and none

  pub carries_other : (b : ℕ) (begun held : List ℕ) (d : Debugger) (o : K) → IsPendingLine (begun ++ b ∷ []) held
      → Carries k (b ∷ []) begun Continues d d held o o
  carries_other b begun held d o is_held = record {
    put = [];
    line = begun ++ b ∷ [];
    pending_is = is_held;
    on = λ end last text most rest l next.
        let n : ℕ = most - 1 in
        let more : most ≡ suc n = omega arith in
        let lines : lines_within most begun (b ∷ rest) ≡ lines_within n (begun ++ b ∷ []) rest =
        ap (λ (m : ℕ). lines_within m begun (b ∷ rest)) more ∙ lines_within-other_byte n b begun rest in
        subst (λ (ls : List (List ℕ)). HandsEach k (setting_of d) end last (session_of d text) ls o d.watcher.block)
        (sym lines)
        (subst (λ (t : List ℕ). hands_from k end last d t n (begun ++ b ∷ []) rest o) (append-nil text) next);
  }

  pub carries_none : (begun held : List ℕ) (d : Debugger) (o : K) → IsPendingLine begun held
      → Carries k [] begun Continues d d held o o
  carries_none begun held d o is_held = record {
    put = [];
    line = begun;
    pending_is = is_held;
    on = λ end last text most rest l next.
        let same : most - 0 ≡ most = omega arith in
        subst (λ (n : ℕ). hands_from k end last d text n begun rest o) same
        (subst (λ (t : List ℕ). hands_from k end last d t (most - 0) begun rest o) (append-nil text) next);
  }

  -- ---- bytes behind bytes

  module _ (o p q : K) (xs ys begun : List ℕ) (a b c : Debugger) (held_b : List ℕ)
      (first : Carries k xs begun Continues a b held_b o p) where
    pub carries_then : (talk : SessionState) (held_c : List ℕ) → Carries k ys first.line talk b c held_c p q
        → Carries k (xs ++ ys) begun talk a c held_c o q
    carries_then talk held_c second = record {
      put = first.put ++ second.put;
      line = second.line;
      pending_is = second.pending_is;
      on = λ end last text most rest l next.
          let m : ℕ = most - length xs in
          let left : most - length (xs ++ ys) ≡ m - length ys = omega (arith, l, length-append xs ys) in
          let here = subst (λ (n : ℕ). hands_after k talk end last c (text ++ (first.put ++ second.put)) n second.line
          rest q) left next in
          let there = subst (λ (t : List ℕ). hands_after k talk end last c t (m - length ys) second.line rest q)
          (sym (append_assoc text first.put second.put)) here in
          subst (λ (s : List ℕ). hands_from k end last a text most begun s o) (sym (append_assoc xs ys rest))
          (first.on end last text most (ys ++ rest) (omega (arith, l, length-append xs ys))
          (second.on end last (text ++ first.put) m rest (omega (arith, l, length-append xs ys)) there));
    }

    pub carry_fails_then : CarryFails k ys first.line b p q → CarryFails k (xs ++ ys) begun a o q
    carry_fails_then fails text most rest l =
        subst (λ (s : List ℕ). hands_from k SinkFault q a text most begun s o) (sym (append_assoc xs ys rest))
        (first.on SinkFault q text most (ys ++ rest) (omega (arith, l, length-append xs ys))
        (fails (text ++ first.put) (most - length xs) rest (omega (arith, l, length-append xs ys))))

  -- behind `quit` nothing is heard
  pub carries_quit : (o q : K) (xs ys begun : List ℕ) (a c : Debugger) (held : List ℕ)
      → Carries k xs begun Quits a c held o q → Carries k (xs ++ ys) begun Quits a c held o q
  carries_quit o q xs ys begun a c held first = record {
    put = first.put;
    line = first.line;
    pending_is = first.pending_is;
    on = λ end last text most rest l next.
        subst (λ (s : List ℕ). hands_from k end last a text most begun s o) (sym (append_assoc xs ys rest))
        (first.on end last text most (ys ++ rest) (omega (arith, l, length-append xs ys)) next);
  }

  -- nor behind a fault
  pub carry_fails_more : (o q : K) (xs ys begun : List ℕ) (a : Debugger) → CarryFails k xs begun a o q
      → CarryFails k (xs ++ ys) begun a o q
  carry_fails_more o q xs ys begun a fails text most rest l =
      subst (λ (s : List ℕ). hands_from k SinkFault q a text most begun s o) (sym (append_assoc xs ys rest))
      (fails text most (ys ++ rest) (omega (arith, l, length-append xs ys)))

  -- ---- what waited was put

  module _ (p q : K) (waits : List ℕ) (puts : Puts (sink_change k p q) waits) where
    put-over : (last : K) (s : Session) (lines : List (List ℕ)) → IsHandedOver k last s lines q []
        → IsHandedOver k last s lines p waits
    put-over last s lines stops = record {
      over = stops.over;
      puts =
          subst (Puts (sink_change k p last)) (append-nil waits)
          (Puts-then (k.written p) (k.written q) (k.written last) (k.faults p) (k.faults q) (k.faults last) waits []
          puts stops.puts);
    }

    put-stops : (g : Setting) (end : DebugEnd) (last : K) (s : Session) (lines : List (List ℕ))
        → Stops k g end last s lines q [] → Stops k g end last s lines p waits
    put-stops g SinkFault last s lines stops = record {
      bytes = stops.bytes;
      is = stops.is;
      stops =
          SinkFailsWith-after k.written k.faults (p, waits) (q, []) (last, []) [] stops.bytes
          (AppendsOutput-flushed k p q waits puts) stops.stops;
    }
    put-stops g Done last s lines stops = put-over last s lines stops
    put-stops g InputFault last s lines stops = put-over last s lines stops
    put-stops g TooLarge last s lines stops = put-over last s lines stops
    put-stops g NoMemory last s lines stops = put-over last s lines stops

    pub put-each : (g : Setting) (end : DebugEnd) (last : K) (s : Session) (lines : List (List ℕ))
        → HandsEach k g end last s lines q [] → HandsEach k g end last s lines p waits
    put-each g end last s [] stops = put-stops g end last s [] stops
    put-each g end last s (line ∷ more) each =
        elim each [
          | inl stops ↦ inl (put-stops g end last s (line ∷ more) stops)
          | inr t ↦ inr (
            t.0,
            t.1,
            t.2,
            record {
              bytes = t.3.bytes;
              is = t.3.is;
              wrote =
                  AppendsOutput-both k.written k.faults (p, waits) (q, []) (t.1, t.2) [] t.3.bytes
                  (AppendsOutput-flushed k p q waits puts) t.3.wrote;
              handed = t.3.handed;
            },
            t.4,
          )
        ]

  put-after : (p q : K) (left : List ℕ) (talk : SessionState) (end : DebugEnd) (last : K) (new : Debugger)
      (text : List ℕ) (n : ℕ) (line rest : List ℕ) → left ≡ [] → Puts (sink_change k p q) new.watcher.block
      → hands_after k talk end last (with_block new left) text n line rest q
      → hands_after k talk end last new text n line rest p
  put-after p q left Continues end last new text n line rest empty puts next =
      put-each p q new.watcher.block puts (setting_of new) end last (session_of new text) (lines_within n line rest)
      (subst (λ (w : List ℕ).
      HandsEach k (setting_of new) end last (session_of new text) (lines_within n line rest) q w) empty next)
  put-after p q left Quits end last new text n line rest empty puts next = λ lines.
      put-stops p q new.watcher.block puts (setting_of new) end last (left_by Quits new text) lines
      (subst (λ (w : List ℕ). Stops k (setting_of new) end last (left_by Quits new text) lines q w) empty (next lines))

  pub carries_put : (left bytes begun : List ℕ) (talk : SessionState) (old new : Debugger) (held : List ℕ) (o p q : K)
      → left ≡ [] → Puts (sink_change k p q) new.watcher.block → Carries k bytes begun talk old new held o p
      → Carries k bytes begun talk old (with_block new left) held o q
  carries_put left bytes begun talk old new held o p q empty puts carries = record {
    put = carries.put;
    line = carries.line;
    pending_is = carries.pending_is;
    on = λ end last text most rest l next.
        carries.on end last text most rest l
        (put-after p q left talk end last new (text ++ carries.put) (most - length bytes) carries.line rest empty puts
        next);
  }

  stopped-after : (p q : K) (left : List ℕ) (talk : SessionState) (new : Debugger)
      (text : List ℕ) (n : ℕ) (line rest : List ℕ)
      → SinkFailsWith (output_change k p new.watcher.block q left) []
      → hands_after k talk SinkFault q new text n line rest p
  stopped-after p q left Continues new text n line rest stops =
      stops-each (setting_of new) SinkFault q (session_of new text) (lines_within n line rest) p new.watcher.block
      (in-part (setting_of new) p q new.watcher.block left stops (session_of new text) (lines_within n line rest))
  stopped-after p q left Quits new text n line rest stops = λ lines.
      in-part (setting_of new) p q new.watcher.block left stops (left_by Quits new text) lines

  pub carries_stopped : (left bytes begun : List ℕ) (talk : SessionState) (old new : Debugger) (held : List ℕ)
      (o p q : K) → Carries k bytes begun talk old new held o p
      → SinkFailsWith (output_change k p new.watcher.block q left) [] → CarryFails k bytes begun old o q
  carries_stopped left bytes begun talk old new held o p q carries stops text most rest l =
      carries.on SinkFault q text most rest l
      (stopped-after p q left talk new (text ++ carries.put) (most - length bytes) carries.line rest stops)
