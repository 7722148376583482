-- A session underway over its sink, and what it has handed over at its end.
use Rattle.std.specs.Prelude.{◌==◌}
use Rattle.std.proofs.Common.{◌≡◌, ◌∙◌, inl, inr, ℕ, ◌+◌, ◌-◌, ◌≤◌, Bool, cond, List, [], ◌∷◌, ◌++◌, length, refl}
use Rattle.std.proofs.Common.{sym, ap, subst, append_assoc, append-nil, arith}
use Rattle.std.proofs.lemmas.List.{length-append}
use Rattle.alpha_io.specs.declared.sink.Sink.{Ghosts}
use Rattle.alpha_io.specs.History.{Reply, HasGiven}
use Rattle.alpha_io.specs.SinkChange.{sink_change, Puts}
use Rattle.alpha_io.proofs.Sinks.{Puts-none}
use Rattle.alpha_io.proofs.Takes.{HasGiven-then}
use Rattle.alpha_image.specs.Parts.{Parts}
use Rattle.alpha_seq.specs.Devices.{Drawn}
use Rattle.alpha_debug.specs.declared.command.Command.{Command}
use Rattle.alpha_debug.specs.declared.debugger.Debugger.{Debugger}
use Rattle.alpha_debug.specs.declared.debugger.SessionState.{SessionState}
use Rattle.alpha_debug.specs.declared.debugger.SessionState.TheVariants.{Continues, Quits}
use Rattle.alpha_debug.specs.declared.end.DebugEnd.{DebugEnd}
use Rattle.alpha_debug.specs.declared.end.DebugEnd.TheVariants.{Done, InputFault, SinkFault, TooLarge, NoMemory}
use Rattle.alpha_debug.specs.Command.{command_of}
use Rattle.alpha_debug.specs.Session.{Setting, Session, text_of, answer}
use Rattle.alpha_debug.specs.Script.{lines_within}
use Rattle.alpha_debug.specs.OutputChange.{OutputChange, output_change, CutShort}
use Rattle.alpha_debug.specs.Handed.{HandsLine, Stops, HandsEach, lines_come, Hands}
use Rattle.alpha_debug.specs.Effects.{session_of, setting_of, left_by, IsOpened, Answers, AnswerFails, IsPendingLine}
use Rattle.alpha_debug.specs.Effects.{CloseEffect, hands_from, Carries, CarryFails, HandsLast, HandsAll}
use Rattle.alpha_debug.proofs.SinkEffects.{Puts-output_change}
use Rattle.alpha_debug.proofs.ScriptLines.{length-cons_not_zero, lines_within-script_end, lines_within-too_many_bytes}
use Rattle.alpha_debug.proofs.ScriptLines.{lines_within-ended_parts, command_of-held_prefix}
use Rattle.alpha_debug.proofs.HandedLines.{line-carries}

module _ {K : Type 0} (k : Ghosts K) where
  none-put : (p : K) (waits : List ℕ) → waits ≡ [] → Puts (sink_change k p p) waits
  none-put p waits e = subst (Puts (sink_change k p p)) (sym e) (Puts-none (k.written p) (k.faults p))

  -- ---- the end of a script

  module _ (held : List ℕ) (old : Debugger) (o p : K) (waited : old.watcher.block ≡ []) where
    -- the last line, which is none where it is empty
    answered-by : (begun : List ℕ) (talk : SessionState) (new : Debugger) → command_of held ≡ command_of begun
        → new.watcher.block ≡ [] → Answers (command_of held) talk old new (output_change k o [] p [])
        → (text : List ℕ)
        → HandsEach k (setting_of old) Done p (session_of old text) (cond (length begun == 0) [] (begun ∷ [])) o
        old.watcher.block
    answered-by [] talk new same empty answers text =
        let here : Answers (command_of []) talk old new (output_change k o [] p []) =
        subst (λ (c : Command). Answers c talk old new (output_change k o [] p [])) same answers in
        let none : here.bytes ≡ [] = sym (ap text_of (here.is [])) in
        record {
          over = inr refl;
          puts =
              subst (Puts (sink_change k o p)) (none ∙ sym waited)
              (Puts-output_change (output_change k o [] p []) here.bytes refl refl here.wrote);
        }
    answered-by (b ∷ more) talk new same empty answers text =
        let begun : List ℕ = b ∷ more in
        let g : Setting = setting_of old in
        let from : Answers (command_of held) talk old new (output_change k o old.watcher.block p []) =
        subst (λ (w : List ℕ). Answers (command_of held) talk old new (output_change k o w p [])) (sym waited)
        answers in
        let here : Answers (command_of held) talk old new (output_change k o old.watcher.block p new.watcher.block) =
        subst (λ (w : List ℕ). Answers (command_of held) talk old new (output_change k o old.watcher.block p w))
        (sym empty) from in
        let ends : Stops k g Done p (left_by talk new (text ++ here.bytes)) [] p new.watcher.block =
        record { over = inr refl; puts = none-put p new.watcher.block empty } in
        let both = line-carries k (command_of held) talk old new o p Done p text [] here (inr empty) ends in
        let moved = subst (λ (c : Command). HandsLine g c (session_of old text)
        (output_change k o old.watcher.block p new.watcher.block)
        × HandsEach k g Done p (answer g c (session_of old text)) [] p new.watcher.block) same both in
        subst (λ (t : Bool).
        HandsEach k g Done p (session_of old text) (cond t [] (begun ∷ [])) o old.watcher.block)
        (sym (length-cons_not_zero b more))
        (inr (refl, p, new.watcher.block, moved.0, moved.1))

    pub last_answered : (begun : List ℕ) (talk : SessionState) (new : Debugger) → IsPendingLine begun held
        → new.watcher.block ≡ [] → Answers (command_of held) talk old new (output_change k o [] p [])
        → HandsLast k Done begun old o p
    last_answered begun talk new is_held empty answers text most =
        subst (λ (ls : List (List ℕ)). HandsEach k (setting_of old) Done p (session_of old text) ls o old.watcher.block)
        (sym (lines_within-script_end most begun is_held.line))
        (answered-by begun talk new (ap command_of is_held.front ∙ command_of-held_prefix begun) empty answers text)

    failed-by : (begun : List ℕ) → command_of held ≡ command_of begun
        → AnswerFails (command_of held) old (output_change k o [] p []) → (text : List ℕ)
        → HandsEach k (setting_of old) SinkFault p (session_of old text) (cond (length begun == 0) [] (begun ∷ [])) o
        old.watcher.block
    failed-by [] same fails text =
        let breaks = fails text in
        record {
          bytes = breaks.bytes;
          is =
              ap (λ (c : Command). text_of (answer (setting_of old) c (session_of old text))) (sym same) ∙ breaks.is;
          stops =
              subst (λ (w : List ℕ). CutShort (sink_change k o p) (w ++ breaks.bytes)) (sym waited) breaks.stops;
        }
    failed-by (b ∷ more) same fails text =
        let breaks = fails text in
        subst (λ (t : Bool).
        HandsEach k (setting_of old) SinkFault p (session_of old text) (cond t [] ((b ∷ more) ∷ [])) o
        old.watcher.block)
        (sym (length-cons_not_zero b more))
        (inl (record {
          bytes = breaks.bytes;
          is =
              ap (λ (c : Command). text_of (answer (setting_of old) c (session_of old text))) (sym same) ∙ breaks.is;
          stops =
              subst (λ (w : List ℕ). CutShort (sink_change k o p) (w ++ breaks.bytes)) (sym waited) breaks.stops;
        }))

    pub last_failed : (begun : List ℕ) → IsPendingLine begun held
        → AnswerFails (command_of held) old (output_change k o [] p [])
        → HandsLast k SinkFault begun old o p
    last_failed begun is_held fails text most =
        subst (λ (ls : List (List ℕ)).
        HandsEach k (setting_of old) SinkFault p (session_of old text) ls o old.watcher.block)
        (sym (lines_within-script_end most begun is_held.line))
        (failed-by begun (ap command_of is_held.front ∙ command_of-held_prefix begun) fails text)

  -- ---- underway

  -- These bytes of the script were given, and their lines handed over each, up to the line in hand.
  pub record Handing (first d : Debugger) (held : List ℕ) (most : ℕ) (before now : List Reply) (o p : K) : Type 0 where
    pub taken : List ℕ
    pub put : List ℕ
    pub line : List ℕ
    pub calls : HasGiven before now taken
    pub count : length taken + most ≡ 1048576
    pub pending_is : IsPendingLine line held
    pub on : (end : DebugEnd) (last : K) (text : List ℕ) (n : ℕ) (rest : List ℕ)
        → hands_from k end last d (text ++ put) n line rest p
        → hands_from k end last first text (length taken + n) [] (taken ++ rest) o

  pub handing_start : (d : Debugger) (held : List ℕ) (before : List Reply) (o : K) → held ≡ []
      → HasGiven before before [] → Handing d d held 1048576 before before o o
  handing_start d held before o empty none = record {
    taken = [];
    put = [];
    line = [];
    calls = none;
    count = refl;
    pending_is = record { front = empty; line = λ i x l. absurd (omega arith) };
    on = λ end last text n rest next.
        let all : n ≡ 0 + n = omega arith in
        subst (λ (i : ℕ). hands_from k end last d text i [] rest o) all
        (subst (λ (t : List ℕ). hands_from k end last d t n [] rest o) (append-nil text) next);
  }

  module _ (first d : Debugger) (held : List ℕ) (most : ℕ) (script : Drawn) (mid : List Reply) (o p : K)
      (u : Handing first d held most script.old.replies mid o p) where
    calls-more : (bytes : List ℕ) → HasGiven mid script.new.replies bytes
        → HasGiven script.old.replies script.new.replies (u.taken ++ bytes)
    calls-more bytes gave = HasGiven-then script.old.replies mid script.new.replies u.taken bytes u.calls gave

    calls-end : HasGiven mid script.new.replies [] → HasGiven script.old.replies script.new.replies u.taken
    calls-end gave =
        subst (HasGiven script.old.replies script.new.replies) (append-nil u.taken) (calls-more [] gave)

    pub handing_more : (bytes : List ℕ) (new : Debugger) (held_new : List ℕ) (less : ℕ) (q : K)
        → HasGiven mid script.new.replies bytes → length bytes ≤ most → less ≡ most - length bytes
        → Carries k bytes u.line Continues d new held_new p q
        → Handing first new held_new less script.old.replies script.new.replies o q
    handing_more bytes new held_new less q gave fits e carries = record {
      taken = u.taken ++ bytes;
      put = u.put ++ carries.put;
      line = carries.line;
      calls = calls-more bytes gave;
      count = omega (arith, e, u.count, length-append u.taken bytes);
      pending_is = carries.pending_is;
      on = λ end last text n rest next.
          let m : ℕ = length bytes + n in
          let left : n ≡ m - length bytes = omega arith in
          let all : length u.taken + m ≡ length (u.taken ++ bytes) + n = omega (arith, length-append u.taken bytes) in
          let here = subst (λ (t : List ℕ). hands_from k end last new t n carries.line rest q)
          (sym (append_assoc text u.put carries.put)) next in
          let there = subst (λ (i : ℕ).
          hands_from k end last new ((text ++ u.put) ++ carries.put) i carries.line rest q) left here in
          let whole = u.on end last text m (bytes ++ rest)
          (carries.on end last (text ++ u.put) m rest (omega arith) there) in
          subst (λ (i : ℕ). hands_from k end last first text i [] ((u.taken ++ bytes) ++ rest) o) all
          (subst (λ (s : List ℕ). hands_from k end last first text (length u.taken + m) [] s o)
          (sym (append_assoc u.taken bytes rest)) whole);
    }

    -- from the start over all that was taken
    all-from : (end : DebugEnd) (last : K) (bytes : List ℕ)
        → hands_from k end last d u.put most u.line bytes p
        → HandsEach k (setting_of first) end last (session_of first []) (lines_within 1048576 [] (u.taken ++ bytes)) o
        first.watcher.block
    all-from end last bytes next =
        subst (λ (i : ℕ). hands_from k end last first [] i [] (u.taken ++ bytes) o) u.count
        (u.on end last [] most bytes next)

    -- `quit` came
    pub handing_quit : (bytes : List ℕ) (new : Debugger) (held_new : List ℕ) (q : K)
        → HasGiven mid script.new.replies bytes → length bytes ≤ most → new.watcher.block ≡ []
        → Carries k bytes u.line Quits d new held_new p q → HandsAll first script k Done o q
    handing_quit bytes new held_new q gave fits empty carries =
        let next = carries.on Done q u.put most [] fits
        (λ lines. record { over = inl refl; puts = none-put q new.watcher.block empty }) in
        record {
          taken = u.taken ++ bytes;
          calls = calls-more bytes gave;
          each =
              all-from Done q bytes
              (subst (λ (s : List ℕ). hands_from k Done q d u.put most u.line s p) (append-nil bytes) next);
        }

    -- the sink failed
    pub handing_fails : (bytes : List ℕ) (q : K) → HasGiven mid script.new.replies bytes → length bytes ≤ most
        → CarryFails k bytes u.line d p q → HandsAll first script k SinkFault o q
    handing_fails bytes q gave fits fails = record {
      taken = u.taken ++ bytes;
      calls = calls-more bytes gave;
      each =
          all-from SinkFault q bytes
          (subst (λ (s : List ℕ). hands_from k SinkFault q d u.put most u.line s p) (append-nil bytes)
          (fails u.put most [] fits));
    }

    -- a byte behind those that count
    none-left : (end : DebugEnd) (b : ℕ) (text : List ℕ) → Stops k (setting_of d) end p (session_of d text) [] p
        d.watcher.block → hands_from k end p d text 0 u.line (b ∷ []) p
    none-left end b text stops =
        subst (λ (ls : List (List ℕ)). HandsEach k (setting_of d) end p (session_of d text) ls p d.watcher.block)
        (sym (lines_within-too_many_bytes b u.line [] u.pending_is.line)) stops

    -- the script failed
    pub handing_unread : HasGiven mid script.new.replies [] → d.watcher.block ≡ []
        → HandsAll first script k InputFault o p
    handing_unread gave empty = record {
      taken = u.taken;
      calls = calls-end gave;
      each =
          subst (λ (ls : List (List ℕ)).
          HandsEach k (setting_of first) InputFault p (session_of first []) ls o first.watcher.block)
          (lines_within-ended_parts u.taken 0)
          (u.on InputFault p [] 0 (0 ∷ [])
          (none-left InputFault 0 u.put (record { over = inr refl; puts = none-put p d.watcher.block empty })));
    }

    -- the script goes on past the bytes that count
    pub handing_large : (b : ℕ) → most ≡ 0 → HasGiven mid script.new.replies (b ∷ []) → d.watcher.block ≡ []
        → HandsAll first script k TooLarge o p
    handing_large b none gave empty = record {
      taken = u.taken ++ b ∷ [];
      calls = calls-more (b ∷ []) gave;
      each =
          all-from TooLarge p (b ∷ [])
          (subst (λ (n : ℕ). hands_from k TooLarge p d u.put n u.line (b ∷ []) p) (sym none)
          (none-left TooLarge b u.put (record { over = inr refl; puts = none-put p d.watcher.block empty })));
    }

    closed-with : (end : DebugEnd) (q : K) → lines_come end u.taken ≡ lines_within 1048576 [] u.taken
        → HasGiven mid script.new.replies []
        → HandsLast k end u.line d p q → HandsAll first script k end o q
    closed-with end q same gave hands = record {
      taken = u.taken;
      calls = calls-end gave;
      each =
          subst (λ (ls : List (List ℕ)).
          HandsEach k (setting_of first) end q (session_of first []) ls o first.watcher.block)
          (ap (λ (s : List ℕ). lines_within 1048576 [] s) (append-nil u.taken) ∙ sym same)
          (all-from end q [] (hands u.put most));
    }

    -- the end of the script, by the answer
    pub handing_closed : (end : DebugEnd) (q : K) (out : OutputChange) → HasGiven mid script.new.replies []
        → CloseEffect end u.line d out → HandsLast k end u.line d p q → HandsAll first script k end o q
    handing_closed Done q out gave did hands = closed-with Done q refl gave hands
    handing_closed SinkFault q out gave did hands = closed-with SinkFault q refl gave hands
    handing_closed InputFault q out gave did hands = absurd did
    handing_closed TooLarge q out gave did hands = absurd did
    handing_closed NoMemory q out gave did hands = absurd did

  -- ---- from the start

  pub opened_hands : (image : Parts) (d : Debugger) (script : Drawn) (end : DebugEnd) (o p : K) → IsOpened image d
      → HandsAll d script k end o p → Hands image script k end o p
  opened_hands image d script end o p opens all = record {
    setting = setting_of d;
    is_setting = opens.setting;
    taken = all.taken;
    calls = all.calls;
    each =
        subst (λ (s : Session). HandsEach k (setting_of d) end p s (lines_come end all.taken) o []) opens.start
        (subst (λ (w : List ℕ). HandsEach k (setting_of d) end p (session_of d []) (lines_come end all.taken) o w)
        opens.block all.each);
  }
