-- A session underway, and how it ends.
use Rattle.std.proofs.Common.{◌≡◌, ◌∙◌, ℕ, ◌+◌, ◌-◌, ◌≤◌, List, [], ◌∷◌, ◌++◌, length, Option, Some, None, refl, sym}
use Rattle.std.proofs.Common.{ap, subst, append_assoc, append-nil, arith}
use Rattle.std.proofs.lemmas.List.{length-append}
use Rattle.std.specs.Io.KnownBytes.{Consumes, Keeps, IsAtEnd}
use Rattle.std.proofs.KnownBytes.{Consumes-nil, Consumes-trans, Consumes-kept}
use Rattle.alpha_io.specs.Faults.{Faulted}
use Rattle.alpha_io.specs.History.{Took}
use Rattle.alpha_io.specs.Supply.{Supply}
use Rattle.alpha_io.proofs.Takes.{HasGiven-then, HasGiven-one, HasGiven-failed}
use Rattle.alpha_io.proofs.FaultCounts.{Faulted-earlier}
use Rattle.alpha_pal.specs.CallEffect.{Takes}
use Rattle.alpha_seq.specs.Devices.{Drawn, drawn_by}
use Rattle.alpha_debug.specs.declared.command.Command.{Command}
use Rattle.alpha_debug.specs.declared.debugger.Debugger.{Debugger}
use Rattle.alpha_debug.specs.declared.debugger.SessionState.{SessionState}
use Rattle.alpha_debug.specs.declared.debugger.SessionState.TheVariants.{Continues, Quits}
use Rattle.alpha_debug.specs.declared.end.DebugEnd.{DebugEnd}
use Rattle.alpha_debug.specs.declared.end.DebugEnd.TheVariants.{Done, InputFault, SinkFault, TooLarge, NoMemory}
use Rattle.alpha_debug.specs.Command.{command_of}
use Rattle.alpha_debug.specs.Session.{Session, text_of, answer}
use Rattle.alpha_debug.specs.Script.{Transcript}
use Rattle.alpha_debug.specs.OutputChange.{OutputChange, output_change_by, AppendsOutput}
use Rattle.alpha_debug.specs.Effects.{Grows, FailsBehind, session_of, setting_of, Remains, Answers, AnswerFails}
use Rattle.alpha_debug.specs.Effects.{IsPendingLine}
use Rattle.alpha_debug.specs.Effects.{told_from, FeedsBytes, FeedFails, Closes, CloseFails, CloseEffect, Gets, Reads}
use Rattle.alpha_debug.specs.Effects.{Tells}
use Rattle.alpha_debug.specs.Effects.{ReadingFails, SessionSinkFails, TellEffect}
use Rattle.alpha_debug.proofs.SinkEffects.{FailsBehind-after, AppendsOutput-both}
use Rattle.alpha_debug.proofs.ScriptLines.{told_from-script_end, told_from-too_large, told_from-Grows}
use Rattle.alpha_debug.proofs.ScriptLines.{command_of-held_prefix}

-- ---- the end of a script

-- the last line is answered as the line in hand
pub Closes-answered : (begun held : List ℕ) (talk : SessionState) (old new : Debugger) (out : OutputChange)
    → IsPendingLine begun held → Answers (command_of held) talk old new out → Closes begun old out
Closes-answered begun held talk old new out is_held answers = record {
  put = answers.bytes;
  wrote = answers.wrote;
  is = λ text most.
      let line : command_of begun ≡ command_of held =
      sym (ap command_of is_held.front ∙ command_of-held_prefix begun) in
      told_from-script_end old text most begun is_held.line
      ∙ (ap (λ (c : Command). record { text = text_of (answer (setting_of old) c (session_of old text)); end = Done })
      line
      ∙ ap (λ (s : Session). record { text = text_of s; end = Done }) (answers.is text));
}

pub Closes-failed : (begun held : List ℕ) (old : Debugger) (out : OutputChange) → IsPendingLine begun held
    → AnswerFails (command_of held) old out → CloseFails begun old out
Closes-failed begun held old out is_held fails text most =
    let line : command_of begun ≡ command_of held = sym (ap command_of is_held.front ∙ command_of-held_prefix begun) in
    let whole : told_from old text most begun []
    ≡ record { text = text_of (answer (setting_of old) (command_of held) (session_of old text)); end = Done } =
    told_from-script_end old text most begun is_held.line
    ∙ ap (λ (c : Command). record { text = text_of (answer (setting_of old) c (session_of old text)); end = Done })
    line in
    subst (λ (t : Transcript). FailsBehind out text t.text) (sym whole) (fails text)

-- ---- what is left of a script

record Left (old new : Option (List ℕ)) (taken : List ℕ) : Type 0 where
  rest : List ℕ
  took : Takes old new taken rest

left_of : (old new : Option (List ℕ)) (taken : List ℕ) → Consumes old new taken → Left old new taken
left_of None new taken p = record { rest = []; took = tt }
left_of (Some xs) None taken p = absurd p
left_of (Some xs) (Some ys) taken p = record { rest = ys; took = (p, refl) }

left_none : (old mid new : Option (List ℕ)) (taken : List ℕ) → Consumes old mid taken → Consumes mid new []
    → IsAtEnd mid → Takes old new taken []
left_none None mid new taken p q e = tt
left_none (Some xs) None new taken p q e = absurd p
left_none (Some xs) (Some ys) None taken p q e = absurd q
left_none (Some xs) (Some ys) (Some zs) taken p q e = (p ∙ ap (λ (l : List ℕ). taken ++ l) e, ap Some (sym q ∙ e))

-- ---- underway

-- These bytes of the script were taken without a fault, and these were put; the rest of the transcript is that from how
-- the session stands, behind the line in hand.
pub record ScriptUnderway (first d : Debugger) (held : List ℕ) (most : ℕ) (script : Drawn)
    (out : OutputChange) : Type 0 where
  pub taken : List ℕ
  pub put : List ℕ
  pub line : List ℕ
  pub took : Gets script.old script.new taken
  pub same : script.now ≡ script.before
  pub count : length taken + most ≡ 1048576
  pub wrote : AppendsOutput out put
  pub pending_is : IsPendingLine line held
  pub remains : Remains first d
  pub is : (text rest : List ℕ)
      → told_from first text 1048576 [] (taken ++ rest) ≡ told_from d (text ++ put) most line rest

pub Gets-then : (old mid new : Supply) (xs ys : List ℕ) → Gets old mid xs → Gets mid new ys → Gets old new (xs ++ ys)
Gets-then old mid new xs ys one two = record {
  consumed = Consumes-trans old.left mid.left new.left xs ys one.consumed two.consumed;
  calls = HasGiven-then old.replies mid.replies new.replies xs ys one.calls two.calls;
}

-- by one call of the source, and by one that failed
pub Gets-one : (old new : Supply) (asked : ℕ) (bytes : List ℕ) → Consumes old.left new.left bytes
    → new.replies ≡ old.replies ++ Took asked (Some bytes) ∷ [] → Gets old new bytes
Gets-one old new asked bytes consumed call =
    record { consumed = consumed; calls = HasGiven-one old.replies new.replies asked bytes call }

pub Gets-failed : (old new : Supply) (asked : ℕ) → Keeps old.left new.left
    → new.replies ≡ old.replies ++ Took asked None ∷ [] → Gets old new []
Gets-failed old new asked kept call =
    record {
      consumed = Consumes-kept old.left old.left new.left [] (Consumes-nil old.left) kept;
      calls = HasGiven-failed old.replies new.replies asked call;
    }

pub underway_start : (d : Debugger) (held : List ℕ) (script : Drawn) (out : OutputChange) → held ≡ []
    → Gets script.old script.new [] → script.now ≡ script.before → AppendsOutput out []
    → ScriptUnderway d d held 1048576 script out
underway_start d held script out empty took same none = record {
  taken = [];
  put = [];
  line = [];
  took = took;
  same = same;
  count = refl;
  wrote = none;
  pending_is = record { front = empty; line = λ k d l. absurd (omega arith) };
  remains = record { setting = refl; mode = refl };
  is = λ text rest. ap (λ (t : List ℕ). told_from d t 1048576 [] rest) (sym (append-nil text));
}

module _ {S K : Type 0} (tells : S → Supply) (counts : S → ℕ) (written : K → Option (List ℕ)) (faults : K → ℕ)
    (r s t : S) (o p q : K × List ℕ)
    (first d : Debugger) (held : List ℕ) (most : ℕ)
    (u : ScriptUnderway first d held most (drawn_by tells counts r s) (output_change_by written faults o p)) where
  -- the transcript behind a piece of the script
  FailsBehind-underway : (bytes text rest : List ℕ)
      → told_from first text 1048576 [] ((u.taken ++ bytes) ++ rest)
      ≡ told_from d (text ++ u.put) most u.line (bytes ++ rest)
  FailsBehind-underway bytes text rest =
      ap (λ (l : List ℕ). told_from first text 1048576 [] l) (append_assoc u.taken bytes rest)
      ∙ u.is text (bytes ++ rest)

  -- with nothing behind it
  by-itself : (bytes text : List ℕ)
      → told_from first text 1048576 [] bytes ≡ told_from first text 1048576 [] (bytes ++ [])
  by-itself bytes text = ap (λ (l : List ℕ). told_from first text 1048576 [] l) (sym (append-nil bytes))

  took-more : (bytes : List ℕ) → Gets (tells s) (tells t) bytes → Gets (tells r) (tells t) (u.taken ++ bytes)
  took-more bytes took = Gets-then (tells r) (tells s) (tells t) u.taken bytes u.took took

  reads-more : (bytes : List ℕ) → Gets (tells s) (tells t) bytes → length bytes ≤ most + 1
      → (l : Left (tells r).left (tells t).left (u.taken ++ bytes))
      → Reads (drawn_by tells counts r t) (u.taken ++ bytes) l.rest
  reads-more bytes took fits l = record {
    took = l.took;
    calls = (took-more bytes took).calls;
    most = omega (arith, u.count, length-append u.taken bytes);
  }

  -- the script has ended
  ended-reads : Gets (tells s) (tells t) [] → IsAtEnd (tells s).left → Reads (drawn_by tells counts r t) u.taken []
  ended-reads took ended =
      let all : Gets (tells r) (tells t) u.taken =
      subst (Gets (tells r) (tells t)) (append-nil u.taken) (took-more [] took) in
      record {
        took = left_none (tells r).left (tells s).left (tells t).left u.taken u.took.consumed took.consumed ended;
        calls = all.calls;
        most = omega (arith, u.count);
      }

  pub underway_more : (bytes : List ℕ) (new : Debugger) (held_new : List ℕ) (less : ℕ) → Gets (tells s) (tells t) bytes
      → counts t ≡ counts s → length bytes ≤ most → less ≡ most - length bytes
      → FeedsBytes bytes u.line Continues d new held_new (output_change_by written faults p q) → Remains d new
      → ScriptUnderway first new held_new less (drawn_by tells counts r t) (output_change_by written faults o q)
  underway_more bytes new held_new less took same fits e hears remains = record {
    taken = u.taken ++ bytes;
    put = u.put ++ hears.put;
    line = hears.line;
    took = took-more bytes took;
    same = same ∙ u.same;
    count = omega (arith, e, u.count, length-append u.taken bytes);
    wrote = AppendsOutput-both written faults o p q u.put hears.put u.wrote hears.wrote;
    pending_is = hears.pending_is;
    remains = record { setting = remains.setting ∙ u.remains.setting; mode = remains.mode ∙ u.remains.mode };
    is = λ text rest.
        FailsBehind-underway bytes text rest
        ∙ (hears.is (text ++ u.put) most rest fits
        ∙ (ap (λ (n : ℕ). told_from new ((text ++ u.put) ++ hears.put) n hears.line rest) (sym e)
        ∙ ap (λ (l : List ℕ). told_from new l less hears.line rest) (append_assoc text u.put hears.put)));
  }

  -- `quit` came
  pub underway_quit : (bytes : List ℕ) (new : Debugger) (held_new : List ℕ) → Gets (tells s) (tells t) bytes
      → counts t ≡ counts s → length bytes ≤ most
      → FeedsBytes bytes u.line Quits d new held_new (output_change_by written faults p q)
      → Tells first Done (drawn_by tells counts r t) (output_change_by written faults o q)
  underway_quit bytes new held_new took same fits hears =
      let l = left_of (tells r).left (tells t).left (u.taken ++ bytes) (took-more bytes took).consumed in
      record {
        taken = u.taken ++ bytes;
        rest = l.rest;
        put = u.put ++ hears.put;
        reads = reads-more bytes took (omega (arith, fits)) l;
        same = same ∙ u.same;
        wrote = AppendsOutput-both written faults o p q u.put hears.put u.wrote hears.wrote;
        is = λ text.
            FailsBehind-underway bytes text l.rest
            ∙ (hears.is (text ++ u.put) most l.rest fits
            ∙ ap (λ (x : List ℕ). record { text = x; end = Done }) (append_assoc text u.put hears.put));
        alone = λ text.
            by-itself (u.taken ++ bytes) text
            ∙ (FailsBehind-underway bytes text []
            ∙ (hears.is (text ++ u.put) most [] fits
            ∙ ap (λ (x : List ℕ). record { text = x; end = Done }) (append_assoc text u.put hears.put)));
      }

  -- the sink failed
  pub underway_fails : (bytes : List ℕ) → Gets (tells s) (tells t) bytes → counts t ≡ counts s → length bytes ≤ most
      → FeedFails bytes u.line d (output_change_by written faults p q)
      → SessionSinkFails first (drawn_by tells counts r t) (output_change_by written faults o q)
  underway_fails bytes took same fits fails =
      let l = left_of (tells r).left (tells t).left (u.taken ++ bytes) (took-more bytes took).consumed in
      record {
        taken = u.taken ++ bytes;
        rest = l.rest;
        reads = reads-more bytes took (omega (arith, fits)) l;
        same = same ∙ u.same;
        breaks = λ text.
            FailsBehind-after written faults o p q u.put text
            (told_from first text 1048576 [] ((u.taken ++ bytes) ++ l.rest)).text u.wrote
            (subst (λ (x : Transcript). FailsBehind (output_change_by written faults p q) (text ++ u.put) x.text)
            (sym (FailsBehind-underway bytes text l.rest)) (fails (text ++ u.put) most l.rest fits));
      }

  -- the script failed
  pub underway_unread : Gets (tells s) (tells t) [] → counts s ≤ counts t → Faulted (counts s) (counts t)
      → ReadingFails first (drawn_by tells counts r t) (output_change_by written faults o p)
  underway_unread stays later cause =
      let took : Gets (tells r) (tells t) u.taken =
      subst (Gets (tells r) (tells t)) (append-nil u.taken) (took-more [] stays) in
      let l = left_of (tells r).left (tells t).left u.taken took.consumed in
      record {
        taken = u.taken;
        rest = l.rest;
        put = u.put;
        reads = record { took = l.took; calls = took.calls; most = omega (arith, u.count) };
        later = omega (arith, later, u.same);
        cause = Faulted-earlier (counts r) (counts s) (counts t) (omega (arith, u.same)) cause;
        wrote = u.wrote;
        more = λ text.
            subst (λ (x : Transcript). Grows (text ++ u.put) x.text) (sym (u.is text l.rest))
            (told_from-Grows d (text ++ u.put) most u.line l.rest);
      }

  -- the script has ended
  pub underway_end : Gets (tells s) (tells t) [] → IsAtEnd (tells s).left → counts t ≡ counts s
      → Closes u.line d (output_change_by written faults p q)
      → Tells first Done (drawn_by tells counts r t) (output_change_by written faults o q)
  underway_end took ended same closes = record {
    taken = u.taken;
    rest = [];
    put = u.put ++ closes.put;
    reads = ended-reads took ended;
    same = same ∙ u.same;
    wrote = AppendsOutput-both written faults o p q u.put closes.put u.wrote closes.wrote;
    is = λ text.
        u.is text []
        ∙ (closes.is (text ++ u.put) most
        ∙ ap (λ (x : List ℕ). record { text = x; end = Done }) (append_assoc text u.put closes.put));
    alone = λ text.
        by-itself u.taken text
        ∙ (u.is text []
        ∙ (closes.is (text ++ u.put) most
        ∙ ap (λ (x : List ℕ). record { text = x; end = Done }) (append_assoc text u.put closes.put)));
  }

  pub underway_end_fails : Gets (tells s) (tells t) [] → IsAtEnd (tells s).left → counts t ≡ counts s
      → CloseFails u.line d (output_change_by written faults p q)
      → SessionSinkFails first (drawn_by tells counts r t) (output_change_by written faults o q)
  underway_end_fails took ended same fails = record {
    taken = u.taken;
    rest = [];
    reads = ended-reads took ended;
    same = same ∙ u.same;
    breaks = λ text.
        FailsBehind-after written faults o p q u.put text (told_from first text 1048576 [] (u.taken ++ [])).text u.wrote
        (subst (λ (x : Transcript). FailsBehind (output_change_by written faults p q) (text ++ u.put) x.text)
        (sym (u.is text [])) (fails (text ++ u.put) most));
  }

  -- the end of the script, by the answer
  pub underway_closed : (end : DebugEnd) → Gets (tells s) (tells t) [] → IsAtEnd (tells s).left → counts t ≡ counts s
      → CloseEffect end u.line d (output_change_by written faults p q)
      → TellEffect end first (drawn_by tells counts r t) (output_change_by written faults o q)
  underway_closed Done took ended same did = underway_end took ended same did
  underway_closed SinkFault took ended same did = underway_end_fails took ended same did
  underway_closed InputFault took ended same did = absurd did
  underway_closed TooLarge took ended same did = absurd did
  underway_closed NoMemory took ended same did = absurd did

  -- the script goes on past the bytes that count
  pub underway_large : (b : ℕ) → most ≡ 0 → Gets (tells s) (tells t) (b ∷ []) → counts t ≡ counts s
      → Tells first TooLarge (drawn_by tells counts r t) (output_change_by written faults o p)
  underway_large b none took same =
      let l = left_of (tells r).left (tells t).left (u.taken ++ b ∷ []) (took-more (b ∷ []) took).consumed in
      record {
        taken = u.taken ++ b ∷ [];
        rest = l.rest;
        put = u.put;
        reads = reads-more (b ∷ []) took (omega (arith, none)) l;
        same = same ∙ u.same;
        wrote = u.wrote;
        is = λ text.
            FailsBehind-underway (b ∷ []) text l.rest
            ∙ (ap (λ (n : ℕ). told_from d (text ++ u.put) n u.line (b ∷ l.rest)) none
            ∙ told_from-too_large d (text ++ u.put) b u.line l.rest u.pending_is.line);
        alone = λ text.
            by-itself (u.taken ++ b ∷ []) text
            ∙ (FailsBehind-underway (b ∷ []) text []
            ∙ (ap (λ (n : ℕ). told_from d (text ++ u.put) n u.line (b ∷ [])) none
            ∙ told_from-too_large d (text ++ u.put) b u.line [] u.pending_is.line));
      }
