-- Rows of steps, and one more.
use Rattle.std.proofs.Common.{◌≡◌, ◌≤◌, ◌+◌, ◌-◌, ℕ, Bool, true, false, List, [], ◌∷◌, ◌++◌, length, Option, Result}
use Rattle.std.proofs.Common.{IfErr, refl, sym, ap, subst, ◌∙◌, append_assoc, append-nil, arith, drop, ⊎_elim}
use Rattle.std.specs.Prelude.{IsErr, IsErrAnd, take}
use Rattle.std.proofs.lemmas.Result.{err_from_is_err_and}
use Rattle.std.specs.List.{flat_map}
use Rattle.std.proofs.lemmas.Grind.{flat_map-append}
use Rattle.std.proofs.lemmas.Bool.{or_parts}
use Rattle.alpha_io.specs.History.{Reply}
use Rattle.alpha_io.specs.Supply.{Supply}
use Rattle.alpha_io.specs.Faults.{Faulted}
use Rattle.alpha_io.specs.SinkChange.{SinkChange, Puts}
use Rattle.alpha_io.proofs.Sinks.{Puts-none, Puts-then}
use Rattle.alpha_pal.specs.declared.pal_end.Passed.TheVariants.{Nothing}
use Rattle.alpha_pal.specs.Call.{Traffic, asked_in, given_in, put_in}
use Rattle.alpha_pal.specs.CallEffect.{Answers}
use Rattle.alpha_seq.specs.declared.machine.Machine.{Machine}
use Rattle.alpha_seq.specs.State.{Event as Happened}
use Rattle.alpha_seq.specs.Run.{put, output, Fed}
use Rattle.alpha_seq.specs.Devices.{Drawn, AnswersEach, Feeds, drawn_from, sunk_from}
use Rattle.alpha_seq.proofs.RunSequence.{Fed-append}
use Rattle.alpha_seq.proofs.RunSteps.{StepTimes, drawn_before, drawn_after, drawn_over, sunk_before, sunk_after}
use Rattle.alpha_seq.proofs.RunSteps.{sunk_over}
use Rattle.alpha_seq.proofs.RunSteps.{Appends-WritesBetween}
use Rattle.alpha_imprecise.specs.Oracle.{Oracle, OracleDraws}
use Rattle.alpha_imprecise.proofs.ChoicesMade.{OracleDraws-none}
use Rattle.alpha_imprecise.proofs.RunConcatenation.{unused_device, idle_sink}
use Rattle.alpha_imprecise.proofs.OracleLaws.{OracleDraws-then}
use Rattle.alpha_seq.specs.declared.event.Event.{Event}
use Rattle.alpha_seq.specs.declared.event.Event.TheVariants as events
use Rattle.alpha_pal.specs.declared.fault.Fault.{Fault}
use Rattle.alpha_pal.specs.declared.fault.Fault.TheVariants as faults
use Rattle.alpha_seq.specs.StepLabel.{StepLabel, is_over}
use Rattle.alpha_run.specs.Row.{Row, AreGoing, ArePassed, words_of, events_in, events_of, units_of, lines_by, seen_by}
use Rattle.alpha_run.specs.Row.{Unstopped}
use Rattle.alpha_seq.specs.StepEffect.{Causes}
use Rattle.alpha_run.specs.RunEffect.{Watching, ends_at, RunEffect, StateAfterFault, IsObservedStep, FaultedStep}
use Rattle.alpha_run.specs.RunEffect.{RunsFast}
use Rattle.alpha_run.specs.RunEffect.{ContinuesRun, EndsRun, IsPrefixRun}

-- ---- lists

pub Row-append : {M : Type 0} (steps_to : M → StepLabel → M → Type 0) (ps qs : List StepLabel) (old mid new : M)
    → Row steps_to old ps mid → Row steps_to mid qs new → Row steps_to old (ps ++ qs) new
Row-append steps_to [] qs old mid new row more = subst (λ m. Row steps_to m qs new) (sym row) more
Row-append steps_to (p ∷ ps) qs old mid new row more =
    (row.0, row.1, Row-append steps_to ps qs row.0 mid new row.2 more)

pub AreGoing-append : (ps qs : List StepLabel) → AreGoing ps → AreGoing qs → AreGoing (ps ++ qs)
AreGoing-append [] qs going more = more
AreGoing-append (p ∷ ps) qs going more = (going.0, AreGoing-append ps qs going.1 more)

pub Unstopped-append : {O : Type 0} (after : O → Event → Machine → O) (stops : O → Event → Machine → Bool) (o : O)
    (ps qs : List StepLabel)
    → Unstopped after stops o ps → Unstopped after stops (seen_by after o ps) qs → Unstopped after stops o (ps ++ qs)
Unstopped-append after stops o [] qs un more = more
Unstopped-append after stops o (p ∷ ps) qs un more =
    (un.0, Unstopped-append after stops (after o p.event p.core) ps qs un.1 more)

pub label_units-append : (ps qs : List StepLabel) → units_of (ps ++ qs) ≡ units_of ps + units_of qs
label_units-append [] qs = omega arith
label_units-append (p ∷ ps) qs = let e = label_units-append ps qs in omega arith

pub lines-append : {O : Type 0} (after : O → Event → Machine → O) (lines : O → Event → Machine → List ℕ) (o : O)
    (ps qs : List StepLabel)
    → lines_by after lines o (ps ++ qs) ≡ lines_by after lines o ps ++ lines_by after lines (seen_by after o ps) qs
lines-append after lines o [] qs = refl
lines-append after lines o (p ∷ ps) qs =
    ap (λ l. lines o p.event p.core ++ l) (lines-append after lines (after o p.event p.core) ps qs)
    ∙ sym (append_assoc (lines o p.event p.core) (lines_by after lines (after o p.event p.core) ps) _)

pub seen_by-append : {O : Type 0} (after : O → Event → Machine → O) (o : O) (ps qs : List StepLabel)
    → seen_by after o (ps ++ qs) ≡ seen_by after (seen_by after o ps) qs
seen_by-append after o [] qs = refl
seen_by-append after o (p ∷ ps) qs = seen_by-append after (after o p.event p.core) ps qs

pub events-append : (ps qs : List StepLabel) → events_of (ps ++ qs) ≡ events_of ps ++ events_of qs
events-append ps qs = flat_map-append events_in ps qs

pub output-append : (xs ys : List Happened) → output (xs ++ ys) ≡ output xs ++ output ys
output-append xs ys = flat_map-append put xs ys

pub answers-append : (old mid new : List Reply) (xs ys : List Happened) → AnswersEach old xs mid
    → AnswersEach mid ys new → AnswersEach old (xs ++ ys) new
answers-append old mid new [] ys one two = subst (λ (r : List Reply). AnswersEach r ys new) one two
answers-append old mid new (x ∷ xs) ys one two = (one.0, one.1, answers-append one.0 mid new xs ys one.2 two)

pub Feeds-append : (t : StepTimes Supply) (xs ys : List Happened) → Feeds (drawn_before t) xs → Feeds (drawn_after t) ys
    → Feeds (drawn_over t) (xs ++ ys)
Feeds-append t xs ys one two = record {
  told = λ bytes is.
      let first = one.told bytes is in
      let last = two.told first.0 first.2 in
      (last.0, Fed-append bytes first.0 last.0 xs ys first.1 last.1, last.2);
  answers = answers-append t.first.replies t.mid.replies t.last.replies xs ys one.answers two.answers;
}

-- ---- no step yet

pub ContinuesRun-none : {M O : Type 0} (steps_to : M → StepLabel → M → Type 0) (w : Watching O) (units : ℕ) (m : M)
    (o : O)
    (told : Oracle) (left : Supply) (out notes : Option (List ℕ)) (a b c : ℕ)
    → ContinuesRun steps_to w units units m m o o told told (unused_device left a) (idle_sink out b) (idle_sink notes c)
ContinuesRun-none steps_to w units m o told left out notes a b c = record {
  labels = [];
  row = refl;
  going = tt;
  unstopped = tt;
  used = omega arith;
  effect = record {
    seen = refl;
    drew = OracleDraws-none told;
    fed = record { told = λ bytes is. (bytes, refl, is); answers = refl };
    same = refl;
    wrote = Puts-none out b;
    lines = Puts-none notes c;
  };
}

-- ---- steps that only went on, or passed a barrier

passed-going : (barriers : Bool) (ps : List StepLabel) → ArePassed barriers ps → AreGoing ps
passed-going barriers [] went = tt
passed-going barriers (p ∷ ps) went = (
  ⊎_elim (λ (e : p.event ≡ events.Went). ap is_over e)
      (λ (e : (barriers ≡ true) × (p.event ≡ events.Barrier Nothing)). ap is_over e.1) went.0.event,
  passed-going barriers ps went.1,
)

passed-units : (barriers : Bool) (ps : List StepLabel) → ArePassed barriers ps → units_of ps ≡ length ps
passed-units barriers [] went = refl
passed-units barriers (p ∷ ps) went = omega (arith, went.0.units, passed-units barriers ps went.1)

passed-words : (barriers : Bool) (ps : List StepLabel) → ArePassed barriers ps → flat_map words_of ps ≡ []
passed-words barriers [] went = refl
passed-words barriers (p ∷ ps) went =
    ap (λ l. l ++ flat_map words_of ps) went.0.words ∙ passed-words barriers ps went.1

passed-output : (barriers : Bool) (ps : List StepLabel) → ArePassed barriers ps → output (events_of ps) ≡ []
passed-output barriers [] went = refl
passed-output barriers (p ∷ ps) went =
    ap (λ (l : List Happened). output (l ++ events_of ps)) went.0.seen
    ∙ (ap (λ (t : Traffic). put_in t ++ output (events_of ps)) went.0.silent ∙ passed-output barriers ps went.1)

-- nothing was read
passed-fed : (left : List ℕ) (barriers : Bool) (ps : List StepLabel) → ArePassed barriers ps
    → Fed left (events_of ps) left
passed-fed left barriers [] went = refl
passed-fed left barriers (p ∷ ps) went =
    subst (λ (l : List Happened). Fed left (l ++ events_of ps) left) (sym went.0.seen)
    (subst (λ (t : Traffic). (given_in t ≡ take (asked_in t) left)
    × Fed (drop (length (given_in t)) left) (events_of ps) left)
    (sym went.0.silent) (refl, passed-fed left barriers ps went.1))

passed-answers : (replies : List Reply) (barriers : Bool) (ps : List StepLabel) → ArePassed barriers ps
    → AnswersEach replies (events_of ps) replies
passed-answers replies barriers [] went = refl
passed-answers replies barriers (p ∷ ps) went =
    subst (λ (l : List Happened). AnswersEach replies (l ++ events_of ps) replies) (sym went.0.seen) (
      replies,
      subst (λ (t : Traffic). Answers replies t replies) (sym went.0.silent) refl,
      passed-answers replies barriers ps went.1,
    )

-- ---- steps behind one another

pub RunEffect-append : {O : Type 0} (w : Watching O) (from via to : O) (ps qs : List StepLabel)
    (before told after : Oracle) (input : StepTimes Supply) (out notes : StepTimes (Option (List ℕ)))
    → RunEffect w from via ps before told (drawn_before input) (sunk_before out) (sunk_before notes)
    → RunEffect w via to qs told after (drawn_after input) (sunk_after out) (sunk_after notes)
    → RunEffect w from to (ps ++ qs) before after (drawn_over input) (sunk_over out) (sunk_over notes)
RunEffect-append w from via to ps qs before told after input out notes one two = record {
  seen = two.seen ∙ (ap (λ o. seen_by w.after o qs) one.seen ∙ sym (seen_by-append w.after from ps qs));
  drew =
      subst (OracleDraws before after) (sym (flat_map-append words_of ps qs))
      (OracleDraws-then before told after (flat_map words_of ps) (flat_map words_of qs) one.drew two.drew);
  fed =
      subst (Feeds (drawn_over input)) (sym (events-append ps qs))
      (Feeds-append input (events_of ps) (events_of qs) one.fed two.fed);
  same = two.same ∙ one.same;
  wrote =
      subst (Puts (sunk_over out)) (sym (ap output (events-append ps qs) ∙ output-append (events_of ps) (events_of qs)))
      (Puts-then out.first out.mid out.last out.faults_first out.faults_mid out.faults_last (output (events_of ps))
      (output (events_of qs)) one.wrote two.wrote);
  lines = subst (Puts (sunk_over notes)) (sym (lines-append w.after w.lines from ps qs))
      (Puts-then notes.first notes.mid notes.last notes.faults_first notes.faults_mid notes.faults_last
      (lines_by w.after w.lines from ps) (lines_by w.after w.lines (seen_by w.after from ps) qs) one.lines
      (subst (λ o. Puts (sunk_after notes) (lines_by w.after w.lines o qs)) one.seen two.lines));
}

pub ContinuesRun-append : {M O : Type 0} (steps_to : M → StepLabel → M → Type 0) (w : Watching O)
    (units some left : ℕ) (old mid new : M) (from via to : O) (before told after : Oracle) (input : StepTimes Supply)
    (out notes : StepTimes (Option (List ℕ)))
    → ContinuesRun steps_to w units some old mid from via before told (drawn_before input) (sunk_before out)
    (sunk_before notes)
    → ContinuesRun steps_to w some left mid new via to told after (drawn_after input) (sunk_after out)
    (sunk_after notes)
    → ContinuesRun steps_to w units left old new from to before after (drawn_over input) (sunk_over out)
    (sunk_over notes)
ContinuesRun-append steps_to w units some left old mid new from via to before told after input out notes one two =
    record {
      labels = one.labels ++ two.labels;
      row = Row-append steps_to one.labels two.labels old mid new one.row two.row;
      going = AreGoing-append one.labels two.labels one.going two.going;
      unstopped =
          Unstopped-append w.after w.stops from one.labels two.labels one.unstopped
          (subst (λ o. Unstopped w.after w.stops o two.labels) one.effect.seen two.unstopped);
      used = omega (arith, label_units-append one.labels two.labels, one.used, two.used);
      effect =
          RunEffect-append w from via to one.labels two.labels before told after input out notes one.effect two.effect;
    }

-- one step
pub ContinuesRun-step : {M O : Type 0} (steps_to : M → StepLabel → M → Type 0) (uses : M → ℕ) (w : Watching O)
    (units left : ℕ) (event : Event) (last : Bool) (old new : M) (from to : O) (before after : Oracle) (input : Drawn)
    (out notes : SinkChange)
    → left + uses old ≡ units → last ≡ false
    → IsObservedStep steps_to uses w event last old new from to before after input out notes
    → ContinuesRun steps_to w units left old new from to before after input out notes
ContinuesRun-step steps_to uses w units left event last old new from to before after input out notes some on one =
    let p = one.label in
    let both = or_parts (w.stops from p.event p.core) (is_over p.event) (sym one.last_is ∙ on) in
    record {
      labels = p ∷ [];
      row = (new, one.is, refl);
      going = (both.1, tt);
      unstopped = (both.0, tt);
      used = omega (arith, one.units, some);
      effect = one.effect;
    }

-- steps that only went on, or passed barriers
pub ContinuesRun-run_fast : {M O : Type 0} (steps_to : M → StepLabel → M → Type 0) (w : Watching O) (units left : ℕ)
    (old new : M) (from to : O) (told : Oracle) (input : Supply) (out notes : Option (List ℕ)) (a b c : ℕ)
    → RunsFast steps_to w units left old new from to
    → ContinuesRun steps_to w units left old new from to told told (unused_device input a) (idle_sink out b)
    (idle_sink notes c)
ContinuesRun-run_fast steps_to w units left old new from to told input out notes a b c one =
    let rushed = one.fast_steps in
    let ps = rushed.0 in
    let went = rushed.2 in
    let barriers = one.barriers in
    let passed = one.passed ps went rushed.3 in
    record {
      labels = ps;
      row = rushed.1;
      going = passed-going barriers ps went;
      unstopped = passed.2;
      used = omega (arith, passed-units barriers ps went, rushed.3, one.used);
      effect = record {
        seen = passed.0;
        drew = subst (OracleDraws told told) (sym (passed-words barriers ps went)) (OracleDraws-none told);
        fed = record {
          told = λ bytes is. (bytes, passed-fed bytes barriers ps went, is);
          answers = passed-answers input.replies barriers ps went;
        };
        same = refl;
        wrote = subst (Puts (idle_sink out b)) (sym (passed-output barriers ps went)) (Puts-none out b);
        lines = subst (Puts (idle_sink notes c)) (sym passed.1) (Puts-none notes c);
      };
    }

pub EndsRun-last : {M O : Type 0} (steps_to : M → StepLabel → M → Type 0) (uses : M → ℕ) (w : Watching O)
    (units some left : ℕ) (event : Event) (last : Bool) (old mid new : M) (from via to : O) (before told after : Oracle)
    (input : StepTimes Supply) (out notes : StepTimes (Option (List ℕ)))
    → left + uses mid ≡ some → last ≡ true
    → ContinuesRun steps_to w units some old mid from via before told (drawn_before input) (sunk_before out)
    (sunk_before notes)
    → IsObservedStep steps_to uses w event last mid new via to told after (drawn_after input) (sunk_after out)
    (sunk_after notes)
    → EndsRun steps_to w units left event old new from to before after (drawn_over input) (sunk_over out)
    (sunk_over notes)
EndsRun-last steps_to uses w units some left event last old mid new
    from via to before told after input out notes room off one two =
    record {
      labels = one.labels;
      mid = mid;
      label = two.label;
      row = one.row;
      going = one.going;
      unstopped = one.unstopped;
      is = two.is;
      event_is = two.event_is;
      ends = subst (λ o. ends_at w o two.label.event two.label.core ≡ true) one.effect.seen (sym two.last_is ∙ off);
      used = omega (arith, one.used, two.units, room);
      effect =
          RunEffect-append w from via to one.labels
          (two.label ∷ []) before told after input out notes one.effect two.effect;
    }

-- ---- a step that a fault cuts short

-- no fault, and then the cause of the last step
causes-after : (fault : Fault) (input : StepTimes Supply) (out notes : StepTimes (Option (List ℕ)))
    → input.faults_mid ≡ input.faults_first → out.faults_mid ≡ out.faults_first → notes.faults_mid ≡ notes.faults_first
    → Causes fault (drawn_after input) (sunk_after out) (sunk_after notes)
    → Causes fault (drawn_over input) (sunk_over out) (sunk_over notes)
causes-after faults.Input input out notes a b c two = record {
  later = subst (λ k. k ≤ input.faults_last) a two.later;
  source = subst (λ k. Faulted k input.faults_last) a two.source;
  sink = two.sink ∙ b;
  lines = two.lines ∙ c;
}
causes-after faults.Output input out notes a b c two = record {
  source = two.source ∙ a;
  later = subst (λ k. k ≤ out.faults_last) b two.later;
  sink = subst (λ k. Faulted k out.faults_last) b two.sink;
  lines = two.lines ∙ c;
}
causes-after faults.Notes input out notes a b c two = record {
  source = two.source ∙ a;
  sink = two.sink ∙ b;
  later = subst (λ k. k ≤ notes.faults_last) c two.later;
  lines = subst (λ k. Faulted k notes.faults_last) c two.lines;
}

-- what it leaves, by the counts before the first step
behind_all : {M : Type 0} (leaves : Fault → M → M → Drawn → SinkChange → Type 0) (fault : Fault) (p : StepLabel)
    (mid would new : M) (input : StepTimes Supply) (out notes : StepTimes (Option (List ℕ)))
    → input.faults_mid ≡ input.faults_first → out.faults_mid ≡ out.faults_first → notes.faults_mid ≡ notes.faults_first
    → StateAfterFault leaves fault p mid would new (drawn_after input) (sunk_after out) (sunk_after notes)
    → StateAfterFault leaves fault p mid would new (drawn_from (drawn_over input) input.mid input.faults_first)
    (sunk_from (sunk_over out) out.mid out.faults_first) (sunk_from (sunk_over notes) notes.mid notes.faults_first)
behind_all leaves fault p mid would new input out notes a b c one =
    subst (λ (k : ℕ). StateAfterFault leaves fault p mid would new (drawn_from (drawn_over input) input.mid k)
    (sunk_from (sunk_over out) out.mid out.faults_first) (sunk_from (sunk_over notes) notes.mid notes.faults_first))
    a
    (subst (λ (k : ℕ). StateAfterFault leaves fault p mid would new (drawn_after input)
    (sunk_from (sunk_over out) out.mid k) (sunk_from (sunk_over notes) notes.mid notes.faults_first))
    b
    (subst (λ (k : ℕ). StateAfterFault leaves fault p mid would new
    (drawn_after input) (sunk_after out) (sunk_from (sunk_over notes) notes.mid k))
    c one))

pub ContinuesRun-IsPrefixRun : {M O : Type 0} (fault : Fault) (steps_to : M → StepLabel → M → Type 0) (uses : M → ℕ)
    (leaves : Fault → M → M → Drawn → SinkChange → Type 0) (w : Watching O) (units some left : ℕ) (old mid new : M)
    (from via : O) (before told after : Oracle) (input : StepTimes Supply) (out notes : StepTimes (Option (List ℕ)))
    → left + uses mid ≡ some
    → ContinuesRun steps_to w units some old mid from via before told (drawn_before input) (sunk_before out)
    (sunk_before notes)
    → FaultedStep steps_to uses leaves w fault mid new via told after (drawn_after input) (sunk_after out)
    (sunk_after notes)
    → IsPrefixRun fault steps_to leaves w units left old new from before after (drawn_over input) (sunk_over out)
    (sunk_over notes)
ContinuesRun-IsPrefixRun fault steps_to uses leaves w units some left old mid new from via before told after input out
    notes
    room one two =
    let ps = one.labels in
    let p = two.label in
    record {
      labels = ps;
      mid = mid;
      label = p;
      intended = two.intended;
      row = one.row;
      going = one.going;
      unstopped = one.unstopped;
      is = two.is;
      used = omega (arith, one.used, two.units, room);
      effect = record {
        drew = subst (OracleDraws before after) (sym (flat_map-append words_of ps (p ∷ [])))
            (OracleDraws-then before told after (flat_map words_of ps) (flat_map words_of (p ∷ [])) one.effect.drew
            (subst (OracleDraws told after) (sym (append-nil p.words)) two.drew));
        left = input.mid;
        fed = record { told = one.effect.fed.told; answers = one.effect.fed.answers };
        would_feed = λ bytes is. two.would_feed bytes is;
        leaves_end = λ bytes is. two.leaves_end bytes is;
        written = out.mid;
        wrote = one.effect.wrote.written;
        noted = notes.mid;
        notes_are = one.effect.lines.written;
        bytes =
            Appends-WritesBetween out.first out.mid out.last (output (events_of ps)) (output p.seen)
            (output (events_of ps ++ p.seen)) one.effect.wrote.written two.bytes
            (output-append (events_of ps) p.seen);
        lines =
            Appends-WritesBetween notes.first notes.mid notes.last (lines_by w.after w.lines from ps)
            (w.lines via p.event p.core)
            (lines_by w.after w.lines from (ps ++ p ∷ [])) one.effect.lines.written two.lines
            (lines-append w.after w.lines from ps (p ∷ []) ∙ ap (λ l. lines_by w.after w.lines from ps ++ l)
            (append-nil (w.lines (seen_by w.after from ps) p.event p.core)
            ∙ ap (λ o. w.lines o p.event p.core) (sym one.effect.seen)));
      };
      after_fault =
          behind_all leaves fault p mid two.intended new input out notes one.effect.same one.effect.wrote.same
          one.effect.lines.same
          two.after_fault;
      cause = causes-after fault input out notes one.effect.same one.effect.wrote.same one.effect.lines.same two.cause;
    }

-- ---- an error that is handed on

pub if_err : {T E : Type 0} (P : E → Type 0) (r : Result T E) (e : E) → IsErr r × IsErrAnd r (λ x. x ≡ e) → P e
    → IfErr r P
if_err P r e did holds =
    let p = err_from_is_err_and r did.1 in
    subst (λ q. IfErr q P) (sym p.1) (subst P (sym p.2) holds)

-- ---- units

pub left_after : (left test unit uses : ℕ) → test ≡ uses → unit ≡ uses → test ≤ left → left - unit + uses ≡ left
left_after left test unit uses tested same some = omega arith
