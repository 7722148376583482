-- Steps of the machine over an empty input, which a run makes, are a walk of the definition.
use Rattle.std.proofs.Common.{◌≡◌, ◌∙◌, ◌+◌, ◌≤◌, ◌||◌, ℕ, zero, suc, Bool, true, false, cond, List, [], ◌∷◌, ◌++◌}
use Rattle.std.proofs.Common.{length, take, drop, Option, None, Some, refl, sym, ap, subst, append_assoc, append-nil}
use Rattle.std.proofs.Common.{arith}
use Rattle.alpha_io.specs.SinkChange.{SinkChange, WritesPartly, HasFailed}
use Rattle.alpha_io.proofs.Sinks.{WritesPartly-more}
use Rattle.alpha_pal.specs.declared.fault.Fault.{Fault}
use Rattle.alpha_pal.specs.declared.fault.Fault.TheVariants as faults
use Rattle.alpha_pal.specs.declared.pal_end.Passed.{Passed}
use Rattle.alpha_seq.specs.declared.machine.Machine.{Machine}
use Rattle.alpha_seq.specs.declared.end.End.{End}
use Rattle.alpha_seq.specs.declared.event.Event.{Event as SeenEvent}
use Rattle.alpha_seq.specs.State.{Program, State, Event, Went, Barriered, Overflowed, Ends, Stepped, stepped}
use Rattle.alpha_seq.specs.Step.{step_from}
use Rattle.alpha_seq.specs.Run.{asked, given, put, output, left_by, Fed, end_of, is_over}
use Rattle.alpha_seq.specs.Machine.{program_of, state_of}
use Rattle.alpha_seq.specs.Devices.{Drawn}
use Rattle.alpha_seq.specs.StepLabel.{StepLabel, is_over as has_ended}
use Rattle.alpha_seq.specs.Sequential.{seen_as, SeqStep, SeqStateAfterFault, one_unit}
use Rattle.alpha_seq.specs.StepEffect.{Causes}
use Rattle.alpha_imprecise.specs.Oracle.{Oracle}
use Rattle.alpha_run.specs.Row.{Row, AreGoing, events_of, units_of, lines_by, seen_by, Unstopped}
use Rattle.alpha_run.specs.RunEffect.{ends_at, RunsTo, IsPrefixRun}
use Rattle.alpha_run.proofs.StepRows.{Row-append, output-append}
use Rattle.alpha_run.proofs.SeqRuns.{events_of-last}
use Rattle.alpha_debug.specs.declared.watcher.Until.{Until}
use Rattle.alpha_debug.specs.declared.watcher.Watcher.{Watcher}
use Rattle.alpha_debug.specs.Session.{is_barrier, is_reached, is_last, StepsResult, step_until}
use Rattle.alpha_debug.specs.OutputChange.{OutputChange}
use Rattle.alpha_debug.specs.Watched.{was_barrier, end_by, watched_lines, watched_after, watched_stops, watches}
use Rattle.alpha_debug.specs.Effects.{Grows, FailsBehind, StepsUntil, StepUntilFails, PutsNothing}
use Rattle.alpha_debug.proofs.WatchedSteps.{row-bytes, row-quiet, seen_by-watched_after}
use Rattle.alpha_debug.proofs.SinkEffects.{Grows-same, Grows-trans, FailsBehind-more}

-- ---- one step

step_until-zero : (n : ℕ) (l : List ℕ) → l ≡ [] → take n l ≡ []
step_until-zero zero l none = refl
step_until-zero (suc n) l none = ap (take (suc n)) none

drop-nil_of : (n : ℕ) (l : List ℕ) → l ≡ [] → drop n l ≡ []
drop-nil_of zero l none = none
drop-nil_of (suc n) l none = ap (drop (suc n)) none

-- what an empty input feeds
fed-none : (h : Event) (events : List Event) (rest : List ℕ) → Fed [] (h ∷ events) rest
    → (given h ≡ []) × Fed [] events rest
fed-none h events rest fed = (
  fed.0 ∙ step_until-zero (asked h) [] refl,
  subst (λ (l : List ℕ). Fed l events rest) (drop-nil_of (length (given h)) [] refl) fed.1,
)

barrier-seen : (happened : Event) (passed : Passed) → was_barrier (seen_as happened passed) ≡ is_barrier happened
barrier-seen Went passed = refl
barrier-seen (Barriered traffic pc regs) passed = refl
barrier-seen (Overflowed at) passed = refl
barrier-seen (Ends end) passed = refl

over-seen : (happened : Event) (passed : Passed) → is_over happened ≡ has_ended (seen_as happened passed)
over-seen Went passed = refl
over-seen (Barriered traffic pc regs) passed = refl
over-seen (Overflowed at) passed = refl
over-seen (Ends end) passed = refl

end-seen : (happened : Event) (passed : Passed) → end_of happened ≡ end_by (Some (seen_as happened passed))
end-seen Went passed = refl
end-seen (Barriered traffic pc regs) passed = refl
end-seen (Overflowed at) passed = refl
end-seen (Ends end) passed = refl

-- what the definition says of it, where it was given nothing
step-behind : (g : Program) (p : StepLabel) (mid new : Machine) → program_of mid ≡ g → (is : SeqStep mid p new)
    → given is.last_event ≡ []
    → step_from g (state_of mid) [] ≡ stepped (state_of new) is.last_event
step-behind g p mid new same is none =
    ap (λ (h : Program). step_from h (state_of mid) []) (sym same)
    ∙ (ap (step_from (program_of mid) (state_of mid)) (sym none) ∙ is.is)

or-comm : (a b : Bool) → (a || b) ≡ (b || a)
or-comm true true = refl
or-comm true false = refl
or-comm false true = refl
or-comm false false = refl

-- the loop ends behind the step behind which a walk does
last-is : (w : Watcher) (p : StepLabel) (old new : Machine) → (is : SeqStep old p new)
    → is_last w.until w.points.items is.last_event new.pc ≡ ends_at watches w p.event p.core
last-is w p old new is =
    let over : is_over is.last_event ≡ has_ended p.event =
    over-seen is.last_event is.passed ∙ ap has_ended (sym is.event) in
    let barrier : is_barrier is.last_event ≡ was_barrier p.event =
    sym (barrier-seen is.last_event is.passed) ∙ ap was_barrier (sym is.event) in
    ap (λ (b : Bool). b || is_reached w.until w.points.items (is_barrier is.last_event) new.pc) over
    ∙ (ap (λ (b : Bool). has_ended p.event || is_reached w.until w.points.items b new.pc) barrier
    ∙ (ap (λ (m : Machine). has_ended p.event || is_reached w.until w.points.items (was_barrier p.event) m.pc)
    (sym is.core)
    ∙ or-comm (has_ended p.event) (watched_stops w p.event p.core)))

-- ---- more steps

abbrev step_until-by : Bool → Program → Until → List ℕ → ℕ → Stepped → List ℕ → StepsResult
step_until-by b g wanted points n t text =
    cond b (record { state = t.state; text = text ++ put t.event; end = end_of t.event })
    (step_until g wanted points n t.state (text ++ put t.event))

step_until-none : (g : Program) (wanted : Until) (points : List ℕ) (s : State) (text : List ℕ)
    → step_until g wanted points 0 s text ≡ record { state = s; text = text; end = None }
unfolding step_until
step_until-none g wanted points s text = refl

step_until-more : (g : Program) (wanted : Until) (points : List ℕ) (n : ℕ) (s : State) (text : List ℕ)
    → step_until g wanted points (suc n) s text
    ≡ step_until-by (is_last wanted points (step_from g s []).event (step_from g s []).state.pc) g wanted points n
    (step_from g s []) text
unfolding step_until
step_until-more g wanted points n s text = refl

-- a walk whose first step is this
step_until-step : (g : Program) (wanted : Until) (points : List ℕ) (n : ℕ) (s : State) (text : List ℕ) (t : Stepped)
    → step_from g s [] ≡ t
    → step_until g wanted points (suc n) s text
    ≡ step_until-by (is_last wanted points t.event t.state.pc) g wanted points n t text
step_until-step g wanted points n s text t e =
    step_until-more g wanted points n s text
    ∙ ap (λ (u : Stepped). step_until-by (is_last wanted points u.event u.state.pc) g wanted points n u text) e

-- ---- what is put stays

by-grows : (b : Bool) (g : Program) (wanted : Until) (points : List ℕ) (n : ℕ) (t : Stepped) (text : List ℕ)
    → Grows (text ++ put t.event) (step_until g wanted points n t.state (text ++ put t.event)).text
    → Grows (text ++ put t.event) (step_until-by b g wanted points n t text).text
by-grows true g wanted points n t text more = Grows-same (text ++ put t.event)
by-grows false g wanted points n t text more = more

pub step_until-grows : (g : Program) (wanted : Until) (points : List ℕ) (n : ℕ) (s : State) (text : List ℕ)
    → Grows text (step_until g wanted points n s text).text
step_until-grows g wanted points zero s text =
    subst (λ (w : StepsResult). Grows text w.text) (sym (step_until-none g wanted points s text)) (Grows-same text)
step_until-grows g wanted points (suc n) s text =
    let t : Stepped = step_from g s [] in
    subst (λ (w : StepsResult). Grows text w.text) (sym (step_until-more g wanted points n s text))
    (Grows-trans text (text ++ put t.event)
    (step_until-by (is_last wanted points t.event t.state.pc) g wanted points n t text).text
    (record { bytes = put t.event; is = refl })
    (by-grows (is_last wanted points t.event t.state.pc) g wanted points n t text
    (step_until-grows g wanted points n t.state (text ++ put t.event))))

-- what the first step has put stays
first-grows : (g : Program) (wanted : Until) (points : List ℕ) (n : ℕ) (s : State) (text : List ℕ) (t : Stepped)
    → step_from g s [] ≡ t
    → Grows (text ++ put t.event) (step_until g wanted points (suc n) s text).text
first-grows g wanted points n s text t is =
    subst (λ (w : StepsResult). Grows (text ++ put t.event) w.text)
    (sym (step_until-step g wanted points n s text t is))
    (by-grows (is_last wanted points t.event t.state.pc) g wanted points n t text
    (step_until-grows g wanted points n t.state (text ++ put t.event)))

-- ---- steps in a row

put-first : (ps : List StepLabel) (p : StepLabel) (old new : Machine) → (is : SeqStep old p new)
    → output (events_of (p ∷ ps)) ≡ put is.last_event ++ output (events_of ps)
put-first ps p old new is = ap (λ (l : List Event). output (l ++ events_of ps)) is.seen

-- the others of a walk go on from where these lead
row-step_until : (g : Program) (w : Watcher) (ps : List StepLabel) (n : ℕ) (old mid : Machine) → program_of old ≡ g
    → Row SeqStep old ps mid → AreGoing ps
    → Unstopped watched_after watched_stops w ps → (rest : List ℕ) → Fed [] (events_of ps) rest → (text : List ℕ)
    → step_until g w.until w.points.items (units_of ps + n) (state_of old) text
    ≡ step_until g w.until w.points.items n (state_of mid) (text ++ output (events_of ps))
row-step_until g w [] n old mid same row going un rest fed text =
    let all : 0 + n ≡ n = omega arith in
    ap (λ (k : ℕ). step_until g w.until w.points.items k (state_of old) text) all
    ∙ (ap (λ (m : Machine). step_until g w.until w.points.items n (state_of m) text) row
    ∙ ap (λ (l : List ℕ). step_until g w.until w.points.items n (state_of mid) l) (sym (append-nil text)))
row-step_until g w (p ∷ ps) n old mid same row going un rest fed text =
    let next : Machine = row.0 in
    let is : SeqStep old p next = row.1 in
    let h = is.last_event in
    let none =
    fed-none h (events_of ps) rest (subst (λ (l : List Event). Fed [] (l ++ events_of ps) rest) is.seen fed) in
    let k : ℕ = units_of ps + n in
    let all : (p.units + units_of ps) + n ≡ suc k = omega (arith, is.units) in
    let t : Stepped = stepped (state_of next) h in
    let on : is_last w.until w.points.items h next.pc ≡ false =
    last-is w p old next is ∙ (ap (λ (b : Bool). b || has_ended p.event) un.0 ∙ going.0) in
    ap (λ (j : ℕ). step_until g w.until w.points.items j (state_of old) text) all
    ∙ (step_until-step g w.until w.points.items k (state_of old) text t (step-behind g p old next same is none.0)
    ∙ (ap (λ (b : Bool). step_until-by b g w.until w.points.items k t text) on
    ∙ (row-step_until g (watched_after w p.event p.core) ps n next mid
    (is.program ∙ same) row.2 going.1 un.1 rest none.1
    (text ++ put h)
    ∙ ap (λ (l : List ℕ). step_until g w.until w.points.items n (state_of mid) l)
    (append_assoc text (put h) (output (events_of ps))
    ∙ ap (λ (l : List ℕ). text ++ l) (sym (put-first ps p old next is))))))

row-program : (ps : List StepLabel) (old mid : Machine) → Row SeqStep old ps mid → program_of mid ≡ program_of old
row-program [] old mid row = ap program_of (sym row)
row-program (p ∷ ps) old mid row = row-program ps row.0 mid row.2 ∙ row.1.program

-- what steps and one more were fed, and what they put
fed-prefix : (xs ys : List Event) (input rest : List ℕ) → Fed input (xs ++ ys) rest
    → (mid : List ℕ) × Fed input xs mid × Fed mid ys rest
fed-prefix [] ys input rest fed = (input, refl, fed)
fed-prefix (x ∷ xs) ys input rest fed =
    let more = fed-prefix xs ys (left_by x input) rest fed.1 in (more.0, (fed.0, more.1), more.2)

fed-empty : (events : List Event) (input rest : List ℕ) → input ≡ [] → Fed input events rest → rest ≡ []
fed-empty [] input rest none fed = sym fed ∙ none
fed-empty (h ∷ events) input rest none fed =
    fed-empty events (left_by h input) rest (drop-nil_of (length (given h)) input none) fed.1

bytes-last : (ps : List StepLabel) (p : StepLabel) (mid new : Machine) → (is : SeqStep mid p new)
    → output (events_of ps) ++ put is.last_event ≡ output (events_of (ps ++ p ∷ []))
bytes-last ps p mid new is =
    ap (λ (l : List ℕ). output (events_of ps) ++ l) (sym (append-nil (put is.last_event)) ∙ ap output (sym is.seen))
    ∙ (sym (output-append (events_of ps) p.seen) ∙ ap output (sym (events_of-last ps p)))

-- what the sink got, and the block before it
abbrev watched_by : SinkChange → Watcher → Watcher → OutputChange
watched_by s old new = record { sink = s; old = old.block; new = new.block }

module _ (w v : Watcher) (most left : ℕ) (old new : Machine) (before after : Oracle) (input : Drawn)
    (out notes : SinkChange) (empty : input.old.left ≡ Some []) where
  kept : (ps : List StepLabel) → v ≡ seen_by watched_after w ps
      → v ≡ record w { block = v.block; has_put = v.has_put }
  kept ps seen =
      seen
      ∙ (seen_by-watched_after w ps
      ∙ ap (λ (u : Watcher). record w { block = u.block; has_put = u.has_put }) (sym seen))

  -- all steps were made
  walked-all : RunsTo None SeqStep one_unit watches most left old new w v before after input out notes
      → StepsUntil w.until w.points.items most None old new (watched_by notes w v)
  walked-all ran =
      let one = ran.1 in
      let ps = one.labels in
      let all : most ≡ units_of ps + 0 = omega (arith, one.used, ran.0) in
      let fed = one.effect.fed.told [] empty in
      record {
        bytes = output (events_of ps);
        wrote = record {
          put = lines_by watched_after watched_lines w ps;
          puts = one.effect.lines;
          whole =
              row-bytes w ps old new one.row
              ∙ ap (λ (u : Watcher). lines_by watched_after watched_lines w ps ++ u.block) (sym one.effect.seen);
        };
        is = λ text.
            ap (λ (k : ℕ). step_until (program_of old) w.until w.points.items k (state_of old) text) all
            ∙ (row-step_until (program_of old) w ps 0 old new refl one.row one.going one.unstopped fed.0 fed.1 text
            ∙ step_until-none (program_of old) w.until w.points.items (state_of new) (text ++ output (events_of ps)));
      }

  -- the last one was wanted, or the program ended behind it
  walked-last : (event : SeenEvent)
      → RunsTo (Some event) SeqStep one_unit watches most left old new w v before after input out notes
      → StepsUntil w.until w.points.items most (end_by (Some event)) old new (watched_by notes w v)
  walked-last event one =
      let g = program_of old in
      let ps = one.labels in
      let p = one.label in
      let h = one.is.last_event in
      let qs = ps ++ p ∷ [] in
      let row : Row SeqStep old qs new = Row-append SeqStep ps (p ∷ []) old one.mid new one.row (new, one.is, refl) in
      let all : most ≡ units_of ps + suc left = omega (arith, one.used, one.is.units) in
      let fed = one.effect.fed.told [] empty in
      let front = fed-prefix (events_of ps) p.seen [] fed.0
      (subst (λ (l : List Event). Fed [] l fed.0) (events_of-last ps p) fed.1) in
      let none : front.0 ≡ [] = fed-empty (events_of ps) [] front.0 refl front.1 in
      let gave = fed-none h [] fed.0 (subst (λ (l : List ℕ). Fed l (h ∷ []) fed.0) none
      (subst (λ (l : List Event). Fed front.0 l fed.0) one.is.seen front.2)) in
      let ends : is_last w.until w.points.items h new.pc ≡ true =
      last-is w p one.mid new one.is
      ∙ (ap (λ (u : Watcher). ends_at watches u p.event p.core) (sym (seen_by-watched_after w ps)) ∙ one.ends) in
      record {
        bytes = output (events_of qs);
        wrote = record {
          put = lines_by watched_after watched_lines w qs;
          puts = one.effect.lines;
          whole =
              row-bytes w qs old new row
              ∙ ap (λ (u : Watcher). lines_by watched_after watched_lines w qs ++ u.block) (sym one.effect.seen);
        };
        is = λ text.
            let before_it : List ℕ = text ++ output (events_of ps) in
            let t : Stepped = stepped (state_of new) h in
            ap (λ (k : ℕ). step_until g w.until w.points.items k (state_of old) text) all
            ∙ (row-step_until g w ps (suc left) old one.mid refl one.row one.going one.unstopped front.0 front.1 text
            ∙ (step_until-step g w.until w.points.items left (state_of one.mid) before_it t
            (step-behind g p one.mid new (row-program ps old one.mid one.row) one.is gave.0)
            ∙ (ap (λ (b : Bool). step_until-by b g w.until w.points.items left t before_it) ends
            ∙ (ap (λ (l : List ℕ). record { state = state_of new; text = l; end = end_of h })
            (append_assoc text (output (events_of ps)) (put h)
            ∙ ap (λ (l : List ℕ). text ++ l) (bytes-last ps p one.mid new one.is))
            ∙ ap
            (λ (end : Option End). record { state = state_of new; text = text ++ output (events_of qs); end = end })
            (end-seen h one.is.passed ∙ ap (λ (e : SeenEvent). end_by (Some e)) (sym one.is.event ∙ one.event_is))))));
      }

  pub RunsTo-StepsUntil : (last : Option SeenEvent)
      → RunsTo last SeqStep one_unit watches most left old new w v before after input out notes
      → StepsUntil w.until w.points.items most (end_by last) old new (watched_by notes w v)
  RunsTo-StepsUntil None ran = walked-all ran
  RunsTo-StepsUntil (Some event) ran = walked-last event ran

  -- where it saw nothing put, the program puts nothing
  pub walked-quiet : (last : Option SeenEvent)
      → RunsTo last SeqStep one_unit watches most left old new w v before after input out notes → v.has_put ≡ false
      → PutsNothing w.until w.points.items most old
  unfolding walked-all walked-last
  walked-quiet None ran quiet text =
      let one = ran.1 in
      let none : output (events_of one.labels) ≡ [] =
      row-quiet w one.labels old new one.row (sym (ap (λ (u : Watcher). u.has_put) one.effect.seen) ∙ quiet) in
      ap (λ (t : StepsResult). t.text) ((walked-all ran).is text)
      ∙ (ap (λ (l : List ℕ). text ++ l) none ∙ append-nil text)
  walked-quiet (Some event) one quiet text =
      let qs = one.labels ++ one.label ∷ [] in
      let row : Row SeqStep old qs new =
      Row-append SeqStep one.labels (one.label ∷ []) old one.mid new one.row (new, one.is, refl) in
      let none : output (events_of qs) ≡ [] =
      row-quiet w qs old new row (sym (ap (λ (u : Watcher). u.has_put) one.effect.seen) ∙ quiet) in
      ap (λ (t : StepsResult). t.text) ((walked-last event one).is text)
      ∙ (ap (λ (l : List ℕ). text ++ l) none ∙ append-nil text)

  -- the watcher is as before but for what waits and whether the program has put something
  pub walked-kept : (last : Option SeenEvent)
      → RunsTo last SeqStep one_unit watches most left old new w v before after input out notes
      → v ≡ record w { block = v.block; has_put = v.has_put }
  walked-kept None ran = kept ran.1.labels ran.1.effect.seen
  walked-kept (Some event) ran = kept (ran.labels ++ ran.label ∷ []) ran.effect.seen

-- ---- a sink that failed

-- the empty input fails in no step, nor does the output that drops all
failed-by : (fault : Fault) (input : Drawn) (out notes : SinkChange) → input.before ≡ 0 → input.now ≡ 0 → out.before ≡ 0
    → out.now ≡ 0 → Causes fault input out notes
    → (notes.before ≤ notes.now) × HasFailed notes
failed-by faults.Input input out notes a b c d cause = absurd (omega (arith, cause.source))
failed-by faults.Output input out notes a b c d cause = absurd (omega (arith, cause.sink))
failed-by faults.Notes input out notes a b c d cause = (cause.later, cause.lines)

pub StepUntilFails-cut : (fault : Fault) (w : Watcher) (waits : List ℕ) (most left : ℕ) (old new : Machine)
    (before after : Oracle) (input : Drawn) (out notes : SinkChange)
    → input.old.left ≡ Some [] → input.before ≡ 0 → input.now ≡ 0 → out.before ≡ 0 → out.now ≡ 0
    → IsPrefixRun fault SeqStep SeqStateAfterFault watches most left old new w before after input out notes
    → StepUntilFails w.until w.points.items most old (record { sink = notes; old = w.block; new = waits })
StepUntilFails-cut fault w waits most left old new before after input out notes empty a b c d one text =
    let g = program_of old in
    let ps = one.labels in
    let p = one.label in
    let qs = ps ++ p ∷ [] in
    let s : OutputChange = record { sink = notes; old = w.block; new = waits } in
    let row : Row SeqStep old qs one.intended =
    Row-append SeqStep ps (p ∷ []) old one.mid one.intended one.row (one.intended, one.is, refl) in
    let all : most ≡ units_of ps + suc left = omega (arith, one.used, one.is.units) in
    let fed = one.effect.fed.told [] empty in
    let none : fed.0 ≡ [] = fed-empty (events_of ps) [] fed.0 refl fed.1 in
    let last = one.effect.would_feed fed.0 fed.2 in
    let h = one.is.last_event in
    let gave = fed-none h [] last.0 (subst (λ (l : List ℕ). Fed l (h ∷ []) last.0) none
    (subst (λ (l : List Event). Fed fed.0 l last.0) one.is.seen last.1)) in
    let failed = failed-by fault input out notes a b c d one.cause in
    let lines = one.effect.lines in
    let part : WritesPartly notes (w.block ++ output (events_of qs)) =
    subst (WritesPartly notes) (sym (row-bytes w qs old one.intended row))
    (WritesPartly-more notes (lines_by watched_after watched_lines w qs) (seen_by watched_after w qs).block
    (record {
      prefix = record {
        done = lines_by watched_after watched_lines w ps ++ lines.more;
        rest = lines.rest;
        whole = lines.whole;
        written = lines.written;
      };
      later = failed.0;
    })) in
    let here : List ℕ = text ++ output (events_of ps) in
    let t : Stepped = stepped (state_of one.intended) h in
    let whole : step_until g w.until w.points.items most (state_of old) text
    ≡ step_until g w.until w.points.items (suc left) (state_of one.mid) here =
    ap (λ (k : ℕ). step_until g w.until w.points.items k (state_of old) text) all
    ∙ row-step_until g w ps (suc left) old one.mid refl one.row one.going one.unstopped fed.0 fed.1 text in
    let step : here ++ put h ≡ text ++ output (events_of qs) =
    append_assoc text (output (events_of ps)) (put h)
    ∙ ap (λ (l : List ℕ). text ++ l) (bytes-last ps p one.mid one.intended one.is) in
    subst (λ (u : StepsResult). FailsBehind s text u.text) (sym whole)
    (FailsBehind-more s text (here ++ put h)
    (step_until g w.until w.points.items (suc left) (state_of one.mid) here).text
    (record { bytes = output (events_of qs); is = step; stops = record { part = part; failed = failed.1 } })
    (first-grows g w.until w.points.items left (state_of one.mid) here t
    (step-behind g p one.mid one.intended (row-program ps old one.mid one.row) one.is gave.0)))
