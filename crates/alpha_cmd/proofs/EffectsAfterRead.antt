-- From what a command did behind the stage that read its files to what it did.
use Rattle.std.proofs.Common.{◌≡◌, ◌∙◌, ℕ, List, Bool, Option, None, Result, Ok, Err, refl, ap, subst, inl, inr, arith}
use Rattle.alpha_io.specs.declared.Failed.{Failed}
use Rattle.alpha_io.specs.declared.shelf.Shelf as shelves
use Rattle.alpha_io.specs.declared.source.Source as sources
use Rattle.alpha_io.specs.declared.sink.Sink as sinks
use Rattle.alpha_io.specs.Faults.{Faulted}
use Rattle.alpha_io.specs.Files.{Files}
use Rattle.alpha_io.specs.ShelfChange.{shelf_change, OnlyReads}
use Rattle.alpha_io.proofs.FaultCounts.{Faulted-earlier}
use Rattle.alpha_io.proofs.ShelfLaws.{KeepsFiles-trans}
use Rattle.alpha_cmd.specs.declared.decision.Decision.{Decision}
use Rattle.alpha_cmd.specs.declared.devices.Devices.{Devices}
use Rattle.alpha_cmd.specs.declared.status.Status.{Status}
use Rattle.alpha_cmd.specs.declared.status.Status.TheVariants.{ShelfFault}
use Rattle.alpha_cmd.specs.declared.stop.Stop.{Stop}
use Rattle.alpha_cmd.specs.declared.stop.Stop.TheVariants.{OfStatus}
use Rattle.alpha_cmd.specs.Answer.{Answer}
use Rattle.alpha_cmd.specs.AnswerBy.{World, AnswerBy, world}
use Rattle.alpha_cmd.specs.Call.{Call, called}
use Rattle.alpha_cmd.specs.Decision.{SaysStop}
use Rattle.alpha_cmd.specs.CommandEffect.{CommandEffect, AttemptIn}
use Rattle.alpha_cmd.specs.Form.{Form, Kind, Needs}
use Rattle.alpha_cmd.specs.Kept.{Kept}
use Rattle.alpha_cmd.specs.Outcome.{Outcome, continues, stops, Then}
use Rattle.alpha_cmd.specs.Stage.{Stage, StopsBy, stop_status, stop_line}
use Rattle.alpha_cmd.specs.Attempts.{MaySpoilBy, AttemptBy}
use Rattle.alpha_cmd.proofs.StageEffects.{Serves-after, does_stopped}
use Rattle.alpha_cmd.proofs.CallEndings.{OutcomeOrFault-map}
use Rattle.alpha_cmd.proofs.KeptBytes.{HasKept-after, SparesBy-after}
use Rattle.alpha_cmd.proofs.Lawful.{Then-stops}
use Rattle.alpha_cmd.proofs.StageLaws.{KeepsFiles-equal}
use Rattle.alpha_cmd.proofs.AttemptsByForm.{CutBy-map, Cuts-map}

module _ {X : Type 0} (R : Files → Outcome X → Type 0) (T : World → X → Outcome Answer → Type 0) (needs : Needs)
    (kind : Kind) where
  -- a command whose first stages read, and what it does of what was read
  abbrev pub row : Form
  row = record { steps = λ w. Then (R w.files) (T w); needs = needs; kind = kind }

  abbrev pub rest : X → Form
  rest x = record { steps = λ w. T w x; needs = needs; kind = kind }

  -- where that does the same in the world behind these stages
  module _ (x : X) (a b : Files) (p q : List ℕ → ℕ → Bool) (input : Option (List ℕ)) (found : R a (continues x)) where
    abbrev pub before : World
    before = record { files = a; takes = p; input = input }

    abbrev pub later : World
    later = record { files = b; takes = q; input = input }

    module _ (move : (o : Outcome Answer) → T later x o → T before x o) where
      answers_after : (t : Answer) → AnswerBy (rest x).steps later t → AnswerBy row.steps before t
      answers_after t (continues y, h, is) = (continues y, (x, found, move (continues y) h), is)
      answers_after t (stops s line, h, is) = (stops s line, inr (x, found, move (stops s line) h), is)

      spoilt_after : (status : Status) (kept : Kept) → MaySpoilBy (rest x) later status kept
          → MaySpoilBy row before status kept
      spoilt_after status kept (inl h) = inl h
      spoilt_after status kept (inr h) = inr (record {
        status_is = h.status_is;
        name = h.name;
        bytes = h.bytes;
        keeps = h.keeps;
        answer = h.answer;
        is = answers_after h.answer h.is;
        kept_is = h.kept_is;
        spoilt_is = h.spoilt_is;
      })

      pub tries_after : (shelf sooner fed : Type 0) → (shelf → sooner) → (t : Answer)
          → AttemptBy shelf fed (rest x) later t → AttemptBy sooner fed row before t
      tries_after shelf sooner fed f t (inl h) = inl (answers_after t h)
      tries_after shelf sooner fed f t (inr (inl h)) = inr (inl (record {
        cause = CutBy-map shelf sooner f t.status h.cause;
        kept = spoilt_after t.status t.kept h.kept;
        is = h.is;
      }))
      tries_after shelf sooner fed f t (inr (inr (inl h))) = inr (inr (inl (record {
        cause = h.cause;
        takes = h.takes;
        status_is = h.status_is;
        answer = h.answer;
        is = answers_after h.answer h.is;
        output = h.output;
        trace = h.trace;
        line = h.line;
        left = h.left;
        kept = h.kept;
      })))
      tries_after shelf sooner fed f t (inr (inr (inr h))) = inr (inr (inr (record {
        cause = CutBy-map shelf sooner f t.status h.cause;
        streams = h.streams;
        kept = spoilt_after t.status t.kept h.kept;
        answer = h.answer;
        is = answers_after h.answer h.is;
        same = h.same;
      })))

-- both keep no file
pub reads_both : {H : Type 0} (h : shelves.Ghosts H) (old middle new : H) (first second also : Type 0) → first
    → (also → second) → OnlyReads (shelf_change h old middle) first
    → OnlyReads (shelf_change h middle new) second → OnlyReads (shelf_change h old new) also
reads_both h old middle new first second also is f a b = record {
  files = KeepsFiles-trans (h.files old) (h.files middle) (h.files new) a.files b.files;
  takes = b.takes ∙ a.takes;
  later = omega (arith, a.later, b.later);
  faults_unchanged = λ stays. b.faults_unchanged (f stays) ∙ a.faults_unchanged is;
}

-- a second stage that stopped, of which the first found this
pub second_stops : {H X Y Z B C : Type 0} {on : B → Y} (h : shelves.Ghosts H) (old middle new : H)
    (R : Files → Outcome X → Type 0) (S : Files → Outcome Y → Type 0) (T : X → Y → Outcome Z → Type 0)
    (of : C → Z) (x : X) (stop : Stop) (stays : Type 0) → stays → R (h.files old) (continues x)
    → OnlyReads (shelf_change h old middle) stays → Stage (S (h.files middle)) on (Err stop) (shelf_change h middle new)
    → Stage (Then (R (h.files old)) (λ x. Then (S (h.files old)) (T x))) of (Err stop) (shelf_change h old new)
second_stops {Z = Z} h old middle new R S T of x stop stays is found reads stage = record {
  ok = tt;
  refused = why stage.refused;
  shelf = reads_both h old middle new _ _ _ is (λ always e. always cc) reads stage.shelf;
}
  where
    why : StopsBy (S (h.files middle)) (Faulted (h.faults middle) (h.faults new)) stop
        → StopsBy (Then {Y = Z} (R (h.files old)) (λ x. Then (S (h.files old)) (T x)))
        (Faulted (h.faults old) (h.faults new)) stop
    why (inl stopped) =
        inl (inr (
          x,
          found,
          inl (subst (λ (f : Files). S f (stops (stop_status stop) (stop_line stop)))
              (KeepsFiles-equal (h.files old) (h.files middle) reads.files) stopped),
        ))
    why (inr cut) =
        inr (Cuts-map _ _ (Faulted-earlier (h.faults old) (h.faults middle) (h.faults new) reads.later) stop cut)

-- a command whose first stages stopped
pub does_stop : {H S K N X Y : Type 0} {of : Y → X} (h : shelves.Ghosts H) (s : sources.Ghosts S) (k : sinks.Ghosts K)
    (n : sinks.Ghosts N) (old : Devices H S K N) (shelf : H)
    (R : Files → Outcome X → Type 0) (T : World → X → Outcome Answer → Type 0)
    (needs : Needs) (kind : Kind) (d : Decision) (stop : Stop)
    → SaysStop stop d
    → Stage (R (h.files old.shelf)) of (Err stop) (shelf_change h old.shelf shelf)
    → CommandEffect h s k n (row R T needs kind) (Ok d) old (record old { shelf = shelf })
does_stop h s k n old shelf R T needs kind d stop says stage =
    does_stopped h s k n old shelf (row R T needs kind) d stop says
    (Then-stops (R (h.files old.shelf)) (T (world h s old.shelf old.input)) (stop_status stop)
    (stop_line stop) stage.refused)
    (record {
      files = stage.shelf.files;
      takes = stage.shelf.takes;
      later = stage.shelf.later;
      faults_unchanged = λ stays. stage.shelf.faults_unchanged (λ e. stays (fault cc));
    })
  where
    fault : stop ≡ OfStatus ShelfFault → d.status ≡ ShelfFault
    fault e = ap (λ (a : Answer). a.status) (says None) ∙ ap stop_status e

module _ {H S K N : Type 0} (h : shelves.Ghosts H) (s : sources.Ghosts S) (k : sinks.Ghosts K) (n : sinks.Ghosts N)
    (old : Devices H S K N) (middle : H) (new : Devices H S K N) where
  abbrev second : Call
  second = called h s k n (record old { shelf = middle }) new

  abbrev both : Call
  both = called h s k n old new

  -- the world is then what it was
  world_same : (stays : Type 0) → OnlyReads (shelf_change h old.shelf middle) stays
      → world h s middle old.input ≡ world h s old.shelf old.input
  world_same stays reads = λ i. record {
    files = KeepsFiles-equal (h.files old.shelf) (h.files middle) reads.files i;
    takes = reads.takes i;
    input = s.left old.input;
  }

  -- a command that reads first, and then does the rest
  pub does_after : {X : Type 0} (R : Files → Outcome X → Type 0) (T : World → X → Outcome Answer → Type 0)
      (needs : Needs) (kind : Kind) (x : X) (r : Result Decision Failed) (stays : Type 0)
      → stays → R (h.files old.shelf) (continues x) → OnlyReads (shelf_change h old.shelf middle) stays
      → CommandEffect h s k n (rest R T needs kind x) r (record old { shelf = middle }) new
      → CommandEffect h s k n (row R T needs kind) r old new
  does_after R T needs kind x r stays is found reads did = record {
    tried =
        OutcomeOrFault-map (AttemptIn (rest R T needs kind x) second) (AttemptIn (row R T needs kind) both)
        (tries_after R T needs kind x (h.files old.shelf) (h.files middle) (h.takes old.shelf) (h.takes middle)
        (s.left old.input) found
        (λ o. subst (λ (w : World). T w x o) (world_same stays reads)) _ _ _
        (Faulted-earlier (h.faults old.shelf) (h.faults middle) (h.faults new.shelf) reads.later))
        second.shelf both.shelf
        (HasKept-after h old.shelf middle new.shelf reads.files) r both.input.new.left both.out both.notes did.tried;
    shelf =
        Serves-after (shelf_change h old.shelf middle)
        (shelf_change h middle new.shelf) stays _ refl refl refl is reads did.shelf;
    files = SparesBy-after kind _ (h.files old.shelf) (h.files middle) (h.files new.shelf) reads.files did.files;
    input = did.input;
    source = did.source;
    rest = did.rest;
  }
