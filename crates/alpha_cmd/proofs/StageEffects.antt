-- From what its stages did to what a command did.
use Rattle.std.proofs.Common.{◌≡◌, ◌≢◌, ◌∙◌, ℕ, List, [], Option, Result, Ok, Err, IfOk, IfErr, refl, sym, subst, inl}
use Rattle.std.proofs.Common.{inr, append-nil, arith}
use Rattle.alpha_io.specs.declared.shelf.Shelf as shelves
use Rattle.alpha_io.specs.declared.source.Source as sources
use Rattle.alpha_io.specs.declared.sink.Sink as sinks
use Rattle.alpha_io.specs.declared.Failed.{Failed}
use Rattle.alpha_io.specs.Faults.{Faulted}
use Rattle.alpha_io.specs.ShelfChange.{ShelfChange, shelf_change, OnlyReads}
use Rattle.alpha_io.specs.SinkChange.{sink_change, Puts, WritesPartly, HasFailed}
use Rattle.alpha_io.proofs.ShelfLaws.{KeepsFiles-refl}
use Rattle.alpha_io.proofs.Sinks.{Puts-none, WritesPartly-none}
use Rattle.alpha_seq.specs.Devices.{drawn}
use Rattle.alpha_cmd.specs.declared.decision.Decision.{Decision}
use Rattle.alpha_cmd.specs.declared.devices.Devices.{Devices}
use Rattle.alpha_cmd.specs.declared.status.Status.{Status}
use Rattle.alpha_cmd.specs.declared.status.Status.TheVariants.{ShelfFault, NoMemory}
use Rattle.alpha_cmd.specs.declared.stop.Stop.{Stop}
use Rattle.alpha_cmd.specs.declared.stop.Stop.TheVariants.{OfStatus}
use Rattle.alpha_cmd.specs.Answer.{Answer}
use Rattle.alpha_cmd.specs.AnswerBy.{World, AnswerBy, done_with, status_answer, told}
use Rattle.alpha_cmd.specs.Call.{Call, called}
use Rattle.alpha_cmd.specs.Decision.{answer_in, SaysAlone, SaysStop}
use Rattle.alpha_cmd.specs.CommandEffect.{CommandEffect, AttemptIn}
use Rattle.alpha_cmd.specs.Ends.{Leaves, FinalOutcome}
use Rattle.alpha_cmd.specs.Form.{Form, SparesBy, making_form, keeps_last}
use Rattle.alpha_cmd.specs.Keeping.{AttemptsKeep}
use Rattle.alpha_cmd.specs.Kept.{nothing, Serves}
use Rattle.alpha_cmd.specs.Outcome.{Outcome, continues}
use Rattle.alpha_cmd.specs.Stage.{Stage, StopsBy}
use Rattle.alpha_cmd.specs.Status.{status_line}
use Rattle.alpha_cmd.proofs.CallEndings.{IsLeft-own, Leaves-kept}
use Rattle.alpha_cmd.proofs.InputLeft.{untouched_input}
use Rattle.alpha_cmd.proofs.KeptBytes.{FinalOutcome-kept, SparesBy-after}
use Rattle.alpha_cmd.proofs.AttemptsByForm.{stopped_by}

-- ---- stages

-- one that goes on with what was read, unless memory runs out
pub stage_made : {X Z : Type 0} (R : Outcome X → Type 0) (of : Z → X)
    (x : X) (r : Result Z Stop) (s : ShelfChange) (stays : Type 0)
    → stays → R (continues x) → OnlyReads s stays
    → IfOk r (λ v. of v ≡ x) → IfErr r (λ stop. stop ≡ OfStatus NoMemory) → Stage R of r s
stage_made R of x (Ok v) s stays is found reads same none = record {
  ok = subst (λ y. R (continues y)) (sym same) found;
  refused = tt;
  shelf = record {
    files = reads.files;
    takes = reads.takes;
    later = reads.later;
    faults_unchanged = λ h. reads.faults_unchanged is;
  };
}
stage_made R of x (Err stop) s stays is found reads same none = record {
  ok = tt;
  refused = inr (inl none);
  shelf = record {
    files = reads.files;
    takes = reads.takes;
    later = reads.later;
    faults_unchanged = λ h. reads.faults_unchanged is;
  };
}

-- ---- a command of which only the shelf was called

module _ {H S K N : Type 0} (h : shelves.Ghosts H) (s : sources.Ghosts S) (k : sinks.Ghosts K) (n : sinks.Ghosts N)
    (old : Devices H S K N) (shelf : H) where
  abbrev pub shelf_call : Call
  shelf_call = called h s k n old (record old { shelf = shelf })

  pub does_settled : (f : Form) (d : Decision)
      → FinalOutcome (AttemptIn f shelf_call) (answer_in (s.left old.input) d) (shelf_change h old.shelf shelf)
      → Serves (shelf_change h old.shelf shelf) (d.status ≢ ShelfFault)
      → SparesBy f.kind d.status (h.files old.shelf) (h.files shelf)
      → CommandEffect h s k n f (Ok d) old (record old { shelf = shelf })
  does_settled f d (kept, is, has) serves spares = record {
    tried =
        Leaves-kept (AttemptIn f shelf_call) (answer_in (s.left old.input) d) kept (shelf_change h old.shelf shelf)
        (k.written old.out) (n.written old.notes) (k.faults old.out)
        (n.faults old.notes) is has;
    shelf = serves;
    files = spares;
    input = inl refl;
    source = record { later = omega arith; faults_unchanged = λ stays. refl };
    rest = (untouched_input (drawn s old.input old.input) refl).0;
  }

  -- it has this answer
  pub does_answer : (f : Form) (d : Decision) → AnswerBy f.steps (told shelf_call) (answer_in (s.left old.input) d)
      → OnlyReads (shelf_change h old.shelf shelf) (d.status ≢ ShelfFault)
      → CommandEffect h s k n f (Ok d) old (record old { shelf = shelf })
  does_answer f d is reads =
      does_settled f d (nothing, inl is, reads.files)
      (record { takes = reads.takes; later = reads.later; faults_unchanged = reads.faults_unchanged }) (inl reads.files)

  -- it stopped, or was cut short
  pub does_stopped : (f : Form) (d : Decision) (stop : Stop) → SaysStop stop d
      → StopsBy (f.steps (told shelf_call)) (Faulted (h.faults old.shelf) (h.faults shelf)) stop
      → OnlyReads (shelf_change h old.shelf shelf) (d.status ≢ ShelfFault)
      → CommandEffect h s k n f (Ok d) old (record old { shelf = shelf })
  does_stopped f d stop says why reads =
      does_settled f d (
        nothing,
        stopped_by (Faulted (h.faults old.shelf) (h.faults shelf)) (Faulted (s.faults old.input) (s.faults old.input)) f
            (told shelf_call) stop (answer_in (s.left old.input) d) why (says (s.left old.input)),
        reads.files,
      )
      (record { takes = reads.takes; later = reads.later; faults_unchanged = reads.faults_unchanged })
      (inl reads.files)

-- ---- a command that makes bytes of files, and then keeps them

pub Serves-after : (a b : ShelfChange) (stays also : Type 0) → a.new ≡ b.old → a.takes ≡ b.took → a.now ≡ b.before
    → stays → OnlyReads a stays → Serves b also
    → Serves (record {
      old = a.old;
      new = b.new;
      took = a.took;
      takes = b.takes;
      before = a.before;
      now = b.now;
      past = a.past;
      history = b.history;
    }) also
Serves-after a b stays also files takes count is first second = record {
  takes = second.takes ∙ (sym takes ∙ first.takes);
  later = omega (arith, first.later, second.later, count);
  faults_unchanged = λ h. second.faults_unchanged h ∙ (sym count ∙ first.faults_unchanged is);
}

pub CommandEffect-making : {H S K N : Type 0} (h : shelves.Ghosts H) (s : sources.Ghosts S) (k : sinks.Ghosts K)
    (n : sinks.Ghosts N) (old : Devices H S K N) (middle new : H)
    (Makes : World → Outcome (List ℕ) → Type 0) (out bytes slice : List ℕ) (d : Decision) (stays : Type 0) → stays
    → Makes (told (shelf_call h s k n old middle)) (continues bytes) → OnlyReads (shelf_change h old.shelf middle) stays
    → slice ≡ bytes
    → ((input : Option (List ℕ)) → FinalOutcome (AttemptsKeep (Faulted (h.faults middle) (h.faults new))
    (record { files = h.files middle; takes = h.takes middle; input = input }) out slice)
    (answer_in input d) (shelf_change h middle new))
    → Serves (shelf_change h middle new) (d.status ≢ ShelfFault)
    → SparesBy (keeps_last out) d.status (h.files middle) (h.files new)
    → CommandEffect h s k n (making_form Makes out) (Ok d) old (record old { shelf = new })
CommandEffect-making h s k n old middle new Makes out bytes slice d stays is found reads same tries serves spares =
    does_settled h s k n old new (making_form Makes out) d
    (FinalOutcome-kept h old.shelf middle new Makes out bytes slice (drawn s old.input old.input)
    (answer_in (s.left old.input) d) stays found reads same (tries (s.left old.input)))
    (Serves-after (shelf_change h old.shelf middle) (shelf_change h middle new) stays
    (d.status ≢ ShelfFault) refl refl refl is reads serves)
    (SparesBy-after (keeps_last out) d.status (h.files old.shelf) (h.files middle) (h.files new) reads.files spares)

-- ---- a command that called no device, or only the output

module _ {H S K N : Type 0} (h : shelves.Ghosts H) (s : sources.Ghosts S) (k : sinks.Ghosts K) (n : sinks.Ghosts N)
    (old : Devices H S K N) where
  untouched : (P : Type 0) → OnlyReads (shelf_change h old.shelf old.shelf) P
  untouched P = record {
    files = KeepsFiles-refl (h.files old.shelf);
    takes = refl;
    later = omega arith;
    faults_unchanged = λ stays. refl;
  }

  pub does_at_once : (f : Form) (d : Decision) → ((w : World) → AnswerBy f.steps w (answer_in w.input d))
      → CommandEffect h s k n f (Ok d) old old
  does_at_once f d is =
      does_answer h s k n old old.shelf f d (is (told (called h s k n old old))) (untouched (d.status ≢ ShelfFault))

  -- without memory
  pub does_not_start : (f : Form) (d : Decision) → SaysAlone NoMemory d → CommandEffect h s k n f (Ok d) old old
  does_not_start f d is =
      does_stopped h s k n old old.shelf f d (OfStatus NoMemory) is (inr (inl refl)) (untouched (d.status ≢ ShelfFault))

  module _ (out : K) (f : Form) (text : List ℕ) where
    abbrev put_call : Call
    put_call = called h s k n old (record old { out = out })

    -- a status with this text was tried, and the text was written
    pub does_put : (d : Decision) (status : Status)
        → AttemptIn f put_call (record (status_answer (s.left old.input) status (status_line status)) { output = text })
        → SaysAlone status d → Puts (sink_change k old.out out) text
        → CommandEffect h s k n f (Ok d) old (record old { out = out })
    does_put d status is says put =
        let t : Answer = record (status_answer (s.left old.input) status (status_line status)) { output = text } in
        record {
          tried =
              subst (λ (rest : Answer). Leaves (AttemptIn f put_call) rest put_call.shelf put_call.out put_call.notes)
              (sym (says (s.left old.input)))
              (record {
                tried = t;
                is = is;
                status_is = refl;
                left_is = IsLeft-own t;
                files = KeepsFiles-refl (h.files old.shelf);
                output = text;
                put = put;
                output_is = append-nil text;
                trace = [];
                noted = Puts-none (n.written old.notes) (n.faults old.notes);
                notes_are = refl;
              });
          shelf = record { takes = refl; later = omega arith; faults_unchanged = λ stays. refl };
          files = inl (KeepsFiles-refl (h.files old.shelf));
          input = inl refl;
          source = record { later = omega arith; faults_unchanged = λ stays. refl };
          rest = (untouched_input (drawn s old.input old.input) refl).0;
        }

    -- done with this text was tried, and the output failed
    pub does_put_part : (e : Failed) → AnswerBy f.steps (told put_call) (done_with (s.left old.input) text)
        → WritesPartly (sink_change k old.out out) text → HasFailed (sink_change k old.out out)
        → CommandEffect h s k n f (Err e) old (record old { out = out })
    does_put_part e is part failed = record {
      tried = record {
        tried = done_with (s.left old.input) text;
        is = inl is;
        files = KeepsFiles-refl (h.files old.shelf);
        output = part;
        line = WritesPartly-none (n.written old.notes) (n.faults old.notes) [];
        failed = inl failed;
      };
      shelf = record { takes = refl; later = omega arith; faults_unchanged = λ stays. refl };
      files = inl (KeepsFiles-refl (h.files old.shelf));
      input = inl refl;
      source = record { later = omega arith; faults_unchanged = λ stays. refl };
      rest = (untouched_input (drawn s old.input old.input) refl).0;
    }
