-- From a run that a device's fault cut short to what a command tries then.
use Rattle.std.proofs.Common.{◌≡◌, ◌≢◌, ◌⊎◌, None, Result, Ok, Err, IfOk, IsTrue, IsSome, refl, sym, ap, subst, inl}
use Rattle.std.proofs.Common.{inr, ⊎_elim, append-nil, arith}
use Rattle.alpha_io.specs.declared.Failed.{Failed}
use Rattle.alpha_io.specs.Faults.{Faulted}
use Rattle.alpha_io.specs.Files.{KeepsFiles}
use Rattle.alpha_io.specs.ShelfChange.{ShelfChange}
use Rattle.alpha_io.specs.SinkChange.{SinkChange}
use Rattle.alpha_io.specs.Written.{WritesPrefix}
use Rattle.alpha_io.proofs.Sinks.{WritesPartly-more}
use Rattle.alpha_pal.specs.declared.fault.Fault.{Fault}
use Rattle.alpha_pal.specs.declared.fault.Fault.TheVariants as faults
use Rattle.alpha_seq.specs.Devices.{Drawn, HasInputFault, HasOutputFault, HasNotesFault}
use Rattle.alpha_seq.specs.StepEffect.{Causes}
use Rattle.alpha_cmd.specs.declared.decision.Decision.{Decision}
use Rattle.alpha_cmd.specs.declared.status.Status.TheVariants.{InputFault, SinkFault, NoMemory}
use Rattle.alpha_cmd.specs.Status.{status_line}
use Rattle.alpha_cmd.specs.Kept.{Kept, nothing, HasKept}
use Rattle.alpha_cmd.specs.Answer.{Answer}
use Rattle.alpha_cmd.specs.AnswerBy.{World, AnswerBy, status_answer}
use Rattle.alpha_cmd.specs.Form.{Form, Kind, MayTakeBy}
use Rattle.alpha_cmd.specs.Decision.{IsCutShort}
use Rattle.alpha_cmd.specs.Ends.{EndsPart, Leaves, OutcomeOrFault, status_in}
use Rattle.alpha_cmd.specs.Attempts.{AttemptBy, CountStays}

-- Fronts of what some answer of a command has were written. The command keeps no file, or it keeps one behind its
-- streams.
pub record AttemptPrefixes (f : Form) (w : World) (out notes : SinkChange) : Type 0 where
  pub answer : Answer
  pub kept : (answer.kept ≡ nothing) ⊎ IsSome f.kind.keeps
  pub is : AnswerBy f.steps w answer
  pub bytes : WritesPrefix out.old out.new answer.output
  pub lines : WritesPrefix notes.old notes.new answer.trace

module _ (shelf : Type 0) (f : Form) (w : World) (takes : IsTrue f.kind.takes) (s : ShelfChange)
    (same : KeepsFiles s.old s.new) (d : Drawn) (out notes : SinkChange) (fronts : AttemptPrefixes f w out notes) where
  -- one whose input failed, with the line of the fault still to be written
  starved_tried : HasInputFault d out notes
      → Leaves (AttemptBy shelf (Faulted d.before d.now) f w)
      (status_answer d.new.left InputFault (status_line InputFault)) s out notes
  starved_tried fault =
      let line = status_line InputFault in
      let t : Answer = record {
        status = InputFault;
        output = fronts.bytes.done;
        trace = fronts.lines.done;
        line = line;
        left = None;
        kept = nothing;
      } in
      record {
        tried = t;
        is = inr (inr (inl (record {
          cause = fault.source;
          takes = takes;
          status_is = refl;
          answer = fronts.answer;
          is = fronts.is;
          output = (fronts.bytes.rest, fronts.bytes.whole);
          trace = (fronts.lines.rest, fronts.lines.whole);
          line = refl;
          left = refl;
          kept = refl;
        })));
        status_is = refl;
        left_is = tt;
        files = same;
        output = fronts.bytes.done;
        put = record { written = fronts.bytes.written; same = fault.sink };
        output_is = append-nil fronts.bytes.done;
        trace = fronts.lines.done;
        noted = record { written = fronts.lines.written; same = fault.lines };
        notes_are = refl;
      }

  -- one for which a sink failed, by what it tried
  part_tried : (t : Answer) → AttemptBy shelf (Faulted d.before d.now) f w t → HasKept t.kept s
      → t.output ≡ fronts.answer.output → t.trace ≡ fronts.answer.trace
      → HasOutputFault d out notes ⊎ HasNotesFault d out notes
      → EndsPart (AttemptBy shelf (Faulted d.before d.now) f w) s out notes
  part_tried t is files output trace fault = record {
    tried = t;
    is = is;
    files = files;
    output = record {
      prefix = subst (WritesPrefix out.old out.new) (sym output) fronts.bytes;
      later =
          ⊎_elim (λ (h : HasOutputFault d out notes). h.later)
          (λ (h : HasNotesFault d out notes). omega (arith, h.sink)) fault;
    };
    line = WritesPartly-more notes t.trace t.line (record {
      prefix = subst (WritesPrefix notes.old notes.new) (sym trace) fronts.lines;
      later =
          ⊎_elim (λ (h : HasOutputFault d out notes). omega (arith, h.lines))
          (λ (h : HasNotesFault d out notes). h.later) fault;
    });
    failed =
        ⊎_elim (λ (h : HasOutputFault d out notes). inl h.sink) (λ (h : HasNotesFault d out notes). inr h.lines) fault;
  }

  unwritten_tried : HasOutputFault d out notes ⊎ HasNotesFault d out notes
      → EndsPart (AttemptBy shelf (Faulted d.before d.now) f w) s out notes
  unwritten_tried fault =
      ⊎_elim
      (λ (none : fronts.answer.kept ≡ nothing).
      part_tried fronts.answer (inl fronts.is) (subst (λ (k : Kept). HasKept k s) (sym none) same) refl refl fault)
      (λ (keeps : IsSome f.kind.keeps).
      part_tried (record fronts.answer { status = NoMemory; line = status_line NoMemory; kept = nothing })
      (inr (inr (inr (record {
        cause = inl refl;
        streams = (takes, keeps);
        kept = inl refl;
        answer = fronts.answer;
        is = fronts.is;
        same = refl;
      })))) same refl refl fault)
      fronts.kept

  pub cut_tried : (fault : Fault) (r : Result Decision Failed) → IsCutShort fault r → Causes fault d out notes
      → OutcomeOrFault (AttemptBy shelf (Faulted d.before d.now) f w) r d.new.left s out notes
  cut_tried faults.Input (Ok decision) says cause =
      subst (λ (rest : Answer). Leaves (AttemptBy shelf (Faulted d.before d.now) f w) rest s out notes)
      (sym (says d.new.left)) (starved_tried cause)
  cut_tried faults.Input (Err failed) says cause = absurd says
  cut_tried faults.Output (Ok decision) says cause = absurd says
  cut_tried faults.Output (Err failed) says cause = unwritten_tried (inl cause)
  cut_tried faults.Notes (Ok decision) says cause = absurd says
  cut_tried faults.Notes (Err failed) says cause = unwritten_tried (inr cause)

-- ---- its status

-- it is that of a fault of the input or of a sink
pub IsCutShort-status : (fault : Fault) (r : Result Decision Failed) → IsCutShort fault r
    → (status_in r ≡ InputFault) ⊎ (status_in r ≡ SinkFault)
IsCutShort-status faults.Input (Ok decision) says = inl (ap (λ (a : Answer). a.status) (says None))
IsCutShort-status faults.Input (Err failed) says = absurd says
IsCutShort-status faults.Output (Ok decision) says = absurd says
IsCutShort-status faults.Output (Err failed) says = inr refl
IsCutShort-status faults.Notes (Ok decision) says = absurd says
IsCutShort-status faults.Notes (Err failed) says = inr refl

pub IsCutShort-MayTakeBy : (k : Kind) → IsTrue k.takes → (fault : Fault) (r : Result Decision Failed)
    → IsCutShort fault r
    → MayTakeBy k (status_in r)
IsCutShort-MayTakeBy k takes fault r says =
    ⊎_elim (λ (is : status_in r ≡ InputFault). (takes, inr (inl is)))
    (λ (is : status_in r ≡ SinkFault). (takes, inr (inr (inl is)))) (IsCutShort-status fault r says)

pub IsCutShort-CountStays : (fault : Fault) (r : Result Decision Failed) (d : Drawn) (out notes : SinkChange)
    → IsCutShort fault r
    → Causes fault d out notes
    → CountStays d (IfOk r (λ decision. decision.status ≢ InputFault))
IsCutShort-CountStays faults.Input (Ok decision) d out notes says cause = record {
  later = cause.later;
  faults_unchanged = λ other. absurd (other (ap (λ (a : Answer). a.status) (says None)));
}
IsCutShort-CountStays faults.Input (Err failed) d out notes says cause = absurd says
IsCutShort-CountStays faults.Output (Ok decision) d out notes says cause = absurd says
IsCutShort-CountStays faults.Output (Err failed) d out notes says cause =
    record { later = omega (arith, cause.source); faults_unchanged = λ other. cause.source }
IsCutShort-CountStays faults.Notes (Ok decision) d out notes says cause = absurd says
IsCutShort-CountStays faults.Notes (Err failed) d out notes says cause =
    record { later = omega (arith, cause.source); faults_unchanged = λ other. cause.source }
