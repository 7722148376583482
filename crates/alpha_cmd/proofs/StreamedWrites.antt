-- What a command did that writes while it takes input, and calls the shelf no more.
use Rattle.std.proofs.Common.{◌≡◌, ◌≢◌, ◌++◌, ℕ, List, Option, Result, Ok, IfOk, IsTrue, refl, sym, ap, subst, inl, inr}
use Rattle.std.proofs.Common.{append-nil, arith}
use Rattle.alpha_io.specs.declared.Failed.{Failed}
use Rattle.alpha_io.specs.declared.shelf.Shelf as shelves
use Rattle.alpha_io.specs.declared.source.Source as sources
use Rattle.alpha_io.specs.declared.sink.Sink as sinks
use Rattle.alpha_io.specs.SinkChange.{Puts}
use Rattle.alpha_io.proofs.ShelfLaws.{KeepsFiles-refl}
use Rattle.alpha_pal.specs.declared.fault.Fault.{Fault}
use Rattle.alpha_seq.specs.Devices.{LeavesEnd}
use Rattle.alpha_seq.specs.StepEffect.{Causes}
use Rattle.alpha_cmd.specs.declared.decision.Decision.{Decision}
use Rattle.alpha_cmd.specs.declared.devices.Devices.{Devices}
use Rattle.alpha_cmd.specs.declared.status.Status.{Status}
use Rattle.alpha_cmd.specs.declared.status.Status.TheVariants.{InputFault}
use Rattle.alpha_cmd.specs.Answer.{Answer, IsLeft}
use Rattle.alpha_cmd.specs.AnswerBy.{AnswerBy, status_answer, told}
use Rattle.alpha_cmd.specs.Call.{Call, called}
use Rattle.alpha_cmd.specs.Decision.{answer_in, IsCutShort}
use Rattle.alpha_cmd.specs.CommandEffect.{CommandEffect, AttemptIn}
use Rattle.alpha_cmd.specs.Ends.{OutcomeOrFault, Leaves, status_in}
use Rattle.alpha_cmd.specs.Form.{Form, MayTakeBy}
use Rattle.alpha_cmd.specs.Kept.{Kept, nothing, HasKept}
use Rattle.alpha_cmd.specs.Attempts.{CountStays}
use Rattle.alpha_cmd.proofs.CutShort.{AttemptPrefixes, cut_tried, IsCutShort-MayTakeBy, IsCutShort-CountStays}

module _ {H S K N : Type 0} (h : shelves.Ghosts H) (s : sources.Ghosts S) (k : sinks.Ghosts K) (n : sinks.Ghosts N)
    (old : Devices H S K N) (input : S) (out : K) (notes : N) where
  abbrev pub streamed_devices : Devices H S K N
  streamed_devices = record { shelf = old.shelf; input = input; out = out; notes = notes }

  abbrev pub stream_call : Call
  stream_call = called h s k n old streamed_devices

  pub does_stream : (f : Form) (r : Result Decision Failed)
      → OutcomeOrFault (AttemptIn f stream_call) r (s.left input) stream_call.shelf stream_call.out stream_call.notes
      → MayTakeBy f.kind (status_in r) → CountStays stream_call.input (IfOk r (λ d. d.status ≢ InputFault))
      → LeavesEnd stream_call.input
      → CommandEffect h s k n f r old streamed_devices
  does_stream f r tried takes source rest = record {
    tried = tried;
    shelf = record { takes = refl; later = omega arith; faults_unchanged = λ stays. refl };
    files = inl (KeepsFiles-refl (h.files old.shelf));
    input = inr takes;
    source = source;
    rest = rest;
  }

  -- all of an answer was written but for its last line, which is still to be written
  pub does_whole : (f : Form) (d : Decision) (a : Answer) (status : Status) (line : List ℕ)
      → AnswerBy f.steps (told stream_call) a
      → ((left : Option (List ℕ)) → answer_in left d ≡ status_answer left status line) → status ≡ a.status
      → line ≡ a.line
      → Puts stream_call.out a.output → Puts stream_call.notes a.trace → IsLeft a (s.left input) → nothing ≡ a.kept
      → MayTakeBy f.kind status
      → s.faults input ≡ s.faults old.input → LeavesEnd stream_call.input
      → CommandEffect h s k n f (Ok d) old streamed_devices
  does_whole f d a status line is says status_is line_is put noted left none takes same rest =
      let e = says (s.left input) in
      does_stream f (Ok d)
      (subst
      (λ (rest : Answer). Leaves (AttemptIn f stream_call) rest stream_call.shelf stream_call.out stream_call.notes)
      (sym e)
      (record {
        tried = a;
        is = inl is;
        status_is = status_is;
        left_is = left;
        files = subst (λ (kept : Kept). HasKept kept stream_call.shelf) none (KeepsFiles-refl (h.files old.shelf));
        output = a.output;
        put = put;
        output_is = append-nil a.output;
        trace = a.trace;
        noted = noted;
        notes_are = ap (λ l. a.trace ++ l) line_is;
      }))
      (subst (MayTakeBy f.kind) (sym (ap (λ (x : Answer). x.status) e)) takes)
      (record { later = omega (arith, same); faults_unchanged = λ stays. same }) rest

  -- a device failed on the way, and fronts of an answer's bytes were written
  pub does_cut : (f : Form) (fault : Fault) (r : Result Decision Failed) → IsTrue f.kind.takes
      → AttemptPrefixes f (told stream_call) stream_call.out stream_call.notes → IsCutShort fault r
      → Causes fault stream_call.input stream_call.out stream_call.notes → LeavesEnd stream_call.input
      → CommandEffect h s k n f r old streamed_devices
  does_cut f fault r takes fronts says cause rest =
      does_stream f r
      (cut_tried _ f (told stream_call) takes stream_call.shelf (KeepsFiles-refl (h.files old.shelf)) stream_call.input
      stream_call.out stream_call.notes fronts fault r says cause)
      (IsCutShort-MayTakeBy f.kind takes fault r says) (IsCutShort-CountStays fault r _ _ _ says cause) rest
