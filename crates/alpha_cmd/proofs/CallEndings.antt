-- From what a command has written and decided to how the call ends.
use Rattle.std.proofs.Common.{◌≡◌, ◌≢◌, ◌⊎◌, ◌∙◌, ℕ, List, [], Option, None, Some, IfSome, Result, Ok, Err, refl, sym}
use Rattle.std.proofs.Common.{ap, subst, inl, inr, ⊎_elim, arith}
use Rattle.alpha_io.specs.declared.Failed.{Failed}
use Rattle.alpha_io.specs.ShelfChange.{ShelfChange}
use Rattle.alpha_io.specs.SinkChange.{SinkChange, sink_change_by, Puts, WritesPartly, HasFailed, HasNoFault}
use Rattle.alpha_io.proofs.FaultCounts.{Faulted-earlier}
use Rattle.alpha_io.proofs.Sinks.{Puts-none, Puts-then, WritesPartly-then, HasFailed-not_HasNoFault}
use Rattle.alpha_cmd.specs.declared.decision.Decision.{Decision}
use Rattle.alpha_cmd.specs.declared.status.Status.{Status}
use Rattle.alpha_cmd.specs.declared.status.Status.TheVariants.{SinkFault, NoMemory}
use Rattle.alpha_cmd.specs.Answer.{Answer, notes_of, IsLeft, IsAnswered}
use Rattle.alpha_cmd.specs.AnswerBy.{World}
use Rattle.alpha_cmd.specs.Kept.{Kept, nothing, HasKept}
use Rattle.alpha_cmd.specs.Ends.{EndsCall, EndsPart, Leaves, OutcomeOrFault, still}
use Rattle.alpha_cmd.specs.Tried.{IsAnswer, AttemptedBy, IsGiven}
use Rattle.alpha_cmd.proofs.AttemptedBy.{AttemptedBy-no_fault, AttemptedBy-not_sink}

IsLeft-same : (left : Option (List ℕ)) → IfSome left (λ rest. left ≡ Some rest)
IsLeft-same None = tt
IsLeft-same (Some rest) = refl

pub IsLeft-own : (t : Answer) → IsLeft t t.left
IsLeft-own t = IsLeft-same t.left

-- a command that wrote nothing so far
pub Leaves-kept : (P : Answer → Type 0) (t : Answer) (kept : Kept) (s : ShelfChange) (u v : Option (List ℕ)) (m n : ℕ)
    → P (record t { kept = kept }) → HasKept kept s
    → Leaves P t s (still u m) (still v n)
Leaves-kept P t kept s u v m n is files = record {
  tried = record t { kept = kept };
  is = is;
  status_is = refl;
  left_is = IsLeft-own t;
  files = files;
  output = [];
  put = Puts-none u m;
  output_is = refl;
  trace = [];
  noted = Puts-none v n;
  notes_are = refl;
}

-- nor kept a file
pub Leaves-all : (P : Answer → Type 0) (t : Answer) (s : ShelfChange) (u v : Option (List ℕ)) (m n : ℕ)
    → P (record t { kept = nothing }) → HasKept nothing s
    → Leaves P t s (still u m) (still v n)
Leaves-all P t s u v m n is files = Leaves-kept P t nothing s u v m n is files

-- one that tries what another does, or more, where the files are as those that it has
pub OutcomeOrFault-map : (P Q : Answer → Type 0) → ((t : Answer) → P t → Q t) → (a b : ShelfChange)
    → ((kept : Kept) → HasKept kept a → HasKept kept b) → (r : Result Decision Failed)
    (left : Option (List ℕ)) (out notes : SinkChange) → OutcomeOrFault P r left a out notes
    → OutcomeOrFault Q r left b out notes
OutcomeOrFault-map P Q f a b has (Ok decision) left out notes h = record {
  tried = h.tried;
  is = f h.tried h.is;
  status_is = h.status_is;
  left_is = h.left_is;
  files = has h.tried.kept h.files;
  output = h.output;
  put = h.put;
  output_is = h.output_is;
  trace = h.trace;
  noted = h.noted;
  notes_are = h.notes_are;
}
OutcomeOrFault-map P Q f a b has (Err failed) left out notes h = record {
  tried = h.tried;
  is = f h.tried h.is;
  files = has h.tried.kept h.files;
  output = h.output;
  line = h.line;
  failed = h.failed;
}

-- what is tried is never a sink's fault
pub Leaves-not_sink : (shelf input : Type 0) (words : List (List ℕ))
    (w : World) (rest : Answer) (s : ShelfChange) (out notes : SinkChange)
    → Leaves (AttemptedBy shelf input words w) rest s out notes
    → rest.status ≢ SinkFault
Leaves-not_sink shelf input words w rest s out notes h e =
    AttemptedBy-not_sink shelf input words w h.tried h.is (sym h.status_is ∙ e)

-- ---- the rest is written: the output is o, p and q at one moment after another, the notes are x, y and z

module _ {K N : Type 0} (out-written : K → Option (List ℕ)) (out-faults : K → ℕ) (notes-written : N → Option (List ℕ))
    (notes-faults : N → ℕ)
    (o p q : K) (x y z : N) (s : ShelfChange) (P : Answer → Type 0) (rest : Answer)
    (so_far : Leaves P rest s (sink_change_by out-written out-faults o p)
    (sink_change_by notes-written notes-faults x y)) where
  pub Leaves-EndsCall : (status : Status) → status ≡ rest.status
      → Puts (sink_change_by out-written out-faults p q) rest.output
      → Puts (sink_change_by notes-written notes-faults y z) (notes_of rest)
      → EndsCall P status rest.left s (sink_change_by out-written out-faults o q)
      (sink_change_by notes-written notes-faults x z)
  Leaves-EndsCall status is output line = record {
    tried = so_far.tried;
    is = so_far.is;
    status_is = is ∙ so_far.status_is;
    left_is = so_far.left_is;
    files = so_far.files;
    output =
        subst (Puts (sink_change_by out-written out-faults o q)) so_far.output_is
        (Puts-then (out-written o) (out-written p) (out-written q) (out-faults o) (out-faults p)
        (out-faults q) so_far.output rest.output so_far.put output);
    line =
        subst (Puts (sink_change_by notes-written notes-faults x z)) so_far.notes_are
        (Puts-then (notes-written x) (notes-written y) (notes-written z) (notes-faults x) (notes-faults y)
        (notes-faults z) so_far.trace (notes_of rest) so_far.noted line);
  }

  failed : HasFailed (sink_change_by out-written out-faults p q)
      ⊎ HasFailed (sink_change_by notes-written notes-faults y z)
      → HasFailed (sink_change_by out-written out-faults o q)
      ⊎ HasFailed (sink_change_by notes-written notes-faults x z)
  failed (inl h) = inl (Faulted-earlier (out-faults o) (out-faults p) (out-faults q) (omega (arith, so_far.put.same)) h)
  failed (inr h) =
      inr (Faulted-earlier (notes-faults x) (notes-faults y) (notes-faults z) (omega (arith, so_far.noted.same)) h)

  pub Leaves-EndsPart : WritesPartly (sink_change_by out-written out-faults p q) rest.output
      → WritesPartly (sink_change_by notes-written notes-faults y z) (notes_of rest)
      → HasFailed (sink_change_by out-written out-faults p q)
      ⊎ HasFailed (sink_change_by notes-written notes-faults y z)
      → EndsPart P s (sink_change_by out-written out-faults o q) (sink_change_by notes-written notes-faults x z)
  Leaves-EndsPart output line h = record {
    tried = so_far.tried;
    is = so_far.is;
    files = so_far.files;
    output =
        subst (WritesPartly (sink_change_by out-written out-faults o q)) so_far.output_is
        (WritesPartly-then (out-written o) (out-written p) (out-written q) (out-faults o) (out-faults p)
        (out-faults q) so_far.output rest.output so_far.put output);
    line =
        subst (WritesPartly (sink_change_by notes-written notes-faults x z)) so_far.notes_are
        (WritesPartly-then (notes-written x) (notes-written y) (notes-written z) (notes-faults x) (notes-faults y)
        (notes-faults z) so_far.trace (notes_of rest) so_far.noted line);
    failed = failed h;
  }

-- ---- where no device fails

pub given_whole : (shelf input : Type 0) (words : List (List ℕ)) (w : World) (status : Status) (left : Option (List ℕ))
    (s : ShelfChange) (out notes : SinkChange)
    → (shelf → ⊥) → (input → ⊥) → EndsCall (AttemptedBy shelf input words w) status left s out notes
    → IsGiven words w status left s out notes
given_whole shelf input words w status left s out notes calm quiet ends =
    ⊎_elim
    (λ (is : IsAnswer words w ends.tried).
    inl (
      ends.tried,
      is,
      record {
        status_is = ends.status_is;
        left_is = ends.left_is;
        files = ends.files;
        output = ends.output;
        line = ends.line;
      },
    ))
    (λ (memory : ends.tried.status ≡ NoMemory). inr (ends.status_is ∙ memory))
    (AttemptedBy-no_fault shelf input words w ends.tried calm quiet ends.is)

-- where all of them are this one, but for what a status is told as, it was given
pub IsGiven-IsAnswered : (told : Status → Status) (words : List (List ℕ)) (w : World) (a : Answer) (status : Status)
    (left : Option (List ℕ)) (s : ShelfChange) (out notes : SinkChange)
    → ((b : Answer) → IsAnswer words w b → ◌≡◌ {A = Answer} (record b { status = told b.status }) a)
    → IsGiven words w status left s out notes → IsAnswered a (told status) left s out notes ⊎ (status ≡ NoMemory)
IsGiven-IsAnswered told words w a status left s out notes one (inl (b, is, given)) =
    inl (subst (λ (x : Answer). IsAnswered x (told status) left s out notes) (one b is) (record {
      status_is = ap told given.status_is;
      left_is = given.left_is;
      files = given.files;
      output = given.output;
      line = given.line;
    }))
IsGiven-IsAnswered told words w a status left s out notes one (inr memory) = inr memory

-- no sink failed
pub calm_part : (P : Answer → Type 0) (s : ShelfChange) (out notes : SinkChange) → EndsPart P s out notes
    → HasNoFault out → HasNoFault notes → ⊥
calm_part P s out notes part calm quiet =
    ⊎_elim (λ h. HasFailed-not_HasNoFault out h calm) (λ h. HasFailed-not_HasNoFault notes h quiet) part.failed
