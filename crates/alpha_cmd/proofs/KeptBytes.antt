-- What a command tries that makes bytes and keeps them.
use Rattle.std.proofs.Common.{◌≡◌, ℕ, List, length, Bool, refl, sym, subst, inl, inr}
use Rattle.alpha_io.specs.declared.shelf.Shelf.{Ghosts}
use Rattle.alpha_io.specs.Faults.{Faulted}
use Rattle.alpha_io.specs.Files.{Files, Refuses, KeepsFiles}
use Rattle.alpha_io.specs.ShelfChange.{shelf_change, OnlyReads}
use Rattle.alpha_io.proofs.FaultCounts.{Faulted-earlier}
use Rattle.alpha_io.proofs.ShelfLaws.{KeepsFiles-trans, KeepsOtherFiles-after_kept}
use Rattle.alpha_seq.specs.Devices.{Drawn}
use Rattle.alpha_cmd.specs.declared.status.Status.{Status}
use Rattle.alpha_cmd.specs.declared.status.Status.TheVariants.{ShelfFault}
use Rattle.alpha_cmd.specs.Status.{status_line}
use Rattle.alpha_cmd.specs.Outcome.{Outcome, continues, stops}
use Rattle.alpha_cmd.specs.Kept.{Kept, nothing, file, spoilt, HasKept}
use Rattle.alpha_cmd.specs.Answer.{Answer}
use Rattle.alpha_cmd.specs.AnswerBy.{World, AnswerBy, answer_of, kept_as, status_answer}
use Rattle.alpha_cmd.specs.Ends.{FinalOutcome}
use Rattle.alpha_cmd.specs.Form.{Kind, SparesBy, making_form}
use Rattle.alpha_cmd.specs.Keeping.{KeepsAs, AttemptsKeep, Untaken}
use Rattle.alpha_cmd.specs.Attempts.{IsCutBy, AttemptBy}
use Rattle.alpha_cmd.proofs.StageLaws.{KeepsFiles-equal}

-- ---- files that were read before

-- what is refused then was refused at first
pub Refuses-kept : (a b : Files) (taken : Bool) → KeepsFiles a b → Refuses b taken → Refuses a taken
Refuses-kept a b taken p h = subst (λ (f : Files). Refuses f taken) (KeepsFiles-equal a b p) h

-- and the other way round
pub Refuses-told : (a b : Files) (taken : Bool) → KeepsFiles a b → Refuses a taken → Refuses b taken
Refuses-told a b taken p h = subst (λ (f : Files). Refuses f taken) (sym (KeepsFiles-equal a b p)) h

pub SparesBy-after : (k : Kind) (status : Status) (a b c : Files) → KeepsFiles a b → SparesBy k status b c
    → SparesBy k status a c
SparesBy-after k status a b c first (inl same) = inl (KeepsFiles-trans a b c first same)
SparesBy-after k status a b c first (inr (name, may, others)) =
    inr (name, may, KeepsOtherFiles-after_kept a b c name first others)

module _ {H : Type 0} (g : Ghosts H) (old middle new : H) (first : KeepsFiles (g.files old) (g.files middle)) where
  pub HasKept-after : (kept : Kept) → HasKept kept (shelf_change g middle new) → HasKept kept (shelf_change g old new)
  HasKept-after nothing h = KeepsFiles-trans (g.files old) (g.files middle) (g.files new) first h
  HasKept-after (file name bytes) h =
      (h.0, KeepsOtherFiles-after_kept (g.files old) (g.files middle) (g.files new) name first h.1)
  HasKept-after (spoilt name) h = KeepsOtherFiles-after_kept (g.files old) (g.files middle) (g.files new) name first h

-- ---- bytes that were made are kept

module _ (Makes : World → Outcome (List ℕ) → Type 0) (out bytes : List ℕ) (w : World) (middle : Files)
    (takes : List ℕ → ℕ → Bool) (found : Makes w (continues bytes))
    (reads : KeepsFiles w.files middle) (same : takes ≡ w.takes) (fed : Type 0) where
  later : World
  later = record w { files = middle; takes = takes }

  by_then : Untaken w out bytes → Untaken later out bytes
  unfolding later
  by_then h =
      subst (λ (t : List ℕ → ℕ → Bool). Refuses middle (t out (length bytes))) (sym same)
      (Refuses-told w.files middle (w.takes out (length bytes)) reads h)

  before : Untaken later out bytes → Untaken w out bytes
  unfolding later
  before h =
      Refuses-kept w.files middle (w.takes out (length bytes)) reads
      (subst (λ (t : List ℕ → ℕ → Bool). Refuses middle (t out (length bytes))) same h)

  answered : (shelf : Type 0) (o : Outcome Answer) (t : Answer) → KeepsAs later out bytes o → t ≡ answer_of w.input o
      → AttemptBy shelf fed (making_form Makes out) w t
  unfolding later
  answered shelf (continues a) t h is = inl (continues a, (bytes, found, ((λ u. h.0 (by_then u)), h.1)), is)
  answered shelf (stops s line) t h is = inl (stops s line, inr (bytes, found, ((h.0.0, before h.0.1), h.1)), is)

  tried : (shelf sooner : Type 0) (t : Answer) → (shelf → sooner) → AttemptsKeep shelf later out bytes t
      → AttemptBy sooner fed (making_form Makes out) w t
  unfolding later
  tried shelf sooner t f (inl (o, h, is)) = answered sooner o t h is
  tried shelf sooner t f (inr (cause, fits, is)) =
      let answer : AnswerBy (making_form Makes out).steps w (kept_as w.input out bytes) =
      (continues (kept_as w.input out bytes), (bytes, found, ((λ u. fits (by_then u)), refl)), refl) in
      let whole : IsCutBy sooner (making_form Makes out) w
      (record (status_answer w.input ShelfFault (status_line ShelfFault)) { kept = spoilt out }) =
      record {
        cause = inr (refl, f cause);
        kept = inr (record {
          status_is = refl;
          name = out;
          bytes = bytes;
          keeps = refl;
          answer = kept_as w.input out bytes;
          is = answer;
          kept_is = refl;
          spoilt_is = refl;
        });
        is = refl;
      } in
      inr (inl (subst (IsCutBy sooner (making_form Makes out) w) (sym is) whole))

-- what a command settles by its keep
pub FinalOutcome-kept : {H : Type 0} (g : Ghosts H) (old middle new : H) (Makes : World → Outcome (List ℕ) → Type 0)
    (out bytes slice : List ℕ) (input : Drawn) (rest : Answer) (stays : Type 0)
    → Makes (record { files = g.files old; takes = g.takes old; input = input.old.left }) (continues bytes)
    → OnlyReads (shelf_change g old middle) stays → slice ≡ bytes
    → FinalOutcome (AttemptsKeep (Faulted (g.faults middle) (g.faults new))
    (record { files = g.files middle; takes = g.takes middle; input = input.old.left }) out slice)
    rest (shelf_change g middle new)
    → FinalOutcome (AttemptBy (Faulted (g.faults old) (g.faults new)) (Faulted input.before input.now)
    (making_form Makes out) (record { files = g.files old; takes = g.takes old; input = input.old.left }))
    rest
    (shelf_change g old new)
unfolding later
FinalOutcome-kept g old middle new Makes out bytes slice input rest stays found read same (kept, tries, has) = (
  kept,
  tried Makes out slice (record { files = g.files old; takes = g.takes old; input = input.old.left })
      (g.files middle) (g.takes middle)
      (subst (λ b. Makes (record { files = g.files old; takes = g.takes old; input = input.old.left }) (continues b))
      (sym same) found)
      read.files read.takes
      (Faulted input.before input.now) (Faulted (g.faults middle) (g.faults new))
      (Faulted (g.faults old) (g.faults new)) (record rest { kept = kept })
      (Faulted-earlier _ _ _ read.later) tries,
  HasKept-after g old middle new read.files kept has,
)
