-- What a command tries, by its form.
use Rattle.std.proofs.Common.{◌≡◌, ◌≢◌, ◌∙◌, refl, sym, ap, subst, inl, inr}
use Rattle.alpha_io.specs.Files.{Files}
use Rattle.alpha_cmd.specs.declared.status.Status.{Status}
use Rattle.alpha_cmd.specs.declared.status.Status.TheVariants.{ShelfFault, InputFault, SinkFault, NoMemory}
use Rattle.alpha_cmd.specs.declared.stop.Stop.{Stop}
use Rattle.alpha_cmd.specs.Status.{status_line}
use Rattle.alpha_cmd.specs.Stage.{Cuts, StopsBy, stop_status, stop_line}
use Rattle.alpha_cmd.specs.Outcome.{stops}
use Rattle.alpha_cmd.specs.Answer.{Answer}
use Rattle.alpha_cmd.specs.AnswerBy.{World, status_answer}
use Rattle.alpha_cmd.specs.Form.{Form, Kind, MayTakeBy, SparesBy}
use Rattle.alpha_cmd.specs.Attempts.{CutBy, IsCutBy, FaultedAttemptBy, AttemptBy}
use Rattle.alpha_cmd.proofs.FormLaws.{IsPlain, is_fault}

-- ---- a command that stops, or is cut short

pub cut_short : (shelf : Type 0) (f : Form) (w : World) (s : Status) (t : Answer) → CutBy shelf s
    → t ≡ status_answer w.input s (status_line s) → IsCutBy shelf f w t
cut_short shelf f w s t h is =
    let whole : IsCutBy shelf f w (status_answer w.input s (status_line s)) =
    record { cause = h; kept = inl refl; is = refl } in
    subst (IsCutBy shelf f w) (sym is) whole

-- by a stage that stopped
pub stopped_by : (shelf input : Type 0) (f : Form) (w : World) (stop : Stop) (t : Answer)
    → StopsBy (f.steps w) shelf stop → t ≡ status_answer w.input (stop_status stop) (stop_line stop)
    → AttemptBy shelf input f w t
stopped_by shelf input f w stop t (inl h) is = inl (stops (stop_status stop) (stop_line stop), h, is)
stopped_by shelf input f w stop t (inr (inl h)) is =
    inr (inl (cut_short shelf f w NoMemory t (inl refl)
    (is ∙ ap (λ s. status_answer w.input (stop_status s) (stop_line s)) h)))
stopped_by shelf input f w stop t (inr (inr h)) is =
    inr (inl (cut_short shelf f w ShelfFault t (inr (refl, h.1))
    (is ∙ ap (λ s. status_answer w.input (stop_status s) (stop_line s)) h.0)))

-- without memory
pub starts_not : (shelf input : Type 0) (f : Form) (w : World) (t : Answer)
    → t ≡ status_answer w.input NoMemory (status_line NoMemory) → AttemptBy shelf input f w t
starts_not shelf input f w t is = inr (inl (cut_short shelf f w NoMemory t (inl refl) is))

-- a cause that follows from another
pub CutBy-map : (P Q : Type 0) → (P → Q) → (s : Status) → CutBy P s → CutBy Q s
CutBy-map P Q f s (inl h) = inl h
CutBy-map P Q f s (inr h) = inr (h.0, f h.1)

pub Cuts-map : (P Q : Type 0) → (P → Q) → (stop : Stop) → Cuts P stop → Cuts Q stop
Cuts-map P Q f stop (inl h) = inl h
Cuts-map P Q f stop (inr h) = inr (h.0, f h.1)

-- ---- where no device fails

cut_calm : (shelf : Type 0) (s : Status) → (shelf → ⊥) → CutBy shelf s → s ≡ NoMemory
cut_calm shelf s calm (inl h) = h
cut_calm shelf s calm (inr h) = absurd (calm h.1)

pub FaultedAttemptBy-no_fault : (shelf input : Type 0) (f : Form) (w : World) (t : Answer) → (shelf → ⊥) → (input → ⊥)
    → FaultedAttemptBy shelf input f w t → t.status ≡ NoMemory
FaultedAttemptBy-no_fault shelf input f w t calm quiet (inl h) = cut_calm shelf t.status calm h.cause
FaultedAttemptBy-no_fault shelf input f w t calm quiet (inr (inl h)) = absurd (quiet h.cause)
FaultedAttemptBy-no_fault shelf input f w t calm quiet (inr (inr h)) = cut_calm shelf t.status calm h.cause

-- ---- which statuses are tried

-- a status that is said without a fault of the input or of a sink
pub data SaysFaultLine (shelf input : Type 0) (there : Type 0) (s : Status) : Type 0 where
  plain : IsPlain there s → SaysFaultLine shelf input there s
  cut : CutBy shelf s → SaysFaultLine shelf input there s
  starved : s ≡ InputFault → input → SaysFaultLine shelf input there s

pub FaultedAttemptBy-fault_line : (shelf input there : Type 0) (f : Form) (w : World) (t : Answer)
    → FaultedAttemptBy shelf input f w t
    → SaysFaultLine shelf input there t.status
FaultedAttemptBy-fault_line shelf input there f w t (inl h) = cut h.cause
FaultedAttemptBy-fault_line shelf input there f w t (inr (inl h)) = starved h.status_is h.cause
FaultedAttemptBy-fault_line shelf input there f w t (inr (inr h)) = cut h.cause

pub says_not_sink : (shelf input there : Type 0) (s : Status) → SaysFaultLine shelf input there s → s ≢ SinkFault
says_not_sink shelf input there s (plain (inl h)) e = let x = sym h ∙ ap is_fault e in cc
says_not_sink shelf input there s (plain (inr h)) e = let x : ShelfFault ≡ SinkFault = sym h.0 ∙ e in cc
says_not_sink shelf input there s (cut (inl h)) e = cc
says_not_sink shelf input there s (cut (inr h)) e = let x : ShelfFault ≡ SinkFault = sym h.0 ∙ e in cc
says_not_sink shelf input there s (starved is cause) e = cc

pub says_not_input : (shelf input there : Type 0) (s : Status) → (input → ⊥) → SaysFaultLine shelf input there s
    → s ≢ InputFault
says_not_input shelf input there s quiet (plain (inl h)) e = let x = sym h ∙ ap is_fault e in cc
says_not_input shelf input there s quiet (plain (inr h)) e = let x : ShelfFault ≡ InputFault = sym h.0 ∙ e in cc
says_not_input shelf input there s quiet (cut (inl h)) e = cc
says_not_input shelf input there s quiet (cut (inr h)) e = let x : ShelfFault ≡ InputFault = sym h.0 ∙ e in cc
says_not_input shelf input there s quiet (starved is cause) e = quiet cause

pub says_not_shelf : (shelf input there : Type 0) (s : Status) → (shelf → ⊥) → there → SaysFaultLine shelf input there s
    → s ≢ ShelfFault
says_not_shelf shelf input there s calm is (plain (inl h)) e = let x = sym h ∙ ap is_fault e in cc
says_not_shelf shelf input there s calm is (plain (inr h)) e = h.1 is
says_not_shelf shelf input there s calm is (cut (inl h)) e = cc
says_not_shelf shelf input there s calm is (cut (inr h)) e = calm h.1
says_not_shelf shelf input there s calm is (starved q cause) e = cc

-- ---- a sink that fails behind the rest

pub MayTake-sink : (k : Kind) (s : Status) → MayTakeBy k s → MayTakeBy k SinkFault
MayTake-sink k s h = (h.0, inr (inr (inl refl)))

pub Spares-sink : (k : Kind) (s : Status) (old new : Files) → SparesBy k s old new → SparesBy k SinkFault old new
Spares-sink k s old new (inl h) = inl h
Spares-sink k s old new (inr h) = inr (h.0, (h.1.0, inr (inr refl)), h.2)
