-- Which statuses are those of an end, and which aren't.
use Rattle.std.proofs.Common.{◌≡◌, ◌∙◌, ◌⊎◌, ℕ, List, Option, None, Some, Result, refl, sym, ap, subst, inl, inr}
use Rattle.std.proofs.Common.{⊎_elim}
use Rattle.alpha_io.specs.declared.Failed.{Failed}
use Rattle.alpha_pal.specs.declared.fault.Fault.{Fault}
use Rattle.alpha_seq.specs.declared.end.End.{End}
use Rattle.alpha_seq.specs.declared.end.End.TheVariants as ends
use Rattle.alpha_cmd.specs.declared.decision.Decision.{Decision}
use Rattle.alpha_cmd.specs.declared.status.Status.{Status}
use Rattle.alpha_cmd.specs.declared.status.Status.TheVariants.{Done, BadWords, ShelfFault, InputFault, SinkFault}
use Rattle.alpha_cmd.specs.declared.status.Status.TheVariants.{NoMemory}
use Rattle.alpha_cmd.specs.declared.stop.Stop.{Stop}
use Rattle.alpha_cmd.specs.Status.{Class, done, refused, ended, class_of}
use Rattle.alpha_cmd.specs.Stage.{stop_status, stop_line, StopsBy}
use Rattle.alpha_cmd.specs.Outcome.{Outcome, stops}
use Rattle.alpha_cmd.specs.Answer.{Answer}
use Rattle.alpha_cmd.specs.Decision.{SaysStop, IsCutShort}
use Rattle.alpha_cmd.specs.Drawn.{but_drawn}
use Rattle.alpha_cmd.specs.Ends.{status_in}
use Rattle.alpha_cmd.specs.Ran.{IsRunEnd}
use Rattle.alpha_cmd.specs.RunAnswer.{run_status}
use Rattle.alpha_cmd.specs.RunsAsked.{HasEnded}
use Rattle.alpha_cmd.proofs.CutShort.{IsCutShort-status}
use Rattle.alpha_cmd.proofs.Lawful.{IsRefusal}

class_drawn : (status : Status) → class_of (but_drawn status) ≡ class_of status
class_drawn (Done n) = refl
class_drawn status = refl

end_class : (end : Option End) → (class_of (run_status end) ≡ done) ⊎ (class_of (run_status end) ≡ ended)
end_class None = inr refl
end_class (Some (ends.Exit v)) = inl refl
end_class (Some end) = inr refl

-- it is done or ended
pub IsRunEnd-HasEnded : (status : Status) → IsRunEnd status → HasEnded status
IsRunEnd-HasEnded status is =
    let same : class_of status ≡ class_of (run_status is.0) = sym (class_drawn status) ∙ ap class_of is.1 in
    ⊎_elim (λ (h : class_of (run_status is.0) ≡ done). inl (same ∙ h))
    (λ (h : class_of (run_status is.0) ≡ ended). inr (same ∙ h)) (end_class is.0)

-- and none of these is
pub status-not_ended : (status : Status) (class : Class) → class_of status ≡ class → (class ≡ done → ⊥)
    → (class ≡ ended → ⊥) → HasEnded status → ⊥
status-not_ended status class here not_done not_ended is =
    ⊎_elim (λ (h : class_of status ≡ done). not_done (sym here ∙ h))
    (λ (h : class_of status ≡ ended). not_ended (sym here ∙ h)) is

pub HasEnded-not_NoMemory : HasEnded NoMemory → ⊥
HasEnded-not_NoMemory is = status-not_ended NoMemory (class_of NoMemory) refl (λ h. cc) (λ h. cc) is

pub HasEnded-not_SinkFault : HasEnded SinkFault → ⊥
HasEnded-not_SinkFault is = status-not_ended SinkFault (class_of SinkFault) refl (λ h. cc) (λ h. cc) is

pub but_drawn-run_status : (end : Option End) → but_drawn (run_status end) ≡ run_status end
but_drawn-run_status None = refl
but_drawn-run_status (Some (ends.Exit v)) = refl
but_drawn-run_status (Some end) = refl

-- nor a stage that stopped
stop_unended : {X : Type 0} (R : Outcome X → Type 0) (shelf : Type 0)
    → ((s : Status) (line : List ℕ) → R (stops s line) → IsRefusal ⊥ s)
    → (stop : Stop) → StopsBy R shelf stop → HasEnded (stop_status stop) → ⊥
stop_unended R shelf plain stop (inl h) is =
    ⊎_elim (λ (no : class_of (stop_status stop) ≡ refused).
    status-not_ended (stop_status stop) refused no (λ e. cc) (λ e. cc) is)
    (λ (no : (stop_status stop ≡ ShelfFault) × (⊥ → ⊥)).
    status-not_ended (stop_status stop) (class_of ShelfFault) (ap class_of no.0) (λ e. cc) (λ e. cc) is)
    (plain (stop_status stop) (stop_line stop) h)
stop_unended R shelf plain stop (inr (inl e)) is =
    status-not_ended (stop_status stop) _ (ap (λ (s : Stop). class_of (stop_status s)) e) (λ h. cc) (λ h. cc) is
stop_unended R shelf plain stop (inr (inr h)) is =
    status-not_ended (stop_status stop) _ (ap (λ (s : Stop). class_of (stop_status s)) h.0) (λ e. cc) (λ e. cc) is

pub HasEnded-not_stopped : {X : Type 0} (R : Outcome X → Type 0) (shelf : Type 0)
    → ((s : Status) (line : List ℕ) → R (stops s line) → IsRefusal ⊥ s)
    → (stop : Stop) (d : Decision) → SaysStop stop d → StopsBy R shelf stop → HasEnded d.status → ⊥
HasEnded-not_stopped R shelf plain stop d says why is =
    stop_unended R shelf plain stop why (subst HasEnded (ap (λ (a : Answer). a.status) (says None)) is)

-- nor are want of memory, bad words and a run that was cut short
pub HasEnded-not_memory_status : (d : Decision) → d.status ≡ NoMemory → HasEnded d.status → ⊥
HasEnded-not_memory_status d says is =
    status-not_ended d.status (class_of NoMemory) (ap class_of says) (λ h. cc) (λ h. cc) is

pub HasEnded-not_ShelfFault : (d : Decision) → d.status ≡ ShelfFault → HasEnded d.status → ⊥
HasEnded-not_ShelfFault d says is =
    status-not_ended d.status (class_of ShelfFault) (ap class_of says) (λ h. cc) (λ h. cc) is

pub HasEnded-not_InputFault : (d : Decision) → d.status ≡ InputFault → HasEnded d.status → ⊥
HasEnded-not_InputFault d says is =
    status-not_ended d.status (class_of InputFault) (ap class_of says) (λ h. cc) (λ h. cc) is

pub HasEnded-not_BadWords : (d : Decision) → d.status ≡ BadWords → HasEnded d.status → ⊥
HasEnded-not_BadWords d says is =
    status-not_ended d.status (class_of BadWords) (ap class_of says) (λ h. cc) (λ h. cc) is

pub HasEnded-not_cut_short : (fault : Fault) (r : Result Decision Failed) → IsCutShort fault r → HasEnded (status_in r)
    → ⊥
HasEnded-not_cut_short fault r says is =
    ⊎_elim (λ (e : status_in r ≡ InputFault).
    status-not_ended (status_in r) (class_of InputFault) (ap class_of e) (λ h. cc) (λ h. cc) is)
    (λ (e : status_in r ≡ SinkFault). status-not_ended (status_in r) (class_of SinkFault) (ap class_of e) (λ h. cc)
    (λ h. cc) is) (IsCutShort-status fault r says)
