-- The cases of a PAL call.
use Rattle.std.proofs.Common.{◌≡◌, ℕ, List, [], length, Option, Result, Ok, Err, refl, sym, ap, subst, ◌∙◌, arith}
use Rattle.std.proofs.lemmas.Grind.{elements}
use Rattle.std.proofs.KnownBytes.{Appends-nil}
use Rattle.alpha_words.specs.declared.PalCall.{PalCall}
use Rattle.alpha_words.specs.declared.PalCall.TheVariants.{Bpt, Bugchk, Callsys, Imb, Rdunique, Wrunique, Gentrap}
use Rattle.alpha_words.specs.Regs.{reg, put}
use Rattle.alpha_io.specs.Supply.{Supply}
use Rattle.alpha_mem.specs.Block.{Block}
use Rattle.alpha_pal.specs.declared.frame.Frame.{Frame}
use Rattle.alpha_pal.specs.declared.fault.Fault.{Fault}
use Rattle.alpha_pal.specs.declared.fault.Fault.TheVariants.{Input, Output, Notes}
use Rattle.alpha_pal.specs.declared.pal_end.PalEnd.{PalEnd}
use Rattle.alpha_pal.specs.declared.pal_end.Passed.TheVariants.{Nothing}
use Rattle.alpha_pal.specs.declared.serve.SystemCall.{SystemCall}
use Rattle.alpha_pal.specs.declared.serve.Answer.{Answer}
use Rattle.alpha_pal.specs.declared.serve.Answer.TheVariants.{Read, Wrote, Error, Exit}
use Rattle.alpha_pal.specs.Kernel.{KernelState, entered, entry_regs}
use Rattle.alpha_pal.specs.Call.{Silent, given_in, continues, signals, call}
use Rattle.alpha_pal.specs.Serve.{system_call_of, after_serve}
use Rattle.alpha_pal.specs.CallEffect.{ServeEffect, CallEffect, CallReturns, InputCause, SinkCause, seen, end_of}
use Rattle.alpha_pal.specs.CallEffect.{regs_after}
use Rattle.alpha_pal.proofs.SystemCalls.{Reads-silent}
use Rattle.alpha_pal.proofs.Callsys.{call_callsys-serve}

-- a call that leaves memory and devices alone
CallReturns-quiet : (function : PalCall) (regs regs' : List ℕ) (mem : List Block) (unique unique' : ℕ)
    (left : Supply) (written : Option (List ℕ))
    → call function regs mem unique [] ≡ continues regs' mem unique' Silent
    → CallReturns function Nothing (seen regs mem unique left written) (seen regs' mem unique' left written)
CallReturns-quiet function regs regs' mem unique unique' left written does = record {
  traffic = Silent;
  is = does;
  fed = Reads-silent left;
  wrote = Appends-nil written;
  passes = (refl, refl);
}

pub imb_goes_on : (regs : List ℕ) (mem : List Block) (unique : ℕ) (left : Supply) (written : Option (List ℕ))
    → CallReturns Imb Nothing (seen regs mem unique left written) (seen regs mem unique left written)
unfolding call
imb_goes_on regs mem unique left written =
    CallReturns-quiet Imb regs regs mem unique unique left written refl

rdunique-does : (regs : List ℕ) (mem : List Block) (unique : ℕ)
    → call Rdunique regs mem unique [] ≡ continues (put regs 0 unique) mem unique Silent
unfolding call
rdunique-does regs mem unique = refl

pub rdunique-CallReturns : (regs regs' : List ℕ) (mem : List Block) (unique : ℕ) (left : Supply)
    (written : Option (List ℕ))
    → regs' ≡ put regs 0 unique
    → CallReturns Rdunique Nothing (seen regs mem unique left written) (seen regs' mem unique left written)
rdunique-CallReturns regs regs' mem unique left written set =
    CallReturns-quiet Rdunique regs regs' mem unique unique left written
    (rdunique-does regs mem unique ∙ ap (λ l. continues l mem unique Silent) (sym set))

wrunique-does : (regs : List ℕ) (mem : List Block) (unique : ℕ)
    → call Wrunique regs mem unique [] ≡ continues regs mem (reg regs 16) Silent
unfolding call
wrunique-does regs mem unique = refl

pub wrunique_goes_on : (regs : List ℕ) (mem : List Block) (unique unique' : ℕ) (left : Supply)
    (written : Option (List ℕ))
    → unique' ≡ reg regs 16
    → CallReturns Wrunique Nothing (seen regs mem unique left written) (seen regs mem unique' left written)
wrunique_goes_on regs mem unique unique' left written set =
    CallReturns-quiet Wrunique regs regs mem unique unique' left written
    (wrunique-does regs mem unique ∙ ap (λ n. continues regs mem n Silent) (sym set))

pub bpt-call_signals : (regs : List ℕ) (mem : List Block) (unique : ℕ) (input : List ℕ)
    → call Bpt regs mem unique input ≡ signals 0
unfolding call
bpt-call_signals regs mem unique input = refl

pub bugchk_signals : (regs : List ℕ) (mem : List Block) (unique : ℕ) (input : List ℕ)
    → call Bugchk regs mem unique input ≡ signals 1
unfolding call
bugchk_signals regs mem unique input = refl

pub gentrap_signals : (regs : List ℕ) (mem : List Block) (unique : ℕ) (input : List ℕ)
    → call Gentrap regs mem unique input ≡ signals 2
unfolding call
gentrap_signals regs mem unique input = refl

-- ---- system calls

-- what the entry changed comes back
restored_two : (regs : List ℕ) (v flag : ℕ) → length regs ≡ 32
    → put (put (put (put (entry_regs regs) 0 v) 19 flag) 29 (reg regs 29)) 30 (reg regs 30) ≡ put (put regs 0 v) 19 flag
unfolding reg put
restored_two regs v flag sized = grind (arith, elements)

restored_all : (regs : List ℕ) → length regs ≡ 32 → put (put (entry_regs regs) 29 (reg regs 29)) 30 (reg regs 30) ≡ regs
unfolding reg put
restored_all regs sized = grind (arith, elements)

regs_after-restored : (served : Result Answer Fault) (regs : List ℕ) → length regs ≡ 32
    → put (put (regs_after served (entry_regs regs)) 29 (reg regs 29)) 30 (reg regs 30) ≡ regs_after served regs
regs_after-restored (Ok (Read n)) regs sized = restored_two regs n 0 sized
regs_after-restored (Ok (Wrote n)) regs sized = restored_two regs n 0 sized
regs_after-restored (Ok (Error n)) regs sized = restored_two regs n 1 sized
regs_after-restored (Ok (Exit v)) regs sized = restored_all regs sized
regs_after-restored (Err fault) regs sized = restored_all regs sized

-- equal parts make equal views
same_seen : (regs regs' : List ℕ) (mem mem' : List Block) (unique : ℕ)
    (left left' : Supply) (written written' : Option (List ℕ))
    → regs' ≡ regs → mem' ≡ mem → left' ≡ left → written' ≡ written
    → seen regs' mem' unique left' written' ≡ seen regs mem unique left written
same_seen regs regs' mem mem' unique left left' written written' e0 e1 e2 e3 = simp (e0, e1, e2, e3)

served_effect : (served : Result Answer Fault) (regs regs' : List ℕ) (mem mem' : List Block) (unique : ℕ)
    (left left' : Supply) (written written' : Option (List ℕ))
    → ServeEffect (system_call_of regs) served mem mem' left left' written written' → regs' ≡ regs_after served regs
    → CallEffect Callsys (end_of (system_call_of regs) served) (seen regs mem unique left written)
    (seen regs' mem' unique left' written')
served_effect (Ok (Read n)) regs regs' mem mem' unique left left' written written' h set = record {
  traffic = h.traffic;
  is = call_callsys-serve regs mem unique (given_in h.traffic)
      ∙ (ap (after_serve regs unique) h.is ∙ ap (λ l. continues l mem' unique h.traffic) (sym set));
  fed = h.fed;
  wrote = h.wrote;
  passes = h.passes;
}
served_effect (Ok (Wrote n)) regs regs' mem mem' unique left left' written written' h set = record {
  traffic = h.traffic;
  is = call_callsys-serve regs mem unique (given_in h.traffic)
      ∙ (ap (after_serve regs unique) h.is ∙ ap (λ l. continues l mem' unique h.traffic) (sym set));
  fed = h.fed;
  wrote = h.wrote;
  passes = h.passes;
}
served_effect (Ok (Error n)) regs regs' mem mem' unique left left' written written' h set = record {
  traffic = h.traffic;
  is = call_callsys-serve regs mem unique (given_in h.traffic)
      ∙ (ap (after_serve regs unique) h.is ∙ ap (λ l. continues l mem' unique h.traffic) (sym set));
  fed = h.fed;
  wrote = h.wrote;
  passes = h.passes;
}
served_effect (Ok (Exit v)) regs regs' mem mem' unique left left' written written' h set = (
  λ input. call_callsys-serve regs mem unique input ∙ ap (after_serve regs unique) (h.0 input),
  same_seen regs regs' mem mem' unique left left' written written' set h.1 h.2 h.3,
)
served_effect (Err Input) regs regs' mem mem' unique left left' written written' h set =
    (refl, h.0, same_seen regs regs' mem' mem' unique left' left' written written' set refl refl h.1)
served_effect (Err Output) regs regs' mem mem' unique left left' written written' h set =
    (refl, h.0, same_seen regs regs' mem mem' unique left left' written' written' set h.1 h.2 refl)
served_effect (Err Notes) regs regs' mem mem' unique left left' written written' h set = absurd h

-- a system call between its entry and its return
pub callsys-CallEffect : (request : SystemCall) (served : Result Answer Fault) (end : Result PalEnd Fault)
    (k : KernelState)
    (f : Frame) (regs entry answer now : List ℕ) (mem mem' : List Block) (unique : ℕ)
    (left left' : Supply) (written written' : Option (List ℕ))
    → length regs ≡ 32
    → request ≡ system_call_of regs
    → k ≡ entered f regs
    → f.gp ≡ reg regs 29
    → entry ≡ entry_regs regs
    → ServeEffect request served mem mem' left left' written written'
    → end ≡ end_of request served
    → answer ≡ regs_after served entry
    → now ≡ put (put answer 29 k.frame.gp) 30 k.user_stack
    → CallEffect Callsys end (seen regs mem unique left written) (seen now mem' unique left' written')
callsys-CallEffect request served end k f regs entry answer now mem mem' unique left left' written written' sized asked
    state gp entry_is h end_is answer_is now_is =
    let set : now ≡ put (put (regs_after served (entry_regs regs)) 29 (reg regs 29)) 30 (reg regs 30) =
    now_is
    ∙ (ap (λ x. put (put answer 29 x) 30 k.user_stack) (ap (λ (s : KernelState). s.frame.gp) state ∙ gp)
    ∙ (ap (λ x. put (put answer 29 (reg regs 29)) 30 x) (ap (λ (s : KernelState). s.user_stack) state)
    ∙ ap (λ l. put (put l 29 (reg regs 29)) 30 (reg regs 30)) (answer_is ∙ ap (regs_after served) entry_is))) in
    let effect = subst (λ (r : SystemCall). ServeEffect r served mem mem' left left' written written') asked h in
    subst (λ (e : Result PalEnd Fault). CallEffect Callsys e (seen regs mem unique left written)
    (seen now mem' unique left' written')) (sym (end_is ∙ ap (λ (r : SystemCall). end_of r served) asked))
    (served_effect served regs now mem mem' unique left left' written written' effect
    (set ∙ regs_after-restored served regs sized))

-- the causes of a system call's result are those of its end
pub input_cause : (request : SystemCall) (served : Result Answer Fault) (end : Result PalEnd Fault) (before now : ℕ)
    → end ≡ end_of request served → InputCause served before now → InputCause end before now
input_cause request served end before now is h =
    subst (λ (e : Result PalEnd Fault). InputCause e before now) (sym is) (by served h)
  where
    by : (s : Result Answer Fault) → InputCause s before now → InputCause (end_of request s) before now
    by (Ok (Read n)) h = h
    by (Ok (Wrote n)) h = h
    by (Ok (Error n)) h = h
    by (Ok (Exit v)) h = h
    by (Err fault) h = h

pub sink_cause : (request : SystemCall) (served : Result Answer Fault) (end : Result PalEnd Fault) (before now : ℕ)
    → end ≡ end_of request served → SinkCause served before now → SinkCause end before now
sink_cause request served end before now is h =
    subst (λ (e : Result PalEnd Fault). SinkCause e before now) (sym is) (by served h)
  where
    by : (s : Result Answer Fault) → SinkCause s before now → SinkCause (end_of request s) before now
    by (Ok (Read n)) h = h
    by (Ok (Wrote n)) h = h
    by (Ok (Error n)) h = h
    by (Ok (Exit v)) h = h
    by (Err fault) h = h
