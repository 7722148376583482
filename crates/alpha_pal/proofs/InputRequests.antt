-- A call looks at as many bytes of the input as it asks for, and is given those.
use Rattle.std.proofs.Common.{◌≡◌, ℕ, zero, suc, List, [], ◌∷◌, length, take, Option, Some, refl, sym, ap, subst, ◌∙◌}
use Rattle.alpha_words.specs.declared.PalCall.{PalCall}
use Rattle.alpha_words.specs.declared.PalCall.TheVariants.{Bpt, Bugchk, Callsys, Imb, Rdunique, Wrunique, Gentrap}
use Rattle.alpha_words.specs.Regs.{reg}
use Rattle.alpha_mem.specs.Block.{Block}
use Rattle.alpha_mem.specs.Memory.{write_bytes}
use Rattle.alpha_pal.specs.declared.pal_end.Passed.{Passed}
use Rattle.alpha_pal.specs.Call.{Traffic, Silent, Read, asked_in, given_in, Called, continues, exits, signals, answers}
use Rattle.alpha_pal.specs.Call.{call}
use Rattle.alpha_pal.specs.CallEffect.{CallView, CallReturns, CallReturnsTold, ReadsTold}
use Rattle.alpha_pal.proofs.Callsys.{callsys-each}

pub take-again : (n : ℕ) (l : List ℕ) → take n (take n l) ≡ take n l
take-again zero l = refl
take-again (suc n) [] = refl
take-again (suc n) (x ∷ l) = ap (λ k. x ∷ k) (take-again n l)

-- what passed in a call; nothing does in one that ends the program
abbrev pub passed_in : Called → Traffic
passed_in (continues regs mem unique traffic) = traffic
passed_in (exits v) = Silent
passed_in (signals code) = Silent

pub record CallRequests (f : List ℕ → Called) : Type 0 where
  pub count : ℕ
  pub only : (input : List ℕ) → f input ≡ f (take count input)
  pub asks : (input : List ℕ) → asked_in (passed_in (f input)) ≡ count
  pub gives : (input : List ℕ) → given_in (passed_in (f input)) ≡ take count input

-- one that reads nothing
CallRequests-no_read : (c : Called) → asked_in (passed_in c) ≡ 0 → given_in (passed_in c) ≡ []
    → CallRequests (λ input. c)
CallRequests-no_read c asked given =
    record { count = 0; only = λ input. refl; asks = λ input. asked; gives = λ input. given }

CallRequests-read : (regs : List ℕ) (mem : List Block) (unique addr count : ℕ)
    → CallRequests (λ input. answers (length (take count input)) 0 regs (write_bytes mem addr (take count input)) unique
    (Read count (take count input)))
CallRequests-read regs mem unique addr count = record {
  count = count;
  only = λ input.
      ap (λ l. answers (length l) 0 regs (write_bytes mem addr l) unique (Read count l)) (sym (take-again count input));
  asks = λ input. refl;
  gives = λ input. refl;
}

pub call-asks : (function : PalCall) (regs : List ℕ) (mem : List Block) (unique : ℕ)
    → CallRequests (call function regs mem unique)
unfolding call
call-asks Bpt regs mem unique = CallRequests-no_read _ refl refl
call-asks Bugchk regs mem unique = CallRequests-no_read _ refl refl
call-asks Gentrap regs mem unique = CallRequests-no_read _ refl refl
call-asks Imb regs mem unique = CallRequests-no_read _ refl refl
call-asks Rdunique regs mem unique = CallRequests-no_read _ refl refl
call-asks Wrunique regs mem unique = CallRequests-no_read _ refl refl
call-asks Callsys regs mem unique =
    callsys-each CallRequests regs mem unique (CallRequests-no_read _ refl refl) (λ n. CallRequests-no_read _ refl refl)
    (CallRequests-read regs mem unique (reg regs 17) (reg regs 18)) (CallRequests-no_read _ refl refl)

-- a call with this traffic is the one over each input that gives it that
pub call-over : (function : PalCall) (regs regs' : List ℕ) (mem mem' : List Block) (unique unique' : ℕ)
    (traffic : Traffic) (input : List ℕ)
    → call function regs mem unique (given_in traffic) ≡ continues regs' mem' unique' traffic
    → given_in traffic ≡ take (asked_in traffic) input
    → call function regs mem unique input ≡ continues regs' mem' unique' traffic
call-over function regs regs' mem mem' unique unique' traffic input is fed =
    let a = call-asks function regs mem unique in
    let count : asked_in traffic ≡ a.count = sym (ap (λ c. asked_in (passed_in c)) is) ∙ a.asks (given_in traffic) in
    a.only input ∙ (ap (call function regs mem unique) (ap (λ n. take n input) (sym count) ∙ sym fed) ∙ is)

pub CallReturnsTold-from : (function : PalCall) (passed : Passed) (old new : CallView) (left : List ℕ)
    → old.supply.left ≡ Some left
    → CallReturns function passed old new → CallReturnsTold function old new left
CallReturnsTold-from function passed old new left told h =
    let fed = subst (λ (l : Option (List ℕ)). ReadsTold l h.traffic new.supply.left) told h.fed.told in record {
      traffic = h.traffic;
      is = call-over function old.regs new.regs old.mem new.mem old.unique new.unique h.traffic left h.is fed.0;
      took = fed.1;
      wrote = h.wrote;
    }
