-- What a step asks of who chooses, by what the code found.
use Rattle.std.specs.Prelude.{nat_le}
use Rattle.std.proofs.Common.{◌≡◌, ◌<◌, ◌||◌, not, ℕ, Bool, true, false, cond, Option, None, Some, refl, sym, ap, subst}
use Rattle.std.proofs.Common.{◌∙◌, arith}
use Rattle.std.proofs.lemmas.Bool.Decides.{nat_tests}
use Rattle.alpha_table.specs.Class.{Class}
use Rattle.alpha_seq.specs.declared.machine.Machine.{Machine}
use Rattle.alpha_seq.specs.Machine.{state_of, class_here}
use Rattle.alpha_imprecise.specs.declared.pending.Pending.{Pending}
use Rattle.alpha_imprecise.specs.StepResult.{Choice}
use Rattle.alpha_imprecise.specs.Step.{triggers, can_wait}
use Rattle.alpha_imprecise.specs.Chosen.{reporting, triggering, must_report}
use Rattle.alpha_imprecise.specs.ImpreciseState.{imprecise_state, WaitsAt}
use Rattle.alpha_imprecise.specs.ChoiceSource.{Pick, Unasked, ValueAsked, PickAsked, choice_by, Picked, asked}
use Rattle.alpha_imprecise.specs.ImpreciseStepEffect.{Chose}

-- a word that can be executed, where fewer than the most were, needn't be reported
nat_le-small : (n : ℕ) → n < 1024 → nat_le 1024 n ≡ false
nat_le-small n small = grind (arith, nat_tests)

may_wait : (m : Machine) (class : Class) (n : ℕ) → WaitsAt m class → n < 1024
    → must_report (class_here m) (state_of m) n ≡ false
may_wait m class n here small =
    ap (λ (o : Option Class). not (can_wait o (state_of m)) || nat_le 1024 n) here.here
    ∙ (ap (λ (b : Bool). not b || nat_le 1024 n) here.waits ∙ nat_le-small n small)

module _ {P : Type 0} (picks : P → Pick → P → Type 0) (values : P → ℕ → P → Type 0) (m : Machine)
    (p : Option Pending) where
  -- with nothing pending, at a word that doesn't overflow, nothing is asked
  pub exact-chose : (who : P) (does : Option Pending → Choice → Type 0) → p ≡ None
      → triggers (class_here m) (state_of m) ≡ false
      → does None (reporting 0).choice → Chose picks values (imprecise_state m p) who who (does p)
  exact-chose who does calm exact did =
      let c = (reporting 0).choice in
      record {
        choice = c;
        effect = subst (λ (q : Option Pending). does q c) (sym calm) did;
        picked = subst (λ (q : Option Pending). Picked picks values (asked (imprecise_state m q)) c who who) (sym calm)
            (subst (λ (b : Bool). Picked picks values (cond b ValueAsked Unasked) c who who) (sym exact) (refl, refl));
      }

  -- at a word that overflows, a value
  pub value-chose : (value : ℕ) (before after : P) (does : Choice → Type 0) → p ≡ None
      → triggers (class_here m) (state_of m) ≡ true
      → values before value after → does (triggering value).choice
      → Chose picks values (imprecise_state m p) before after does
  value-chose value before after does calm overflows answered did =
      let c = (triggering value).choice in
      record {
        choice = c;
        effect = did;
        picked =
            subst (λ (q : Option Pending). Picked picks values (asked (imprecise_state m q)) c before after) (sym calm)
            (subst (λ (b : Bool). Picked picks values (cond b ValueAsked Unasked) c before after) (sym overflows)
            (value, refl, answered));
      }

  -- while a trap is pending nothing is asked where a report is forced
  pub forced-chose : (trap : Pending) (who : P) (does : Choice → Type 0) → p ≡ Some trap
      → must_report (class_here m) (state_of m) trap.waited ≡ true
      → does (reporting 0).choice → Chose picks values (imprecise_state m p) who who does
  forced-chose trap who does some must did =
      let c = (reporting 0).choice in
      record {
        choice = c;
        effect = did;
        picked = subst (λ (q : Option Pending). Picked picks values (asked (imprecise_state m q)) c who who) (sym some)
            (subst (λ (b : Bool). Picked picks values (cond b Unasked PickAsked) c who who) (sym must) (refl, refl));
      }

  -- and where it isn't, a pick
  pub pick-chose : (trap : Pending) (class : Class) (pick : Pick) (before after : P) (does : Choice → Type 0)
      → p ≡ Some trap → WaitsAt m class → trap.waited < 1024
      → picks before pick after → does (choice_by pick) → Chose picks values (imprecise_state m p) before after does
  pick-chose trap class pick before after does some here small answered did =
      let c = choice_by pick in
      let may = may_wait m class trap.waited here small in
      record {
        choice = c;
        effect = did;
        picked =
            subst (λ (q : Option Pending). Picked picks values (asked (imprecise_state m q)) c before after) (sym some)
            (subst (λ (b : Bool). Picked picks values (cond b Unasked PickAsked) c before after) (sym may)
            (pick, refl, answered));
      }
