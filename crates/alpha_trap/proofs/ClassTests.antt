-- The tests of a word's class, and what they say.
use Rattle.std.proofs.Common.{◌≡◌, ◌≢◌, ℕ, true, false, Option, Some, None, is_some, ◌==◌, refl, ap, eqb-true, eq-eqb}
use Rattle.std.specs.Option.{option_map_or}
use Rattle.alpha_table.specs.declared.columns.InsnKind.{InsnKind}
use Rattle.alpha_table.specs.declared.columns.InsnKind.TheVariants as kinds
use Rattle.alpha_table.specs.Class.{Class, operate, trigger, address}
use Rattle.alpha_table.specs.Code.{class_kind, kind, trap_rc}
use Rattle.alpha_trap.specs.Scan.{runs_on, is_straight, is_destination}

-- a trigger is a word with a destination that may trap

pub trigger_has_rc : (c : Option Class) → kind c ≡ Some kinds.Trigger → is_some (trap_rc c) ≡ true
trigger_has_rc None e = cc
trigger_has_rc (Some (operate op ra src rc)) e = cc
trigger_has_rc (Some (trigger op ra src rc)) e = refl
trigger_has_rc (Some (address op ra rb disp)) e = cc
trigger_has_rc c e = cc

pub has_rc_trigger : (c : Option Class) → is_some (trap_rc c) ≡ true → kind c ≡ Some kinds.Trigger
has_rc_trigger None e = cc
has_rc_trigger (Some (operate op ra src rc)) e = cc
has_rc_trigger (Some (trigger op ra src rc)) e = refl
has_rc_trigger (Some (address op ra rb disp)) e = cc
has_rc_trigger c e = cc

-- a word that runs straight on is neither a barrier nor a turn

kind_straight : (k : InsnKind) → runs_on k ≡ true → (Some k ≢ Some kinds.Barrier) × (Some k ≢ Some kinds.Turn)
kind_straight kinds.Plain e = (λ f. cc, λ f. cc)
kind_straight kinds.Trigger e = (λ f. cc, λ f. cc)
kind_straight kinds.Barrier e = cc
kind_straight kinds.Load e = (λ f. cc, λ f. cc)
kind_straight kinds.Store e = (λ f. cc, λ f. cc)
kind_straight kinds.Locked e = (λ f. cc, λ f. cc)
kind_straight kinds.Turn e = cc

pub is_straight-kind : (c : Option Class) → is_straight c ≡ true
    → (kind c ≢ Some kinds.Barrier) × (kind c ≢ Some kinds.Turn)
is_straight-kind None e = (λ f. cc, λ f. cc)
is_straight-kind (Some c) e = kind_straight (class_kind c) e

kind_runs_on : (k : InsnKind) → Some k ≢ Some kinds.Barrier → Some k ≢ Some kinds.Turn → runs_on k ≡ true
kind_runs_on kinds.Plain b t = refl
kind_runs_on kinds.Trigger b t = refl
kind_runs_on kinds.Barrier b t = absurd (b refl)
kind_runs_on kinds.Load b t = refl
kind_runs_on kinds.Store b t = refl
kind_runs_on kinds.Locked b t = refl
kind_runs_on kinds.Turn b t = absurd (t refl)

pub kind-is_straight : (c : Option Class) → kind c ≢ Some kinds.Barrier → kind c ≢ Some kinds.Turn
    → is_straight c ≡ true
kind-is_straight None b t = refl
kind-is_straight (Some c) b t = kind_runs_on (class_kind c) b t

-- the destination that a trigger may spoil

names_one : (o : Option ℕ) (r : ℕ) → option_map_or (λ rc. rc == r) o false ≡ true → o ≡ Some r
names_one None r e = cc
names_one (Some rc) r e = ap Some (eqb-true rc r e)

one_named : (o : Option ℕ) (r : ℕ) → o ≡ Some r → option_map_or (λ rc. rc == r) o false ≡ true
one_named None r e = cc
one_named (Some rc) r e = eq-eqb rc r (cc)

pub is_destination-trap_rc : (c : Option Class) (r : ℕ) → is_destination c r ≡ true → trap_rc c ≡ Some r
is_destination-trap_rc c r e = names_one (trap_rc c) r e

pub trap_rc-is_destination : (c : Option Class) (r : ℕ) → trap_rc c ≡ Some r → is_destination c r ≡ true
trap_rc-is_destination c r e = one_named (trap_rc c) r e
