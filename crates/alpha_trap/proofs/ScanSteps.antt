-- The walk down of the scan: what is known at each place that it has passed.
use Rattle.std.proofs.Common.{◌≡◌, ◌≢◌, ◌<◌, ◌≤◌, ◌+◌, ◌-◌, ◌⊎◌, ◌↔◌, ◌^◌, ℕ, Some, None, List, sym, ap, subst, ◌∙◌}
use Rattle.std.proofs.Common.{inl, inr, ⊎_elim, arith}
use Rattle.std.proofs.lemmas.Bool.{cases_eq, cases_lt}
use Rattle.std.proofs.lemmas.Nat.Bits.{bit_at_above}
use Rattle.alpha_words.specs.Regs.{Has}
use Rattle.alpha_table.specs.declared.columns.InsnKind.TheVariants as kinds
use Rattle.alpha_table.specs.Code.{class_at, kind, trap_rc, Straight}
use Rattle.alpha_trap.specs.Scan.{fits, greatest_below}
use Rattle.alpha_trap.specs.Finds.{Fits}
use Rattle.alpha_trap.proofs.GreatestInRange.{greatest_below-none}
use Rattle.alpha_trap.proofs.ScanRelation.{Fits-false, greatest-is}

-- a trigger in [from, to) has the register as destination
abbrev pub IsDestinationIn : List ℕ → ℕ → ℕ → ℕ → Type 0
IsDestinationIn code from to r = (k : ℕ) × (from ≤ k) × (k < to) × (trap_rc (class_at code k) ≡ Some r)

-- The walk from an end has come down to a place: the registers that are left are those of the mask that no trigger
-- passed had as a destination, it went straight, and no place that it passed fits.
pub record Walked (code : List ℕ) (mask left at to : ℕ) : Type 0 where
  pub met : (r : ℕ) → Has mask r → Has left r ⊎ IsDestinationIn code at to r
  pub within : (r : ℕ) → Has left r → Has mask r
  pub not_met : (r : ℕ) → Has left r → IsDestinationIn code at to r → ⊥
  pub straight : Straight code at to
  pub none : (k : ℕ) → at ≤ k → Fits code mask k to → ⊥

-- the walk has come to one past the place before
pub walked_next : (code : List ℕ) (mask left place to : ℕ) → 0 < place → Walked code mask left place to
    → Walked code mask left (place - 1 + 1) to
walked_next code mask left place to some w =
    let back : place ≡ place - 1 + 1 = omega arith in subst (λ j. Walked code mask left j to) back w

-- a word more that is neither a barrier nor a turn
straight_more : (code : List ℕ) (at to : ℕ) → Straight code (at + 1) to → kind (class_at code at) ≢ Some kinds.Barrier
    → kind (class_at code at) ≢ Some kinds.Turn
    → Straight code at to
straight_more code at to s b t = λ k low high. ⊎_elim
    (λ (same : k ≡ at). (
      λ e. b (ap (λ j. kind (class_at code j)) (sym same) ∙ e),
      λ e. t (ap (λ j. kind (class_at code j)) (sym same) ∙ e),
    ))
    (λ (apart : k ≡ at → ⊥). s k (omega arith) high)
    (cases_eq k at)

-- a trigger in one place more
IsDestinationIn-split : (code : List ℕ) (at to r : ℕ) → IsDestinationIn code at to r
    → (trap_rc (class_at code at) ≡ Some r) ⊎ IsDestinationIn code (at + 1) to r
IsDestinationIn-split code at to r s =
    let low : at ≤ s.0 = s.1 in
    ⊎_elim
    (λ (same : s.0 ≡ at). inl (ap (λ j. trap_rc (class_at code j)) (sym same) ∙ s.3))
    (λ (apart : s.0 ≡ at → ⊥). inr (s.0, omega arith, s.2, s.3))
    (cases_eq s.0 at)

IsDestinationIn-more : (code : List ℕ) (at to r : ℕ) → IsDestinationIn code (at + 1) to r → IsDestinationIn code at to r
IsDestinationIn-more code at to r s = let low : at + 1 ≤ s.0 = s.1 in (s.0, omega arith, s.2, s.3)

-- no further place fits where a trigger's place doesn't
none_more : (code : List ℕ) (mask at to : ℕ) → ((k : ℕ) → at + 1 ≤ k → Fits code mask k to → ⊥)
    → (Fits code mask at to → ⊥)
    → (k : ℕ) → at ≤ k → Fits code mask k to → ⊥
none_more code mask at to above here k low f = ⊎_elim
    (λ (same : k ≡ at). here (subst (λ j. Fits code mask j to) same f))
    (λ (apart : k ≡ at → ⊥). above k (omega arith) f)
    (cases_eq k at)

-- at a trigger, whose destination is left no more
IsDestinationIn-now : (code : List ℕ) (mask left fewer at to rc : ℕ) → Walked code mask left (at + 1) to → at < to
    → trap_rc (class_at code at) ≡ Some rc
    → ((r : ℕ) → Has fewer r ↔ (Has left r × (r ≡ rc → ⊥))) → (r : ℕ) → Has mask r
    → Has fewer r ⊎ IsDestinationIn code at to r
IsDestinationIn-now code mask left fewer at to rc w below is without r h = ⊎_elim
    (λ (q : Has left r). ⊎_elim
    (λ (same : r ≡ rc). inr (at, omega arith, below, is ∙ ap Some (sym same)))
    (λ (apart : r ≡ rc → ⊥). inl ((without r).1 (q, apart)))
    (cases_eq r rc))
    (λ (s : IsDestinationIn code (at + 1) to r). inr (IsDestinationIn-more code at to r s))
    (w.met r h)

unmet_now : (code : List ℕ) (mask left fewer at to rc : ℕ) → Walked code mask left (at + 1) to
    → trap_rc (class_at code at) ≡ Some rc
    → ((r : ℕ) → Has fewer r ↔ (Has left r × (r ≡ rc → ⊥))) → (r : ℕ) → Has fewer r → IsDestinationIn code at to r → ⊥
unmet_now code mask left fewer at to rc w is without r h s =
    let q = (without r).0 h in
    ⊎_elim
    (λ (here : trap_rc (class_at code at) ≡ Some r). q.1 (let e : Some rc ≡ Some r = sym is ∙ here in cc))
    (λ (p : IsDestinationIn code (at + 1) to r). w.not_met r q.0 p)
    (IsDestinationIn-split code at to r s)

-- past a trigger that leaves registers
pub walked_trigger : (code : List ℕ) (mask left fewer at to rc : ℕ) → Walked code mask left (at + 1) to → at < to
    → mask < 2 ^ 31
    → kind (class_at code at) ≢ Some kinds.Barrier → kind (class_at code at) ≢ Some kinds.Turn
    → trap_rc (class_at code at) ≡ Some rc
    → ((r : ℕ) → Has fewer r ↔ (Has left r × (r ≡ rc → ⊥))) → (((r : ℕ) → Has fewer r → ⊥) → ⊥)
    → Walked code mask fewer at to
walked_trigger code mask left fewer at to rc w below small b t is without some = record {
  met = IsDestinationIn-now code mask left fewer at to rc w below is without;
  within = λ r h. w.within r ((without r).0 h).0;
  not_met = unmet_now code mask left fewer at to rc w is without;
  straight = straight_more code at to w.straight b t;
  none = none_more code mask at to w.none (λ f. some (λ r h.
      let member = w.within r ((without r).0 h).0 in
      ⊎_elim
      (λ (r_small : r < 31). unmet_now code mask left fewer at to rc w is without r h (f.covers r r_small member))
      (λ (r_big : 31 ≤ r). let no_bit = bit_at_above mask 31 r small r_big in absurd (omega arith))
      (cases_lt r 31)));
}

-- at a trigger that leaves none
pub walked_found : (code : List ℕ) (mask left fewer at to rc : ℕ) → Walked code mask left (at + 1) to → at < to
    → kind (class_at code at) ≡ Some kinds.Trigger → trap_rc (class_at code at) ≡ Some rc
    → ((r : ℕ) → Has fewer r ↔ (Has left r × (r ≡ rc → ⊥))) → ((r : ℕ) → Has fewer r → ⊥)
    → greatest_below (λ k. fits code mask k to) to ≡ Some at
walked_found code mask left fewer at to rc w below is_trigger is without empty =
    greatest-is code mask at to
    (record {
      before = below;
      trigger = is_trigger;
      covers =
          λ r small h. ⊎_elim (λ (q : Has fewer r). absurd (empty r q)) (λ (s : IsDestinationIn code at to r). s)
          (IsDestinationIn-now code mask left fewer at to rc w below is without r h);
      straight = straight_more code at to w.straight (λ e. cc) (λ e. cc);
    })
    (λ k f. ⊎_elim
    (λ (above : at < k). absurd (w.none k (omega arith) f))
    (λ (low : k ≤ at). low)
    (cases_lt at k))

-- at a barrier or a turn, and at the first word
pub walked_stop : (code : List ℕ) (mask left at to : ℕ) → Walked code mask left (at + 1) to → at < to
    → (kind (class_at code at) ≡ Some kinds.Barrier) ⊎ (kind (class_at code at) ≡ Some kinds.Turn)
    → greatest_below (λ k. fits code mask k to) to ≡ None
walked_stop code mask left at to w below stop =
    greatest_below-none (λ k. fits code mask k to) to (λ k high. Fits-false code mask k to
    (λ f. ⊎_elim
    (λ (above : at < k). w.none k (omega arith) f)
    (λ (low : k ≤ at). let s = f.straight at low below in ⊎_elim s.0 s.1 stop)
    (cases_lt at k))
    high)

pub walked_down : (code : List ℕ) (mask left to : ℕ) → Walked code mask left 0 to
    → greatest_below (λ k. fits code mask k to) to ≡ None
walked_down code mask left to w =
    greatest_below-none (λ k. fits code mask k to) to
    (λ k high. Fits-false code mask k to (λ f. w.none k (omega arith) f) high)
