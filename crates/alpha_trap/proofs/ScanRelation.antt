-- The scan as a function is the scan as a relation.
use Rattle.std.proofs.Common.{◌≡◌, ◌≢◌, ◌<◌, ◌≤◌, ◌+◌, ◌-◌, ℕ, Bool, true, false, cond, ◌&&◌, ◌||◌, ◌==◌, Option, Some}
use Rattle.std.proofs.Common.{None, IfSome, IfNone, is_some, List, refl, sym, ap, ◌∙◌, ⊎_elim, arith, eqb-true, eq-eqb}
use Rattle.std.specs.Int.{bit_at}
use Rattle.std.specs.List.{list_all, list_any, range_with_len}
use Rattle.std.proofs.lemmas.Bool.{cases_eq, cases_lt, and_parts, and_from, or_cases, or_left, or_right}
use Rattle.std.proofs.lemmas.Bool.{false_from_ne_true}
use Rattle.std.proofs.lemmas.Nat.Bits.{bit_at-lt, bit_at-zero}
use Rattle.alpha_words.specs.Regs.{Has}
use Rattle.alpha_table.specs.Code.{class_at, trap_rc, Straight}
use Rattle.alpha_image.specs.Parts.{Parts}
use Rattle.alpha_trap.specs.Scan.{is_straight, is_destination, fits, greatest_below, place_or_end, scan_at, scan}
use Rattle.alpha_trap.specs.Finds.{Covers, Fits, Finds}
use Rattle.alpha_trap.proofs.GreatestInRange.{list_all-range_elim, list_all-range_intro, list_any-range}
use Rattle.alpha_trap.proofs.GreatestInRange.{list_any-of_range}
use Rattle.alpha_trap.proofs.GreatestInRange.{greatest_below-some}
use Rattle.alpha_trap.proofs.GreatestInRange.{greatest_below-is}
use Rattle.alpha_trap.proofs.ClassTests.{trigger_has_rc, has_rc_trigger, is_straight-kind, kind-is_straight}
use Rattle.alpha_trap.proofs.ClassTests.{is_destination-trap_rc, trap_rc-is_destination}

-- ---- the parts of the test

straight_between : List ℕ → ℕ → ℕ → Bool
straight_between code at n = list_all (λ k. is_straight (class_at code k)) (range_with_len at n)

is_destination_between : List ℕ → ℕ → ℕ → ℕ → Bool
is_destination_between code at n r = list_any (λ k. is_destination (class_at code k) r) (range_with_len at n)

covers_between : List ℕ → ℕ → ℕ → ℕ → Bool
covers_between code mask at n =
    list_all (λ r. bit_at mask r == 0 || is_destination_between code at n r) (range_with_len 0 31)

straight_is : (code : List ℕ) (at to n : ℕ) → at + n ≡ to → straight_between code at n ≡ true → Straight code at to
unfolding straight_between
straight_is code at to n e t = λ k low high.
    is_straight-kind (class_at code k)
    (list_all-range_elim (λ j. is_straight (class_at code j)) at n k t low (omega arith))

is_straight_between : (code : List ℕ) (at to n : ℕ) → at + n ≡ to → Straight code at to
    → straight_between code at n ≡ true
unfolding straight_between
is_straight_between code at to n e s = list_all-range_intro (λ j. is_straight (class_at code j)) at n (λ k low high.
    let q = s k low (omega arith) in kind-is_straight (class_at code k) q.0 q.1)

covers_is : (code : List ℕ) (mask at to n : ℕ) → at + n ≡ to → covers_between code mask at n ≡ true
    → Covers code mask at to
unfolding covers_between is_destination_between
covers_is code mask at to n e t = λ r small has. ⊎_elim
    (λ (none : (bit_at mask r == 0) ≡ true). let zero_bit = eqb-true (bit_at mask r) 0 none in absurd (omega arith))
    (λ (some : list_any (λ k. is_destination (class_at code k) r) (range_with_len at n) ≡ true).
    let w = list_any-range (λ k. is_destination (class_at code k) r) at n some in
    let high : w.0 < at + n = w.2 in
    (w.0, w.1, omega arith, is_destination-trap_rc (class_at code w.0) r w.3))
    (or_cases (bit_at mask r == 0) (list_any (λ k. is_destination (class_at code k) r) (range_with_len at n))
    (list_all-range_elim
    (λ j. bit_at mask j == 0 || list_any (λ k. is_destination (class_at code k) j) (range_with_len at n)) 0 31 r t
    (omega arith) (omega arith)))

is_covers_between : (code : List ℕ) (mask at to n : ℕ) → at + n ≡ to → Covers code mask at to
    → covers_between code mask at n ≡ true
unfolding covers_between is_destination_between
is_covers_between code mask at to n e c =
    list_all-range_intro
    (λ j. bit_at mask j == 0 || list_any (λ k. is_destination (class_at code k) j) (range_with_len at n)) 0
    31
    (λ r low high. ⊎_elim
    (λ (none : bit_at mask r ≡ 0). or_left (bit_at mask r == 0)
    (list_any (λ k. is_destination (class_at code k) r) (range_with_len at n)) (eq-eqb (bit_at mask r) 0 none))
    (λ (some : bit_at mask r ≡ 0 → ⊥).
    let two = bit_at-lt mask r in
    let has : bit_at mask r ≡ 1 = omega arith in
    let w = c r (omega arith) has in
    let below : w.0 < to = w.2 in
    or_right (bit_at mask r == 0) (list_any (λ k. is_destination (class_at code k) r) (range_with_len at n))
    (list_any-of_range (λ k. is_destination (class_at code k) r) at n w.0 w.1 (omega arith)
    (trap_rc-is_destination (class_at code w.0) r w.3)))
    (cases_eq (bit_at mask r) 0))

-- ---- the test is the relation

pub fits_Fits : (code : List ℕ) (mask at to : ℕ) → at < to → fits code mask at to ≡ true → Fits code mask at to
unfolding fits straight_between is_destination_between covers_between
fits_Fits code mask at to below t =
    let q = and_parts (is_some (trap_rc (class_at code at)))
    (straight_between code at (to - at) && covers_between code mask at (to - at)) t in
    let s = and_parts (straight_between code at (to - at)) (covers_between code mask at (to - at)) q.1 in
    let e : at + (to - at) ≡ to = omega arith in
    record {
      before = below;
      trigger = has_rc_trigger (class_at code at) q.0;
      covers = covers_is code mask at to (to - at) e s.1;
      straight = straight_is code at to (to - at) e s.0;
    }

pub Fits_fits : (code : List ℕ) (mask at to : ℕ) → Fits code mask at to → fits code mask at to ≡ true
unfolding fits straight_between is_destination_between covers_between
Fits_fits code mask at to f =
    let below : at < to = f.before in
    let e : at + (to - at) ≡ to = omega arith in
    and_from (is_some (trap_rc (class_at code at)))
    (straight_between code at (to - at) && covers_between code mask at (to - at))
    (trigger_has_rc (class_at code at) f.trigger)
    (and_from (straight_between code at (to - at)) (covers_between code mask at (to - at))
    (is_straight_between code at to (to - at) e f.straight)
    (is_covers_between code mask at to (to - at) e f.covers))

pub Fits-false : (code : List ℕ) (mask at to : ℕ) → (Fits code mask at to → ⊥) → at < to → fits code mask at to ≡ false
Fits-false code mask at to n below =
    false_from_ne_true (fits code mask at to) (λ t. n (fits_Fits code mask at to below t))

-- ---- the scan

-- where the greatest place that fits is known
pub greatest-is : (code : List ℕ) (mask at to : ℕ) → Fits code mask at to → ((k : ℕ) → Fits code mask k to → k ≤ at)
    → greatest_below (λ k. fits code mask k to) to ≡ Some at
greatest-is code mask at to f most =
    greatest_below-some (λ k. fits code mask k to) to at f.before (Fits_fits code mask at to f)
    (λ k above below. Fits-false code mask k to (λ g. let low = most k g in absurd (omega arith)) below)

pub scan_at-is : (code : List ℕ) (mask at to : ℕ) → 0 < mask → Fits code mask at to
    → ((k : ℕ) → Fits code mask k to → k ≤ at)
    → scan_at code mask (Some to) ≡ Some at
scan_at-is code mask at to some f most = by (mask == 0) refl
  where
    by : (b : Bool) → (mask == 0) ≡ b → cond b None (greatest_below (λ k. fits code mask k to) to) ≡ Some at
    by true t = let none = eqb-true mask 0 t in absurd (omega arith)
    by false t = greatest-is code mask at to f most

pub scan-is : (image : Parts) (pc mask at : ℕ) → Finds image pc mask at → scan image pc mask ≡ Some at
scan-is image pc mask at f =
    ap (scan_at image.words mask) f.reported ∙ scan_at-is image.words mask at f.to f.some f.fits f.greatest

found_at : (image : Parts) (pc mask at : ℕ) (o : Option ℕ) → place_or_end image pc ≡ o
    → scan_at image.words mask o ≡ Some at → Finds image pc mask at
found_at image pc mask at None is e = cc
found_at image pc mask at (Some to) is e = by (mask == 0) refl e
  where
    by : (b : Bool) → (mask == 0) ≡ b → cond b None (greatest_below (λ k. fits image.words mask k to) to) ≡ Some at
        → Finds image pc mask at
    by true t f = cc
    by false t f =
        let g = greatest_below-is (λ k. fits image.words mask k to) to at f in
        let some : mask ≡ 0 → ⊥ = λ z. (let y = eq-eqb mask 0 z in cc) in
        record {
          some = omega arith;
          to = to;
          reported = is;
          fits = fits_Fits image.words mask at to g.below g.passes;
          greatest = λ k h. ⊎_elim
              (λ (above : at < k). let no_fit = g.above k above h.before in
              let fit = Fits_fits image.words mask k to h in
              cc)
              (λ (low : k ≤ at). low)
              (cases_lt at k);
        }

pub scan-Finds : (image : Parts) (pc mask at : ℕ) → scan image pc mask ≡ Some at → Finds image pc mask at
scan-Finds image pc mask at e = found_at image pc mask at (place_or_end image pc) refl e

-- an answer that is the scan's

pub scan-IfSome : (image : Parts) (pc mask : ℕ) (o : Option ℕ) → o ≡ scan image pc mask
    → IfSome o (λ at. Finds image pc mask at)
scan-IfSome image pc mask None e = tt
scan-IfSome image pc mask (Some at) e = scan-Finds image pc mask at (sym e)

pub scan-IfNone : (image : Parts) (pc mask : ℕ) (o : Option ℕ) → o ≡ scan image pc mask
    → IfNone o ((at : ℕ) → Finds image pc mask at → ⊥)
scan-IfNone image pc mask None e = λ at f. let g = e ∙ scan-is image pc mask at f in cc
scan-IfNone image pc mask (Some at) e = tt

-- the scan at a place, with registers
pub scan-at : (image : Parts) (pc mask to : ℕ) → mask ≢ 0 → place_or_end image pc ≡ Some to
    → scan image pc mask ≡ greatest_below (λ at. fits image.words mask at to) to
scan-at image pc mask to some is = ap (scan_at image.words mask) is ∙ by (mask == 0) refl
  where
    by : (b : Bool) → (mask == 0) ≡ b
        → cond b None (greatest_below (λ at. fits image.words mask at to) to)
        ≡ greatest_below (λ at. fits image.words mask at to) to
    by true t = absurd (some (eqb-true mask 0 t))
    by false t = refl

-- so the greatest place that fits below a report's place is the scan's
pub walked-scan : (image : Parts) (pc mask to : ℕ) (o : Option ℕ) → mask ≢ 0 → place_or_end image pc ≡ Some to
    → o ≡ greatest_below (λ at. fits image.words mask at to) to
    → o ≡ scan image pc mask
walked-scan image pc mask to o some is walked = walked ∙ sym (scan-at image pc mask to some is)

-- a trigger whose destination is in the mask and is that of no trigger behind it
pub scan-last : (image : Parts) (pc mask at to rc : ℕ) → place_or_end image pc ≡ Some to → at < to
    → trap_rc (class_at image.words at) ≡ Some rc
    → rc < 31 → Has mask rc → Covers image.words mask at to → Straight image.words at to
    → ((k : ℕ) → at < k → k < to → trap_rc (class_at image.words k) ≢ Some rc) → scan image pc mask ≡ Some at
scan-last image pc mask at to rc is below named small has covered straight last =
    let some : mask ≢ 0 = λ none. (let no_bit = ap (λ m. bit_at m rc) none ∙ bit_at-zero rc in absurd (omega arith)) in
    scan-is image pc mask at (record {
      some = omega arith;
      to = to;
      reported = is;
      fits = record {
        before = below;
        trigger = has_rc_trigger (class_at image.words at) (ap is_some named);
        covers = covered;
        straight = straight;
      };
      greatest = λ k f. ⊎_elim
          (λ (above : at < k). let w = f.covers rc small has in
          let low : k ≤ w.0 = w.1 in
          absurd (last w.0 (omega arith) w.2 w.3))
          (λ (q : k ≤ at). q)
          (cases_lt at k);
    })
