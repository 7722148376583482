-- Places of a good image: their classes, their addresses, and what the scan finds.
use Rattle.std.proofs.Common.{◌≡◌, ◌≢◌, ◌<◌, ◌≤◌, ◌+◌, ◌*◌, ◌%◌, ◌^◌, ◌==◌, ℕ, Bool, true, false, cond, ◌-◌, is_some}
use Rattle.std.proofs.Common.{List, length, Option, Some, None, refl, sym, ap, ◌∙◌, ⊎_elim, arith, option_and_then}
use Rattle.std.proofs.lemmas.Bool.{cases_lt, eqb-true, eq-eqb}
use Rattle.alpha_table.specs.Class.{Class}
use Rattle.alpha_table.specs.Code.{class_at}
use Rattle.alpha_image.specs.Parts.{Parts, IsImage, place_of}
use Rattle.alpha_image.proofs.CodePlaces.{place_of-code}
use Rattle.alpha_seq.specs.State.{Program}
use Rattle.alpha_seq.specs.Step.{next_class}
use Rattle.alpha_trap.specs.Scan.{scan, place_or_end}
use Rattle.alpha_trap.proofs.ScanRelation.{scan-last}
use Rattle.alpha_imprecise.specs.Step.{address_at}
use Rattle.alpha_imprecise.specs.StepResult.{StepResult}
use Rattle.alpha_restart.specs.Safe.{IsSafe, is_steady}
use Rattle.alpha_restart.specs.Invariant.{Trail}
use Rattle.alpha_restart.proofs.CodeWordBounds.{class_within}
use Rattle.alpha_restart.proofs.Shadows.{Steady-Straight}
use Rattle.alpha_trap.proofs.ClassTests.{has_rc_trigger}
use Rattle.alpha_shadow.proofs.WordColumns.{class_at-past_end}

module _ (image : Parts) (good : IsImage image) where
  pub place_within : (k : ℕ) → k < length image.words → place_of image (address_at image k) ≡ Some k
  place_within k low = (place_of-code image good (address_at image k) k).1 (low, refl)

  pub place_past : (k : ℕ) → length image.words ≤ k → place_of image (address_at image k) ≡ None
  place_past k far = by (place_of image (address_at image k)) refl
    where
      by : (o : Option ℕ) → place_of image (address_at image k) ≡ o → o ≡ None
      by None e = refl
      by (Some n) e = let at = (place_of-code image good (address_at image k) n).0 e in absurd (omega arith)

  -- the class of the word at a place's address
  pub class_there : (k : ℕ)
      → option_and_then (class_at image.words) (place_of image (address_at image k)) ≡ class_at image.words k
  class_there k = ⊎_elim
      (λ (low : k < length image.words). ap (option_and_then (class_at image.words)) (place_within k low))
      (λ (far : length image.words ≤ k). ap (option_and_then (class_at image.words)) (place_past k far)
      ∙ sym (class_at-past_end image.words k far))
      (cases_lt k (length image.words))

  -- the address behind a word
  pub next_address : (k : ℕ) → k < length image.words → (address_at image k + 4) % 2 ^ 64 ≡ address_at image (k + 1)
  next_address k low = let fit = good.fields.words.2 in omega arith

  -- the place of an address up to the end of the code
  pub place_to_end : (k : ℕ) → k ≤ length image.words → place_or_end image (address_at image k) ≡ Some k
  place_to_end k low = by (address_at image k == image.code_base + 4 * length image.words) refl
    where
      by : (b : Bool) → (address_at image k == image.code_base + 4 * length image.words) ≡ b
          → cond b (Some (length image.words)) (place_of image (address_at image k)) ≡ Some k
      by true t =
          let same = eqb-true (address_at image k) (image.code_base + 4 * length image.words) t in
          ap Some (omega arith)
      by false t =
          let apart : address_at image k ≢ image.code_base + 4 * length image.words =
          λ e. (let y = eq-eqb (address_at image k) (image.code_base + 4 * length image.words) e in cc) in
          place_within k (omega arith)

-- the class of the next word at a place's address
pub next_class-class_at : (g : Program) → IsImage g.image → (k pc : ℕ) → pc ≡ address_at g.image k
    → next_class g pc ≡ class_at g.image.words k
next_class-class_at g good k pc e = ap (next_class g) e ∙ class_there g.image good k

-- a word with a class stands in the code
pub steady_within : (code : List ℕ) (k : ℕ) → is_steady (class_at code k) ≡ true → k < length code
steady_within code k e = by (class_at code k) refl e
  where
    by : (o : Option Class) → class_at code k ≡ o → is_steady o ≡ true → k < length code
    by None f s = cc
    by (Some class) f s = class_within code k class f

-- the scan from a pending trap's report finds its trigger
pub trail_scan : (g : Program) (place at : ℕ) (w : StepResult) → IsImage g.image → IsSafe g.image.words
    → (h : Trail g place at w)
    → scan g.image w.state.pc h.mask ≡ Some place
trail_scan g place at w good safe h =
    let above = h.above in
    let back : at - 1 + 1 ≡ at = omega arith in
    let last = steady_within g.image.words (at - 1) (h.steady (at - 1) (omega arith) (omega arith)) in
    ap (λ pc. scan g.image pc h.mask) h.pc
    ∙ scan-last g.image (address_at g.image at) h.mask place at h.rc
    (place_to_end g.image good at (omega arith)) h.above h.destination h.counted h.has h.covers
    (Steady-Straight g.image.words place at h.steady)
    (λ k low high. safe.same place k h.rc (record {
      trigger_kind = has_rc_trigger (class_at g.image.words place) (ap is_some h.destination);
      order = omega arith;
      straight = Steady-Straight g.image.words place k (λ j a b. h.steady j a (omega arith));
    }) low h.destination)
