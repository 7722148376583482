use Rattle.std.proofs.Common.{◌≡◌, ◌≢◌, Some, ap, sym, subst, ◌∙◌, refl, ⊎_elim}
use Rattle.alpha_table.specs.declared.columns.InsnKind.TheVariants as kinds
use Rattle.alpha_shadow.specs.Code.{kind_at}
use Rattle.alpha_shadow.specs.Place.{IsLeastUpTo}
use Rattle.alpha_shadow.proofs.Barriers.{IsLeastUpTo-barrier}
use Rattle.alpha_shadow.proofs.place.broken_at.Goals as goal
use Rattle.alpha_shadow.proofs.place.broken_at.Goals.{in-Trigger, in-Plain, in-Turn, in-Load}

-- a barrier breaks nothing
pub returns-in-Barrier : goal.returns-in-Barrier
returns-in-Barrier c = λ code s u h. IsLeastUpTo-barrier code c.args.at (h.kind ∙ ap Some c.in-Barrier.is)

pub returns : goal.returns
returns c = λ code s u h.
    let at = c.args.at in
    let word = c.args.word.now in
    let k = h.kind in
    let before : IsLeastUpTo code at 8 c.match-word.found = elim c.match-word.branch [
      | in-Trigger w ↦ subst (IsLeastUpTo code at 8) (sym w.found-is) (w.broken_by_trigger-found.ensures code s u h)
      | in-Plain w ↦ subst (IsLeastUpTo code at 8) (sym w.found-is) (w.broken_by_register-found.ensures code s u h)
      | in-Turn w ↦ subst (IsLeastUpTo code at 8) (sym w.found-is) (w.broken_by_turn-found.ensures code s u h)
      | in-Load w ↦ subst (IsLeastUpTo code at 8) (sym w.found-is) (w.broken_by_access-found.ensures code s u h)
    ] in
    let other : kind_at code at ≢ Some kinds.Barrier = λ b. elim c.match-word.branch [
      | in-Trigger w ↦ let q = w.in-Trigger.is in cc
      | in-Plain w ↦ let q = w.in-Plain.is in cc
      | in-Turn w ↦ let q = w.in-Turn.is in cc
      | in-Load w ↦ ⊎_elim (λ (q : word.kind ≡ kinds.Load). cc)
          (⊎_elim (λ (q : word.kind ≡ kinds.Store). cc) (λ (q : word.kind ≡ kinds.Locked). cc)) w.in-Load.is
    ] in
    c.lesser_broken.ensures code 8 refl before (c.long_shadow.ensures code s u h.within other)
