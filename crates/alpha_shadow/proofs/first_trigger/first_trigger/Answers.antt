use Rattle.std.proofs.Common.{◌≡◌, ◌≤◌, ◌<◌, Some, length, slice_get, ⊎_elim, ap, ◌∙◌, subst, arith}
use Rattle.std.proofs.lemmas.Bool.{cases_lt}
use Rattle.std.proofs.lemmas.Option.{slice_get_past, get_or_from_slice_get}
use Rattle.alpha_table.specs.Columns.{kind_of}
use Rattle.alpha_shadow.proofs.first_trigger.first_trigger.Goals as goal

pub loop-place-preserved : goal.loop-place-preserved
loop-place-preserved c =
    let insns = c.args.insns.now in
    let at = c.loop-place.place in
    let x = c.index-insns-place.result in
    let loud = c.if-is_trigger.false in
    λ k i above below there trigger. ⊎_elim
    (λ (l : k < at). c.loop-place.invariant k i above l there trigger)
    (λ (l : at ≤ k).
    let e : k ≡ at = omega arith in
    let here = subst (λ m. slice_get insns m ≡ Some i) e there in
    let same : x ≡ i = c.index-insns-place.is ∙ get_or_from_slice_get insns at i x here in
    let set = c.is_trigger.ensures.1 (ap kind_of same ∙ trigger) in
    cc)
    (cases_lt k at)

pub returns-clause-trigger : goal.returns-clause-trigger
returns-clause-trigger c =
    λ i there. let past = slice_get_past c.args.insns.now (length c.args.insns.now) (omega arith) in
    cc
