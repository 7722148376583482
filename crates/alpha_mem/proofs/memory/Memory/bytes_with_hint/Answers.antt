use Rattle.std.proofs.Common.{◌≡◌, Some, None, position, refl, sym, ap, ◌∙◌, arith}
use Rattle.std.proofs.lemmas.Bool.{false≢true}
use Rattle.alpha_mem.specs.Memory.{bytes_at}
use Rattle.alpha_mem.proofs.BlockPlaces.{place-spans, place-spans-at_position, part-at_position, within-found}
use Rattle.alpha_mem.proofs.BlockPlaces.{within-missing}
use Rattle.alpha_mem.proofs.memory.Memory.bytes_with_hint.Goals as goal

pub returns-in_err-i-clause-none : goal.returns-in_err-i-clause-none
returns-in_err-i-clause-none c =
    let m = c.args.self.now in
    let same : c.as_slice-regions.result.now ≡ m = c.as_slice-regions.ensures.value ∙ c.self.view_is in
    let gone : position (place-spans c.args.addr c.args.len) m ≡ None =
    ap (position (place-spans c.args.addr c.args.len)) (sym same) ∙ sym c.in_err-i.ensures in
    rw c.from_residual.ensures (
      λ h. absurd (false≢true h),
      λ h. absurd (false≢true (sym (within-missing m c.args.addr c.args.len (λ e. omega arith) gone) ∙ h)),
    )

pub part-requires : goal.part-requires
part-requires c = place-spans-at_position _ _ _ _ _ (sym c.in_ok-i.ensures) c.index-regions-i.is

pub returns-clause-none : goal.returns-clause-none
returns-clause-none c =
    let m = c.args.self.now in
    let same : c.as_slice-regions.result.now ≡ m = c.as_slice-regions.ensures.value ∙ c.self.view_is in
    let found : position (place-spans c.args.addr c.args.len) m ≡ Some c.in_ok-i.i =
    ap (position (place-spans c.args.addr c.args.len)) (sym same) ∙ sym c.in_ok-i.ensures in
    (λ h. within-found m c.args.addr c.args.len c.in_ok-i.i (λ e. omega arith) found, λ h. refl)

pub returns-clause-found : goal.returns-clause-found
returns-clause-found c =
    let same : c.as_slice-regions.result.now ≡ c.args.self.now = c.as_slice-regions.ensures.value ∙ c.self.view_is in
    c.part.ensures
    ∙ (part-at_position _ _ _ _ _ (sym c.in_ok-i.ensures) c.index-regions-i.is
    ∙ ap (λ m. bytes_at m c.args.addr c.args.len) same)
