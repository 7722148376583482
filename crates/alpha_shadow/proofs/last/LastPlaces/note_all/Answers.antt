use Rattle.std.proofs.Common.{◌≡◌, ◌<◌, ◌≤◌, ◌∙◌, ℕ, ap, arith, refl, sym, ⊎_elim}
use Rattle.std.specs.Int.{bit_at}
use Rattle.std.proofs.lemmas.Nat.{and_le_l}
use Rattle.std.proofs.lemmas.Bool.{cases_lt}
use Rattle.alpha_words.specs.Regs.{Has}
use Rattle.alpha_words.proofs.SetMembers.{covers-members}
use Rattle.alpha_shadow.proofs.last.LastPlaces.note_all.Goals as goal

-- a set without one of its members has a smaller number
fewer : (rest after r : ℕ) → Has rest r → (Has after r → ⊥) → ((k : ℕ) → Has after k → Has rest k) → after < rest
fewer rest after r has not all =
    let e = (covers-members rest after).1 all in
    let le = and_le_l rest after in
    ⊎_elim (λ (p : after < rest). p)
    (λ (p : rest ≤ after). let same : rest ≡ after = omega arith in
    absurd (not (ap (λ n. bit_at n r) (sym same) ∙ has)))
    (cases_lt after rest)

pub loop-r-smaller : goal.loop-r-smaller
loop-r-smaller c =
    let w = c.without-rest.ensures in
    fewer c.loop-r.rest c.without-rest.result c.in-Some.r c.in-Some.ensures.found (λ h. (((w c.in-Some.r).0 h).1) refl)
    (λ k h. ((w k).0 h).0)
