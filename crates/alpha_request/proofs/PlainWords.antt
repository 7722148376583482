-- What plain words ask for.
use Rattle.std.proofs.Common.{◌≡◌, ◌==◌, ℕ, false, List, [], ◌∷◌, Some, codes, refl}
use Rattle.std.proofs.lemmas.Bool.{ne_eqb}
use Rattle.clap.proofs.OnLiterals.{clap_on_literals}
use Rattle.alpha_request.specs.Origin.{seed}
use Rattle.alpha_request.specs.Command.{check, run, imprecise}
use Rattle.alpha_request.specs.Asked.{asked, asked_as}
use Rattle.alpha_request.specs.Matched.{matches_on}
use Rattle.alpha_request.specs.Plain.{IsPlain, defaults}

check_by : (x : ℕ) (xs : List ℕ) → (x == 45) ≡ false → asked (codes "check" ∷ (x ∷ xs) ∷ []) ≡ Some (check (x ∷ xs))
unfolding clap_on_literals asked_as matches_on
check_by x xs e = simp (e) refl

pub plain_check : (file : List ℕ) → IsPlain file → asked (codes "check" ∷ file ∷ []) ≡ Some (check file)
unfolding clap_on_literals asked_as matches_on
plain_check [] plain = refl
plain_check (x ∷ xs) plain = check_by x xs (ne_eqb x 45 plain)

run_by : (x : ℕ) (xs : List ℕ) → (x == 45) ≡ false → asked (codes "run" ∷ (x ∷ xs) ∷ []) ≡ Some (run defaults (x ∷ xs))
unfolding clap_on_literals asked_as matches_on
run_by x xs e = rw e (rw e refl)

pub plain_run : (file : List ℕ) → IsPlain file → asked (codes "run" ∷ file ∷ []) ≡ Some (run defaults file)
unfolding clap_on_literals asked_as matches_on
plain_run [] plain = refl
plain_run (x ∷ xs) plain = run_by x xs (ne_eqb x 45 plain)

imprecise_by : (x : ℕ) (xs : List ℕ) → (x == 45) ≡ false
    → asked (codes "run" ∷ codes "--imprecise" ∷ (x ∷ xs) ∷ []) ≡ Some (imprecise defaults (seed 0) false (x ∷ xs))
unfolding clap_on_literals asked_as matches_on
imprecise_by x xs e = rw e (rw e refl)

pub plain_imprecise : (file : List ℕ) → IsPlain file
    → asked (codes "run" ∷ codes "--imprecise" ∷ file ∷ []) ≡ Some (imprecise defaults (seed 0) false file)
unfolding clap_on_literals asked_as matches_on
plain_imprecise [] plain = refl
plain_imprecise (x ∷ xs) plain = imprecise_by x xs (ne_eqb x 45 plain)
