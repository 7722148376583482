-- Choices by a test.
use Rattle.std.proofs.Common.{◌≡◌, Bool, true, false, cond, refl}

-- what holds of each of two choices holds of the one that is taken
pub cond-either : {A : Type 0} (P : A → Type 0) (x : Bool) (a b : A) → (x ≡ true → P a) → (x ≡ false → P b)
    → P (cond x a b)
cond-either P true a b one other = one refl
cond-either P false a b one other = other refl

-- what goes over from each of two choices to another goes over from the one that is taken
pub choose_both : {A : Type 0} (P : A → A → Type 0) (x : Bool) (a b c d : A) → P a c → P b d
    → P (cond x a b) (cond x c d)
choose_both P true a b c d one other = one
choose_both P false a b c d one other = other
