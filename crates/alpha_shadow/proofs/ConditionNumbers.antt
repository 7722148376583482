-- The conditions by their numbers.
use Rattle.std.proofs.Common.{◌≡◌, ℕ, ap, ◌∙◌, ◌==◌, if◌then◌else◌, refl, sym}
use Rattle.alpha_shadow.specs.declared.broken.Condition.{Condition}
use Rattle.alpha_shadow.specs.declared.broken.Condition.TheVariants.{ZeroDestination, SourceLost, SameDestination}
use Rattle.alpha_shadow.specs.declared.broken.Condition.TheVariants.{WildBase, LoadThenStore, Locked, Turn, Open, Long}
use Rattle.alpha_shadow.specs.Least.{condition_number}

-- the condition with a number
pub condition_of_number : ℕ → Condition
condition_of_number n =
    if n == 1 then ZeroDestination
    else (if n == 2 then SourceLost
    else (if n == 3 then SameDestination
    else (if n == 4 then WildBase
    else (if n == 5 then LoadThenStore
    else (if n == 6 then Locked
    else (if n == 7 then Turn
    else (if n == 8 then Open
    else Long)))))))

pub condition_of_number-condition_number : (c : Condition) → condition_of_number (condition_number c) ≡ c
unfolding condition_of_number
condition_of_number-condition_number ZeroDestination = refl
condition_of_number-condition_number c = refl

-- two conditions with one number are one
pub condition_number-injective : (c d : Condition) → condition_number c ≡ condition_number d → c ≡ d
condition_number-injective c d e =
    sym (condition_of_number-condition_number c) ∙ (ap condition_of_number e ∙ condition_of_number-condition_number d)
