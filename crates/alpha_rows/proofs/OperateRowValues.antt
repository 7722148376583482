-- Operate rows.
use Rattle.std.proofs.Common.{◌≡◌, ℕ, Option, Some, None}
use Rattle.std.specs.Prelude.{IfSome}

pub if_some_equal : (r x : Option ℕ) → r ≡ x → IfSome r (λ v. Some v ≡ x)
if_some_equal (Some v) x e = e
if_some_equal None x e = tt
