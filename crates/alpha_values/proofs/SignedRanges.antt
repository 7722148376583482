-- The signed ranges: a size makes another number of what lies outside its range.
use Rattle.std.proofs.Common.{◌≡◌, ℤ, Bool, true, false, refl, subst, FitsSigned}
use Rattle.std.specs.Prelude.{not}
use Rattle.std.specs.Bool.{FalseIff, Decides}
use Rattle.std.specs.Ordering.{int_eq}
use Rattle.std.specs.Int.{Width, int_wrap}
use Rattle.std.proofs.lemmas.Int.{SFits-int_wrap, int_wrap_fits}
use Rattle.std.proofs.lemmas.Bool.Decides.{Decides-int_eq}

overflow_by : (overflow same : Bool) (w : Width) (z : ℤ) → Decides same (int_wrap w z ≡ z)
    → FalseIff overflow (FitsSigned w z) → overflow ≡ not same
overflow_by true true w z e h = absurd (h (subst (FitsSigned w) (e.0 refl) (SFits-int_wrap w z)))
overflow_by true false w z e h = refl
overflow_by false true w z e h = refl
overflow_by false false w z e h = let same : false ≡ true = e.1 (int_wrap_fits w z h) in cc

-- a test of what lies outside the range of a size
pub overflow_out_of_range : (overflow : Bool) (w : Width) (z : ℤ) → FalseIff overflow (FitsSigned w z)
    → overflow ≡ not (int_eq (int_wrap w z) z)
overflow_out_of_range overflow w z h =
    overflow_by overflow (int_eq (int_wrap w z) z) w z (Decides-int_eq (int_wrap w z) z) h
