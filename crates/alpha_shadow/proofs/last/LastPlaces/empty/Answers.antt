use Rattle.std.proofs.Common.{◌≡◌, ℕ, zero, suc, slice_index, replicate, refl}
use Rattle.alpha_shadow.proofs.last.LastPlaces.empty.Goals as goal

-- past its end a list has 0 too
zeros : (n r : ℕ) → slice_index (replicate n 0) r ≡ 0
zeros zero r = refl
zeros (suc n) zero = refl
zeros (suc n) (suc r) = zeros n r

pub returns : goal.returns
returns c = zeros 32
