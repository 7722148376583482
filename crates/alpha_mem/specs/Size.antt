-- How many bytes an access has.
use Rattle.std.specs.Prelude.{ℕ}
use Rattle.alpha_mem.specs.declared.access.Size.{Size}
use Rattle.alpha_mem.specs.declared.access.Size.TheVariants.{B1, B2, B4, B8}

abbrev pub size_of : Size → ℕ
size_of B1 = 1
size_of B2 = 2
size_of B4 = 4
size_of B8 = 8
