-- What the code that makes a module of a source rests on.
use Rattle.std.specs.Prelude.{◌≤◌, List}
use Rattle.std.specs.List.{AllByRecursion}
use Rattle.alpha_text.specs.Reading.{LineStmt}
use Rattle.alpha_asm.specs.declared.place.LabelLocation.{LabelLocation}
use Rattle.alpha_asm.specs.declared.place.LabelLocation.TheVariants.{Code, Data}
use Rattle.alpha_asm.specs.declared.unlinked.Unlinked.{Unlinked}
use Rattle.alpha_asm.specs.Unlinked.{IsUnlinkedOf, IsUnlinked}

-- it was made of lines of a module's source
abbrev pub IsOfLines : Unlinked → Type 0
IsOfLines u = (is : List LineStmt) × IsUnlinkedOf is u × AllByRecursion IsUnlinked is

-- a spot behind no more words or bytes than a module may have
abbrev pub IsNear : LabelLocation → Type 0
IsNear (Code words) = words ≤ 262144
IsNear (Data segment offset) = offset ≤ 16777216
