-- The instructions of a layout, in the order of its items.
use Rattle.std.proofs.Common.{◌≡◌, ℕ, ◌+◌, List, [], ◌∷◌, ◌++◌, refl, ap}
use Rattle.std.specs.List.{flat_map}
use Rattle.alpha_text.specs.Reading.{LineStmt}
use Rattle.alpha_asm.specs.Layout.{Place, placed, layout, start, place_after}
use Rattle.alpha_asm.specs.Patches.{raw_insns, insns_of}

placed-insns : (p : Place) (line : ℕ) (is : List LineStmt)
    → flat_map (λ x. raw_insns x.item.statement) (placed p line is) ≡ insns_of is
placed-insns p line [] = refl
placed-insns p line (i ∷ is) =
    ap (λ code. raw_insns i.statement ++ code) (placed-insns (place_after p i.statement) (line + 1) is)

-- the instructions of items stand in their order
pub layout-insns : (is : List LineStmt)
    → flat_map (λ x. raw_insns x.item.statement) (layout is) ≡ insns_of is
unfolding layout
layout-insns is = placed-insns start 1 is
