-- The scan: from the address where a late trap was reported, and the registers that it may have spoilt, back to the
-- instruction that made it.
use Rattle.std.specs.Prelude.{◌+◌, ◌-◌, ◌*◌, ℕ, zero, suc, Bool, true, false, ◌==◌, ◌&&◌, ◌||◌, if◌then◌else◌, Option}
use Rattle.std.specs.Prelude.{Some, None, is_some, List, length}
use Rattle.std.specs.Int.{bit_at}
use Rattle.std.specs.List.{list_all, list_any, range_with_len}
use Rattle.std.specs.Option.{option_map_or}
use Rattle.alpha_table.specs.declared.columns.InsnKind.{InsnKind}
use Rattle.alpha_table.specs.declared.columns.InsnKind.TheVariants as kinds
use Rattle.alpha_table.specs.Class.{Class}
use Rattle.alpha_table.specs.Code.{class_at, kind, trap_rc}
use Rattle.alpha_image.specs.Parts.{Parts, place_of}

-- the place of the word at an address, or one past the last place for the address behind the code
abbrev pub place_or_end : Parts → ℕ → Option ℕ
place_or_end image pc =
    if pc == image.code_base + 4 * length image.words then Some (length image.words) else place_of image pc

-- neither a barrier nor a turn
abbrev pub runs_on : InsnKind → Bool
runs_on kinds.Barrier = false
runs_on kinds.Turn = false
runs_on kind = true

-- whether the word runs straight on
abbrev pub is_straight : Option Class → Bool
is_straight c = option_map_or runs_on (kind c) true

-- whether the word is a trigger with this destination
abbrev pub is_destination : Option Class → ℕ → Bool
is_destination c r = option_map_or (λ rc. rc == r) (trap_rc c) false

-- whether the word at a place fits a report at another, which is behind it
unfoldable pub fits : List ℕ → ℕ → ℕ → ℕ → Bool
fits code mask at to =
    let between = range_with_len at (to - at) in
    is_some (trap_rc (class_at code at))
    && (list_all (λ k. is_straight (class_at code k)) between
    && list_all (λ r. bit_at mask r == 0 || list_any (λ k. is_destination (class_at code k) r) between)
    (range_with_len 0 31))

-- the greatest number below a limit that passes a test
unfoldable pub greatest_below : (ℕ → Bool) → ℕ → Option ℕ
greatest_below test zero = None
greatest_below test (suc n) = if test n then Some n else greatest_below test n

abbrev pub scan_at : List ℕ → ℕ → Option ℕ → Option ℕ
scan_at code mask None = None
scan_at code mask (Some to) = if mask == 0 then None else greatest_below (λ at. fits code mask at to) to

-- the place of the word that made the trap, by the address of the report and the mask
abbrev pub scan : Parts → ℕ → ℕ → Option ℕ
scan image pc mask = scan_at image.words mask (place_or_end image pc)
