-- What the lines of a module's source make grows with each of them, and their labels stand within it.
use Rattle.std.proofs.Common.{◌≡◌, ℕ, ◌+◌, ◌≤◌, List, [], ◌∷◌, length, Bool, true, false, cond, Option, None, Some}
use Rattle.std.proofs.Common.{is_some, refl, length-append, arith}
use Rattle.std.specs.Prelude.{IfSome}
use Rattle.std.specs.Option.{option_map_or, option_or}
use Rattle.std.specs.List.{flat_map, AllByRecursion}
use Rattle.alpha_table.specs.declared.form.Form.{Form}
use Rattle.alpha_text.specs.Statements.{Stmt}
use Rattle.alpha_text.specs.Reading.{LineStmt}
use Rattle.alpha_image.specs.Rules.{size_of_segment}
use Rattle.alpha_asm.specs.declared.place.Section.{Section}
use Rattle.alpha_asm.specs.declared.place.Section.TheVariants as sides
use Rattle.alpha_asm.specs.declared.place.LabelLocation.{LabelLocation}
use Rattle.alpha_asm.specs.declared.place.LabelLocation.TheVariants.{Code, Data}
use Rattle.alpha_asm.specs.Statement.{InsnStmt, coded, data_size, segment_in}
use Rattle.alpha_asm.specs.Layout.{Place, Placed, placed, place_after, behind_all, filled_pad, location, location_in}
use Rattle.alpha_asm.specs.Layout.{location_of}
use Rattle.alpha_asm.specs.Layout.{has_label}
use Rattle.alpha_asm.specs.Patches.{raw_insns, raw_bytes}
use Rattle.alpha_asm.specs.Unlinked.{IsUnlinked}
use Rattle.alpha_asm.proofs.NextItem.{length-raw_bytes}

-- the instructions of items
abbrev pub insns_of : List Placed → List Form
insns_of xs = flat_map (λ x. raw_insns x.item.statement) xs

pub place_after-insn_count : (p : Place) (s : Stmt) → (place_after p s).words ≡ p.words + length (raw_insns s)
place_after-insn_count p s = by (coded s)
  where
    by : (o : Option InsnStmt)
        → p.words + cond {A = ℕ} (is_some o) 1 0 ≡ p.words + length (option_map_or (λ c. c.insn ∷ []) o [])
    by None = refl
    by (Some c) = refl

pub behind_all-insn_count : (p : Place) (n : ℕ) (is : List LineStmt)
    → (behind_all p is).words ≡ p.words + length (insns_of (placed p n is))
behind_all-insn_count p n [] = omega arith
behind_all-insn_count p n (i ∷ is) =
    omega (
      arith,
      behind_all-insn_count (place_after p i.statement) (n + 1) is,
      place_after-insn_count p i.statement,
      length-append (raw_insns i.statement) (insns_of (placed (place_after p i.statement) (n + 1) is)),
    )

pub place_after-filled : (p : Place) (s : Stmt) → segment_in s ≡ None
    → (place_after p s).last.filled ≡ p.last.filled + (data_size s + filled_pad p s)
place_after-filled p s e = rw e refl

size_behind : (p : Place) (s : Stmt) → segment_in s ≡ None
    → size_of_segment p.last ≤ size_of_segment (place_after p s).last
size_behind p s e = rw e (omega arith)

pub filled_all : (p : Place) (n : ℕ) (is : List LineStmt) → AllByRecursion IsUnlinked is
    → (behind_all p is).last.filled ≡ p.last.filled + length (flat_map raw_bytes (placed p n is))
filled_all p n [] all = omega arith
filled_all p n (i ∷ is) (a, all) =
    let x : Placed = record { place = p; line = n; item = i } in
    let rest = placed (place_after p i.statement) (n + 1) is in
    omega (
      arith,
      filled_all (place_after p i.statement) (n + 1) is all,
      place_after-filled p i.statement a.segment,
      length-raw_bytes x,
      length-append (raw_bytes x) (flat_map raw_bytes rest),
    )

size_all : (p : Place) (is : List LineStmt) → AllByRecursion IsUnlinked is
    → size_of_segment p.last ≤ size_of_segment (behind_all p is).last
size_all p [] all = omega arith
size_all p (i ∷ is) (a, all) =
    omega (arith, size_behind p i.statement a.segment, size_all (place_after p i.statement) is all)

-- a spot is within what stands before a place
abbrev pub IsWithinPlace : Place → LabelLocation → Type 0
IsWithinPlace e (Code words) = words ≤ e.words
IsWithinPlace e (Data segment offset) = offset ≤ size_of_segment e.last

here_within : (p : Place) (is : List LineStmt) → AllByRecursion IsUnlinked is
    → IsWithinPlace (behind_all p is) (location p)
here_within p is all = by p.section
  where
    by : (s : Section) → IsWithinPlace (behind_all p is) (location_in s p)
    by sides.Code = omega (arith, behind_all-insn_count p 0 is)
    by sides.Data = size_all p is all

pub locations_within : (name : List ℕ) (p : Place) (n : ℕ) (is : List LineStmt) → AllByRecursion IsUnlinked is
    → IfSome (location_of (placed p n is) name) (IsWithinPlace (behind_all p is))
locations_within name p n [] all = tt
locations_within name p n (i ∷ is) (a, all) =
    by (has_label name i.label) (here_within p (i ∷ is) (a, all))
    (locations_within name (place_after p i.statement) (n + 1) is all)
  where
    by : (b : Bool) → IsWithinPlace (behind_all p (i ∷ is)) (location p)
        → IfSome (location_of (placed (place_after p i.statement) (n + 1) is) name)
        (IsWithinPlace (behind_all p (i ∷ is)))
        → IfSome
        (option_or (cond b (Some (location p)) None) (location_of (placed (place_after p i.statement) (n + 1) is) name))
        (IsWithinPlace (behind_all p (i ∷ is)))
    by true here rest = here
    by false here rest = rest
