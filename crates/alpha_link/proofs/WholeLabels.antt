-- The labels that a module's lines define and name are whole.
use Rattle.std.proofs.Common.{ℕ, ◌+◌, List, [], ◌∷◌, ◌++◌, map, Option, None, Some}
use Rattle.std.specs.Prelude.{IsTrue, IfSome}
use Rattle.std.specs.Option.{option_map, option_and_then}
use Rattle.std.specs.List.{AllByRecursion, filter_map, flat_map, cons_option}
use Rattle.alpha_text.specs.References.{IsLabel}
use Rattle.alpha_text.specs.Reading.{LineStmt}
use Rattle.alpha_asm.specs.declared.statement.RelocField.{RelocField}
use Rattle.alpha_asm.specs.Statement.{Reference, InsnStmt, coded, Cell, number, address, cells}
use Rattle.alpha_asm.specs.Layout.{Place, placed, place_after}
use Rattle.alpha_asm.specs.Program.{Name, name, by_insn, list_of, insn_name, insn_names, cell_name, entry_names}
use Rattle.alpha_asm.specs.Program.{names_in}
use Rattle.alpha_asm.specs.Unlinked.{IsAddress, takes, IsReached, IsCell, IsUnlinked}
use Rattle.alpha_link.specs.Made.{labels_in, references_in}
use Rattle.alpha_link.proofs.FixChains.{no_names}

all_append : {A : Type 0} (P : A → Type 0) (xs ys : List A) → AllByRecursion P xs → AllByRecursion P ys
    → AllByRecursion P (xs ++ ys)
all_append P [] ys a b = b
all_append P (x ∷ xs) ys (here, a) b = (here, all_append P xs ys a b)

all_map : {A B : Type 0} (P : B → Type 0) (f : A → B) (xs : List A) → AllByRecursion (λ x. P (f x)) xs
    → AllByRecursion P (map f xs)
all_map P f [] a = tt
all_map P f (x ∷ xs) (here, a) = (here, all_map P f xs a)

one_more : (o : Option (List ℕ)) (rest : List (List ℕ)) → IfSome o (IsLabel 1024) → AllByRecursion (IsLabel 1024) rest
    → AllByRecursion (IsLabel 1024) (cons_option o rest)
one_more None rest h all = all
one_more (Some l) rest h all = (h, all)

labels_well : (p : Place) (n : ℕ) (is : List LineStmt) → AllByRecursion IsUnlinked is
    → AllByRecursion (IsLabel 1024) (labels_in (placed p n is))
labels_well p n [] all = tt
labels_well p n (i ∷ is) (a, all) =
    one_more i.label (labels_in (placed (place_after p i.statement) (n + 1) is)) a.label
    (labels_well (place_after p i.statement) (n + 1) is all)

-- an address names a whole label
abbrev NamesWell : Name → Type 0
NamesWell n = IsLabel 1024 n.reference.label

reach_named : (line words : ℕ) (c : InsnStmt) (r : Option (RelocField × Reference))
    → IfSome r (λ r. IsTrue (takes r.0 c.insn) × IsAddress r.1)
    → AllByRecursion NamesWell (list_of (option_map (λ r. name line r.1 (by_insn r.0 words)) r))
reach_named line words c None h = tt
reach_named line words c (Some r) (takes, (label, offset)) = (label, tt)

insn_named : (line words : ℕ) (o : Option InsnStmt) → IfSome o IsReached
    → AllByRecursion NamesWell (list_of (option_and_then (insn_name line words) o))
insn_named line words None h = tt
insn_named line words (Some c) h = reach_named line words c c.reach h

cells_named : (line : ℕ) (cs : List Cell) → AllByRecursion IsCell cs
    → AllByRecursion NamesWell (filter_map (cell_name line) cs)
cells_named line [] all = tt
cells_named line (number bytes value ∷ cs) (a, all) = cells_named line cs all
cells_named line (address r ∷ cs) ((label, offset), all) = (label, cells_named line cs all)

names_well : (p : Place) (n : ℕ) (is : List LineStmt) → AllByRecursion IsUnlinked is
    → AllByRecursion NamesWell (flat_map names_in (placed p n is))
names_well p n [] all = tt
names_well p n (i ∷ is) (a, all) =
    let entries : AllByRecursion NamesWell (entry_names n i.statement) = rw (no_names n i.statement a.entry) tt in
    all_append NamesWell
    (insn_names n p.words i.statement ++ (filter_map (cell_name n) (cells i.statement) ++ entry_names n i.statement))
    (flat_map names_in (placed (place_after p i.statement) (n + 1) is))
    (all_append NamesWell (insn_names n p.words i.statement)
    (filter_map (cell_name n) (cells i.statement) ++ entry_names n i.statement)
    (insn_named n p.words (coded i.statement) a.insn)
    (all_append NamesWell (filter_map (cell_name n) (cells i.statement)) (entry_names n i.statement)
    (cells_named n (cells i.statement) a.cells) entries))
    (names_well (place_after p i.statement) (n + 1) is all)

pub IsLabel-all_names : (p : Place) (n : ℕ) (is : List LineStmt) → AllByRecursion IsUnlinked is
    → AllByRecursion (IsLabel 1024) (labels_in (placed p n is) ++ references_in (placed p n is))
IsLabel-all_names p n is all =
    all_append (IsLabel 1024) (labels_in (placed p n is)) (references_in (placed p n is)) (labels_well p n is all)
    (all_map (IsLabel 1024) (λ (n : Name). n.reference.label) (flat_map names_in (placed p n is))
    (names_well p n is all))
