-- What the lines of a module's source say, where none is refused.
use Rattle.std.proofs.Common.{◌≡◌, ℕ, ◌+◌, ◌≤◌, List, [], ◌∷◌, ◌++◌, length, map, Bool, true, false, cond, not, ◌||◌}
use Rattle.std.proofs.Common.{nat_lt, Option, None, Some, Result, Ok, Err, refl, sym, ap, ◌∙◌, subst, arith}
use Rattle.std.specs.Prelude.{IfSome}
use Rattle.std.specs.Option.{option_or}
use Rattle.std.specs.List.{AllByRecursion}
use Rattle.std.proofs.lemmas.Bool.{ltb-false}
use Rattle.alpha_table.specs.declared.form.Form.TheVariants.{Mem, Branch}
use Rattle.alpha_operands.specs.Values.{Listed, IsWholeList}
use Rattle.alpha_operands.specs.Values as listed
use Rattle.alpha_text.specs.declared.reader.LineFault.{LineFault}
use Rattle.alpha_text.specs.Statements.{Stmt}
use Rattle.alpha_text.specs.Statements as says
use Rattle.alpha_text.specs.References.{IsLabel, IsListedWell, RefersWell, IsWell}
use Rattle.alpha_text.specs.Reading.{LineStmt, read}
use Rattle.alpha_text.proofs.ItemLists.{list-whole}
use Rattle.alpha_text.proofs.References.{read-well}
use Rattle.alpha_asm.specs.declared.kind.SourceKind.TheVariants.{Module}
use Rattle.alpha_asm.specs.declared.fault.AsmFault.TheVariants.{Duplicate, Section, LongLine}
use Rattle.alpha_asm.specs.Statement.{coded, cells, cell_of, number, bytes_up_to, level_in, segment_in, entry_in}
use Rattle.alpha_asm.specs.Layout.{Place, layout, start, place_after, behind_all, end, fields, location_of}
use Rattle.alpha_asm.specs.Layout.{is_allowed_in_module}
use Rattle.alpha_asm.specs.Layout.{is_misplaced, repeats_field, repeats_label}
use Rattle.alpha_asm.specs.Assembled.{item_at, refused_read, refused, first_refused}
use Rattle.alpha_asm.specs.Unlinked.{IsReached, IsCell, IsUnlinked}
use Rattle.alpha_asm.proofs.StatementCells.{values_cells}
use Rattle.alpha_asm.proofs.RefusedReading.{option_or-None}

-- labels of a line are no longer than a longer one
label_within : (n m : ℕ) (name : List ℕ) → n ≤ m → IsLabel n name → IsLabel m name
label_within n m name h (whole, size) = (whole, omega arith)

if_label : (n m : ℕ) (l : Option (List ℕ)) → n ≤ m → IfSome l (IsLabel n) → IfSome l (IsLabel m)
if_label n m None h l = tt
if_label n m (Some name) h l = label_within n m name h l

listed_within : (n m : ℕ) (all : List Listed) → n ≤ m → AllByRecursion (IsListedWell n) all
    → AllByRecursion (IsListedWell m) all
listed_within n m [] h l = tt
listed_within n m (listed.number value ∷ all) h (a, l) = (tt, listed_within n m all h l)
listed_within n m (listed.label name offset ∷ all) h ((a, o), l) =
    ((label_within n m name h a, o), listed_within n m all h l)

refers_within : (n m : ℕ) (s : Stmt) → n ≤ m → RefersWell n s → RefersWell m s
refers_within n m (says.target insn name offset) h (a, (l, o)) = (a, (label_within n m name h l, o))
refers_within n m (says.high insn name offset) h (a, (l, o)) = (a, (label_within n m name h l, o))
refers_within n m (says.low insn name offset) h (a, (l, o)) = (a, (label_within n m name h l, o))
refers_within n m (says.entry_label name offset) h (l, o) = (label_within n m name h l, o)
refers_within n m (says.values bytes list) h r = λ all are. listed_within n m all h (r all are)
refers_within n m _ h r = tt

-- what a statement that a module may have asks for
insn_well : (s : Stmt) → RefersWell 1024 s → is_allowed_in_module s ≡ true → IfSome (coded s) IsReached
insn_well (says.target (Branch op ra disp) name offset) (a, r) h = (rw a refl, r)
insn_well (says.target insn name offset) (a, r) h = absurd a
insn_well (says.high (Mem op ra rb disp) name offset) (a, r) h = (rw (h, a) refl, r)
insn_well (says.high insn name offset) (a, r) h = absurd a
insn_well (says.low (Mem op ra rb disp) name offset) (a, r) h = (rw (h, a) refl, r)
insn_well (says.low insn name offset) (a, r) h = absurd a
insn_well _ r h = tt

cells_listed : (bytes : ℕ) (all : List Listed) → AllByRecursion (IsListedWell 1024) all
    → AllByRecursion IsCell (map (cell_of bytes) all)
cells_listed bytes [] l = tt
cells_listed bytes (listed.number value ∷ all) (a, l) = (tt, cells_listed bytes all l)
cells_listed bytes (listed.label name offset ∷ all) (a, l) = (a, cells_listed bytes all l)

numbers_well : (bs : List ℕ) → AllByRecursion IsCell (map (number 1) bs)
numbers_well [] = tt
numbers_well (b ∷ bs) = (tt, numbers_well bs)

cells_well : (s : Stmt) → RefersWell 1024 s
    → ((bytes : ℕ) (list : List ℕ) → s ≡ says.values bytes list → IsWholeList bytes list)
    → AllByRecursion IsCell (cells s)
unfolding cells
cells_well (says.values bytes list) r whole =
    let (v, vs, are) = whole bytes list refl in
    subst (AllByRecursion IsCell) (sym (values_cells bytes list (v ∷ vs) are))
    (cells_listed bytes (v ∷ vs) (r (v ∷ vs) are))
cells_well (says.text text) r whole = numbers_well (bytes_up_to (length text) text)
cells_well _ r whole = tt

no_entry : (s : Stmt) → is_allowed_in_module s ≡ true → entry_in s ≡ None
no_entry (says.entry_at n) h = cc
no_entry (says.entry_label label offset) h = cc
no_entry _ h = refl

no_level : (s : Stmt) → is_allowed_in_module s ≡ true → level_in s ≡ None
no_level (says.level n) h = cc
no_level _ h = refl

no_segment : (s : Stmt) → is_allowed_in_module s ≡ true → segment_in s ≡ None
no_segment (says.segment base) h = cc
no_segment _ h = refl

read_unlinked : (line : List ℕ) (i : LineStmt) → length line ≤ 1024 → read line ≡ Ok i
    → is_allowed_in_module i.statement ≡ true
    → IsUnlinked i
read_unlinked line i short e applies =
    let well : IsWell (length line) i = read-well line i e in
    let refers : RefersWell 1024 i.statement = refers_within (length line) 1024 i.statement short well.statement in
    record {
      label = if_label (length line) 1024 i.label short well.label;
      insn = insn_well i.statement refers applies;
      cells = cells_well i.statement refers (λ bytes list s. list-whole line i bytes list e s);
      entry = no_entry i.statement applies;
      level = no_level i.statement applies;
      segment = no_segment i.statement applies;
    }

taken_suits : (applies misplaced repeated : Bool) (n : ℕ)
    → cond (not applies || misplaced) (Some (Section n)) (cond repeated (Some (Duplicate n)) None) ≡ None
    → applies ≡ true
taken_suits true misplaced repeated n h = refl
taken_suits false misplaced repeated n h = cc

taken_unlinked : (is : List LineStmt) (line : List ℕ) (r : Result LineStmt LineFault) → read line ≡ r
    → length line ≤ 1024 → refused_read Module is (length is + 1) r ≡ None → IsUnlinked (item_at line)
taken_unlinked is line (Err fault) e short h = cc
taken_unlinked is line (Ok i) e short h =
    let at : item_at line ≡ i = rw e refl in
    let applies = taken_suits (is_allowed_in_module i.statement) (is_misplaced (end is) i.statement)
    (repeats_field (fields (layout is)) i.statement || repeats_label (location_of (layout is)) i.label) (length is + 1)
    h in
    rw at (read_unlinked line i short e applies)

line_unlinked : (is : List LineStmt) (line : List ℕ) → refused Module is line ≡ None → IsUnlinked (item_at line)
unfolding refused
line_unlinked is line h = by (nat_lt 1024 (length line)) refl h
  where
    by : (long : Bool) → nat_lt 1024 (length line) ≡ long
        → cond long (Some (LongLine (length is + 1))) (refused_read Module is (length is + 1) (read line)) ≡ None
        → IsUnlinked (item_at line)
    by true e k = cc
    by false e k = taken_unlinked is line (read line) refl (ltb-false 1024 (length line) e) k

pub lines_unlinked : (is : List LineStmt) (ls : List (List ℕ)) → first_refused Module is ls ≡ None
    → AllByRecursion IsUnlinked (map item_at ls)
lines_unlinked is [] h = tt
lines_unlinked is (line ∷ ls) h =
    let (here, there) = option_or-None (refused Module is line) (first_refused Module (is ++ item_at line ∷ []) ls) h in
    (line_unlinked is line here, lines_unlinked (is ++ item_at line ∷ []) ls there)

level_behind : (p : Place) (is : List LineStmt) → AllByRecursion IsUnlinked is → p.level ≡ None
    → (behind_all p is).level ≡ None
level_behind p [] good h = h
level_behind p (i ∷ is) (here, there) h =
    level_behind (place_after p i.statement) is there (ap (λ l. option_or l p.level) here.level ∙ h)

-- no line sets a level
pub level_unset : (is : List LineStmt) → AllByRecursion IsUnlinked is → (end is).level ≡ None
unfolding end
level_unset is good = level_behind start is good refl
