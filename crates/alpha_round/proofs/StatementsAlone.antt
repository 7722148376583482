-- Statements alone, without labels and without addresses of labels.
use Rattle.std.proofs.Common.{◌≡◌, ℕ, suc, ◌+◌, ◌%◌, ◌≤◌, List, [], ◌∷◌, ◌++◌, length, map, replicate, All, Bool, true}
use Rattle.std.proofs.Common.{false, cond, nat_lt, None, Ok, refl, ◌∙◌, ap, arith}
use Rattle.std.specs.Prelude.{⊤}
use Rattle.std.specs.List.{flat_map, filter_map, AllByRecursion}
use Rattle.std.specs.Result.{result_unwrap_or}
use Rattle.std.proofs.lemmas.Bool.Decides.{nat_tests}
use Rattle.std.proofs.lemmas.Grind.{flat_map-append}
use Rattle.std.proofs.lemmas.List.{append-nil}
use Rattle.alpha_words.specs.Digits.{digits}
use Rattle.alpha_image.specs.Parts.{IsByte}
use Rattle.alpha_table.specs.declared.form.Form.{Form}
use Rattle.alpha_text.specs.Statements.{Stmt}
use Rattle.alpha_text.specs.Statements as says
use Rattle.alpha_text.specs.Reading.{LineStmt, read}
use Rattle.alpha_asm.specs.Statement.{number, cells, coded, align_in}
use Rattle.alpha_asm.specs.Layout.{Place, Placed, Fields, placed, layout, end, place_after, behind_all, fields}
use Rattle.alpha_asm.specs.Layout.{with_fields, is_misplaced, repeats_field}
use Rattle.alpha_asm.specs.Program.{Known, names_in, entry_names, cell_name, code_in, bytes_in, cell_bytes}
use Rattle.alpha_asm.specs.declared.kind.SourceKind.TheVariants as source_kinds
use Rattle.alpha_asm.specs.Assembled.{item_at, refused, first_refused}
use Rattle.alpha_asm.proofs.NextItem.{item_behind, end-snoc, layout-snoc, first-snoc}
use Rattle.alpha_round.proofs.ListingItems.{statement_line, row_statement}
use Rattle.alpha_round.proofs.JoinedLines.{AreInside}
use Rattle.alpha_round.proofs.DataRows.{row_cells}

-- the place behind statements
abbrev pub place_behind : Place → List Stmt → Place
place_behind p [] = p
place_behind p (s ∷ ss) = place_behind (place_after p s) ss

pub behind_all-statement_line : (p : Place) (ss : List Stmt) → behind_all p (map statement_line ss) ≡ place_behind p ss
behind_all-statement_line p [] = refl
behind_all-statement_line p (s ∷ ss) = behind_all-statement_line (place_after p s) ss

pub place_behind-append : (p : Place) (ss ts : List Stmt)
    → place_behind p (ss ++ ts) ≡ place_behind (place_behind p ss) ts
place_behind-append p [] ts = refl
place_behind-append p (s ∷ ss) ts = place_behind-append (place_after p s) ss ts

-- none of the statements is misplaced, from a place on
abbrev pub AreWellPlaced : Place → List Stmt → Type 0
AreWellPlaced p [] = ⊤
AreWellPlaced p (s ∷ ss) = (is_misplaced p s ≡ false) × AreWellPlaced (place_after p s) ss

pub AreWellPlaced-append : (p : Place) (ss ts : List Stmt) → AreWellPlaced p ss → AreWellPlaced (place_behind p ss) ts
    → AreWellPlaced p (ss ++ ts)
AreWellPlaced-append p [] ts f g = g
AreWellPlaced-append p (s ∷ ss) ts (m, f) g = (m, AreWellPlaced-append (place_after p s) ss ts f g)

-- none of the statements says a field for the second time
abbrev pub RepeatNoField : Fields → List Stmt → Type 0
RepeatNoField f [] = ⊤
RepeatNoField f (s ∷ ss) = (repeats_field f s ≡ false) × RepeatNoField (with_fields f s) ss

pub RepeatNoField-append : (f : Fields) (ss ts : List Stmt) → RepeatNoField f ss → ((g : Fields) → RepeatNoField g ts)
    → RepeatNoField f (ss ++ ts)
RepeatNoField-append f [] ts u v = v f
RepeatNoField-append f (s ∷ ss) ts (d, u) v = (d, RepeatNoField-append (with_fields f s) ss ts u v)

-- a line that says this statement alone, and stays a line where it is joined with others
pub record IsLineOf (l : List ℕ) (s : Stmt) : Type 0 where
  pub short : length l ≤ 1024
  pub inside : AreInside l
  pub says : read l ≡ Ok (statement_line s)

-- lines that say these statements
abbrev pub AreLinesOf : List (List ℕ) → List Stmt → Type 0
AreLinesOf [] [] = ⊤
AreLinesOf (l ∷ ls) (s ∷ ss) = IsLineOf l s × AreLinesOf ls ss
AreLinesOf _ _ = ⊥

pub AreLinesOf-append : (ls ms : List (List ℕ)) (ss ts : List Stmt) → AreLinesOf ls ss → AreLinesOf ms ts
    → AreLinesOf (ls ++ ms) (ss ++ ts)
AreLinesOf-append [] ms [] ts a b = b
AreLinesOf-append [] ms (s ∷ ss) ts a b = absurd a
AreLinesOf-append (l ∷ ls) ms [] ts a b = absurd a
AreLinesOf-append (l ∷ ls) ms (s ∷ ss) ts (h, a) b = (h, AreLinesOf-append ls ms ss ts a b)

pub AreLinesOf-AreInside : (ls : List (List ℕ)) (ss : List Stmt) → AreLinesOf ls ss → AllByRecursion AreInside ls
AreLinesOf-AreInside [] [] a = tt
AreLinesOf-AreInside [] (s ∷ ss) a = absurd a
AreLinesOf-AreInside (l ∷ ls) [] a = absurd a
AreLinesOf-AreInside (l ∷ ls) (s ∷ ss) (h, a) = (h.inside, AreLinesOf-AreInside ls ss a)

refused-None : (is : List LineStmt) (line : List ℕ) (s : Stmt) → length line ≤ 1024 → read line ≡ Ok (statement_line s)
    → is_misplaced (end is) s ≡ false → repeats_field (fields (layout is)) s ≡ false
    → refused source_kinds.Program is line ≡ None
unfolding refused
refused-None is line s short r m d =
    let t : nat_lt 1024 (length line) ≡ false = grind (arith, nat_tests) in
    rw (t, r, m, d) refl

fields-snoc : (is : List LineStmt) (i : LineStmt)
    → fields (layout (is ++ i ∷ [])) ≡ with_fields (fields (layout is)) i.statement
fields-snoc is i = ap fields (layout-snoc is i) ∙ one (layout is) (item_behind is i)
  where
    one : (xs : List Placed) (x : Placed) → fields (xs ++ x ∷ []) ≡ with_fields (fields xs) x.item.statement
    one xs x = simp first-snoc

pub AreLinesOf-unrefused : (is : List LineStmt) (ls : List (List ℕ)) (ss : List Stmt)
    → AreLinesOf ls ss → AreWellPlaced (end is) ss → RepeatNoField (fields (layout is)) ss
    → (first_refused source_kinds.Program is ls ≡ None) × (map item_at ls ≡ map statement_line ss)
AreLinesOf-unrefused is [] [] say f u = (refl, refl)
AreLinesOf-unrefused is [] (s ∷ ss) say f u = absurd say
AreLinesOf-unrefused is (l ∷ ls) [] say f u = absurd say
AreLinesOf-unrefused is (l ∷ ls) (s ∷ ss) (line, say) (m, f) (d, u) =
    let at : item_at l ≡ statement_line s =
    ap (λ r. result_unwrap_or r (record { label = None; statement = says.empty })) line.says in
    let none : refused source_kinds.Program is l ≡ None = refused-None is l s line.short line.says m d in
    let (rest, items) =
    AreLinesOf-unrefused (is ++ statement_line s ∷ []) ls ss say (rw (end-snoc is (statement_line s)) f)
    (rw (fields-snoc is (statement_line s)) u) in
    (rw (none, at) rest, rw at (ap (λ l. statement_line s ∷ l) items))

-- what statements make, wherever they stand
pub record MakesProgram (ss : List Stmt) (insns : List Form) (bytes : List ℕ) : Type 0 where
  pub code : (k : Known) (p : Place) (n : ℕ) → flat_map (code_in k) (placed p n (map statement_line ss)) ≡ insns
  pub data_bytes : (k : Known) (p : Place) (n : ℕ) → flat_map (bytes_in k) (placed p n (map statement_line ss)) ≡ bytes
  pub names : (p : Place) (n : ℕ) → flat_map names_in (placed p n (map statement_line ss)) ≡ []

placed-append : (p : Place) (n : ℕ) (ss ts : List Stmt)
    → placed p n (map statement_line (ss ++ ts))
    ≡ placed p n (map statement_line ss) ++ placed (place_behind p ss) (n + length ss) (map statement_line ts)
placed-append p n [] ts = ap (λ (m : ℕ). placed p m (map statement_line ts)) (omega arith)
placed-append p n (s ∷ ss) ts =
    let m : n + 1 + length ss ≡ n + suc (length ss) = omega arith in
    ap (λ xs. record { place = p; line = n; item = statement_line s } ∷ xs)
    (placed-append (place_after p s) (n + 1) ss ts
    ∙ ap (λ (m : ℕ). placed (place_after p s) (n + 1) (map statement_line ss)
    ++ placed (place_behind (place_after p s) ss) m (map statement_line ts)) m)

flat_map-placed_append : {X : Type 0} (f : Placed → List X) (p : Place) (n : ℕ) (ss ts : List Stmt) (a b : List X)
    → flat_map f (placed p n (map statement_line ss)) ≡ a
    → flat_map f (placed (place_behind p ss) (n + length ss) (map statement_line ts)) ≡ b
    → flat_map f (placed p n (map statement_line (ss ++ ts))) ≡ a ++ b
flat_map-placed_append f p n ss ts a b e g =
    ap (flat_map f) (placed-append p n ss ts)
    ∙ (flat_map-append f (placed p n (map statement_line ss))
    (placed (place_behind p ss) (n + length ss) (map statement_line ts))
    ∙ (ap (λ l. l ++ flat_map f (placed (place_behind p ss) (n + length ss) (map statement_line ts))) e
    ∙ ap (λ l. a ++ l) g))

pub MakesProgram-append : (ss ts : List Stmt) (insns more : List Form) (bytes rest : List ℕ)
    → MakesProgram ss insns bytes
    → MakesProgram ts more rest → MakesProgram (ss ++ ts) (insns ++ more) (bytes ++ rest)
MakesProgram-append ss ts insns more bytes rest a b = record {
  code =
      λ k p n. flat_map-placed_append (code_in k) p n ss ts insns more (a.code k p n)
      (b.code k (place_behind p ss) (n + length ss));
  data_bytes = λ k p n.
      flat_map-placed_append (bytes_in k) p n ss ts bytes rest (a.data_bytes k p n)
      (b.data_bytes k (place_behind p ss) (n + length ss));
  names = λ p n.
      flat_map-placed_append names_in p n ss ts [] [] (a.names p n) (b.names (place_behind p ss) (n + length ss));
}

pub MakesProgram-same_bytes : (ss : List Stmt) (insns : List Form) (bytes rest : List ℕ) → MakesProgram ss insns bytes
    → bytes ≡ rest
    → MakesProgram ss insns rest
MakesProgram-same_bytes ss insns bytes rest m e =
    record { code = m.code; data_bytes = λ k p n. m.data_bytes k p n ∙ e; names = m.names }

pub MakesProgram-none : MakesProgram [] [] []
MakesProgram-none = record { code = λ k p n. refl; data_bytes = λ k p n. refl; names = λ p n. refl }

replicate-cond_zero : (b : Bool) → replicate {A = ℕ} (cond {A = ℕ} b 0 0) 0 ≡ []
replicate-cond_zero true = refl
replicate-cond_zero false = refl

pub MakesProgram-insn : (i : Form) → MakesProgram (says.code i ∷ []) (i ∷ []) []
unfolding cells
MakesProgram-insn i =
    record {
      code = λ k p n. refl;
      data_bytes = λ k p n. ap (λ l. l ++ []) (replicate-cond_zero p.has_zero);
      names = λ p n. refl;
    }

-- a statement that makes nothing
pub MakesProgram-silent : (s : Stmt) → coded s ≡ None → cells s ≡ [] → align_in s ≡ None
    → ((line : ℕ) → entry_names line s ≡ []) → MakesProgram (s ∷ []) [] []
MakesProgram-silent s c d a e = record {
  code = λ k p n. rw c refl;
  data_bytes = λ k p n. rw (d, a) (ap (λ l. l ++ []) (replicate-cond_zero p.has_zero));
  names = λ p n. rw (c, d, e n) refl;
}

numbers_bytes : (k : Known) (row : List ℕ) → All IsByte row → flat_map (cell_bytes k) (map (number 1) row) ≡ row
unfolding digits
numbers_bytes k [] h = refl
numbers_bytes k (b ∷ row) h =
    let small : b % 256 ≡ b = omega (arith, h 0 0 (omega arith)) in
    ap (λ c. c ∷ flat_map (cell_bytes k) (map (number 1) row)) small
    ∙ ap (λ l. b ∷ l) (numbers_bytes k row (λ i d l. h (suc i) d (omega (arith, l))))

numbers_names : (line : ℕ) (row : List ℕ) → filter_map (cell_name line) (map (number 1) row) ≡ []
numbers_names line [] = refl
numbers_names line (b ∷ row) = numbers_names line row

pub MakesProgram-row : (row : List ℕ) → All IsByte row → MakesProgram (row_statement row ∷ []) [] row
MakesProgram-row row b = record {
  code = λ k p n. refl;
  data_bytes =
      λ k p n. rw (row_cells row b)
      (append-nil (flat_map (cell_bytes k) (map (number 1) row) ++ replicate {A = ℕ} (cond {A = ℕ} p.has_zero 0 0) 0)
      ∙ (ap (λ l. flat_map (cell_bytes k) (map (number 1) row) ++ l) (replicate-cond_zero p.has_zero)
      ∙ (append-nil (flat_map (cell_bytes k) (map (number 1) row)) ∙ numbers_bytes k row b)));
  names = λ p n. rw (row_cells row b) (ap (λ l. (l ++ []) ++ []) (numbers_names n row));
}

pub MakesProgram-insns : (is : List Form) → MakesProgram (map says.code is) is []
MakesProgram-insns [] = MakesProgram-none
MakesProgram-insns (i ∷ is) =
    MakesProgram-append (says.code i ∷ []) (map says.code is) (i ∷ []) is [] [] (MakesProgram-insn i)
    (MakesProgram-insns is)
