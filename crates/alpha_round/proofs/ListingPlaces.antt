-- Where the statements of a listing lead.
use Rattle.std.proofs.Common.{◌≡◌, ℕ, zero, suc, ◌+◌, ◌*◌, ◌≤◌, List, [], ◌∷◌, ◌++◌, length, map, take, drop, sum_by}
use Rattle.std.proofs.Common.{All, Bool, true, false, nat_lt, Option, None, Some, refl, sym, ◌∙◌, ap, subst}
use Rattle.std.proofs.Common.{length-append, arith}
use Rattle.std.specs.Option.{unwrap_or}
use Rattle.std.proofs.lemmas.Bool.Decides.{nat_tests}
use Rattle.std.proofs.lemmas.List.Sums.{sum_by-cons}
use Rattle.alpha_words.specs.Levels.{level_number}
use Rattle.alpha_table.specs.declared.form.Form.{Form}
use Rattle.alpha_table.specs.Columns.{level_of}
use Rattle.alpha_text.specs.Statements as says
use Rattle.alpha_image.specs.declared.segment.Segment.{Segment}
use Rattle.alpha_image.specs.declared.version.Version.{Version}
use Rattle.alpha_image.specs.declared.version.Version.TheVariants.{One, Two}
use Rattle.alpha_image.specs.Parts.{Parts}
use Rattle.alpha_asm.specs.Statement.{number, cell_size, cells, section_in}
use Rattle.alpha_asm.specs.Layout.{Place, Fields, start, fresh, place_after, fields, layout, with_fields}
use Rattle.alpha_round.proofs.ListingItems.{first_statements, more_heading, row_statement}
use Rattle.alpha_round.proofs.StatementsAlone.{place_behind, AreWellPlaced, RepeatNoField}
use Rattle.alpha_round.proofs.DataRows.{row_cells}
use Rattle.alpha_dis.specs.Listing.{rows_of}
use Rattle.alpha_image.specs.Parts.{IsByte}
use Rattle.std.proofs.lemmas.List.Elements.{All-take, All-drop}
use Rattle.std.proofs.lemmas.List.{take-append-drop, length-drop}

abbrev pub level_stmt : Version → Parts → Option ℕ
level_stmt One p = None
level_stmt Two p = Some (level_number p.level)

-- in the code, behind so many instructions
abbrev pub in_code : Option ℕ → ℕ → Place
in_code level n = record {
  level = level;
  begun = true;
  section = start.section;
  words = n;
  earlier = [];
  last = fresh 0;
  has_zero = false;
}

-- in data
abbrev pub in_data : Option ℕ → ℕ → List Segment → Segment → Bool → Place
in_data level n earlier last has_zero = record {
  level = level;
  begun = true;
  section = unwrap_or (section_in says.data_section) start.section;
  words = n;
  earlier = earlier;
  last = last;
  has_zero = has_zero;
}

pub heading_from : (v : Version) (p : Parts)
    → place_behind start (first_statements v p ++ more_heading p) ≡ in_code (level_stmt v p) 0
unfolding cells
heading_from One p = refl
heading_from Two p = refl

pub heading_fits : (v : Version) (p : Parts) → AreWellPlaced start (first_statements v p ++ more_heading p)
unfolding cells
heading_fits One p = (refl, (refl, (refl, (refl, (refl, tt)))))
heading_fits Two p = (refl, (refl, (refl, (refl, (refl, tt)))))

pub heading_singles : (v : Version) (p : Parts)
    → RepeatNoField (fields (layout [])) (first_statements v p ++ more_heading p)
unfolding layout
heading_singles One p = (refl, (refl, (refl, (refl, (refl, tt)))))
heading_singles Two p = (refl, (refl, (refl, (refl, (refl, tt)))))

pub insns_place : (level : Option ℕ) (n : ℕ) (is : List Form)
    → place_behind (in_code level n) (map says.code is) ≡ in_code level (n + length is)
unfolding cells
insns_place level n [] = ap (in_code level) (omega arith)
insns_place level n (i ∷ is) = insns_place level (n + 1) is ∙ ap (in_code level) (omega arith)

pub insns_fit : (level : Option ℕ) (n : ℕ) (is : List Form)
    → All (λ i. level_number (level_of i) ≤ unwrap_or level 1) is → AreWellPlaced (in_code level n) (map says.code is)
unfolding cells
insns_fit level n [] h = tt
insns_fit level n (i ∷ is) h =
    let low : level_number (level_of i) ≤ unwrap_or level 1 = h 0 i (omega arith) in
    let t : nat_lt (unwrap_or level 1) (level_number (level_of i)) ≡ false = grind (arith, nat_tests) in
    (t, insns_fit level (n + 1) is (λ k d l. h (suc k) d (omega (arith, l))))

pub insns_single : (f : Fields) (is : List Form) → RepeatNoField f (map says.code is)
insns_single f [] = tt
insns_single f (i ∷ is) = (refl, insns_single (with_fields f (says.code i)) is)

numbers_size : (row : List ℕ) → sum_by cell_size (map (number 1) row) ≡ length row
numbers_size [] = refl
numbers_size (b ∷ row) =
    sum_by-cons cell_size (number 1 b) (map (number 1) row) ∙ ap (λ n. 1 + n) (numbers_size row) ∙ omega arith

-- a row of data bytes
pub row_place : (level : Option ℕ) (n : ℕ) (earlier : List Segment) (base filled : ℕ) (row : List ℕ) → All IsByte row
    → place_after (in_data level n earlier (record { base = base; filled = filled; zeroed = 0 }) false)
    (row_statement row)
    ≡ in_data level n earlier (record { base = base; filled = filled + length row; zeroed = 0 }) false
row_place level n earlier base filled row b =
    let size : filled + (sum_by cell_size (cells (row_statement row)) + 0) ≡ filled + length row =
    omega (arith, ap (sum_by cell_size) (row_cells row b), numbers_size row) in
    let same : n + 0 ≡ n = omega arith in
    ap (λ m. in_data level (n + 0) earlier (record { base = base; filled = m; zeroed = 0 }) false) size
    ∙ ap (λ m. in_data level m earlier (record { base = base; filled = filled + length row; zeroed = 0 }) false) same

-- all rows of data bytes
pub rows_place : (level : Option ℕ) (n : ℕ) (earlier : List Segment) (base filled k : ℕ) (bytes : List ℕ)
    → length bytes ≤ 16 * k → All IsByte bytes
    → place_behind (in_data level n earlier (record { base = base; filled = filled; zeroed = 0 }) false)
    (map row_statement (rows_of k bytes))
    ≡ in_data level n earlier (record { base = base; filled = filled + length bytes; zeroed = 0 }) false
rows_place level n earlier base filled zero [] h b =
    ap (λ m. in_data level n earlier (record { base = base; filled = m; zeroed = 0 }) false) (omega arith)
rows_place level n earlier base filled zero (c ∷ bytes) h b = absurd (omega arith)
rows_place level n earlier base filled (suc k) bytes h b =
    let front : All IsByte (take 16 bytes) = All-take IsByte 16 bytes b in
    let back : All IsByte (drop 16 bytes) = All-drop IsByte 16 bytes b in
    let size : filled + length (take 16 bytes) + length (drop 16 bytes) ≡ filled + length bytes =
    omega (arith, length-append (take 16 bytes) (drop 16 bytes), ap length (take-append-drop 16 bytes)) in
    ap (λ q. place_behind q (map row_statement (rows_of k (drop 16 bytes))))
    (row_place level n earlier base filled (take 16 bytes) front)
    ∙ (rows_place level n earlier base (filled + length (take 16 bytes)) k (drop 16 bytes)
    (omega (arith, h, length-drop 16 bytes)) back
    ∙ ap (λ m. in_data level n earlier (record { base = base; filled = m; zeroed = 0 }) false) size)

-- no row is misplaced
pub rows_fit : (level : Option ℕ) (n : ℕ) (earlier : List Segment) (base filled k : ℕ) (bytes : List ℕ)
    → length bytes ≤ 16 * k → All IsByte bytes
    → AreWellPlaced (in_data level n earlier (record { base = base; filled = filled; zeroed = 0 }) false)
    (map row_statement (rows_of k bytes))
rows_fit level n earlier base filled zero [] h b = tt
rows_fit level n earlier base filled zero (c ∷ bytes) h b = absurd (omega arith)
rows_fit level n earlier base filled (suc k) bytes h b =
    let front : All IsByte (take 16 bytes) = All-take IsByte 16 bytes b in
    let back : All IsByte (drop 16 bytes) = All-drop IsByte 16 bytes b in
    let behind_row = row_place level n earlier base filled (take 16 bytes) front in (
      refl,
      subst (λ q. AreWellPlaced q (map row_statement (rows_of k (drop 16 bytes)))) (sym behind_row)
          (rows_fit level n earlier base (filled + length (take 16 bytes)) k (drop 16 bytes)
          (omega (arith, h, length-drop 16 bytes)) back),
    )

pub rows_single : (f : Fields) (rows : List (List ℕ)) → RepeatNoField f (map row_statement rows)
rows_single f [] = tt
rows_single f (row ∷ rows) = (refl, rows_single (with_fields f (row_statement row)) rows)
