-- What a source assembles to, and what it assembles to with barriers.
use Rattle.std.proofs.Common.{◌≡◌, ◌<◌, ◌≤◌, ◌+◌, ◌-◌, ◌*◌, ◌^◌, ◌++◌, ◌⊎◌, ℕ, suc, Bool, true, false, cond, not, ◌&&◌}
use Rattle.std.proofs.Common.{◌||◌, eqb, nat_eq, nat_lt, List, [], ◌∷◌, length, filter, map, take, Option, Some, None}
use Rattle.std.proofs.Common.{is_some, Result, Ok, Err, slice_index, slice_get, refl, sym, ◌∙◌, ap, subst, inl, ⊎_elim}
use Rattle.std.proofs.Common.{arith, length-append, codes}
use Rattle.std.specs.Option.{option_map, option_map_or, option_or}
use Rattle.std.specs.Result.{result_unwrap_or}
use Rattle.std.specs.List.{flat_map}
use Rattle.std.specs.Str.Lines.{lines, strip_carriage_return}
use Rattle.std.proofs.lemmas.Bool.Decides.{nat_tests}
use Rattle.std.proofs.lemmas.Bool.{or_parts}
use Rattle.alpha_table.specs.declared.form.Form.{Form}
use Rattle.alpha_table.specs.declared.form.Form.TheVariants.{Misc}
use Rattle.alpha_table.specs.declared.rows.MiscOp.TheVariants.{Trapb}
use Rattle.alpha_table.specs.Decoded.{decoded, memory_form, branch_form, jump_form, operate_form, misc_form}
use Rattle.alpha_text.specs.declared.reader.LineFault.{LineFault}
use Rattle.alpha_text.specs.Statements.{Stmt, empty}
use Rattle.alpha_text.specs.Statements as says
use Rattle.alpha_text.specs.Canon.{canon}
use Rattle.alpha_text.specs.Reading.{LineStmt, read}
use Rattle.alpha_text.proofs.CanonicalLines.{reads_back}
use Rattle.alpha_image.specs.Parts.{Parts, IsImage}
use Rattle.alpha_shadow.specs.Broken.{IsAccepted}
use Rattle.alpha_asm.specs.declared.fault.AsmFault.{AsmFault}
use Rattle.alpha_asm.specs.declared.fault.AsmFault.TheVariants.{Undefined, ImageField, Reach, LongLine}
use Rattle.alpha_asm.specs.Statement.{half_applies, InsnStmt, coded, Entry}
use Rattle.alpha_asm.specs.Layout.{Place, Placed, start, place_after, placed, layout, first, fields, is_of_code}
use Rattle.alpha_asm.specs.Program.{Program, program_of, names_in, undefined_line, out_of_range_line, code_in, known}
use Rattle.alpha_asm.specs.Program.{numbers_of, program, insn_in}
use Rattle.alpha_asm.specs.declared.kind.SourceKind.TheVariants as source_kinds
use Rattle.alpha_asm.specs.Assembled.{item_at, refused_read, refused, first_refused, unless, made_at, assembled_program}
use Rattle.alpha_asm.specs.Assembled.{assembled}
use Rattle.alpha_image.specs.FieldTests.{least_bad_field}
use Rattle.alpha_fix.specs.Cuts.{trapb, barred, without, HasBroken}
use Rattle.alpha_asm.specs.SourceLines.{SourceLine, ended, unended, line_bytes, line_text, with_feed, source_lines}
use Rattle.alpha_asm.specs.SourceLines.{line_item}
use Rattle.alpha_fix.specs.FixedSource.{is_cut, trapb_line, has_insn, has_word, word_count, bar_if, then_bar}
use Rattle.alpha_fix.specs.FixedSource.{fixed_lines, fixed_source}
use Rattle.alpha_fix.specs.FixedLines.{items_of, is_over_distance, takes_half, enters_within, depends_on_position}
use Rattle.alpha_fix.specs.FixedLines.{least_line, names_code, code_base, fixed_line}
use Rattle.alpha_fix.specs.Fix.{HasImage, HasCuts, IsFixedSource}
use Rattle.alpha_fix.proofs.BarredCode.{barred-IsAccepted, cut-needed}
use Rattle.alpha_asm.proofs.SourceLines.{source_lines-joined, lines-source_lines}
use Rattle.alpha_fix.proofs.FixedItems.{trapb_item, fixed_items, EndsAlike, items_by_lines, items_of_fixed}
use Rattle.alpha_fix.proofs.FixedItems.{fixed_source-no_cuts}
use Rattle.alpha_fix.proofs.PlaceCores.{location_of-fixed_items, code_base_same, segments_of-fixed_items}
use Rattle.alpha_fix.proofs.SteadyClasses.{word_class, AreAlike, AreAlike-IsAccepted, has_broken_alike}
use Rattle.alpha_fix.proofs.BarrierMarks.{marked, map-marked, marked_barred, without_barrier, map-without}
use Rattle.alpha_fix.proofs.BarredWords.{form_class, KnownAlike, SteadyCoded, AreSteady, classes_code, bar_class}
use Rattle.alpha_fix.proofs.BarredWords.{classes_marked, word_class-filter_map_decoded, length-filter_map_decoded}

-- the line of a barrier reads as one

canon-trapb : canon (Misc Trapb) ≡ codes "trapb"
unfolding canon
canon-trapb = refl

pub read_trapb : read (codes "trapb") ≡ Ok trapb_item
read_trapb = ap read (sym canon-trapb) ∙ reads_back (Misc Trapb) tt

pub line_item-trapb_line : line_item trapb_line ≡ trapb_item
line_item-trapb_line =
    ap (λ r. result_unwrap_or r (record { label = None; statement = empty }))
    (ap read (sym canon-trapb) ∙ reads_back (Misc Trapb) tt)

trapb_class : word_class trapb ≡ Some bar_class
unfolding decoded memory_form branch_form jump_form operate_form misc_form
trapb_class = refl

-- what an assembled source is

unless_ok : {A : Type 0} (o : Option AsmFault) (r : Result A AsmFault) (x : A) → unless o r ≡ Ok x
    → (o ≡ None) × (r ≡ Ok x)
unless_ok None r x e = (refl, e)
unless_ok (Some f) r x e = cc

pub assembled-first_refused : (source : List ℕ) (p : Program) → assembled source ≡ Ok p
    → first_refused source_kinds.Program [] (lines source) ≡ None
unfolding assembled
assembled-first_refused source p e =
    (unless_ok (first_refused source_kinds.Program [] (lines source))
    (assembled_program (map item_at (lines source))) p e).0

pub assembled-assembled_program : (source : List ℕ) (p : Program) → assembled source ≡ Ok p
    → assembled_program (items_of source) ≡ Ok p
unfolding assembled
assembled-assembled_program source p e =
    (unless_ok (first_refused source_kinds.Program [] (lines source))
    (assembled_program (map item_at (lines source))) p e).1

abbrev pub code_of_layout : List LineStmt → List Form
code_of_layout is = flat_map (code_in (known is)) (layout is)

made_entry : (is : List LineStmt) (o : Option Entry) (p : Program) → made_at is o ≡ Ok p
    → (p.code ≡ code_of_layout is) × (p.code_base ≡ code_base is)
made_entry is None p e = cc
made_entry is (Some entry) p e =
    let a =
    (unless_ok (option_map Undefined (first (undefined_line (known is)) (flat_map names_in (layout is)))) _ p e).1 in
    let b = (unless_ok (option_map ImageField (least_bad_field (numbers_of is entry))) _ p a).1 in
    let c =
    (unless_ok (option_map Reach (first (out_of_range_line (known is)) (flat_map names_in (layout is)))) _ p b).1 in
    let same : program is entry ≡ p = cc in
    (sym (ap (λ (q : Program). q.code) same), sym (ap (λ (q : Program). q.code_base) same))

made_code : (is : List LineStmt) (p : Program) → assembled_program is ≡ Ok p
    → (p.code ≡ code_of_layout is) × (p.code_base ≡ code_base is)
unfolding assembled_program
made_code is p e = made_entry is (fields (layout is)).entry p e

pub assembled-code : (source : List ℕ) (p : Program) → assembled source ≡ Ok p
    → p.code ≡ code_of_layout (items_of source)
assembled-code source p e = (made_code (items_of source) p (assembled-assembled_program source p e)).0

pub assembled-code_base : (source : List ℕ) (p : Program) → assembled source ≡ Ok p
    → p.code_base ≡ code_base (items_of source)
assembled-code_base source p e = (made_code (items_of source) p (assembled-assembled_program source p e)).1

-- how many words there are

count_step : (o : Option InsnStmt) (k : _) (x : Placed) (rest : List Form) (is : List LineStmt)
    → length rest ≡ length (filter has_insn is)
    → length (option_map_or (λ c. insn_in k x.place c ∷ []) o [] ++ rest)
    ≡ length (cond (is_some o) (x.item ∷ filter has_insn is) (filter has_insn is))
count_step None k x rest is h = h
count_step (Some c) k x rest is h = ap suc h

count_code : (k : _) (p : Place) (n : ℕ) (is : List LineStmt)
    → length (flat_map (code_in k) (placed p n is)) ≡ length (filter has_insn is)
count_code k p n [] = refl
count_code k p n (i ∷ is) =
    count_step (coded i.statement) k (record { place = p; line = n; item = i })
    (flat_map (code_in k) (placed (place_after p i.statement) (n + 1) is)) is
    (count_code k (place_after p i.statement) (n + 1) is)

count_lines_step : (h : Bool) (l : SourceLine) (ls : List SourceLine)
    → length (filter has_insn (map line_item ls)) ≡ length (filter has_word ls)
    → length (cond h (line_item l ∷ filter has_insn (map line_item ls)) (filter has_insn (map line_item ls)))
    ≡ length (cond h (l ∷ filter has_word ls) (filter has_word ls))
count_lines_step true l ls h = ap suc h
count_lines_step false l ls h = h

count_lines : (ls : List SourceLine) → length (filter has_insn (map line_item ls)) ≡ length (filter has_word ls)
count_lines [] = refl
count_lines (l ∷ ls) = count_lines_step (has_word l) l ls (count_lines ls)

count_items : (is : List LineStmt) → length (code_of_layout is) ≡ length (filter has_insn is)
unfolding layout
count_items is = count_code (known is) start 1 is

pub HasImage-word_count : (source : List ℕ) (image : Parts) → HasImage source image
    → length image.words ≡ word_count source
HasImage-word_count source image h =
    sym (length-filter_map_decoded image.level image.words h.good.words)
    ∙ (ap length (assembled-code source (program_of image) h.assembles)
    ∙ (count_items (items_of source)
    ∙ (ap (λ is. length (filter has_insn is)) (items_by_lines source) ∙ count_lines (source_lines source))))

pub IsImage-has_words : (image : Parts) → IsImage image → 0 < length image.words
IsImage-has_words image good = good.fields.words.0

-- each line of an assembled source reads, and is short

abbrev pub AllRead : List (List ℕ) → Type 0
AllRead [] = Unit {0}
AllRead (l ∷ ls) = (length l ≤ 1024) × ((i : LineStmt) × (read l ≡ Ok i)) × AllRead ls

read_taken : (is : List LineStmt) (n : ℕ) (r : Result LineStmt LineFault)
    → refused_read source_kinds.Program is n r ≡ None → (i : LineStmt) × (r ≡ Ok i)
read_taken is n (Ok i) e = (i, refl)
read_taken is n (Err f) e = cc

line_taken : (is : List LineStmt) (l : List ℕ) → refused source_kinds.Program is l ≡ None
    → (length l ≤ 1024) × ((i : LineStmt) × (read l ≡ Ok i))
unfolding refused
line_taken is l e = by (nat_lt 1024 (length l)) refl e
  where
    by : (b : Bool) → nat_lt 1024 (length l) ≡ b
        → cond b (Some (LongLine (length is + 1))) (refused_read source_kinds.Program is (length is + 1) (read l))
        ≡ None
        → (length l ≤ 1024) × ((i : LineStmt) × (read l ≡ Ok i))
    by true t f = cc
    by false t f = (grind (arith, nat_tests), read_taken is (length is + 1) (read l) f)

option_or-both_none : {A : Type 0} (a b : Option A) → option_or a b ≡ None → (a ≡ None) × (b ≡ None)
option_or-both_none None b e = (refl, e)
option_or-both_none (Some x) b e = cc

pub all_read : (is : List LineStmt) (ls : List (List ℕ)) → first_refused source_kinds.Program is ls ≡ None → AllRead ls
all_read is [] e = tt
all_read is (l ∷ ls) e =
    let o =
    option_or-both_none (refused source_kinds.Program is l)
    (first_refused source_kinds.Program (is ++ item_at l ∷ []) ls) e in
    let t = line_taken is l o.0 in
    (t.0, t.1, all_read (is ++ item_at l ∷ []) ls o.1)

-- a line that ends with a carriage return says the same without it

ends_in : (b : ℕ) (s : List ℕ) → slice_index (b ∷ s) (length s) ≡ 13 → b ∷ s ≡ take (length s) (b ∷ s) ++ 13 ∷ []
ends_in b [] h = ap (λ n. n ∷ []) h
ends_in b (c ∷ s) h = ap (λ t. b ∷ t) (ends_in c s h)

module _ (returns : (l : List ℕ) (i : LineStmt) → read (l ++ 13 ∷ []) ≡ Ok i → read l ≡ Ok i) where
  unreturned : (b : ℕ) (s : List ℕ) (i : LineStmt) → slice_index (b ∷ s) (length s) ≡ 13 → read (b ∷ s) ≡ Ok i
      → item_at (take (length s) (b ∷ s)) ≡ item_at (b ∷ s)
  unreturned b s i h e =
      let f = returns (take (length s) (b ∷ s)) i (ap read (sym (ends_in b s h)) ∙ e) in
      ap (λ r. result_unwrap_or r (record { label = None; statement = empty })) (f ∙ sym e)

  stripped : (t : List ℕ) (i : LineStmt) → read t ≡ Ok i → item_at (strip_carriage_return t) ≡ item_at t
  stripped [] i e = refl
  stripped (b ∷ s) i e = by (eqb (slice_index (b ∷ s) (length (b ∷ s) - 1)) 13) refl
    where
      by : (x : Bool) → eqb (slice_index (b ∷ s) (length (b ∷ s) - 1)) 13 ≡ x
          → item_at (cond x (take (length (b ∷ s) - 1) (b ∷ s)) (b ∷ s)) ≡ item_at (b ∷ s)
      by true f =
          let n : length (b ∷ s) - 1 ≡ length s = omega arith in
          let at : slice_index (b ∷ s) (length (b ∷ s) - 1) ≡ 13 = grind (arith, nat_tests) in
          ap (λ (k : ℕ). item_at (take k (b ∷ s))) n ∙ unreturned b s i (ap (slice_index (b ∷ s)) (sym n) ∙ at) e
      by false f = refl

  ends_alike : (ls : List SourceLine) → AllRead (map line_text ls) → EndsAlike ls
  ends_alike [] a = tt
  ends_alike (ended t ∷ ls) (s, r, a) = (refl, ends_alike ls a)
  ends_alike (unended t ∷ ls) (s, r, a) = (stripped t r.0 r.1, ends_alike ls a)

  pub alike_ends : (source : List ℕ) (p : Program) → assembled source ≡ Ok p → EndsAlike (source_lines source)
  alike_ends source p e =
      ends_alike (source_lines source)
      (subst AllRead (lines-source_lines source) (all_read [] (lines source) (assembled-first_refused source p e)))

-- without a fixed line no half of an address of the code stands but in LDA and LDAH

half_steady : (a b : Bool) → (a && not b) ≡ false → a ≡ true → b ≡ true
half_steady true true e f = refl
half_steady true false e f = cc
half_steady false b e f = cc

stmt_steady : (of_code : List ℕ → Bool) (s : Stmt) → takes_half of_code s ≡ false → SteadyCoded of_code (coded s)
stmt_steady of_code (says.code insn) e = tt
stmt_steady of_code (says.target insn label offset) e = tt
stmt_steady of_code (says.high insn label offset) e = half_steady (of_code label) (half_applies insn) e
stmt_steady of_code (says.low insn label offset) e = half_steady (of_code label) (half_applies insn) e
stmt_steady of_code _ e = tt

free_said : (of_code : List ℕ → Bool) (base : ℕ) (s : Stmt) → depends_on_position of_code base s ≡ false
    → takes_half of_code s ≡ false
free_said of_code base s e =
    let a = (or_parts (is_over_distance s) _ e).1 in
    let b = (or_parts _ (takes_half of_code s || enters_within base s) a).1 in
    (or_parts (takes_half of_code s) (enters_within base s) b).0

free_step : (of_code : List ℕ → Bool) (base n : ℕ) (i : LineStmt) (is : List LineStmt) (b : Bool)
    → depends_on_position of_code base i.statement ≡ b
    → cond b (Some n) (least_line (depends_on_position of_code base) (n + 1) is) ≡ None
    → (depends_on_position of_code base i.statement ≡ false)
    × (least_line (depends_on_position of_code base) (n + 1) is ≡ None)
free_step of_code base n i is true e h = cc
free_step of_code base n i is false e h = (e, h)

free_items : (of_code : List ℕ → Bool) (base n : ℕ) (is : List LineStmt)
    → least_line (depends_on_position of_code base) n is ≡ None → AreSteady of_code is
free_items of_code base n [] e = tt
free_items of_code base n (i ∷ is) e =
    let s = free_step of_code base n i is (depends_on_position of_code base i.statement) refl e in
    (stmt_steady of_code i.statement (free_said of_code base i.statement s.0), free_items of_code base (n + 1) is s.1)

steady_items : (source : List ℕ) → fixed_line source ≡ None
    → AreSteady (λ name. is_of_code ((known (items_of source)).locations name)) (items_of source)
unfolding fixed_line known
steady_items source e = free_items (names_code (items_of source)) (code_base (items_of source)) 1 (items_of source) e

known_same : (cut : ℕ → Bool) (n : ℕ) (is : List LineStmt) → KnownAlike (known is) (known (fixed_items cut n 0 is))
unfolding known
known_same cut n is = record {
  same_base = code_base_same cut n is;
  same_segments = segments_of-fixed_items cut n is;
  same_spots = location_of-fixed_items cut n is;
}

code_classes : (cut : ℕ → Bool) (n : ℕ) (is : List LineStmt)
    → AreSteady (λ name. is_of_code ((known is).locations name)) is
    → map form_class (code_of_layout (fixed_items cut n 0 is))
    ≡ marked bar_class cut n 0 (map form_class (code_of_layout is))
unfolding layout
code_classes cut n is s =
    classes_code (known (fixed_items cut n 0 is)) (placed start 1 (fixed_items cut n 0 is))
    ∙ (classes_marked (known is) (known (fixed_items cut n 0 is)) (known_same cut n is) cut n 0 is start start 1 1 s
    ∙ ap (marked bar_class cut n 0) (sym (classes_code (known is) (placed start 1 is))))

-- the words of an image by the instructions of its source
pub word_class-source_code : (source : List ℕ) (image : Parts) → HasImage source image
    → map word_class image.words ≡ map (λ c. Some c) (map form_class (code_of_layout (items_of source)))
word_class-source_code source image h =
    word_class-filter_map_decoded image.level image.words h.good.words
    ∙ ap (λ (fs : List Form). map (λ c. Some c) (map form_class fs))
    (assembled-code source (program_of image) h.assembles)

module _ (returns : (l : List ℕ) (i : LineStmt) → read (l ++ 13 ∷ []) ≡ Ok i → read l ≡ Ok i) where
  alike_free : (source cuts : List ℕ) (image fixed : Parts) → HasCuts source image cuts → fixed_line source ≡ None
      → HasImage (fixed_source source cuts) fixed → AreAlike fixed.words (barred image.words cuts)
  alike_free source cuts image fixed h free f =
      let is : List LineStmt = items_of source in
      let n : ℕ = word_count source in
      let cut : ℕ → Bool = is_cut cuts in
      word_class-source_code (fixed_source source cuts) fixed f
      ∙ (ap (λ js. map (λ c. Some c) (map form_class (code_of_layout js)))
      (items_of_fixed line_item-trapb_line source cuts
      (alike_ends returns source (program_of image) h.has_image.assembles))
      ∙ (ap (map (λ c. Some c)) (code_classes cut n is (steady_items source free))
      ∙ (map-marked (λ c. Some c) bar_class cut n 0 (map form_class (code_of_layout is))
      ∙ (ap (marked (Some bar_class) cut n 0) (sym (word_class-source_code source image h.has_image))
      ∙ (ap (λ b. marked b cut n 0 (map word_class image.words)) (sym trapb_class)
      ∙ (sym (map-marked word_class trapb cut n 0 image.words)
      ∙ ap (map word_class)
      (ap (λ (m : ℕ). marked trapb cut m 0 image.words) (sym (HasImage-word_count source image h.has_image))
      ∙ marked_barred image.words cuts h.are_cuts (IsImage-has_words image h.has_image.good))))))))

  alike_none : (source cuts : List ℕ) (image fixed : Parts) → HasCuts source image cuts → cuts ≡ []
      → HasImage (fixed_source source cuts) fixed → AreAlike fixed.words (barred image.words cuts)
  alike_none source cuts image fixed h e f =
      let same : fixed_source source cuts ≡ source = ap (fixed_source source) e ∙ fixed_source-no_cuts source in
      word_class-source_code (fixed_source source cuts) fixed f
      ∙ (ap (λ (s : List ℕ). map (λ c. Some c) (map form_class (code_of_layout (items_of s)))) same
      ∙ (sym (word_class-source_code source image h.has_image)
      ∙ ap (λ (c : List ℕ). map word_class (barred image.words c)) (sym e)))

  pub alike_words : (source cuts : List ℕ) (image fixed : Parts) → HasCuts source image cuts
      → (cuts ≡ []) ⊎ (fixed_line source ≡ None) → HasImage (fixed_source source cuts) fixed
      → AreAlike fixed.words (barred image.words cuts)
  alike_words source cuts image fixed h o f =
      ⊎_elim (λ e. alike_none source cuts image fixed h e f) (λ e. alike_free source cuts image fixed h e f) o

  pub source_accepted : (source cuts : List ℕ) (image fixed : Parts) → HasCuts source image cuts
      → (cuts ≡ []) ⊎ (fixed_line source ≡ None) → HasImage (fixed_source source cuts) fixed → IsAccepted fixed.words
  source_accepted source cuts image fixed h o f =
      AreAlike-IsAccepted fixed.words (barred image.words cuts) (alike_words source cuts image fixed h o f)
      (barred-IsAccepted image.words cuts h.sound h.are_cuts)

  pub source_needed : (source cuts : List ℕ) (image fixed : Parts) (j k : ℕ) → HasCuts source image cuts
      → (cuts ≡ []) ⊎ (fixed_line source ≡ None) → HasImage (fixed_source source cuts) fixed
      → slice_get cuts j ≡ Some k → j < length cuts → HasBroken (without (k + j) fixed.words)
  source_needed source cuts image fixed j k h o f e l =
      has_broken_alike (barred image.words (without j cuts)) (without (k + j) fixed.words)
      (ap (map word_class) (sym (without_barrier image.words cuts j k h.are_cuts e))
      ∙ (map-without word_class (k + j) (barred image.words cuts)
      ∙ (ap (without (k + j)) (sym (alike_words source cuts image fixed h o f))
      ∙ sym (map-without word_class (k + j) fixed.words))))
      (cut-needed image.words cuts j h.are_cuts l)

-- how long the text is

size_step : (h c m : Bool) (l : SourceLine) (r1 r2 ls : List SourceLine) (n : ℕ)
    → length (flat_map line_bytes r1) ≤ length (flat_map line_bytes ls) + 13 * n
    → length (flat_map line_bytes r2) ≤ length (flat_map line_bytes ls) + 13 * n
    → length (flat_map line_bytes (cond h (bar_if c trapb_line ++ (then_bar m l ++ r1)) (l ∷ r2)))
    ≤ length (flat_map line_bytes (l ∷ ls)) + 13 * length (cond h (l ∷ []) []) + 13 * n
size_step false c m l r1 r2 ls n f g = omega (
  arith,
  length-append (line_bytes l) (flat_map line_bytes r2),
  length-append (line_bytes l) (flat_map line_bytes ls),
)
size_step true c m l r1 r2 ls n f g = by c m
  where
    feeds : (x : SourceLine) → length (line_bytes (with_feed x)) ≤ length (line_bytes x) + 1
    feeds (ended t) = omega arith
    feeds (unended t) = omega (arith, length-append t (10 ∷ []))

    by : (a b : Bool)
        → length (flat_map line_bytes (bar_if a trapb_line ++ (then_bar b l ++ r1)))
        ≤ length (flat_map line_bytes (l ∷ ls)) + 13 * length (l ∷ []) + 13 * n
    by false false = omega (
      arith,
      length-append (line_bytes l) (flat_map line_bytes r1),
      length-append (line_bytes l) (flat_map line_bytes ls),
    )
    by true false = omega (
      arith,
      length-append (line_bytes l) (flat_map line_bytes r1),
      length-append (line_bytes l) (flat_map line_bytes ls),
    )
    by false true = omega (
      arith,
      feeds l,
      length-append (line_bytes (with_feed l)) (flat_map line_bytes (trapb_line ∷ r1)),
      length-append (line_bytes l) (flat_map line_bytes ls),
    )
    by true true = omega (
      arith,
      feeds l,
      length-append (line_bytes (with_feed l)) (flat_map line_bytes (trapb_line ∷ r1)),
      length-append (line_bytes l) (flat_map line_bytes ls),
    )

filter_step : (h : Bool) (l : SourceLine) (ls : List SourceLine)
    → length (cond h (l ∷ filter has_word ls) (filter has_word ls))
    ≡ length (cond h (l ∷ []) []) + length (filter has_word ls)
filter_step true l ls = omega arith
filter_step false l ls = omega arith

size_lines : (cut : ℕ → Bool) (n k : ℕ) (ls : List SourceLine)
    → length (flat_map line_bytes (fixed_lines cut n k ls))
    ≤ length (flat_map line_bytes ls) + 13 * length (filter has_word ls)
size_lines cut n k [] = omega arith
size_lines cut n k (l ∷ ls) =
    let f = size_step (has_word l) (cut k) (nat_eq (k + 1) n && cut n) l (fixed_lines cut n (k + 1) ls)
    (fixed_lines cut n k ls) ls (length (filter has_word ls)) (size_lines cut n (k + 1) ls) (size_lines cut n k ls) in
    let g = filter_step (has_word l) l ls in
    omega (arith, f, g)

pub length-fixed_source : (source cuts : List ℕ)
    → length (fixed_source source cuts) ≤ length source + 13 * word_count source
unfolding fixed_source
length-fixed_source source cuts =
    omega (
      arith,
      size_lines (is_cut cuts) (word_count source) 0 (source_lines source),
      ap length (source_lines-joined source),
    )

pub fixed_source-size_bound : (source cuts text : List ℕ) (image : Parts) → HasImage source image
    → text ≡ fixed_source source cuts
    → length source < 2 ^ 31 → length text < 2 ^ 32
fixed_source-size_bound source cuts text image h e l =
    let w = h.good.fields.words.1 in
    let n = HasImage-word_count source image h in
    omega (arith, ap length e, length-fixed_source source cuts, w, n)

pub no_cuts-IsFixedSource : (source cuts text : List ℕ) (image : Parts) → HasCuts source image cuts → length cuts ≡ 0
    → text ≡ source → IsFixedSource source text
no_cuts-IsFixedSource source cuts text image h z e =
    let none : cuts ≡ [] = no_cuts cuts z in
    record {
      image = image;
      cuts = cuts;
      has_cuts = h;
      free = inl none;
      text_is = e ∙ sym (ap (fixed_source source) none ∙ fixed_source-no_cuts source);
      fixed = image;
      has_image = subst (λ (s : List ℕ). HasImage s image) (sym e) h.has_image;
    }
  where
    no_cuts : (xs : List ℕ) → length xs ≡ 0 → xs ≡ []
    no_cuts [] f = refl
    no_cuts (x ∷ xs) f = absurd (omega arith)
