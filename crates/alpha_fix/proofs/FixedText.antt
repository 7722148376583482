-- The text with barriers, built line by line.
use Rattle.std.proofs.Common.{◌≡◌, ℕ, suc, ◌+◌, ◌<◌, ◌≤◌, List, [], ◌∷◌, ◌++◌, length, filter, map, get_or, Bool, true}
use Rattle.std.proofs.Common.{false, cond, ◌&&◌, ◌||◌, eqb, nat_eq, None, Some, refl, sym, ◌∙◌, ap, subst, append_assoc}
use Rattle.std.proofs.Common.{arith}
use Rattle.std.specs.List.{flat_map}
use Rattle.std.specs.Str.Lines.{lines}
use Rattle.std.proofs.lemmas.List.{append-nil}
use Rattle.std.proofs.lemmas.Grind.{flat_map-append}
use Rattle.std.proofs.lemmas.Bool.Decides.{nat_tests}
use Rattle.alpha_text.specs.Statements.{Stmt}
use Rattle.alpha_text.specs.Reading.{LineStmt}
use Rattle.alpha_asm.specs.declared.kind.SourceKind.TheVariants as source_kinds
use Rattle.alpha_asm.specs.Assembled.{item_at, first_refused}
use Rattle.alpha_asm.specs.declared.lines.Line.{Line}
use Rattle.alpha_fix.specs.declared.barriers.Role.TheVariants.{FixedLine, Insn, Other}
use Rattle.alpha_fix.specs.Cuts.{Rise}
use Rattle.alpha_asm.specs.SourceLines.{SourceLine, line_bytes, line_text, source_lines, line_item}
use Rattle.alpha_fix.specs.FixedSource.{is_cut, trapb_line, has_insn, has_word, word_count, bar_if, then_bar}
use Rattle.alpha_fix.specs.FixedSource.{fixed_lines, fixed_source}
use Rattle.alpha_fix.specs.FixedLines.{items_of, depends_on_position, least_line, names_code, code_base, fixed_line}
use Rattle.alpha_asm.specs.SourceLines.{Is, IsFirst}
use Rattle.alpha_fix.specs.Lines.{role}
use Rattle.alpha_asm.proofs.SourceLines.{lines-source_lines}
use Rattle.alpha_fix.proofs.FixedItems.{items_by_lines}
use Rattle.alpha_fix.proofs.BarrierMarks.{below_cuts}
use Rattle.alpha_fix.proofs.SourcePrograms.{AllRead, all_read}

-- a place that isn't the first of the cuts is none of them
pub is_cut-not_first : (cuts : List ℕ) (place : ℕ) → Rise place cuts → 1 ≤ length cuts → (get_or cuts 0 0 ≡ place → ⊥)
    → false ≡ is_cut cuts place
is_cut-not_first [] place r some ne = absurd (omega arith)
is_cut-not_first (cut ∷ cuts) place (l, r) some ne =
    let t : eqb cut place ≡ false = grind (arith, nat_tests) in
    sym (ap (λ b. b || is_cut cuts place) t ∙ below_cuts (cut + 1) place cuts r (omega arith))

abbrev is_position_dependent : List ℕ → ℕ → Stmt → Bool
is_position_dependent source base = depends_on_position (names_code (items_of source)) base

pub record TextUnderway (source cuts : List ℕ) (words base : ℕ) (rest text left : List ℕ)
    (number place : ℕ) : Type 0 where
  -- the text so far and the rest with barriers
  pub whole : text ++ flat_map line_bytes (fixed_lines (is_cut cuts) words place (source_lines rest))
      ≡ fixed_source source cuts
  -- the cuts from here on are left
  pub cut : (k : ℕ) → place ≤ k → is_cut cuts k ≡ is_cut left k
  pub rise : Rise place left
  pub count : place + length (filter has_word (source_lines rest)) ≡ words
  -- no line so far is fixed
  pub free : least_line (is_position_dependent source base) number (map line_item (source_lines rest))
      ≡ fixed_line source
  pub read : AllRead (map line_text (source_lines rest))
  pub size : number + length rest ≤ length source + 1

pub TextUnderway-start : (source cuts : List ℕ) (words base : ℕ) → base ≡ code_base (items_of source)
    → words ≡ word_count source
    → Rise 0 cuts → first_refused source_kinds.Program [] (lines source) ≡ None
    → TextUnderway source cuts words base source [] cuts 1 0
unfolding fixed_source fixed_line
TextUnderway-start source cuts words base b w r t = record {
  whole = ap (λ (n : ℕ). flat_map line_bytes (fixed_lines (is_cut cuts) n 0 (source_lines source))) w;
  cut = λ k h. refl;
  rise = r;
  count = omega (arith, w);
  free =
      ap (λ (n : ℕ). least_line (is_position_dependent source n) 1 (map line_item (source_lines source))) b
      ∙ ap (least_line (is_position_dependent source (code_base (items_of source))) 1) (sym (items_by_lines source));
  read = subst AllRead (lines-source_lines source) (all_read [] (lines source) t);
  size = omega arith;
}

-- the line in hand is short
pub TextUnderway-line_short : (source cuts : List ℕ) (words base : ℕ) (rest text left : List ℕ) (number place : ℕ)
    (l : Line)
    → TextUnderway source cuts words base rest text left number place → IsFirst rest l
    → length l.text.now ≤ 1024
TextUnderway-line_short source cuts words base rest text left number place l u f =
    let r : AllRead (line_text f.line ∷ map line_text (source_lines l.rest.now)) =
    subst (λ (ls : List SourceLine). AllRead (map line_text ls)) f.lines u.read in
    let s = r.0 in
    omega (arith, ap length f.is.text)

role_fixed : (a b : Bool) → FixedLine ≡ role a b → a ≡ true
role_fixed true b e = refl
role_fixed false true e = cc
role_fixed false false e = cc

pub role_insn : (a b : Bool) → Insn ≡ role a b → (a ≡ false) × (b ≡ true)
role_insn true b e = cc
role_insn false true e = (refl, refl)
role_insn false false e = cc

pub role_other : (a b : Bool) → Other ≡ role a b → (a ≡ false) × (b ≡ false)
role_other true b e = cc
role_other false true e = cc
role_other false false e = (refl, refl)

module _ (source cuts : List ℕ) (words base : ℕ) (rest text left : List ℕ) (number place : ℕ) (l : Line)
    (symbols : List ℕ)
    (u : TextUnderway source cuts words base rest text left number place) (f : IsFirst rest l)
    (s : symbols ≡ source) where
  abbrev item_here : LineStmt
  item_here = item_at l.text.now

  fixed_here : depends_on_position (names_code (items_of symbols)) base item_here.statement
      ≡ depends_on_position (names_code (items_of source)) base (line_item f.line).statement
  fixed_here =
      ap (λ (t : List ℕ). depends_on_position (names_code (items_of t)) base item_here.statement) s
      ∙ ap (λ (t : List ℕ). depends_on_position (names_code (items_of source)) base (item_at t).statement)
      (sym f.is.text)

  word_here : has_insn item_here ≡ has_word f.line
  word_here = ap (λ (t : List ℕ). has_insn (item_at t)) (sym f.is.text)

  free_here : cond (depends_on_position (names_code (items_of symbols)) base item_here.statement)
      (Some number)
      (least_line (is_position_dependent source base) (number + 1) (map line_item (source_lines l.rest.now)))
      ≡ fixed_line source
  free_here =
      ap
      (λ b. cond b (Some number)
      (least_line (is_position_dependent source base) (number + 1) (map line_item (source_lines l.rest.now))))
      fixed_here
      ∙ (ap (λ (ls : List SourceLine). least_line (is_position_dependent source base) number (map line_item ls))
      (sym f.lines)
      ∙ u.free)

  pub fixed_now : FixedLine
      ≡ role (depends_on_position (names_code (items_of symbols)) base item_here.statement) (has_insn item_here)
      → fixed_line source ≡ Some number
  fixed_now e =
      let t = role_fixed (depends_on_position (names_code (items_of symbols)) base item_here.statement)
      (has_insn item_here) e in
      sym (ap (λ b. cond b (Some number)
      (least_line (is_position_dependent source base) (number + 1) (map line_item (source_lines l.rest.now)))) (sym t)
      ∙ free_here)

  free_on : depends_on_position (names_code (items_of symbols)) base item_here.statement ≡ false
      → least_line (is_position_dependent source base) (number + 1) (map line_item (source_lines l.rest.now))
      ≡ fixed_line source
  free_on t =
      ap (λ b. cond b (Some number)
      (least_line (is_position_dependent source base) (number + 1) (map line_item (source_lines l.rest.now)))) (sym t)
      ∙ free_here

  count_here : place + length (cond (has_insn item_here)
      (f.line ∷ filter has_word (source_lines l.rest.now)) (filter has_word (source_lines l.rest.now)))
      ≡ words
  count_here =
      ap (λ b. place + length (cond b (f.line ∷ filter has_word (source_lines l.rest.now))
      (filter has_word (source_lines l.rest.now))))
      word_here
      ∙ (ap (λ (ls : List SourceLine). place + length (filter has_word ls)) (sym f.lines) ∙ u.count)

  pub insn_place-below : Insn
      ≡ role (depends_on_position (names_code (items_of symbols)) base item_here.statement) (has_insn item_here)
      → place < words
  insn_place-below e =
      let t = (role_insn (depends_on_position (names_code (items_of symbols)) base item_here.statement)
      (has_insn item_here) e).1 in
      let c : place + suc (length (filter has_word (source_lines l.rest.now))) ≡ words =
      ap (λ b. place + length (cond b (f.line ∷ filter has_word (source_lines l.rest.now))
      (filter has_word (source_lines l.rest.now)))) (sym t) ∙ count_here in
      omega arith

  read_on : AllRead (map line_text (source_lines l.rest.now))
  read_on =
      let r : AllRead (line_text f.line ∷ map line_text (source_lines l.rest.now)) =
      subst (λ (ls : List SourceLine). AllRead (map line_text ls)) f.lines u.read in
      r.2

  whole_here : text ++ flat_map line_bytes (cond (has_insn item_here)
      (bar_if (is_cut cuts place) trapb_line
      ++ (then_bar (nat_eq (place + 1) words && is_cut cuts words) f.line
      ++ fixed_lines (is_cut cuts) words (place + 1) (source_lines l.rest.now)))
      (f.line ∷ fixed_lines (is_cut cuts) words place (source_lines l.rest.now))) ≡ fixed_source source cuts
  whole_here =
      ap (λ b. text ++ flat_map line_bytes (cond b
      (bar_if (is_cut cuts place) trapb_line
      ++ (then_bar (nat_eq (place + 1) words && is_cut cuts words) f.line
      ++ fixed_lines (is_cut cuts) words (place + 1) (source_lines l.rest.now)))
      (f.line ∷ fixed_lines (is_cut cuts) words place (source_lines l.rest.now)))) word_here
      ∙ (ap (λ (ls : List SourceLine). text ++ flat_map line_bytes (fixed_lines (is_cut cuts) words place ls))
      (sym f.lines)
      ∙ u.whole)

  joined_bars : (bars behind more : List SourceLine) (next : List ℕ)
      → next ≡ text ++ flat_map line_bytes (bars ++ behind)
      → next ++ flat_map line_bytes more ≡ text ++ flat_map line_bytes (bars ++ (behind ++ more))
  joined_bars bars behind more next e =
      ap (λ t. t ++ flat_map line_bytes more) e
      ∙ (append_assoc text (flat_map line_bytes (bars ++ behind)) (flat_map line_bytes more)
      ∙ ap (λ t. text ++ t)
      (sym (flat_map-append line_bytes (bars ++ behind) more)
      ∙ ap (flat_map line_bytes) (append_assoc bars behind more)))

  pub word_on : (before behind : Bool) (later next : List ℕ)
      → Insn ≡ role (depends_on_position (names_code (items_of symbols)) base item_here.statement) (has_insn item_here)
      → length l.rest.now < length rest → before ≡ is_cut left place
      → ((k : ℕ) → place < k → is_cut left k ≡ is_cut later k) → Rise (place + 1) later
      → behind ≡ (nat_eq (place + 1) words && is_cut later words)
      → ((x : SourceLine) → Is x l → next ≡ text ++ flat_map line_bytes (bar_if before trapb_line ++ then_bar behind x))
      → TextUnderway source cuts words base l.rest.now next later (number + 1) (place + 1)
  word_on before behind later next e shorter b more r h put =
      let (free, t) =
      role_insn (depends_on_position (names_code (items_of symbols)) base item_here.statement) (has_insn item_here) e in
      let low : place < words = insn_place-below e in
      let here : before ≡ is_cut cuts place = b ∙ sym (u.cut place (omega arith)) in
      let last : is_cut later words ≡ is_cut cuts words = sym (u.cut words (omega arith) ∙ more words low) in
      let there : behind ≡ (nat_eq (place + 1) words && is_cut cuts words) =
      h ∙ ap (λ c. nat_eq (place + 1) words && c) last in
      let c : place + suc (length (filter has_word (source_lines l.rest.now))) ≡ words =
      ap (λ x. place + length (cond x (f.line ∷ filter has_word (source_lines l.rest.now))
      (filter has_word (source_lines l.rest.now)))) (sym t) ∙ count_here in
      let z = u.size in
      record {
        whole =
            joined_bars (bar_if (is_cut cuts place) trapb_line)
            (then_bar (nat_eq (place + 1) words && is_cut cuts words) f.line)
            (fixed_lines (is_cut cuts) words (place + 1) (source_lines l.rest.now)) next
            (put f.line f.is
            ∙ (ap (λ x. text ++ flat_map line_bytes (bar_if x trapb_line ++ then_bar behind f.line)) here
            ∙ ap (λ x. text ++ flat_map line_bytes (bar_if (is_cut cuts place) trapb_line ++ then_bar x f.line)) there))
            ∙ (ap (λ x. text ++ flat_map line_bytes (cond x
            (bar_if (is_cut cuts place) trapb_line
            ++ (then_bar (nat_eq (place + 1) words && is_cut cuts words) f.line
            ++ fixed_lines (is_cut cuts) words (place + 1) (source_lines l.rest.now)))
            (f.line ∷ fixed_lines (is_cut cuts) words place (source_lines l.rest.now)))) (sym t) ∙ whole_here);
        cut = λ k a. u.cut k (omega arith) ∙ more k (omega arith);
        rise = r;
        count = omega arith;
        free = free_on free;
        read = read_on;
        size = omega arith;
      }

  pub other_on : (next : List ℕ)
      → Other ≡ role (depends_on_position (names_code (items_of symbols)) base item_here.statement) (has_insn item_here)
      → length l.rest.now < length rest
      → ((x : SourceLine) → Is x l → next ≡ text ++ flat_map line_bytes (bar_if false trapb_line ++ then_bar false x))
      → TextUnderway source cuts words base l.rest.now next left (number + 1) place
  other_on next e shorter put =
      let (free, t) = role_other (depends_on_position (names_code (items_of symbols)) base item_here.statement)
      (has_insn item_here) e in
      let c : place + length (filter has_word (source_lines l.rest.now)) ≡ words =
      ap (λ x. place + length (cond x (f.line ∷ filter has_word (source_lines l.rest.now))
      (filter has_word (source_lines l.rest.now)))) (sym t) ∙ count_here in
      let z = u.size in
      record {
        whole =
            joined_bars [] (f.line ∷ []) (fixed_lines (is_cut cuts) words place (source_lines l.rest.now)) next
            (put f.line f.is)
            ∙ (ap (λ x. text ++ flat_map line_bytes (cond x
            (bar_if (is_cut cuts place) trapb_line
            ++ (then_bar (nat_eq (place + 1) words && is_cut cuts words) f.line
            ++ fixed_lines (is_cut cuts) words (place + 1) (source_lines l.rest.now)))
            (f.line ∷ fixed_lines (is_cut cuts) words place (source_lines l.rest.now)))) (sym t) ∙ whole_here);
        cut = u.cut;
        rise = u.rise;
        count = c;
        free = free_on free;
        read = read_on;
        size = omega arith;
      }

  -- the lines with barriers that begin with the line in hand
  lines_here : fixed_lines (is_cut cuts) words place (source_lines rest)
      ≡ cond (has_insn item_here)
      (bar_if (is_cut cuts place) trapb_line
      ++ (then_bar (nat_eq (place + 1) words && is_cut cuts words) f.line
      ++ fixed_lines (is_cut cuts) words (place + 1) (source_lines l.rest.now)))
      (f.line ∷ fixed_lines (is_cut cuts) words place (source_lines l.rest.now))
  lines_here =
      ap (fixed_lines (is_cut cuts) words place) f.lines
      ∙ ap (λ b. cond b
      (bar_if (is_cut cuts place) trapb_line
      ++ (then_bar (nat_eq (place + 1) words && is_cut cuts words) f.line
      ++ fixed_lines (is_cut cuts) words (place + 1) (source_lines l.rest.now)))
      (f.line ∷ fixed_lines (is_cut cuts) words place (source_lines l.rest.now))) (sym word_here)

  pub word_lines : (before behind : Bool) (later : List ℕ)
      → Insn ≡ role (depends_on_position (names_code (items_of symbols)) base item_here.statement) (has_insn item_here)
      → before ≡ is_cut left place
      → ((k : ℕ) → place < k → is_cut left k ≡ is_cut later k)
      → behind ≡ (nat_eq (place + 1) words && is_cut later words)
      → fixed_lines (is_cut cuts) words place (source_lines rest)
      ≡ bar_if before trapb_line
      ++ (then_bar behind f.line ++ fixed_lines (is_cut cuts) words (place + 1) (source_lines l.rest.now))
  word_lines before behind later e b more h =
      let (free, t) =
      role_insn (depends_on_position (names_code (items_of symbols)) base item_here.statement) (has_insn item_here) e in
      let low : place < words = insn_place-below e in
      let here : before ≡ is_cut cuts place = b ∙ sym (u.cut place (omega arith)) in
      let last : is_cut later words ≡ is_cut cuts words = sym (u.cut words (omega arith) ∙ more words low) in
      let there : behind ≡ (nat_eq (place + 1) words && is_cut cuts words) =
      h ∙ ap (λ c. nat_eq (place + 1) words && c) last in
      lines_here
      ∙ (ap (λ x. cond x
      (bar_if (is_cut cuts place) trapb_line
      ++ (then_bar (nat_eq (place + 1) words && is_cut cuts words) f.line
      ++ fixed_lines (is_cut cuts) words (place + 1) (source_lines l.rest.now)))
      (f.line ∷ fixed_lines (is_cut cuts) words place (source_lines l.rest.now))) t
      ∙ (ap (λ x. bar_if x trapb_line
      ++ (then_bar (nat_eq (place + 1) words && is_cut cuts words) f.line
      ++ fixed_lines (is_cut cuts) words (place + 1) (source_lines l.rest.now))) (sym here)
      ∙ ap (λ x. bar_if before trapb_line
      ++ (then_bar x f.line ++ fixed_lines (is_cut cuts) words (place + 1) (source_lines l.rest.now))) (sym there)))

  pub other_lines : Other
      ≡ role (depends_on_position (names_code (items_of symbols)) base item_here.statement) (has_insn item_here)
      → fixed_lines (is_cut cuts) words place (source_lines rest)
      ≡ f.line ∷ fixed_lines (is_cut cuts) words place (source_lines l.rest.now)
  other_lines e =
      let (free, t) = role_other (depends_on_position (names_code (items_of symbols)) base item_here.statement)
      (has_insn item_here) e in
      lines_here
      ∙ ap (λ x. cond x
      (bar_if (is_cut cuts place) trapb_line
      ++ (then_bar (nat_eq (place + 1) words && is_cut cuts words) f.line
      ++ fixed_lines (is_cut cuts) words (place + 1) (source_lines l.rest.now)))
      (f.line ∷ fixed_lines (is_cut cuts) words place (source_lines l.rest.now))) t

empty-from_length : (xs : List ℕ) → length xs ≡ 0 → xs ≡ []
empty-from_length [] h = refl
empty-from_length (x ∷ xs) h = absurd (omega arith)

pub TextUnderway-end_whole : (source cuts : List ℕ) (words base : ℕ) (rest text left : List ℕ) (number place : ℕ)
    → TextUnderway source cuts words base rest text left number place → length rest ≡ 0
    → text ≡ fixed_source source cuts
TextUnderway-end_whole source cuts words base rest text left number place u h =
    sym (append-nil text)
    ∙ (ap (λ (r : List ℕ). text ++ flat_map line_bytes (fixed_lines (is_cut cuts) words place (source_lines r)))
    (sym (empty-from_length rest h)) ∙ u.whole)

pub TextUnderway-end_free : (source cuts : List ℕ) (words base : ℕ) (rest text left : List ℕ) (number place : ℕ)
    → TextUnderway source cuts words base rest text left number place → length rest ≡ 0 → fixed_line source ≡ None
TextUnderway-end_free source cuts words base rest text left number place u h =
    sym (ap (λ (r : List ℕ). least_line (is_position_dependent source base) number (map line_item (source_lines r)))
    (sym (empty-from_length rest h)) ∙ u.free)
