-- A source that is not refused has an image.
use Rattle.std.proofs.Common.{◌≡◌, ◌⊎◌, ℕ, zero, suc, ◌+◌, ◌*◌, ◌/◌, ◌%◌, ◌<◌, ◌≤◌, List, [], ◌∷◌, ◌++◌, length, map}
use Rattle.std.proofs.Common.{replicate, All, Bool, true, false, cond, ◌||◌, nat_lt, Option, None, Some, is_some}
use Rattle.std.proofs.Common.{Result, Ok, Err, refl, sym, ◌∙◌, ap, subst, inl, inr, append-nil, append_assoc}
use Rattle.std.proofs.Common.{length-append, arith}
use Rattle.std.specs.List.{flat_map, filter_map}
use Rattle.std.specs.Option.{option_map, option_map_or, unwrap_or}
use Rattle.std.specs.Result.{result_unwrap_or}
use Rattle.std.specs.Str.Lines.{lines}
use Rattle.std.proofs.lemmas.Bool.Decides.{nat_tests}
use Rattle.std.proofs.lemmas.List.{length-replicate}
use Rattle.std.proofs.lemmas.List.Elements.{All-nil, All-cons, All-append, All-replicate}
use Rattle.std.proofs.lemmas.Bool.{or_parts}
use Rattle.alpha_words.specs.Digits.{digits, low_bytes}
use Rattle.alpha_words.specs.declared.Level.{Level}
use Rattle.alpha_words.specs.Levels.{level_number}
use Rattle.alpha_table.specs.declared.form.Form.{Form}
use Rattle.alpha_table.specs.Columns.{level_of}
use Rattle.alpha_table.specs.Decoded.{decoded}
use Rattle.alpha_table.specs.Row.{IsInsn}
use Rattle.alpha_table.proofs.Levels.{level_in-decoded}
use Rattle.alpha_table.proofs.DecodedInsns.{decoded-Row}
use Rattle.alpha_table.proofs.InsnWords.{Row-exists}
use Rattle.alpha_text.specs.declared.reader.LineFault.{LineFault}
use Rattle.alpha_text.specs.Statements.{Stmt}
use Rattle.alpha_text.specs.Statements as says
use Rattle.alpha_text.specs.Reading.{LineStmt, read}
use Rattle.alpha_image.specs.Numbers.{Numbers}
use Rattle.alpha_image.specs.Rules.{FieldsFit}
use Rattle.alpha_image.specs.FieldTests.{least_bad_field}
use Rattle.alpha_image.specs.Parts.{Parts, numbers, SuitsVersion, IsCodeWord, IsByte, IsImage}
use Rattle.alpha_image.specs.Reading.{numbered_level}
use Rattle.alpha_image.specs.PartsOf.{parts_with}
use Rattle.alpha_image.proofs.FieldRules.{FieldsFit-least, option_or-both_none}
use Rattle.alpha_image.proofs.CodeWords.{option_map-none}
use Rattle.alpha_asm.specs.declared.fault.AsmFault.{AsmFault}
use Rattle.alpha_asm.specs.declared.fault.AsmFault.TheVariants.{Undefined, ImageField, Reach, Section, Duplicate}
use Rattle.alpha_asm.specs.declared.fault.AsmFault.TheVariants.{LongLine}
use Rattle.alpha_asm.specs.Statement.{InsnStmt, coded, Cell, number, address, cells, data_size, Entry}
use Rattle.alpha_asm.specs.Layout.{Place, Placed, layout, end, place_after, filled_pad, fields, first, location_of}
use Rattle.alpha_asm.specs.Layout.{is_data}
use Rattle.alpha_asm.specs.Layout.{is_misplaced, is_misplaced_insn, repeats_field, repeats_label}
use Rattle.alpha_asm.specs.Program.{Program, program_of, Known, address_of, reached, displaced, quadword_of, insn_in}
use Rattle.alpha_asm.specs.Program.{code_in, cell_bytes, bytes_in, known, names_in, undefined_line, out_of_range_line}
use Rattle.alpha_asm.specs.Program.{version_of, own_segments, segments_of, data_base_of, numbers_of, program}
use Rattle.alpha_asm.specs.declared.kind.SourceKind.TheVariants as source_kinds
use Rattle.alpha_asm.specs.Assembled.{item_at, refused, refused_read, first_refused, unless, assembled_program, made_at}
use Rattle.alpha_asm.specs.Assembled.{assembled}
use Rattle.alpha_asm.specs.Pass.{Sound}
use Rattle.alpha_asm.proofs.NextItem.{item_behind, end-snoc, layout-snoc, flat_map-snoc}
use Rattle.alpha_asm.proofs.FinishedProgram.{own-filled}
use Rattle.alpha_asm.proofs.ReachedAddresses.{reaches-like}
use Rattle.alpha_asm.proofs.SoundPlaces.{sound-place_after}
use Rattle.alpha_asm.proofs.IsWhole.{length-code_in, length-cells}
use Rattle.alpha_round.specs.Source.{IsSourceOf}
use Rattle.alpha_round.proofs.LineInsns.{SaysInsn, read-insn}

-- ---- the bytes of a statement

byte_digits : (n v : ℕ) → All IsByte (low_bytes n v)
unfolding digits
byte_digits zero v = All-nil IsByte
byte_digits (suc n) v = All-cons IsByte (v % 256) (low_bytes n (v / 256)) (omega arith) (byte_digits n (v / 256))

cells_bytes : (k : Known) (cs : List Cell) → All IsByte (flat_map (cell_bytes k) cs)
cells_bytes k [] = All-nil IsByte
cells_bytes k (number n v ∷ cs) =
    All-append IsByte (low_bytes n v) (flat_map (cell_bytes k) cs) (byte_digits n v) (cells_bytes k cs)
cells_bytes k (address r ∷ cs) =
    All-append IsByte (low_bytes 8 (unwrap_or (quadword_of (address_of k r)) 0)) (flat_map (cell_bytes k) cs)
    (byte_digits 8 (unwrap_or (quadword_of (address_of k r)) 0)) (cells_bytes k cs)

item_bytes : (k : Known) (x : Placed) → All IsByte (bytes_in k x)
item_bytes k x =
    All-append IsByte (flat_map (cell_bytes k) (cells x.item.statement))
    (replicate (filled_pad x.place x.item.statement) 0)
    (cells_bytes k (cells x.item.statement))
    (All-replicate IsByte (filled_pad x.place x.item.statement) 0 (let l : 0 < 256 = omega arith in l))

length-bytes_in : (k : Known) (x : Placed)
    → length (bytes_in k x) ≡ data_size x.item.statement + filled_pad x.place x.item.statement
length-bytes_in k x =
    length-append (flat_map (cell_bytes k) (cells x.item.statement)) (replicate (filled_pad x.place x.item.statement) 0)
    ∙ (ap (λ n. n + length (replicate {A = ℕ} (filled_pad x.place x.item.statement) 0))
    (length-cells k (cells x.item.statement))
    ∙ ap (λ n. data_size x.item.statement + n) (length-replicate {A = ℕ} (filled_pad x.place x.item.statement) 0))

-- ---- the instruction of a statement

-- an instruction that an image of this level may have
abbrev IsAllowed : Option ℕ → Form → Type 0
IsAllowed level i = IsInsn i × (level_number (level_of i) ≤ unwrap_or level 1)

low_level : (p : Place) (i : Form) → is_misplaced_insn p i ≡ false → level_number (level_of i) ≤ unwrap_or p.level 1
low_level p i m =
    let (a, b) = or_parts (is_data p.section) (nat_lt (unwrap_or p.level 1) (level_number (level_of i))) m in
    grind (arith, nat_tests)

abbrev insn_or : Form → Option InsnStmt → Form
insn_or i o = option_map_or (λ c. c.insn) o i

coded_allowed : (p : Place) (s : Stmt) (c : InsnStmt) → coded s ≡ Some c → SaysInsn s → is_misplaced p s ≡ false
    → IsAllowed p.level c.insn
coded_allowed p (says.code i) c e h m =
    let same : i ≡ c.insn = ap (λ (o : Option InsnStmt). insn_or i o) e in
    rw (← same) (h, low_level p i m)
coded_allowed p (says.target i label offset) c e h m =
    let same : i ≡ c.insn = ap (λ (o : Option InsnStmt). insn_or i o) e in
    rw (← same) (h, low_level p i m)
coded_allowed p (says.high i label offset) c e h m =
    let same : i ≡ c.insn = ap (λ (o : Option InsnStmt). insn_or i o) e in
    rw (← same) (h, low_level p i m)
coded_allowed p (says.low i label offset) c e h m =
    let same : i ≡ c.insn = ap (λ (o : Option InsnStmt). insn_or i o) e in
    rw (← same) (h, low_level p i m)
coded_allowed p s c e h m = cc

insn_allowed : (k : Known) (p : Place) (level : Option ℕ) (c : InsnStmt) → IsAllowed level c.insn
    → IsAllowed level (insn_in k p c)
insn_allowed k p level c (h, l) =
    elim c.reach as (λ r. IsAllowed level (option_map_or (λ r.
    option_map_or (displaced c.insn) (reached r.0 (k.code_base + 4 * p.words) (address_of k r.1)) c.insn) r c.insn)) [
      | None ↦ (h, l)
      | Some r ↦ let like = reaches-like r.0 (k.code_base + 4 * p.words) (address_of k r.1) c.insn h in
          (like.insn, rw like.level l)
    ]

-- ---- what holds behind the items of lines that are not refused

record Consistent (k : Known) (is : List LineStmt) : Type 0 where
  sound : Sound (end is) (length (flat_map (bytes_in k) (layout is)))
  words : (end is).words ≡ length (flat_map (code_in k) (layout is))
  code : All (IsAllowed (end is).level) (flat_map (code_in k) (layout is))
  fresh : (end is).begun ≡ false → flat_map (code_in k) (layout is) ≡ []
  bytes : All IsByte (flat_map (bytes_in k) (layout is))

consistent_none : (k : Known) → Consistent k []
unfolding end layout
consistent_none k = record {
  sound = record { filled = (refl, refl); fresh = λ e. (refl, refl, refl) };
  words = refl;
  code = All-nil (IsAllowed None);
  fresh = λ e. refl;
  bytes = All-nil IsByte;
}

-- a level stands before all instructions
level_stays : (p : Place) (s : Stmt) (code : List Form) → is_misplaced p s ≡ false → (p.begun ≡ false → code ≡ [])
    → All (IsAllowed p.level) code → All (IsAllowed (place_after p s).level) code
level_stays p (says.level n) code m fresh h = rw (fresh m) (All-nil (IsAllowed (Some n)))
level_stays p s code m fresh h = h

-- an instruction is no level
same_level : (p : Place) (s : Stmt) (c : InsnStmt) → coded s ≡ Some c → (place_after p s).level ≡ p.level
same_level p (says.level n) c e = cc
same_level p s c e = refl

code_allowed : (k : Known) (p : Place) (s : Stmt) → SaysInsn s → is_misplaced p s ≡ false
    → All (IsAllowed (place_after p s).level) (option_map_or (λ c. insn_in k p c ∷ []) (coded s) [])
code_allowed k p s h m = by (coded s) refl
  where
    by : (o : Option InsnStmt) → coded s ≡ o
        → All (IsAllowed (place_after p s).level) (option_map_or (λ c. insn_in k p c ∷ []) o [])
    by None e = All-nil (IsAllowed (place_after p s).level)
    by (Some c) e =
        let here : IsAllowed (place_after p s).level (insn_in k p c) =
        rw (same_level p s c e) (insn_allowed k p p.level c (coded_allowed p s c e h m)) in
        All-cons (IsAllowed (place_after p s).level) (insn_in k p c) [] here
        (All-nil (IsAllowed (place_after p s).level))

-- without a statement there is no instruction
nothing_begun : (k : Known) (p : Place) (s : Stmt) (code : List Form) → (p.begun ≡ false → code ≡ [])
    → (place_after p s).begun ≡ false → code ++ option_map_or (λ c. insn_in k p c ∷ []) (coded s) [] ≡ []
nothing_begun k p says.empty code fresh g = append-nil code ∙ fresh (or_parts p.begun false g).0
nothing_begun k p s code fresh g = let no : true ≡ false = (or_parts p.begun true g).1 in cc

consistent_more : (k : Known) (is : List LineStmt) (i : LineStmt) → Consistent k is → SaysInsn i.statement
    → is_misplaced (end is) i.statement ≡ false → Consistent k (is ++ i ∷ [])
consistent_more k is i consistent h m =
    let x : Placed = item_behind is i in
    let code : flat_map (code_in k) (layout (is ++ i ∷ []))
    ≡ flat_map (code_in k) (layout is) ++ code_in k (item_behind is i) =
    ap (flat_map (code_in k)) (layout-snoc is i) ∙ flat_map-snoc (code_in k) (layout is) (item_behind is i) in
    let bytes : flat_map (bytes_in k) (layout (is ++ i ∷ []))
    ≡ flat_map (bytes_in k) (layout is) ++ bytes_in k (item_behind is i) =
    ap (flat_map (bytes_in k)) (layout-snoc is i) ∙ flat_map-snoc (bytes_in k) (layout is) (item_behind is i) in
    let size : length (flat_map (bytes_in k) (layout is) ++ bytes_in k (item_behind is i))
    ≡ length (flat_map (bytes_in k) (layout is)) + (data_size i.statement + filled_pad (end is) i.statement) =
    length-append (flat_map (bytes_in k) (layout is)) (bytes_in k (item_behind is i))
    ∙ ap (λ n. length (flat_map (bytes_in k) (layout is)) + n) (length-bytes_in k (item_behind is i)) in
    let count : length (flat_map (code_in k) (layout is) ++ code_in k (item_behind is i))
    ≡ length (flat_map (code_in k) (layout is)) + cond (is_some (coded i.statement)) 1 0 =
    length-append (flat_map (code_in k) (layout is)) (code_in k (item_behind is i))
    ∙ ap (λ n. length (flat_map (code_in k) (layout is)) + n) (length-code_in k (end is) (coded i.statement)) in
    let sound : Sound (place_after (end is) i.statement)
    (length (flat_map (bytes_in k) (layout is)) + (data_size i.statement + filled_pad (end is) i.statement)) =
    sound-place_after (end is) (length (flat_map (bytes_in k) (layout is))) i.statement m consistent.sound in
    record {
      sound = rw (end-snoc is i, bytes, size) sound;
      words = rw (end-snoc is i, code, count) (ap (λ n. n + cond (is_some (coded i.statement)) 1 0) consistent.words);
      code =
          rw (end-snoc is i, code)
          (All-append (IsAllowed (place_after (end is) i.statement).level) (flat_map (code_in k) (layout is))
          (code_in k (item_behind is i))
          (level_stays (end is) i.statement (flat_map (code_in k) (layout is)) m consistent.fresh consistent.code)
          (code_allowed k (end is) i.statement h m));
      fresh =
          rw (end-snoc is i, code)
          (nothing_begun k (end is) i.statement (flat_map (code_in k) (layout is)) consistent.fresh);
      bytes =
          rw bytes
          (All-append IsByte (flat_map (bytes_in k) (layout is)) (bytes_in k (item_behind is i)) consistent.bytes
          (item_bytes k (item_behind is i)));
    }

-- a line that is not refused is read, and what it says is not misplaced
refused-None_reads : (is : List LineStmt) (line : List ℕ) → refused source_kinds.Program is line ≡ None
    → (i : LineStmt) × (read line ≡ Ok i) × (is_misplaced (end is) i.statement ≡ false)
unfolding refused
refused-None_reads is line = by (nat_lt 1024 (length line)) (read line) refl
  where
    placed_so : (i : LineStmt) (a b : Bool)
        → cond a (Some (Section (length is + 1))) (cond b (Some (Duplicate (length is + 1))) None) ≡ None → a ≡ false
    placed_so i false b h = refl
    placed_so i true b h = cc

    by : (t : Bool) (r : Result LineStmt LineFault) → read line ≡ r
        → cond t (Some (LongLine (length is + 1))) (refused_read source_kinds.Program is (length is + 1) r) ≡ None
        → (i : LineStmt) × (read line ≡ Ok i) × (is_misplaced (end is) i.statement ≡ false)
    by true r e h = cc
    by false (Err fault) e h = cc
    by false (Ok i) e h = (
      i,
      e,
      placed_so i (is_misplaced (end is) i.statement)
          (repeats_field (fields (layout is)) i.statement || repeats_label (location_of (layout is)) i.label) h,
    )

consistent_all : (k : Known) (is : List LineStmt) (ls : List (List ℕ)) → Consistent k is
    → first_refused source_kinds.Program is ls ≡ None → Consistent k (is ++ map item_at ls)
consistent_all k is [] consistent h = rw (append-nil is) consistent
consistent_all k is (l ∷ ls) consistent h =
    let (taken, rest) = option_or-both_none (refused source_kinds.Program is l)
    (first_refused source_kinds.Program (is ++ item_at l ∷ []) ls) h in
    let (i, e, m) = refused-None_reads is l taken in
    let at : item_at l ≡ i = ap (λ r. result_unwrap_or r (record { label = None; statement = says.empty })) e in
    let next : Consistent k (is ++ item_at l ∷ []) = rw at (consistent_more k is i consistent (read-insn l i e) m) in
    subst (Consistent k) (append_assoc is (item_at l ∷ []) (map item_at ls))
    (consistent_all k (is ++ item_at l ∷ []) ls next rest)

-- ---- the words of the code

record Words (level : Level) (code : List Form) : Type 0 where
  words : List ℕ
  good : All (IsCodeWord level) words
  read : filter_map decoded words ≡ code
  count : length words ≡ length code

words_of : (level : Level) (code : List Form)
    → All (λ i. IsInsn i × (level_number (level_of i) ≤ level_number level)) code → Words level code
words_of level [] h = record { words = []; good = All-nil (IsCodeWord level); read = refl; count = refl }
words_of level (i ∷ code) h =
    let (insn, low) = h 0 i (omega arith) in
    let (w, small, row) = Row-exists i insn in
    let more = words_of level code (λ k d l. h (suc k) d (omega (arith, l))) in
    let found : decoded w ≡ Some i = decoded-Row w i row in
    record {
      words = w ∷ more.words;
      good = All-cons (IsCodeWord level) w more.words (small, (level_in-decoded level w).1 (rw found low)) more.good;
      read = rw found (ap (λ l. i ∷ l) more.read);
      count = ap suc more.count;
    }

-- ---- the image

fitting_level : (n : ℕ) → (n ≡ 1) ⊎ (n ≡ 2) → level_number (numbered_level n) ≡ n
fitting_level n (inl e) = rw e refl
fitting_level n (inr e) = rw e refl

level_one-single_segment : (level : Option ℕ) (n : Numbers) → n.level ≡ unwrap_or level 1
    → (level ≡ None → length n.segments ≡ 1)
    → SuitsVersion (version_of level) n
level_one-single_segment None n e h = (e, h refl)
level_one-single_segment (Some l) n e h = tt

abbrev image_of : List LineStmt → Entry → List ℕ → Parts
image_of is entry words =
    parts_with (version_of (end is).level) (numbers_of is entry) words (flat_map (bytes_in (known is)) (layout is))

good_image : (is : List LineStmt) (entry : Entry) → Consistent (known is) is → FieldsFit (numbers_of is entry)
    → (image : Parts) × IsImage image × (program_of image ≡ program is entry)
unfolding segments_of
good_image is entry consistent fit =
    let n : Numbers = numbers_of is entry in
    let level : level_number (numbered_level (unwrap_or (end is).level 1)) ≡ unwrap_or (end is).level 1 =
    fitting_level (unwrap_or (end is).level 1) fit.level in
    let allowed : All
    (λ i. IsInsn i × (level_number (level_of i) ≤ level_number (numbered_level (unwrap_or (end is).level 1))))
    (flat_map (code_in (known is)) (layout is)) =
    rw level consistent.code in
    let w =
    words_of (numbered_level (unwrap_or (end is).level 1)) (flat_map (code_in (known is)) (layout is)) allowed in
    let (filled, single) = own-filled (end is).level (end is).section (end is).earlier (end is).last
    (data_base_of (fields (layout is))) (length (flat_map (bytes_in (known is)) (layout is))) consistent.sound.filled in
    let count : length w.words ≡ (end is).words = w.count ∙ sym consistent.words in
    let same : numbers (image_of is entry w.words) ≡ numbers_of is entry =
    λ i. record (numbers_of is entry) { level = level i; words = count i } in
    let code : program_of (image_of is entry w.words) ≡ program is entry =
    ap (λ (c : List Form). record (program is entry) { code = c }) w.read in
    let one : (end is).level ≡ None → length (own_segments (end is).level (segments_of is)) ≡ 1 =
    λ e. rw e (single e) in (
      image_of is entry w.words,
      record {
        version =
            subst (SuitsVersion (version_of (end is).level)) (sym same)
            (level_one-single_segment (end is).level (numbers_of is entry) refl one);
        fields = subst FieldsFit (sym same) fit;
        words = w.good;
        bytes = consistent.bytes;
        filled = filled;
      },
      code,
    )

-- ---- a source

unless-ok : {A : Type 0} (o : Option AsmFault) (r : Result A AsmFault) (x : A) → unless o r ≡ Ok x
    → (o ≡ None) × (r ≡ Ok x)
unless-ok None r x h = (refl, h)
unless-ok (Some fault) r x h = cc

made_image : (is : List LineStmt) (e : Option Entry) (made : Program) → Consistent (known is) is
    → made_at is e ≡ Ok made → (image : Parts) × IsImage image × (program_of image ≡ made)
made_image is None made consistent h = cc
made_image is (Some entry) made consistent h =
    let (defined, a) =
    unless-ok (option_map Undefined (first (undefined_line (known is)) (flat_map names_in (layout is)))) _ made h in
    let (fine, b) = unless-ok (option_map ImageField (least_bad_field (numbers_of is entry))) _ made a in
    let (met, c) =
    unless-ok (option_map Reach (first (out_of_range_line (known is)) (flat_map names_in (layout is)))) _ made b in
    let same : program is entry ≡ made = cc c in
    let (image, good, code) = good_image is entry consistent
    (FieldsFit-least (numbers_of is entry) (option_map-none ImageField (least_bad_field (numbers_of is entry)) fine)) in
    (image, good, code ∙ same)

pub IsSourceOf-exists : (source : List ℕ) (found : Program) → assembled source ≡ Ok found
    → (image : Parts) × IsSourceOf source image
unfolding assembled assembled_program
IsSourceOf-exists source found h =
    let (taken, done) = unless-ok (first_refused source_kinds.Program [] (lines source))
    (assembled_program (map item_at (lines source))) found h in
    let consistent : Consistent (known (map item_at (lines source))) (map item_at (lines source)) =
    consistent_all (known (map item_at (lines source))) [] (lines source)
    (consistent_none (known (map item_at (lines source)))) taken in
    let (image, good, code) = made_image (map item_at (lines source))
    (fields (layout (map item_at (lines source)))).entry found consistent done in
    (image, (good, h ∙ ap Ok (sym code)))
