-- The items of a listing make the program of its image.
use Rattle.std.proofs.Common.{◌≡◌, ℕ, suc, ◌+◌, ◌≤◌, List, [], ◌∷◌, ◌++◌, length, map, take, drop, All, true, Option}
use Rattle.std.proofs.Common.{None, Some, Ok, refl, sym, ◌∙◌, ap, subst, append-nil, arith}
use Rattle.std.specs.Option.{unwrap_or, IsSomeAnd}
use Rattle.std.specs.List.{flat_map, filter_map}
use Rattle.std.proofs.lemmas.List.{length-take}
use Rattle.std.proofs.lemmas.List.Elements.{All-nil, All-cons, All-take, All-drop}
use Rattle.std.proofs.lemmas.List.Sums.{sum_by-cons}
use Rattle.alpha_words.specs.declared.Level.{Level}
use Rattle.alpha_words.specs.declared.Level.TheVariants as levels
use Rattle.alpha_words.specs.Levels.{level_number}
use Rattle.alpha_table.specs.declared.form.Form.{Form}
use Rattle.alpha_table.specs.Columns.{level_of}
use Rattle.alpha_table.specs.Decoded.{decoded}
use Rattle.alpha_table.proofs.Levels.{level_in-decoded}
use Rattle.alpha_text.specs.Statements.{Stmt}
use Rattle.alpha_text.specs.Statements as says
use Rattle.alpha_image.specs.declared.segment.Segment.{Segment}
use Rattle.alpha_image.specs.declared.version.Version.{Version}
use Rattle.alpha_image.specs.declared.version.Version.TheVariants.{One, Two}
use Rattle.alpha_image.specs.Layout.{first_segment, filled_size}
use Rattle.alpha_image.specs.FieldTests.{least_bad_field}
use Rattle.alpha_image.specs.Parts.{Parts, Piece, pieces, pieces_of, numbers, SuitsVersion, IsWithin, IsCodeWord}
use Rattle.alpha_image.specs.Parts.{IsByte, IsImage}
use Rattle.alpha_image.proofs.FieldRules.{least-FieldsFit}
use Rattle.alpha_image.proofs.SegmentShares.{flat_map-pieces_of}
use Rattle.alpha_image.proofs.Spelled.{numbered_level-level_number}
use Rattle.alpha_asm.specs.Statement.{entry_at}
use Rattle.alpha_asm.specs.Layout.{Place, Fields, start, layout, placed, end, fields}
use Rattle.alpha_asm.specs.Program.{program_of, names_in, code_in, bytes_in, known, based, own_segments, segments_of}
use Rattle.alpha_asm.specs.Program.{version_of, data_base_of, numbers_of, program_with, program}
use Rattle.alpha_asm.specs.Assembled.{assembled_program, made_at}
use Rattle.alpha_round.proofs.ListingItems.{first_statements, more_heading, piece_statements, statements, listing_items}
use Rattle.alpha_round.proofs.ListingItems.{statement_line}
use Rattle.alpha_round.proofs.StatementsAlone.{place_behind, behind_all-statement_line, place_behind-append}
use Rattle.alpha_round.proofs.StatementsAlone.{AreWellPlaced, AreWellPlaced-append, RepeatNoField}
use Rattle.alpha_round.proofs.StatementsAlone.{RepeatNoField-append, MakesProgram}
use Rattle.alpha_round.proofs.ListedProgram.{MakesProgram-listing}
use Rattle.alpha_round.proofs.ListingPlaces.{level_stmt, in_code, in_data, heading_from, heading_fits, heading_singles}
use Rattle.alpha_round.proofs.ListingPlaces.{insns_place, insns_fit, insns_single}
use Rattle.alpha_round.proofs.SegmentStatements.{place_behind-level_one, AreWellPlaced-level_one, PlaceLeads-pieces}
use Rattle.alpha_round.proofs.SegmentStatements.{AreWellPlaced-segments, pieces_single}

-- ---- the code

-- the instruction of a code word
pub IsCodeWord-one_insn : (level : Level) (w : ℕ) → IsCodeWord level w
    → (i : Form) × (decoded w ≡ Some i) × IsWithin (level_of i) level
IsCodeWord-one_insn level w h = by (decoded w) refl ((level_in-decoded level w).0 h.1)
  where
    by : (o : Option Form) → decoded w ≡ o → IsSomeAnd o (λ i. IsWithin (level_of i) level)
        → (i : Form) × (decoded w ≡ Some i) × IsWithin (level_of i) level
    by None e x = absurd x
    by (Some i) e x = (i, e, x)

-- no instruction is above the level of the image
insns_within : (level : Level) (words : List ℕ) → All (IsCodeWord level) words
    → All (λ i. IsWithin (level_of i) level) (filter_map decoded words)
insns_within level [] h = All-nil (λ i. IsWithin (level_of i) level)
insns_within level (w ∷ ws) h =
    let (i, e, x) = IsCodeWord-one_insn level w (h 0 0 (omega arith)) in
    let more = insns_within level ws (λ k d l. h (suc k) d (omega (arith, l))) in
    rw e (All-cons (λ i. IsWithin (level_of i) level) i (filter_map decoded ws) x more)

insns_length : (level : Level) (words : List ℕ) → All (IsCodeWord level) words
    → length (filter_map decoded words) ≡ length words
insns_length level [] h = refl
insns_length level (w ∷ ws) h =
    let (i, e, x) = IsCodeWord-one_insn level w (h 0 0 (omega arith)) in
    rw e (ap suc (insns_length level ws (λ k d l. h (suc k) d (omega (arith, l)))))

-- ---- the places

abbrev decoded_insns : Parts → List Form
decoded_insns p = filter_map decoded p.words

-- the statements of a listing, by the version
abbrev behind_heading : Version → Parts → List Stmt
behind_heading v p = map says.code (decoded_insns p) ++ flat_map (piece_statements v) (pieces p)

abbrev statements_of : Version → Parts → List Stmt
statements_of v p = (first_statements v p ++ more_heading p) ++ behind_heading v p

-- without a `.level` the level is 1, as that of an image of the first version
level_of_image : (v : Version) (p : Parts) → SuitsVersion v (numbers p)
    → unwrap_or (level_stmt v p) 1 ≡ level_number p.level
level_of_image One p s = sym s.0
level_of_image Two p s = refl

-- the place behind the code
code_place : (v : Version) (p : Parts)
    → place_behind start (statements_of v p)
    ≡ place_behind (in_code (level_stmt v p) (0 + length (decoded_insns p))) (flat_map (piece_statements v) (pieces p))
code_place v p =
    place_behind-append start (first_statements v p ++ more_heading p) (behind_heading v p)
    ∙ (ap (λ q. place_behind q (behind_heading v p)) (heading_from v p)
    ∙ (place_behind-append (in_code (level_stmt v p) 0) (map says.code (decoded_insns p))
    (flat_map (piece_statements v) (pieces p))
    ∙ ap (λ q. place_behind q (flat_map (piece_statements v) (pieces p)))
    (insns_place (level_stmt v p) 0 (decoded_insns p))))

-- the one segment of the first version
first_place : (n : ℕ) (segments : List Segment) (bytes : List ℕ) → length segments ≡ 1
    → length bytes ≡ filled_size segments → All IsByte bytes
    → place_behind (in_code None n) (flat_map (piece_statements One) (pieces_of segments bytes))
    ≡ in_data None n []
    (record { base = 0; filled = (first_segment segments).filled; zeroed = (first_segment segments).zeroed }) true
first_place n [] bytes one e b = absurd (omega arith)
first_place n (s ∷ []) bytes one e b =
    let whole : filled_size (s ∷ []) ≡ s.filled + 0 = sum_by-cons (λ (t : Segment). t.filled) s [] in
    let size : length (take s.filled bytes) ≡ s.filled = omega (arith, length-take s.filled bytes) in
    ap (place_behind (in_code None n))
    (append-nil (piece_statements One (record { base = s.base; bytes = take s.filled bytes; zeroed = s.zeroed })))
    ∙ (place_behind-level_one n s.base (take s.filled bytes) s.zeroed (All-take IsByte s.filled bytes b)
    ∙ ap (λ m. in_data None n [] (record { base = 0; filled = m; zeroed = s.zeroed }) true) size)
first_place n (s ∷ t ∷ rest) bytes one e b = absurd (omega arith)

first_fit : (n : ℕ) (segments : List Segment) (bytes : List ℕ) → length segments ≡ 1 → All IsByte bytes
    → AreWellPlaced (in_code None n) (flat_map (piece_statements One) (pieces_of segments bytes))
first_fit n [] bytes one b = absurd (omega arith)
first_fit n (s ∷ []) bytes one b =
    subst (AreWellPlaced (in_code None n))
    (sym (append-nil (piece_statements One (record { base = s.base; bytes = take s.filled bytes; zeroed = s.zeroed }))))
    (AreWellPlaced-level_one n s.base (take s.filled bytes) s.zeroed (All-take IsByte s.filled bytes b))
first_fit n (s ∷ t ∷ rest) bytes one b = absurd (omega arith)

-- with its base it is the segment of the image
only_segment : (segments : List Segment) (base : ℕ) → length segments ≡ 1 → base ≡ (first_segment segments).base
    → record { base = base; filled = (first_segment segments).filled; zeroed = (first_segment segments).zeroed } ∷ []
    ≡ segments
only_segment [] base one e = absurd (omega arith)
only_segment (s ∷ []) base one e = ap (λ (m : ℕ). record { base = m; filled = s.filled; zeroed = s.zeroed } ∷ []) e
only_segment (s ∷ t ∷ rest) base one e = absurd (omega arith)

-- a `.database` is the base of the one segment of the first version
abbrev HasBase : Version → Parts → ℕ → Type 0
HasBase One p base = base ≡ (first_segment p.segments).base
HasBase Two p base = Unit {0}

-- the place behind all statements
record EndsListing (v : Version) (p : Parts) (q : Place) : Type 0 where
  level : q.level ≡ level_stmt v p
  words : q.words ≡ length p.words
  segments : (base : ℕ) → HasBase v p base → own_segments q.level (based base (q.earlier ++ q.last ∷ [])) ≡ p.segments

-- the place behind the segments
segments_end : (v : Version) (p : Parts) (n : ℕ) → n ≡ length p.words → SuitsVersion v (numbers p)
    → length p.bytes ≡ filled_size p.segments → All IsByte p.bytes
    → EndsListing v p (place_behind (in_code (level_stmt v p) n) (flat_map (piece_statements v) (pieces p)))
segments_end One p n same s e b =
    subst (EndsListing One p) (sym (first_place n p.segments p.bytes s.1 e b))
    (record { level = refl; words = same; segments = λ base h. only_segment p.segments base s.1 h })
segments_end Two p n same s e b =
    let l = PlaceLeads-pieces (in_code (Some (level_number p.level)) n) p.segments p.bytes refl e b in
    record { level = l.level; words = l.words ∙ same; segments = λ base h. rw (l.level, l.segments) refl }

all_end : (v : Version) (p : Parts) → SuitsVersion v (numbers p) → All (IsCodeWord p.level) p.words
    → length p.bytes ≡ filled_size p.segments → All IsByte p.bytes
    → EndsListing v p (place_behind start (statements_of v p))
all_end v p s words e b =
    let n : 0 + length (decoded_insns p) ≡ length p.words = omega (arith, insns_length p.level p.words words) in
    subst (EndsListing v p) (sym (code_place v p)) (segments_end v p (0 + length (decoded_insns p)) n s e b)

at_end : (p : Parts) → IsImage p → EndsListing p.version p (end (listing_items p))
unfolding end statements
at_end p good =
    subst (EndsListing p.version p) (sym (behind_all-statement_line start (statements_of p.version p)))
    (all_end p.version p good.version good.words good.filled good.bytes)

-- ---- no statement is misplaced, and no field is said twice

pieces_fit : (v : Version) (p : Parts) (n : ℕ) → SuitsVersion v (numbers p) → length p.bytes ≡ filled_size p.segments
    → All IsByte p.bytes → AreWellPlaced (in_code (level_stmt v p) n) (flat_map (piece_statements v) (pieces p))
pieces_fit One p n s e b = first_fit n p.segments p.bytes s.1 b
pieces_fit Two p n s e b =
    AreWellPlaced-segments (in_code (Some (level_number p.level)) n)
    (level_number p.level) p.segments p.bytes refl refl e b

fit_of : (v : Version) (p : Parts) → SuitsVersion v (numbers p) → All (IsCodeWord p.level) p.words
    → length p.bytes ≡ filled_size p.segments → All IsByte p.bytes → AreWellPlaced start (statements_of v p)
fit_of v p s words e b =
    let level = level_stmt v p in
    let within : All (λ i. level_number (level_of i) ≤ unwrap_or (level_stmt v p) 1) (decoded_insns p) =
    rw (level_of_image v p s) (insns_within p.level p.words words) in
    let segments = pieces_fit v p (0 + length (decoded_insns p)) s e b in
    let code = AreWellPlaced-append (in_code (level_stmt v p) 0) (map says.code (decoded_insns p))
    (flat_map (piece_statements v) (pieces p)) (insns_fit (level_stmt v p) 0 (decoded_insns p) within)
    (subst (λ q. AreWellPlaced q (flat_map (piece_statements v) (pieces p)))
    (sym (insns_place (level_stmt v p) 0 (decoded_insns p))) segments) in
    AreWellPlaced-append start (first_statements v p ++ more_heading p) (behind_heading v p) (heading_fits v p)
    (subst (λ q. AreWellPlaced q (behind_heading v p)) (sym (heading_from v p)) code)

pub AreWellPlaced-listing : (p : Parts) → IsImage p → AreWellPlaced start (statements p)
unfolding statements
AreWellPlaced-listing p good = fit_of p.version p good.version good.words good.filled good.bytes

single_of : (v : Version) (p : Parts) → RepeatNoField (fields (layout [])) (statements_of v p)
single_of v p =
    RepeatNoField-append (fields (layout [])) (first_statements v p ++ more_heading p) (behind_heading v p)
    (heading_singles v p)
    (λ f. RepeatNoField-append f (map says.code (decoded_insns p)) (flat_map (piece_statements v) (pieces p))
    (insns_single f (decoded_insns p)) (λ g. pieces_single v g (pieces p)))

pub RepeatNoField-listing : (p : Parts) → RepeatNoField (fields (layout [])) (statements p)
unfolding statements
RepeatNoField-listing p = single_of p.version p

-- ---- the fields

-- what the field statements say
record Says (v : Version) (p : Parts) (f : Fields) : Type 0 where
  code_base : f.code_base ≡ Some p.code_base
  data_base : HasBase v p (data_base_of f)
  stack : f.stack ≡ Some p.stack
  entry : f.entry ≡ Some (entry_at p.entry)

says_so : (v : Version) (p : Parts) (rest : List Stmt)
    → Says v p (fields (placed start 1 (map statement_line ((first_statements v p ++ more_heading p) ++ rest))))
says_so One p rest = record { code_base = refl; data_base = refl; stack = refl; entry = refl }
says_so Two p rest = record { code_base = refl; data_base = tt; stack = refl; entry = refl }

fields_stmt : (p : Parts) → Says p.version p (fields (layout (listing_items p)))
unfolding layout statements
fields_stmt p = says_so p.version p (behind_heading p.version p)

-- ---- the program

version_again : (v : Version) (p : Parts) → version_of (level_stmt v p) ≡ v
version_again One p = refl
version_again Two p = refl

-- the numbers that the items give are those of the image
numbers_again : (p : Parts) → IsImage p → EndsListing p.version p (end (listing_items p))
    → numbers_of (listing_items p) (entry_at p.entry) ≡ numbers p
unfolding segments_of
numbers_again p good ends =
    let f = fields_stmt p in
    let level : unwrap_or (end (listing_items p)).level 1 ≡ level_number p.level =
    ap (λ (l : Option ℕ). unwrap_or l 1) ends.level ∙ level_of_image p.version p good.version in
    let code_base : unwrap_or (fields (layout (listing_items p))).code_base 0x10000 ≡ p.code_base =
    ap (λ (b : Option ℕ). unwrap_or b 0x10000) f.code_base in
    let stack : unwrap_or (fields (layout (listing_items p))).stack 65536 ≡ p.stack =
    ap (λ (b : Option ℕ). unwrap_or b 65536) f.stack in
    let segments = ends.segments (data_base_of (fields (layout (listing_items p)))) f.data_base in
    λ i. record {
      level = level i;
      code_base = code_base i;
      entry = p.entry;
      words = ends.words i;
      stack = stack i;
      segments = segments i;
    }

-- the bytes of each share are bytes
share_bytes : (segments : List Segment) (bytes : List ℕ) → All IsByte bytes
    → All (λ q. All IsByte q.bytes) (pieces_of segments bytes)
share_bytes [] bytes b = All-nil (λ (q : Piece). All IsByte q.bytes)
share_bytes (s ∷ rest) bytes b =
    All-cons (λ (q : Piece). All IsByte q.bytes)
    (record { base = s.base; bytes = take s.filled bytes; zeroed = s.zeroed }) (pieces_of rest (drop s.filled bytes))
    (All-take IsByte s.filled bytes b) (share_bytes rest (drop s.filled bytes) (All-drop IsByte s.filled bytes b))

all_make : (p : Parts) → IsImage p
    → MakesProgram (statements p) (filter_map decoded p.words) (flat_map (λ q. q.bytes) (pieces p))
all_make p good = MakesProgram-listing p (share_bytes p.segments p.bytes good.bytes)

no_names : (ss : List Stmt) (code : List Form) (bytes : List ℕ) → MakesProgram ss code bytes
    → flat_map names_in (layout (map statement_line ss)) ≡ []
unfolding layout
no_names ss code bytes m = m.names start 1

code_made : (ss : List Stmt) (code : List Form) (bytes : List ℕ) → MakesProgram ss code bytes
    → flat_map (code_in (known (map statement_line ss))) (layout (map statement_line ss)) ≡ code
unfolding layout
code_made ss code bytes m = m.code (known (map statement_line ss)) start 1

bytes_made : (ss : List Stmt) (code : List Form) (bytes : List ℕ) → MakesProgram ss code bytes
    → flat_map (bytes_in (known (map statement_line ss))) (layout (map statement_line ss)) ≡ bytes
unfolding layout
bytes_made ss code bytes m = m.data_bytes (known (map statement_line ss)) start 1

program_again : (p : Parts) → IsImage p → program (listing_items p) (entry_at p.entry) ≡ program_of p
program_again p good =
    let ends = at_end p good in
    let m = all_make p good in
    let version : version_of (end (listing_items p)).level ≡ p.version =
    ap version_of ends.level ∙ version_again p.version p in
    let same : numbers_of (listing_items p) (entry_at p.entry) ≡ numbers p = numbers_again p good ends in
    let code = code_made (statements p) (filter_map decoded p.words) (flat_map (λ q. q.bytes) (pieces p)) m in
    let bytes = bytes_made (statements p) (filter_map decoded p.words) (flat_map (λ q. q.bytes) (pieces p)) m
    ∙ flat_map-pieces_of p.segments p.bytes good.filled in
    let whole : program (listing_items p) (entry_at p.entry)
    ≡ program_with p.version (numbers p) (filter_map decoded p.words) p.bytes =
    λ i. program_with (version i) (same i) (code i) (bytes i) in
    whole ∙ ap (λ (l : Level). record (program_of p) { level = l }) (numbered_level-level_number p.level)

pub assembled_program-listing_items : (p : Parts) → IsImage p → assembled_program (listing_items p) ≡ Ok (program_of p)
unfolding assembled_program
assembled_program-listing_items p good =
    let f = fields_stmt p in
    let none : flat_map names_in (layout (listing_items p)) ≡ [] =
    no_names (statements p) (filter_map decoded p.words) (flat_map (λ q. q.bytes) (pieces p)) (all_make p good) in
    let fine : least_bad_field (numbers_of (listing_items p) (entry_at p.entry)) ≡ None =
    ap least_bad_field (numbers_again p good (at_end p good)) ∙ least-FieldsFit (numbers p) good.fields in
    ap (made_at (listing_items p)) f.entry ∙ rw (none, fine) (ap Ok (program_again p good))
