-- The program behind the last line, by the state of the pass.
use Rattle.std.proofs.Common.{◌≡◌, ℕ, ◌+◌, ◌≤◌, List, [], ◌∷◌, ◌++◌, length, map, take, drop, Bool, true, false, cond}
use Rattle.std.proofs.Common.{nat_le, Option, None, Some, Result, Ok, Err, IfOk, refl, sym, ◌∙◌, ap, length-append}
use Rattle.std.proofs.Common.{arith}
use Rattle.std.specs.Prelude.{ℤ, ◌*◌, sum_by}
use Rattle.std.specs.Option.{option_map, option_map_or, option_or, unwrap_or}
use Rattle.std.proofs.lemmas.Bool.Decides.{nat_tests}
use Rattle.alpha_words.specs.Digits.{low_bytes}
use Rattle.alpha_asm.proofs.DataValues.{length-asm_low_bytes}
use Rattle.std.specs.List.{flat_map, filter_map}
use Rattle.std.proofs.lemmas.List.{map-append, length-take, length-drop, length-set}
use Rattle.std.proofs.Math.Path.{fun_ext}
use Rattle.alpha_text.specs.Reading.{LineStmt}
use Rattle.alpha_table.specs.declared.form.Form.{Form}
use Rattle.alpha_table.specs.Decoded.{decoded}
use Rattle.alpha_asm.specs.declared.fault.AsmFault.{AsmFault}
use Rattle.alpha_asm.specs.declared.fault.AsmFault.TheVariants.{Undefined, ImageField, Reach}
use Rattle.alpha_asm.specs.declared.pass.Pass.{Pass}
use Rattle.alpha_image.specs.declared.segment.Segment.{Segment}
use Rattle.alpha_image.specs.Layout.{filled_size}
use Rattle.alpha_image.specs.Fields.{level_numbers}
use Rattle.alpha_image.specs.Rules.{FieldsFit, size_of_segment}
use Rattle.alpha_image.specs.FieldTests.{least_bad_field}
use Rattle.alpha_image.proofs.FieldRules.{FieldsFit-least}
use Rattle.std.proofs.lemmas.List.Sums.{sum_by-cons}
use Rattle.std.specs.Prelude.{slice_get, slice_set}
use Rattle.alpha_asm.specs.declared.patch.Displacement.{Displacement}
use Rattle.alpha_asm.specs.declared.program.Finished.{Finished}
use Rattle.alpha_asm.specs.Finished.{fields_of, finished_numbers, finished_program, finished_result, IsWhole, Finishes}
use Rattle.alpha_asm.specs.declared.patch.Patch.{Patch}
use Rattle.alpha_asm.specs.declared.place.Section.{Section}
use Rattle.alpha_asm.specs.Statement.{Cell, number, address, cells, data_size, Entry}
use Rattle.alpha_asm.specs.Layout.{Placed, layout, start, end, first, fields, filled_pad}
use Rattle.alpha_asm.specs.Program.{Known, Name, name, Target, by_insn, by_cell, by_entry, cell_name, insn_names}
use Rattle.alpha_asm.specs.Program.{entry_names, names_in, code_in, bytes_in, known, segments_of, code_base_of}
use Rattle.alpha_asm.specs.Program.{data_base_of, based, own_segments, address_of, quadword_of, reached, displaced}
use Rattle.alpha_asm.specs.Program.{undefined_line, out_of_range_line, numbers_of, Program, program, program_with}
use Rattle.alpha_asm.specs.Program.{version_of}
use Rattle.alpha_asm.specs.Assembled.{assembled_program, made_at, unless}
use Rattle.alpha_asm.specs.Patches.{Fix, fix, fix_of, entry_view, cell_fixes, fixes_in, fixes, raw_insns, raw_bytes}
use Rattle.alpha_asm.specs.Patches.{names_of, overlaid, code_at, code_with, bytes_with, code_after, bytes_after}
use Rattle.alpha_asm.specs.Pass.{place_of, location_at, fields_read, Filled, Sound, Leveled, PassSimulates}
use Rattle.alpha_asm.proofs.Levels.{insns-after}
use Rattle.alpha_asm.proofs.IsWhole.{code_after-code_in, bytes_whole}

pub assembled_program-made_at : (is : List LineStmt) (p : Pass) → PassSimulates is p
    → assembled_program is ≡ made_at is (option_map entry_view p.fields.entry)
unfolding assembled_program
assembled_program-made_at is p s = ap (made_at is) (sym (ap (λ f. f.entry) s.fields))

pub IfOk-map : {A E : Type 0} {P Q : A → Type 0} (r : Result A E) → IfOk r P → ((x : A) → P x → Q x) → IfOk r Q
IfOk-map (Ok x) p f = f x p
IfOk-map (Err e) p f = tt

-- with all addresses put in, code and bytes are those of the items
pub code_after-fixes : (k : Known) (is : List LineStmt)
    → code_after k (fixes 0 (layout is)) (flat_map (λ x. raw_insns x.item.statement) (layout is))
    ≡ flat_map (code_in k) (layout is)
unfolding layout
code_after-fixes k is = code_after-code_in k 0 start 1 is [] refl

pub bytes_after-fixes : (k : Known) (is : List LineStmt)
    → bytes_after k (fixes 0 (layout is)) (flat_map raw_bytes (layout is)) ≡ flat_map (bytes_in k) (layout is)
unfolding layout
bytes_after-fixes k is = bytes_whole k 0 start 1 is [] refl

-- the addresses are those that the items name
names-fix : (ns : List Name) → map (λ f. f.name) (map (fix 0) ns) ≡ ns
names-fix [] = refl
names-fix (n ∷ ns) = ap (λ l. n ∷ l) (names-fix ns)

names-cells : (line at : ℕ) (cs : List Cell)
    → map (λ f. f.name) (cell_fixes line at cs) ≡ filter_map (cell_name line) cs
names-cells line at [] = refl
names-cells line at (number bytes value ∷ cs) = names-cells line (at + bytes) cs
names-cells line at (address r ∷ cs) = ap (λ l. name line r by_cell ∷ l) (names-cells line (at + 8) cs)

names-entry : (x : Placed) (at : ℕ) → map (λ f. f.name) (fixes_in at x) ≡ names_in x
names-entry x at =
    let insns : List Name = insn_names x.line x.place.words x.item.statement in
    let entries : List Name = entry_names x.line x.item.statement in
    map-append (λ f. f.name) (map (fix 0) insns) (cell_fixes x.line at (cells x.item.statement) ++ map (fix 0) entries)
    ∙ (ap (λ l. l ++ map (λ f. f.name) (cell_fixes x.line at (cells x.item.statement) ++ map (fix 0) entries))
    (names-fix insns)
    ∙ ap (λ l. insns ++ l)
    (map-append (λ f. f.name) (cell_fixes x.line at (cells x.item.statement)) (map (fix 0) entries)
    ∙ (ap (λ l. l ++ map (λ f. f.name) (map (fix 0) entries)) (names-cells x.line at (cells x.item.statement))
    ∙ ap (λ l. filter_map (cell_name x.line) (cells x.item.statement) ++ l) (names-fix entries))))

pub names-all : (at : ℕ) (xs : List Placed) → map (λ f. f.name) (fixes at xs) ≡ flat_map names_in xs
names-all at [] = refl
names-all at (x ∷ xs) =
    let next : ℕ = at + (data_size x.item.statement + filled_pad x.place x.item.statement) in
    map-append (λ f. f.name) (fixes_in at x) (fixes next xs)
    ∙ (ap (λ l. l ++ map (λ f. f.name) (fixes next xs)) (names-entry x at)
    ∙ ap (λ l. names_in x ++ l) (names-all next xs))

names-patches : (ps : List Patch) → names_of ps ≡ map (λ f. f.name) (map fix_of ps)
names-patches [] = refl
names-patches (p ∷ ps) = ap (λ l. (fix_of p).name ∷ l) (names-patches ps)

pub names-assembled_program : (is : List LineStmt) (p : Pass) → PassSimulates is p
    → names_of p.output.patches.items ≡ flat_map names_in (layout is)
names-assembled_program is p s =
    names-patches p.output.patches.items ∙ (ap (map (λ f. f.name)) s.patches ∙ names-all 0 (layout is))

-- what the addresses of labels depend on
abbrev pub known_with : ℕ → List Segment → Pass → Known
known_with code_base segments p = record { code_base = code_base; segments = segments; locations = location_at p }

abbrev pub segments_here : Pass → List Segment
segments_here p = based (data_base_of (fields_read p.fields)) ((place_of p).earlier ++ (place_of p).last ∷ [])

segments-assembled_program : (is : List LineStmt) (p : Pass) → PassSimulates is p → segments_here p ≡ segments_of is
unfolding segments_of
segments-assembled_program is p s =
    ap (λ f. based (data_base_of f) ((place_of p).earlier ++ (place_of p).last ∷ [])) s.fields
    ∙ ap (λ q. based (data_base_of (fields (layout is))) (q.earlier ++ q.last ∷ [])) s.place

known-assembled_program : (is : List LineStmt) (p : Pass) → PassSimulates is p
    → known_with (code_base_of (fields_read p.fields)) (segments_here p) p ≡ known is
unfolding known
known-assembled_program is p s =
    ap (λ f. known_with (code_base_of f) (segments_here p) p) s.fields
    ∙ (ap (λ l. known_with (code_base_of (fields (layout is))) l p) (segments-assembled_program is p s)
    ∙ ap (λ f. record { code_base = code_base_of (fields (layout is)); segments = segments_of is; locations = f })
    (fun_ext s.labels))

pub code_after-patches : (is : List LineStmt) (p : Pass) (k : Known) → PassSimulates is p → k ≡ known is
    → code_after k (map fix_of p.output.patches.items) p.output.code.items ≡ flat_map (code_in (known is)) (layout is)
code_after-patches is p k s e =
    ap (λ q. code_after q (map fix_of p.output.patches.items) p.output.code.items) e
    ∙ (ap (λ f. code_after (known is) f p.output.code.items) s.patches
    ∙ (ap (code_after (known is) (fixes 0 (layout is))) s.code ∙ code_after-fixes (known is) is))

pub bytes_after-patches : (is : List LineStmt) (p : Pass) (k : Known) → PassSimulates is p → k ≡ known is
    → bytes_after k (map fix_of p.output.patches.items) p.output.bytes.items
    ≡ flat_map (bytes_in (known is)) (layout is)
bytes_after-patches is p k s e =
    ap (λ q. bytes_after q (map fix_of p.output.patches.items) p.output.bytes.items) e
    ∙ (ap (λ f. bytes_after (known is) f p.output.bytes.items) s.patches
    ∙ (ap (bytes_after (known is) (fixes 0 (layout is))) s.bytes ∙ bytes_after-fixes (known is) is))

-- putting addresses in leaves the number of data bytes
pub length-overlaid : (at n : ℕ) (bytes : List ℕ) → length (overlaid at n bytes) ≡ length bytes
length-overlaid at n bytes = by (nat_le (at + 8) (length bytes)) refl
  where
    by : (t : Bool) → nat_le (at + 8) (length bytes) ≡ t
        → length (cond t (take at bytes ++ (low_bytes 8 n ++ drop (at + 8) bytes)) bytes) ≡ length bytes
    by true e =
        let h : at + 8 ≤ length bytes = grind (arith, nat_tests) in
        omega (
          arith,
          h,
          length-append (take at bytes) (low_bytes 8 n ++ drop (at + 8) bytes),
          length-append (low_bytes 8 n) (drop (at + 8) bytes),
          length-asm_low_bytes 8 n,
          length-take at bytes,
          length-drop (at + 8) bytes,
        )
    by false e = refl

length-bytes_after : (k : Known) (fs : List Fix) (bytes : List ℕ) → length (bytes_after k fs bytes) ≡ length bytes
length-bytes_after k [] bytes = refl
length-bytes_after k (f ∷ fs) bytes =
    length-bytes_after k fs (bytes_with k f.at (address_of k f.name.reference) f.name.target bytes)
    ∙ one f.at (address_of k f.name.reference) f.name.target
  where
    quad : (at : ℕ) (o : Option ℕ) → length (option_map_or (λ n. overlaid at n bytes) o bytes) ≡ length bytes
    quad at None = refl
    quad at (Some n) = length-overlaid at n bytes

    one : (at : ℕ) (a : ℤ) (target : Target) → length (bytes_with k at a target bytes) ≡ length bytes
    one at a (by_insn by words) = refl
    one at a by_cell = quad at (quadword_of a)
    one at a by_entry = refl

-- the data bytes are those of the image's own segments
pub own-filled : (level : Option ℕ) (section : Section) (earlier : List Segment) (last : Segment) (base size : ℕ)
    → Filled level section earlier last size
    → (size ≡ filled_size (own_segments level (based base (earlier ++ last ∷ []))))
    × (level ≡ None → length (based base (earlier ++ last ∷ [])) ≡ 1)
own-filled None section [] last base size (e, f) = (omega (arith, f), λ n. refl)
own-filled None section (s ∷ rest) last base size (e, f) = cc
own-filled (Some n) section [] last base size (c, z, g) = (g, λ n. cc)
own-filled (Some n) section (s ∷ rest) last base size f = (sym f, λ n. cc)

pub known_addresses-so : (is : List LineStmt) (p : Pass) (base code_base : ℕ) (segments : List Segment)
    → PassSimulates is p
    → base ≡ data_base_of (fields_read p.fields) → code_base ≡ code_base_of (fields_read p.fields)
    → segments ≡ based base (p.place.earlier.items ++ p.place.last ∷ []) → known_with code_base segments p ≡ known is
known_addresses-so is p base code_base segments s b c e =
    ap (λ n. known_with n segments p) c
    ∙ (ap (λ l. known_with (code_base_of (fields_read p.fields)) l p)
    (e ∙ ap (λ n. based n (p.place.earlier.items ++ p.place.last ∷ [])) b)
    ∙ known-assembled_program is p s)

pub undefined_line-first : (is : List LineStmt) (p : Pass) (k : Known) → PassSimulates is p → k ≡ known is
    → first (undefined_line (known is)) (flat_map names_in (layout is))
    ≡ first (undefined_line k) (names_of p.output.patches.items)
undefined_line-first is p k s e =
    sym (ap (λ q. first (undefined_line q) (names_of p.output.patches.items)) e
    ∙ ap (first (undefined_line (known is))) (names-assembled_program is p s))

unmet-so : (is : List LineStmt) (p : Pass) (k : Known) → PassSimulates is p → k ≡ known is
    → first (out_of_range_line k) (names_of p.output.patches.items)
    ≡ first (out_of_range_line (known is)) (flat_map names_in (layout is))
unmet-so is p k s e =
    ap (λ q. first (out_of_range_line q) (names_of p.output.patches.items)) e
    ∙ ap (first (out_of_range_line (known is))) (names-assembled_program is p s)

-- the numbers of the image
numbers-so : (is : List LineStmt) (p : Pass) (entry : Entry) (k : Known) (words : ℕ) → PassSimulates is p → k ≡ known is
    → words ≡ (end is).words
    → level_numbers (fields_of k (fields_read p.fields) p.place.level entry) words
    (own_segments p.place.level k.segments)
    ≡ numbers_of is entry
unfolding known
numbers-so is p entry k words s e w =
    ap (λ q. level_numbers (fields_of q (fields_read p.fields) p.place.level entry) words
    (own_segments p.place.level q.segments))
    e
    ∙ (ap (λ f.
    level_numbers (fields_of (known is) f p.place.level entry) words (own_segments p.place.level (known is).segments))
    s.fields
    ∙ (ap (λ q. level_numbers (fields_of (known is) (fields (layout is)) q.level entry) words
    (own_segments q.level (known is).segments))
    s.place
    ∙ ap (λ n. level_numbers (fields_of (known is) (fields (layout is)) (end is).level entry) n
    (own_segments (end is).level (known is).segments))
    w))

length-code_with : (d : Option Displacement) (place : ℕ) (code : List Form)
    → length (code_at d place code) ≡ length code
length-code_with None place code = refl
length-code_with (Some d) place code = by (slice_get code place)
  where
    by : (o : Option Form)
        → length (option_map_or (λ insn. slice_set code place (displaced insn d)) o code) ≡ length code
    by None = refl
    by (Some insn) = length-set code place (displaced insn d)

length-code_after : (k : Known) (fs : List Fix) (code : List Form) → length (code_after k fs code) ≡ length code
length-code_after k [] code = refl
length-code_after k (f ∷ fs) code =
    length-code_after k fs (code_with k (address_of k f.name.reference) f.name.target code)
    ∙ one (address_of k f.name.reference) f.name.target
  where
    one : (a : ℤ) (target : Target) → length (code_with k a target code) ≡ length code
    one a (by_insn by words) = length-code_with (reached by (k.code_base + 4 * words) a) words code
    one a by_cell = refl
    one a by_entry = refl

-- ---- no more data bytes than an image may have

filled_within : (segments : List Segment) → filled_size segments ≤ sum_by size_of_segment segments
filled_within [] = omega arith
filled_within (s ∷ rest) =
    omega
    (arith, filled_within rest, sum_by-cons (λ (x : Segment). x.filled) s rest, sum_by-cons size_of_segment s rest)

-- where no field is bad
pub FieldsFit-data_bytes_bound : (p : Pass) (base : ℕ) (f : Finished) → Sound (place_of p) (length p.output.bytes.items)
    → f.level ≡ p.place.level
    → f.segments.items ≡ based base (p.place.earlier.items ++ p.place.last ∷ []) → FieldsFit (finished_numbers f)
    → length p.output.bytes.items ≤ 16777216
FieldsFit-data_bytes_bound p base f sound level segments fit =
    let (filled, single) = own-filled p.place.level p.place.section p.place.earlier.items p.place.last base
    (length p.output.bytes.items) sound.filled in
    let own : own_segments f.level f.segments.items
    ≡ own_segments p.place.level (based base (p.place.earlier.items ++ p.place.last ∷ [])) =
    ap (λ l. own_segments l f.segments.items) level ∙ ap (own_segments p.place.level) segments in
    let size : filled_size (own_segments f.level f.segments.items) ≡ length p.output.bytes.items =
    ap filled_size own ∙ sym filled in
    let most = fit.zeroed.0 in
    omega (arith, size, most, filled_within (own_segments f.level f.segments.items))

pub PassSimulates-Finishes : (is : List LineStmt) (p : Pass) (entry : Entry) (k : Known) (base : ℕ) (f : Finished)
    → PassSimulates is p → k ≡ known is
    → first (undefined_line k) (names_of p.output.patches.items) ≡ None
    → f.out_of_range ≡ first (out_of_range_line k) (names_of p.output.patches.items)
    → f.code.items ≡ code_after k (map fix_of p.output.patches.items) p.output.code.items
    → (length p.output.bytes.items ≤ 16777216
    → f.bytes.items ≡ bytes_after k (map fix_of p.output.patches.items) p.output.bytes.items)
    → f.level ≡ p.place.level → f.fields ≡ fields_of k (fields_read p.fields) p.place.level entry
    → f.segments.items ≡ k.segments
    → f.segments.items ≡ based base (p.place.earlier.items ++ p.place.last ∷ []) → Finishes is entry f
PassSimulates-Finishes is p entry k base f s e defined unmet code bytes level fields segments stand =
    let size : length f.code.items ≡ (end is).words =
    ap length code
    ∙ (length-code_after k (map fix_of p.output.patches.items) p.output.code.items ∙ ap (λ q. q.words) s.place) in
    record {
      defined = undefined_line-first is p k s e ∙ defined;
      level = level ∙ ap (λ q. q.level) s.place;
      numbers =
          ap (λ g. level_numbers g (length f.code.items) (own_segments f.level f.segments.items)) fields
          ∙ (ap (λ l. level_numbers (fields_of k (fields_read p.fields) p.place.level entry)
          (length f.code.items) (own_segments l f.segments.items))
          level
          ∙ (ap (λ l. level_numbers (fields_of k (fields_read p.fields) p.place.level entry)
          (length f.code.items) (own_segments p.place.level l))
          segments
          ∙ numbers-so is p entry k (length f.code.items) s e size));
      code = code ∙ code_after-patches is p k s e;
      bytes =
          λ fit. bytes (FieldsFit-data_bytes_bound p base f s.sound level stand fit) ∙ bytes_after-patches is p k s e;
      out_of_range = unmet ∙ unmet-so is p k s e;
    }

pub Sound-IsWhole : (p : Pass) (entry : Entry) (k : Known) (base : ℕ) (f : Finished)
    → Sound (place_of p) (length p.output.bytes.items) → Leveled (place_of p) p.output.code.items
    → f.code.items ≡ code_after k (map fix_of p.output.patches.items) p.output.code.items
    → (length p.output.bytes.items ≤ 16777216
    → f.bytes.items ≡ bytes_after k (map fix_of p.output.patches.items) p.output.bytes.items)
    → f.level ≡ p.place.level → f.fields ≡ fields_of k (fields_read p.fields) p.place.level entry
    → f.segments.items ≡ based base (p.place.earlier.items ++ p.place.last ∷ []) → IsWhole f
Sound-IsWhole p entry k base f sound leveled code bytes level fields segments =
    let (filled, single) = own-filled p.place.level p.place.section p.place.earlier.items p.place.last base
    (length p.output.bytes.items) sound.filled in
    record {
      filled =
          λ fit. ap length (bytes (FieldsFit-data_bytes_bound p base f sound level segments fit))
          ∙ (length-bytes_after k (map fix_of p.output.patches.items) p.output.bytes.items ∙ (filled
          ∙ sym (ap (λ l. filled_size (own_segments l f.segments.items)) level
          ∙ ap (λ l. filled_size (own_segments p.place.level l)) segments)));
      single = λ none. ap length segments ∙ single (sym level ∙ none);
      level = ap (λ g. g.level) fields ∙ ap (λ l. unwrap_or l 1) (sym level);
      insns =
          rw (level, code)
          (insns-after p.place.level k (map fix_of p.output.patches.items) p.output.code.items leveled.insns);
    }

-- the program, or why it has no image
pub made_at-finished_result : (is : List LineStmt) (entry : Entry) (f : Finished) → Finishes is entry f
    → made_at is (Some entry) ≡ finished_result f
made_at-finished_result is entry f h =
    ap (λ o. unless (option_map Undefined o) (unless (option_map ImageField (least_bad_field (numbers_of is entry)))
    (unless (option_map Reach (first (out_of_range_line (known is)) (flat_map names_in (layout is))))
    (Ok (program is entry)))))
    h.defined
    ∙ by (least_bad_field (numbers_of is entry)) refl
  where
    by : (o : Option ℕ) → least_bad_field (numbers_of is entry) ≡ o
        → unless (option_map ImageField (least_bad_field (numbers_of is entry)))
        (unless (option_map Reach (first (out_of_range_line (known is)) (flat_map names_in (layout is))))
        (Ok (program is entry)))
        ≡ finished_result f
    by (Some field) e =
        let bad : least_bad_field (finished_numbers f) ≡ Some field = ap least_bad_field h.numbers ∙ e in
        ap (λ o. unless (option_map ImageField o) (unless (option_map Reach
        (first (out_of_range_line (known is)) (flat_map names_in (layout is)))) (Ok (program is entry)))) e
        ∙ sym
        (ap (λ o. unless (option_map ImageField o) (unless (option_map Reach f.out_of_range) (Ok (finished_program f))))
        bad)
    by None e =
        let good : least_bad_field (finished_numbers f) ≡ None = ap least_bad_field h.numbers ∙ e in
        let fit = FieldsFit-least (finished_numbers f) good in
        let same : program is entry ≡ finished_program f =
        ap (λ l. program_with (version_of l) (numbers_of is entry)
        (flat_map (code_in (known is)) (layout is)) (flat_map (bytes_in (known is)) (layout is)))
        (sym h.level)
        ∙ (ap (λ n. program_with (version_of f.level) n
        (flat_map (code_in (known is)) (layout is)) (flat_map (bytes_in (known is)) (layout is)))
        (sym h.numbers)
        ∙ (ap
        (λ l. program_with (version_of f.level) (finished_numbers f) l (flat_map (bytes_in (known is)) (layout is)))
        (sym h.code)
        ∙ ap (λ l. program_with (version_of f.level) (finished_numbers f) f.code.items l) (sym (h.bytes fit)))) in
        ap (λ o. unless (option_map ImageField o) (unless (option_map Reach
        (first (out_of_range_line (known is)) (flat_map names_in (layout is)))) (Ok (program is entry)))) e
        ∙ (ap (λ o. unless (option_map Reach o) (Ok (program is entry))) (sym h.out_of_range)
        ∙ (ap (λ (q : Program). unless (option_map Reach f.out_of_range) (Ok q)) same
        ∙ sym
        (ap (λ o. unless (option_map ImageField o) (unless (option_map Reach f.out_of_range) (Ok (finished_program f))))
        good)))

-- the instructions of words are those that the words stand for
pub filter_map-decoded : (words : List ℕ) (insns : List Form) → map decoded words ≡ map Some insns
    → filter_map decoded words ≡ insns
filter_map-decoded [] [] e = refl
filter_map-decoded [] (i ∷ insns) e = absurd cc
filter_map-decoded (w ∷ words) [] e = absurd cc
filter_map-decoded (w ∷ words) (i ∷ insns) e =
    let here : decoded w ≡ Some i = cc in
    let later : map decoded words ≡ map Some insns = cc in
    rw (here, filter_map-decoded words insns later) refl

-- nothing is refused
pub not_refused : {A : Type 0} (a b : Option AsmFault) (r : Result A AsmFault) → option_or a b ≡ None
    → unless a (unless b r) ≡ r
not_refused None None r e = refl
not_refused None (Some fault) r e = absurd cc
not_refused (Some fault) b r e = absurd cc
