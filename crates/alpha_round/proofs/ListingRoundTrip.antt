-- The listing of a good image is a source that assembles to that image.
use Rattle.std.proofs.Common.{◌≡◌, ℕ, zero, suc, ◌+◌, ◌/◌, ◌^◌, ◌<◌, ◌≤◌, List, [], ◌∷◌, ◌++◌, length, map, take, drop}
use Rattle.std.proofs.Common.{sum_by, All, None, Ok, refl, length-drop, arith}
use Rattle.std.specs.List.{flat_map, filter_map}
use Rattle.std.specs.Str.Lines.{lines as cut}
use Rattle.std.proofs.lemmas.List.{length-take}
use Rattle.std.proofs.lemmas.List.Elements.{All-take, All-drop}
use Rattle.std.proofs.lemmas.List.Sums.{sum_by-cons}
use Rattle.alpha_table.specs.Decoded.{decoded}
use Rattle.alpha_text.specs.Statements as says
use Rattle.alpha_image.specs.declared.segment.Segment.{Segment}
use Rattle.alpha_image.specs.declared.version.Version.{Version}
use Rattle.alpha_image.specs.declared.version.Version.TheVariants.{One, Two}
use Rattle.alpha_image.specs.Layout.{first_segment}
use Rattle.alpha_image.specs.Rules.{IsBase, size_of_segment}
use Rattle.alpha_image.specs.Parts.{Parts, pieces, pieces_of, numbers, SuitsVersion, IsByte, IsImage}
use Rattle.alpha_asm.specs.Layout.{end}
use Rattle.alpha_asm.specs.Program.{program_of}
use Rattle.alpha_asm.specs.declared.kind.SourceKind.TheVariants as source_kinds
use Rattle.alpha_asm.specs.Assembled.{item_at, first_refused, assembled}
use Rattle.alpha_dis.specs.Listing.{first_lines, heading, code_line, byte_line, rows, rows_of, segment_line}
use Rattle.alpha_dis.specs.Listing.{piece_lines, lines, listing}
use Rattle.alpha_round.proofs.ListingItems.{first_statements, more_heading, row_statement, segment_statement}
use Rattle.alpha_round.proofs.ListingItems.{piece_statements}
use Rattle.alpha_round.proofs.ListingItems.{statements, listing_items}
use Rattle.alpha_round.proofs.JoinedLines.{lines-text}
use Rattle.alpha_round.proofs.StatementsAlone.{IsLineOf, AreLinesOf, AreLinesOf-append, AreLinesOf-AreInside}
use Rattle.alpha_round.proofs.StatementsAlone.{AreLinesOf-unrefused}
use Rattle.alpha_round.proofs.ItemsOfListing.{AreWellPlaced-listing, RepeatNoField-listing}
use Rattle.alpha_round.proofs.ItemsOfListing.{assembled_program-listing_items}
use Rattle.alpha_round.proofs.DirectiveLines.{code_base_line, data_base_line, entry_line}
use Rattle.alpha_round.proofs.DirectiveLines.{segment_line as line_of_segment}
use Rattle.alpha_round.proofs.DirectiveLines.{stack_line, zero_line, level_line, code_line as line_of_code, data_line}
use Rattle.alpha_round.proofs.DirectiveLines.{row_line}
use Rattle.alpha_round.proofs.CodeLines.{code_say}

-- ---- the heading

small_base : (base : ℕ) → IsBase base → base < 2 ^ 64
small_base base h = omega (arith, h.1)

first_base : (segments : List Segment) → length segments ≡ 1 → All (λ s. IsBase s.base) segments
    → (first_segment segments).base < 2 ^ 64
first_base [] one h = absurd (omega arith)
first_base (s ∷ rest) one h = small_base s.base (h 0 s (omega arith))

first_say : (v : Version) (p : Parts) → SuitsVersion v (numbers p) → IsBase p.code_base
    → All (λ s. IsBase s.base) p.segments → AreLinesOf (first_lines v p) (first_statements v p)
first_say One p s base bases = (
  code_base_line p.code_base (small_base p.code_base base),
  (data_base_line (first_segment p.segments).base (first_base p.segments s.1 bases), tt),
)
first_say Two p s base bases = (level_line p.level, (code_base_line p.code_base (small_base p.code_base base), tt))

heading_say : (p : Parts) → IsImage p → AreLinesOf (heading p) (first_statements p.version p ++ more_heading p)
heading_say p good =
    let f = good.fields in
    AreLinesOf-append (first_lines p.version p) _ (first_statements p.version p) (more_heading p)
    (first_say p.version p good.version f.code_base f.data_bases.0) (
      stack_line p.stack (omega (arith, f.stack.1)),
      (entry_line p.entry (omega (arith, f.entry.1.1, f.words.2)), (line_of_code, tt)),
    )

-- ---- the segments

rows_say : (n : ℕ) (bytes : List ℕ) → n ≡ (length bytes + 15) / 16 → All IsByte bytes
    → AreLinesOf (map byte_line (rows_of n bytes)) (map row_statement (rows_of n bytes))
rows_say zero bytes e h = tt
rows_say (suc n) [] e h = absurd (omega arith)
rows_say (suc n) (b ∷ bytes) e h = (
  row_line b (take 15 bytes) (omega (arith, length-take 15 bytes)) (All-take IsByte 16 (b ∷ bytes) h),
  rows_say n (drop 16 (b ∷ bytes)) (omega (arith, length-drop 16 (b ∷ bytes))) (All-drop IsByte 16 (b ∷ bytes) h),
)

start_say : (v : Version) (base : ℕ) → base < 2 ^ 64 → IsLineOf (segment_line v base) (segment_statement v base)
start_say One base h = data_line
start_say Two base h = line_of_segment base h

segment_say : (v : Version) (base : ℕ) (bytes : List ℕ) (z : ℕ) → base < 2 ^ 64 → z ≤ 16777216 → All IsByte bytes
    → AreLinesOf (piece_lines v (record { base = base; bytes = bytes; zeroed = z }))
    (piece_statements v (record { base = base; bytes = bytes; zeroed = z }))
segment_say v base bytes z a b h = (
  start_say v base a,
  AreLinesOf-append (map byte_line (rows bytes)) _ (map row_statement (rows bytes)) (says.zero z ∷ [])
      (rows_say ((length bytes + 15) / 16) bytes refl h) (zero_line z b, tt),
)

segments_say : (v : Version) (segments : List Segment) (bytes : List ℕ) → All (λ s. IsBase s.base) segments
    → sum_by size_of_segment segments ≤ 16777216 → All IsByte bytes
    → AreLinesOf (flat_map (piece_lines v) (pieces_of segments bytes))
    (flat_map (piece_statements v) (pieces_of segments bytes))
segments_say v [] bytes bases few h = tt
segments_say v (s ∷ rest) bytes bases few h =
    let whole : sum_by size_of_segment (s ∷ rest) ≡ s.filled + s.zeroed + sum_by size_of_segment rest =
    sum_by-cons size_of_segment s rest in
    AreLinesOf-append (piece_lines v (record { base = s.base; bytes = take s.filled bytes; zeroed = s.zeroed }))
    (flat_map (piece_lines v) (pieces_of rest (drop s.filled bytes)))
    (piece_statements v (record { base = s.base; bytes = take s.filled bytes; zeroed = s.zeroed }))
    (flat_map (piece_statements v) (pieces_of rest (drop s.filled bytes)))
    (segment_say v s.base (take s.filled bytes) s.zeroed (small_base s.base (bases 0 s (omega arith))) (omega arith)
    (All-take IsByte s.filled bytes h))
    (segments_say v rest (drop s.filled bytes) (λ i d l. bases (suc i) d (omega (arith, l))) (omega arith)
    (All-drop IsByte s.filled bytes h))

-- ---- the whole

pub AreLinesOf-listing : (p : Parts) → IsImage p → AreLinesOf (lines p) (statements p)
unfolding lines statements
AreLinesOf-listing p good =
    AreLinesOf-append (heading p) (map code_line p.words ++ flat_map (piece_lines p.version) (pieces p))
    (first_statements p.version p ++ more_heading p)
    (map says.code (filter_map decoded p.words) ++ flat_map (piece_statements p.version) (pieces p))
    (heading_say p good)
    (AreLinesOf-append (map code_line p.words) (flat_map (piece_lines p.version) (pieces p))
    (map says.code (filter_map decoded p.words)) (flat_map (piece_statements p.version) (pieces p))
    (code_say p.level p.words good.words)
    (segments_say p.version p.segments p.bytes good.fields.data_bases.0 good.fields.zeroed.0 good.bytes))

listing_cut : (p : Parts) → IsImage p → cut (listing p) ≡ lines p
unfolding listing
listing_cut p good = lines-text (lines p) (AreLinesOf-AreInside (lines p) (statements p) (AreLinesOf-listing p good))

lines_taken : (p : Parts) → IsImage p
    → (first_refused source_kinds.Program [] (lines p) ≡ None) × (map item_at (lines p) ≡ listing_items p)
unfolding end
lines_taken p good =
    AreLinesOf-unrefused [] (lines p) (statements p) (AreLinesOf-listing p good) (AreWellPlaced-listing p good)
    (RepeatNoField-listing p)

pub assembled-listing : (p : Parts) → IsImage p → assembled (listing p) ≡ Ok (program_of p)
unfolding assembled
assembled-listing p good =
    let (none, same) = lines_taken p good in
    rw (listing_cut p good, none, same) (assembled_program-listing_items p good)
