-- How many bytes a listing has at most.
use Rattle.std.proofs.Common.{◌≡◌, ℕ, zero, suc, ◌+◌, ◌*◌, ◌/◌, ◌^◌, ◌<◌, ◌≤◌, List, [], ◌∷◌, ◌++◌, codes, length, map}
use Rattle.std.proofs.Common.{take, drop, sum_by, refl, ◌∙◌, ap, length-append, arith}
use Rattle.std.specs.List.{flat_map}
use Rattle.std.proofs.lemmas.List.{length-map, length-take}
use Rattle.std.proofs.lemmas.List.Sums.{sum_by-cons}
use Rattle.alpha_text.specs.Statements.{Stmt}
use Rattle.alpha_image.specs.declared.segment.Segment.{Segment}
use Rattle.alpha_image.specs.declared.version.Version.{Version}
use Rattle.alpha_image.specs.declared.version.Version.TheVariants.{One, Two}
use Rattle.alpha_image.specs.Rules.{size_of_segment}
use Rattle.alpha_image.specs.Parts.{Parts, pieces, pieces_of, IsImage}
use Rattle.alpha_dis.specs.Listing.{ended, text, address_line, count_line, first_lines, heading, code_line, byte_line}
use Rattle.alpha_dis.specs.Listing.{rows, rows_of, piece_lines, lines, listing}
use Rattle.alpha_round.proofs.ListingItems.{statements}
use Rattle.alpha_round.proofs.StatementsAlone.{AreLinesOf}
use Rattle.alpha_round.proofs.ListingRoundTrip.{AreLinesOf-listing}

-- each line has at most 1,024 bytes and its line feed
text_short : (ls : List (List ℕ)) (ss : List Stmt) → AreLinesOf ls ss → length (text ls) ≤ 1025 * length ls
text_short [] [] say = omega arith
text_short [] (s ∷ ss) say = absurd say
text_short (l ∷ ls) [] say = absurd say
text_short (l ∷ ls) (s ∷ ss) (line, say) =
    omega (arith, line.short, text_short ls ss say, length-append l (10 ∷ []), length-append (ended l) (text ls))

rows_few : (n : ℕ) (bytes : List ℕ) → length (rows_of n bytes) ≡ n
rows_few zero bytes = refl
rows_few (suc n) bytes = ap suc (rows_few n (drop 16 bytes))

pieces_few : (v : Version) (segments : List Segment) (bytes : List ℕ)
    → 16 * length (flat_map (piece_lines v) (pieces_of segments bytes))
    ≤ 48 * length segments + sum_by size_of_segment segments
pieces_few v [] bytes = omega arith
pieces_few v (s ∷ rest) bytes =
    let own : length (take s.filled bytes) ≤ s.filled = omega (arith, length-take s.filled bytes) in
    let few : length (map byte_line (rows (take s.filled bytes))) ≡ (length (take s.filled bytes) + 15) / 16 =
    length-map (rows (take s.filled bytes)) byte_line
    ∙ rows_few ((length (take s.filled bytes) + 15) / 16) (take s.filled bytes) in
    omega (
      arith,
      own,
      few,
      pieces_few v rest (drop s.filled bytes),
      sum_by-cons size_of_segment s rest,
      length-append (map byte_line (rows (take s.filled bytes))) (count_line (codes ".zero") s.zeroed ∷ []),
      length-append (piece_lines v (record { base = s.base; bytes = take s.filled bytes; zeroed = s.zeroed }))
          (flat_map (piece_lines v) (pieces_of rest (drop s.filled bytes))),
    )

first_few : (v : Version) (p : Parts) (a b c : List ℕ) → length (first_lines v p ++ a ∷ b ∷ c ∷ []) ≡ 5
first_few One p a b c = refl
first_few Two p a b c = refl

heading_few : (p : Parts) → length (heading p) ≡ 5
heading_few p =
    first_few p.version p (count_line (codes ".stack") p.stack) (address_line (codes ".entry") p.entry) (codes ".code")

lines_few : (p : Parts) → IsImage p → length (lines p) ≤ 1310749
unfolding lines
lines_few p good =
    let f = good.fields in
    omega (
      arith,
      f.words.1,
      f.zeroed.0,
      f.segments,
      heading_few p,
      length-map p.words code_line,
      pieces_few p.version p.segments p.bytes,
      length-append (map code_line p.words) (flat_map (piece_lines p.version) (pieces p)),
      length-append (heading p) (map code_line p.words ++ flat_map (piece_lines p.version) (pieces p)),
    )

pub length-listing : (p : Parts) → IsImage p → length (listing p) < 2 ^ 32
unfolding listing
length-listing p good = omega (arith, text_short (lines p) (statements p) (AreLinesOf-listing p good), lines_few p good)
