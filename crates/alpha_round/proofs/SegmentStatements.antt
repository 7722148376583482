-- Where the statements of segments lead.
use Rattle.std.proofs.Common.{◌≡◌, ℕ, ◌+◌, ◌*◌, ◌/◌, ◌≤◌, List, [], ◌∷◌, ◌++◌, length, map, take, drop, All, true}
use Rattle.std.proofs.Common.{false, ◌||◌, Option, None, Some, refl, sym, ◌∙◌, ap, subst, append_assoc, length-drop}
use Rattle.std.proofs.Common.{arith}
use Rattle.std.specs.List.{flat_map}
use Rattle.std.proofs.lemmas.List.{length-take}
use Rattle.std.proofs.lemmas.List.Elements.{All-take, All-drop}
use Rattle.std.proofs.lemmas.List.Sums.{sum_by-cons}
use Rattle.alpha_text.specs.Statements.{Stmt}
use Rattle.alpha_text.specs.Statements as says
use Rattle.alpha_image.specs.declared.segment.Segment.{Segment}
use Rattle.alpha_image.specs.declared.version.Version.{Version}
use Rattle.alpha_image.specs.declared.version.Version.TheVariants.{One, Two}
use Rattle.alpha_image.specs.Layout.{filled_size}
use Rattle.alpha_image.specs.Parts.{Piece, IsByte, pieces_of}
use Rattle.alpha_asm.specs.Statement.{cells}
use Rattle.alpha_asm.specs.Layout.{Place, Fields, fresh, place_after}
use Rattle.alpha_dis.specs.Listing.{rows}
use Rattle.alpha_round.proofs.ListingItems.{row_statement, segment_statement, piece_statements}
use Rattle.alpha_round.proofs.StatementsAlone.{place_behind, place_behind-append, AreWellPlaced, AreWellPlaced-append}
use Rattle.alpha_round.proofs.StatementsAlone.{RepeatNoField, RepeatNoField-append}
use Rattle.alpha_round.proofs.ListingPlaces.{in_code, in_data, rows_place, rows_fit, rows_single}

-- the bytes of a segment and its zeroed bytes, as statements
abbrev segment_statements : List ℕ → ℕ → List Stmt
segment_statements bytes z = map row_statement (rows bytes) ++ says.zero z ∷ []

behind_zero : (level : Option ℕ) (n : ℕ) (earlier : List Segment) (base filled size z : ℕ) → filled ≡ size
    → place_after (in_data level n earlier (record { base = base; filled = filled; zeroed = 0 }) false) (says.zero z)
    ≡ in_data level n earlier (record { base = base; filled = size; zeroed = z }) true
unfolding cells
behind_zero level n earlier base filled size z e =
    let a : n + 0 ≡ n = omega arith in
    let b : filled + 0 ≡ size = omega arith in
    let c : 0 + (z + 0) ≡ z = omega arith in
    λ i. in_data level (a i) earlier (record { base = base; filled = b i; zeroed = c i }) true

length-rounded_up : (bytes : List ℕ) → length bytes ≤ 16 * ((length bytes + 15) / 16)
length-rounded_up bytes = omega arith

body_place : (level : Option ℕ) (n : ℕ) (earlier : List Segment) (base : ℕ) (bytes : List ℕ) (z : ℕ) → All IsByte bytes
    → place_behind (in_data level n earlier (fresh base) false) (segment_statements bytes z)
    ≡ in_data level n earlier (record { base = base; filled = length bytes; zeroed = z }) true
body_place level n earlier base bytes z b =
    place_behind-append (in_data level n earlier (fresh base) false) (map row_statement (rows bytes)) (says.zero z ∷ [])
    ∙ (ap (λ q. place_after q (says.zero z))
    (rows_place level n earlier base 0 ((length bytes + 15) / 16) bytes (length-rounded_up bytes) b)
    ∙ behind_zero level n earlier base (0 + length bytes) (length bytes) z (omega arith))

body_fit : (level : Option ℕ) (n : ℕ) (earlier : List Segment) (base : ℕ) (bytes : List ℕ) (z : ℕ) → All IsByte bytes
    → AreWellPlaced (in_data level n earlier (fresh base) false) (segment_statements bytes z)
body_fit level n earlier base bytes z b =
    AreWellPlaced-append (in_data level n earlier (fresh base) false) (map row_statement (rows bytes))
    (says.zero z ∷ [])
    (rows_fit level n earlier base 0 ((length bytes + 15) / 16) bytes (length-rounded_up bytes) b)
    (subst (λ q. AreWellPlaced q (says.zero z ∷ []))
    (sym (rows_place level n earlier base 0 ((length bytes + 15) / 16) bytes (length-rounded_up bytes) b)) (refl, tt))

-- ---- the one segment of the first version

behind_data : (n : ℕ) → place_after (in_code None n) says.data_section ≡ in_data None n [] (fresh 0) false
unfolding cells
behind_data n = let a : n + 0 ≡ n = omega arith in λ i. in_data None (a i) [] (fresh 0) false

pub place_behind-level_one : (n base : ℕ) (bytes : List ℕ) (z : ℕ) → All IsByte bytes
    → place_behind (in_code None n) (piece_statements One (record { base = base; bytes = bytes; zeroed = z }))
    ≡ in_data None n [] (record { base = 0; filled = length bytes; zeroed = z }) true
place_behind-level_one n base bytes z b =
    ap (λ q. place_behind q (segment_statements bytes z)) (behind_data n) ∙ body_place None n [] 0 bytes z b

pub AreWellPlaced-level_one : (n base : ℕ) (bytes : List ℕ) (z : ℕ) → All IsByte bytes
    → AreWellPlaced (in_code None n) (piece_statements One (record { base = base; bytes = bytes; zeroed = z }))
AreWellPlaced-level_one n base bytes z b = (
  refl,
  subst (λ q. AreWellPlaced q (segment_statements bytes z)) (sym (behind_data n)) (body_fit None n [] 0 bytes z b),
)

-- ---- the segments of the second version

-- the place that segments lead to
pub record PlaceLeads (p q : Place) (more : List Segment) : Type 0 where
  pub level : q.level ≡ p.level
  pub words : q.words ≡ p.words
  pub segments : q.earlier ++ q.last ∷ [] ≡ p.earlier ++ p.last ∷ more

behind_start : (p : Place) (base : ℕ) → p.begun ≡ true
    → place_after p (says.segment base) ≡ in_data p.level p.words (p.earlier ++ p.last ∷ []) (fresh base) false
behind_start p base h =
    let a : p.words + 0 ≡ p.words = omega arith in
    let b : (p.begun || true) ≡ true = ap (λ v. v || true) h in
    λ i. record (in_data p.level (a i) (p.earlier ++ p.last ∷ []) (fresh base) false) { begun = b i }

two_place : (p : Place) (base : ℕ) (bytes : List ℕ) (z : ℕ) → p.begun ≡ true → All IsByte bytes
    → place_behind p (piece_statements Two (record { base = base; bytes = bytes; zeroed = z }))
    ≡ in_data p.level p.words (p.earlier ++ p.last ∷ [])
    (record { base = base; filled = length bytes; zeroed = z }) true
two_place p base bytes z h b =
    ap (λ q. place_behind q (segment_statements bytes z)) (behind_start p base h)
    ∙ body_place p.level p.words (p.earlier ++ p.last ∷ []) base bytes z b

two_fit : (p : Place) (l base : ℕ) (bytes : List ℕ) (z : ℕ) → p.level ≡ Some l → p.begun ≡ true → All IsByte bytes
    → AreWellPlaced p (piece_statements Two (record { base = base; bytes = bytes; zeroed = z }))
two_fit p l base bytes z e h b = (
  rw e refl,
  subst (λ q. AreWellPlaced q (segment_statements bytes z)) (sym (behind_start p base h))
      (body_fit p.level p.words (p.earlier ++ p.last ∷ []) base bytes z b),
)

-- the share of a segment has as many bytes as the segment says
filled_size-share : (s : Segment) (rest : List Segment) (bytes : List ℕ) → length bytes ≡ filled_size (s ∷ rest)
    → (length (take s.filled bytes) ≡ s.filled) × (length (drop s.filled bytes) ≡ filled_size rest)
filled_size-share s rest bytes e =
    let whole : filled_size (s ∷ rest) ≡ s.filled + filled_size rest = sum_by-cons (λ (t : Segment). t.filled) s rest in
    (omega (arith, length-take s.filled bytes), omega (arith, length-drop s.filled bytes))

abbrev behind_share : Place → Segment → List ℕ → Place
behind_share p s bytes =
    in_data p.level p.words (p.earlier ++ p.last ∷ [])
    (record { base = s.base; filled = length (take s.filled bytes); zeroed = s.zeroed }) true

abbrev share_statements : Segment → List ℕ → List Stmt
share_statements s bytes =
    piece_statements Two (record { base = s.base; bytes = take s.filled bytes; zeroed = s.zeroed })

pub PlaceLeads-pieces : (p : Place) (segments : List Segment) (bytes : List ℕ) → p.begun ≡ true
    → length bytes ≡ filled_size segments → All IsByte bytes
    → PlaceLeads p (place_behind p (flat_map (piece_statements Two) (pieces_of segments bytes))) segments
PlaceLeads-pieces p [] bytes h e b = record { level = refl; words = refl; segments = refl }
PlaceLeads-pieces p (s ∷ rest) bytes h e b =
    let (size, left) = filled_size-share s rest bytes e in
    let more : List Stmt = flat_map (piece_statements Two) (pieces_of rest (drop s.filled bytes)) in
    let further =
    PlaceLeads-pieces (behind_share p s bytes) rest (drop s.filled bytes) refl left
    (All-drop IsByte s.filled bytes b) in
    let whole = place_behind-append p (share_statements s bytes)
    (flat_map (piece_statements Two) (pieces_of rest (drop s.filled bytes)))
    ∙ ap (λ q. place_behind q (flat_map (piece_statements Two) (pieces_of rest (drop s.filled bytes))))
    (two_place p s.base (take s.filled bytes) s.zeroed h (All-take IsByte s.filled bytes b)) in
    subst (λ q. PlaceLeads p q (s ∷ rest)) (sym whole) (record {
      level = further.level;
      words = further.words;
      segments = further.segments
          ∙ (ap (λ m. (p.earlier ++ p.last ∷ []) ++ record { base = s.base; filled = m; zeroed = s.zeroed } ∷ rest) size
          ∙ append_assoc p.earlier (p.last ∷ []) (s ∷ rest));
    })

pub AreWellPlaced-segments : (p : Place) (l : ℕ) (segments : List Segment) (bytes : List ℕ) → p.level ≡ Some l
    → p.begun ≡ true
    → length bytes ≡ filled_size segments → All IsByte bytes
    → AreWellPlaced p (flat_map (piece_statements Two) (pieces_of segments bytes))
AreWellPlaced-segments p l [] bytes f h e b = tt
AreWellPlaced-segments p l (s ∷ rest) bytes f h e b =
    let (size, left) = filled_size-share s rest bytes e in
    AreWellPlaced-append p (share_statements s bytes)
    (flat_map (piece_statements Two) (pieces_of rest (drop s.filled bytes)))
    (two_fit p l s.base (take s.filled bytes) s.zeroed f h (All-take IsByte s.filled bytes b))
    (subst (λ q. AreWellPlaced q (flat_map (piece_statements Two) (pieces_of rest (drop s.filled bytes))))
    (sym (two_place p s.base (take s.filled bytes) s.zeroed h (All-take IsByte s.filled bytes b)))
    (AreWellPlaced-segments (behind_share p s bytes) l rest (drop s.filled bytes) f refl left
    (All-drop IsByte s.filled bytes b)))

-- ---- no field is said

start_single : (v : Version) (f : Fields) (base : ℕ) → RepeatNoField f (segment_statement v base ∷ [])
start_single One f base = (refl, tt)
start_single Two f base = (refl, tt)

piece_single : (v : Version) (f : Fields) (q : Piece) → RepeatNoField f (piece_statements v q)
piece_single v f q =
    RepeatNoField-append f (segment_statement v q.base ∷ []) (segment_statements q.bytes q.zeroed)
    (start_single v f q.base)
    (λ g.
    RepeatNoField-append g (map row_statement (rows q.bytes)) (says.zero q.zeroed ∷ []) (rows_single g (rows q.bytes))
    (λ k. (refl, tt)))

pub pieces_single : (v : Version) (f : Fields) (qs : List Piece) → RepeatNoField f (flat_map (piece_statements v) qs)
pieces_single v f [] = tt
pieces_single v f (q ∷ qs) =
    RepeatNoField-append f (piece_statements v q) (flat_map (piece_statements v) qs) (piece_single v f q)
    (λ g. pieces_single v g qs)
