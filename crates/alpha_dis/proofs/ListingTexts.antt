-- Lines one behind the other, rows of bytes, and values with commas.
use Rattle.std.proofs.Common.{◌≡◌, ℕ, zero, suc, ◌+◌, ◌/◌, ◌<◌, List, [], ◌∷◌, ◌++◌, codes, decimal, length, get_or}
use Rattle.std.proofs.Common.{min, take, drop, map, Some, refl, sym, ap, ◌∙◌, append_assoc, append-nil, add-one, arith}
use Rattle.std.specs.Prelude.{slice_get}
use Rattle.std.specs.List.{flat_map, join_with_byte}
use Rattle.std.specs.Option.{option_map}
use Rattle.std.proofs.lemmas.List.{map-append, length-map, length-take, length-drop, take-append-drop, take_min}
use Rattle.std.proofs.lemmas.List.{drop_min}
use Rattle.std.proofs.lemmas.Option.{slice_get_within, get_or_from_slice_get}
use Rattle.std.proofs.lemmas.Grind.{flat_map-append}
use Rattle.std.proofs.Math.Seq.{take-suc}
use Rattle.alpha_image.specs.declared.segment.Segment.{Segment}
use Rattle.alpha_image.specs.declared.version.Version.{Version}
use Rattle.alpha_image.specs.Parts.{Parts, Piece, pieces, pieces_of}
use Rattle.alpha_dis.specs.Listing.{ended, text, count_line, heading, code_line, rows, rows_of, byte_line, segment_line}
use Rattle.alpha_dis.specs.Listing.{piece_of, piece_lines, lines, listing}

pub text-append : (xs ys : List (List ℕ)) → text (xs ++ ys) ≡ text xs ++ text ys
text-append xs ys = flat_map-append ended xs ys

pub text-one : (line : List ℕ) → text (line ∷ []) ≡ ended line
text-one line = append-nil (ended line)

-- one line more
pub text-map-more : {X : Type 0} (f : X → List ℕ) (xs : List X) (i : ℕ) (d : X) → i < length xs
    → text (map f (take (i + 1) xs)) ≡ text (map f (take i xs)) ++ ended (f (get_or xs i d))
text-map-more f xs i d within =
    ap (λ (l : List _). text (map f l)) (ap (λ (k : ℕ). take k xs) (add-one i) ∙ take-suc xs i d within)
    ∙ (ap text (map-append f (take i xs) (get_or xs i d ∷ []))
    ∙ (text-append (map f (take i xs)) (f (get_or xs i d) ∷ [])
    ∙ ap (λ (l : List ℕ). text (map f (take i xs)) ++ l) (text-one (f (get_or xs i d)))))

-- the lines so far, and those to come
pub text-map-split : {X : Type 0} (f : X → List ℕ) (xs : List X) (i : ℕ)
    → text (map f xs) ≡ text (map f (take i xs)) ++ text (map f (drop i xs))
text-map-split f xs i =
    ap (λ (l : List _). text (map f l)) (sym (take-append-drop i xs))
    ∙ (ap text (map-append f (take i xs) (drop i xs)) ∙ text-append (map f (take i xs)) (map f (drop i xs)))

-- ---- rows of bytes

pub rows-some : (bytes : List ℕ) → 0 < length bytes → rows bytes ≡ take 16 bytes ∷ rows (drop 16 bytes)
rows-some bytes some =
    ap (λ (n : ℕ). rows_of n bytes) {x = (length bytes + 15) / 16} {y = suc ((length (drop 16 bytes) + 15) / 16)}
    (omega (arith, length-drop 16 bytes))

-- the front of some bytes that is as long as a row, or all of them
pub take-row : (bytes : List ℕ) (n : ℕ) → n ≡ min (length bytes) 16 → take n bytes ≡ take 16 bytes
take-row bytes n e = ap (λ (k : ℕ). take k bytes) {x = n} {y = min 16 (length bytes)} (omega arith) ∙ take_min 16 bytes

pub drop-row : (bytes : List ℕ) (n : ℕ) → n ≡ min (length bytes) 16 → drop n bytes ≡ drop 16 bytes
drop-row bytes n e = ap (λ (k : ℕ). drop k bytes) {x = n} {y = min 16 (length bytes)} (omega arith) ∙ drop_min 16 bytes

-- one row more
pub text-rows-some : (bytes : List ℕ) → 0 < length bytes
    → text (map byte_line (rows bytes))
    ≡ ended (byte_line (take 16 bytes)) ++ text (map byte_line (rows (drop 16 bytes)))
text-rows-some bytes some = ap (λ (l : List (List ℕ)). text (map byte_line l)) (rows-some bytes some)

-- ---- values with commas

abbrev values : List ℕ → List ℕ
values bytes = join_with_byte 44 (map decimal bytes)

join-more : (xs : List (List ℕ)) (x : List ℕ) → 0 < length xs
    → join_with_byte 44 (xs ++ x ∷ []) ≡ join_with_byte 44 xs ++ (44 ∷ x)
join-more [] x some = absurd (omega arith)
join-more (y ∷ []) x some = refl
join-more (y ∷ z ∷ zs) x some =
    ap (λ (l : List ℕ). y ++ (44 ∷ l)) (join-more (z ∷ zs) x (omega arith))
    ∙ sym (append_assoc y (44 ∷ join_with_byte 44 (z ∷ zs)) (44 ∷ x))

values_take : (bytes : List ℕ) (n : ℕ) → n < length bytes
    → map decimal (take (n + 1) bytes) ≡ map decimal (take n bytes) ++ decimal (get_or bytes n 0) ∷ []
values_take bytes n within =
    ap (map decimal) (ap (λ (k : ℕ). take k bytes) (add-one n) ∙ take-suc bytes n 0 within)
    ∙ map-append decimal (take n bytes) (get_or bytes n 0 ∷ [])

-- the first value
pub values-first : (bytes : List ℕ) (n : ℕ) (a : List ℕ) → n ≡ 0 → n < length bytes
    → (a ++ values (take n bytes)) ++ decimal (get_or bytes n 0) ≡ a ++ values (take (n + 1) bytes)
values-first [] n a e within = absurd (omega arith)
values-first (b ∷ bytes) n a e within = rw e (ap (λ (l : List ℕ). l ++ decimal b) (append-nil a))

-- a comma and a further value
pub values-more : (bytes : List ℕ) (n : ℕ) (a : List ℕ) → 0 < n → n < length bytes
    → ((a ++ values (take n bytes)) ++ (44 ∷ [])) ++ decimal (get_or bytes n 0) ≡ a ++ values (take (n + 1) bytes)
values-more bytes n a some within =
    let x = decimal (get_or bytes n 0) in
    let before = values (take n bytes) in
    append_assoc (a ++ before) (44 ∷ []) x
    ∙ (append_assoc a before (44 ∷ x)
    ∙ ap (λ (l : List ℕ). a ++ l)
    (sym
    (join-more (map decimal (take n bytes)) x (omega (arith, length-map (take n bytes) decimal, length-take n bytes)))
    ∙ ap (join_with_byte 44) (sym (values_take bytes n within))))

-- ---- the segments

-- a segment by its numbers and its share of the bytes
pub slice_get-piece_of : (segments : List Segment) (bytes : List ℕ) (n : ℕ) (s : Segment) (share : List ℕ)
    → slice_get segments n ≡ Some s
    → option_map (λ piece. piece.bytes) (slice_get (pieces_of segments bytes) n) ≡ Some share
    → slice_get (pieces_of segments bytes) n ≡ Some (piece_of s share)
slice_get-piece_of [] bytes n s share e f = absurd cc
slice_get-piece_of (t ∷ rest) bytes zero s share e f =
    let same : t ≡ s = cc in
    let bytes : take t.filled bytes ≡ share = cc in
    λ i. Some (piece_of (same i) (bytes i))
slice_get-piece_of (t ∷ rest) bytes (suc n) s share e f = slice_get-piece_of rest (drop t.filled bytes) n s share e f

-- the lines of a segment are three parts
pub text-piece_lines : (version : Version) (piece : Piece) → text (piece_lines version piece)
    ≡ ended (segment_line version piece.base)
    ++ (text (map byte_line (rows piece.bytes)) ++ ended (count_line (codes ".zero") piece.zeroed))
text-piece_lines version piece =
    let zero = count_line (codes ".zero") piece.zeroed in
    let shares = map byte_line (rows piece.bytes) in
    ap (λ (l : List ℕ). ended (segment_line version piece.base) ++ l)
    (text-append shares (zero ∷ []) ∙ ap (λ (l : List ℕ). text shares ++ l) (text-one zero))

-- the lines of one segment more
pub text-pieces-more : (version : Version) (pieces : List Piece) (i : ℕ) (piece : Piece)
    → slice_get pieces i ≡ Some piece
    → text (flat_map (piece_lines version) (take (i + 1) pieces))
    ≡ text (flat_map (piece_lines version) (take i pieces)) ++ text (piece_lines version piece)
text-pieces-more version pieces i piece e =
    let within = slice_get_within pieces i piece e in
    let one : flat_map (piece_lines version) (piece ∷ []) ≡ piece_lines version piece =
    append-nil (piece_lines version piece) in
    ap (λ (l : List Piece). text (flat_map (piece_lines version) l))
    (ap (λ (k : ℕ). take k pieces) (add-one i)
    ∙ (take-suc pieces i piece within
    ∙ ap (λ (x : Piece). take i pieces ++ x ∷ []) (get_or_from_slice_get pieces i piece piece e)))
    ∙ (ap text (flat_map-append (piece_lines version) (take i pieces) (piece ∷ []))
    ∙ (text-append (flat_map (piece_lines version) (take i pieces)) (flat_map (piece_lines version) (piece ∷ []))
    ∙ ap (λ (l : List (List ℕ)). text (flat_map (piece_lines version) (take i pieces)) ++ text l) one))

-- the lines of the segments so far, of one more, and of those behind it
pub text-pieces-split : (version : Version) (pieces : List Piece) (i : ℕ) (piece : Piece)
    → slice_get pieces i ≡ Some piece
    → text (flat_map (piece_lines version) (take i pieces))
    ++ (text (piece_lines version piece) ++ text (flat_map (piece_lines version) (drop (i + 1) pieces)))
    ≡ text (flat_map (piece_lines version) pieces)
text-pieces-split version pieces i piece e =
    let f = piece_lines version in
    sym (append_assoc (text (flat_map f (take i pieces))) (text (f piece)) (text (flat_map f (drop (i + 1) pieces))))
    ∙ (ap (λ (l : List ℕ). l ++ text (flat_map f (drop (i + 1) pieces)))
    (sym (text-pieces-more version pieces i piece e))
    ∙ (sym (text-append (flat_map f (take (i + 1) pieces)) (flat_map f (drop (i + 1) pieces)))
    ∙ ap text
    (sym (flat_map-append f (take (i + 1) pieces) (drop (i + 1) pieces))
    ∙ ap (flat_map f) (take-append-drop (i + 1) pieces))))

-- ---- the whole

pub text-listing : (p : Parts)
    → listing p
    ≡ text (heading p) ++ (text (map code_line p.words) ++ text (flat_map (piece_lines p.version) (pieces p)))
unfolding listing lines
text-listing p =
    let shares = flat_map (piece_lines p.version) (pieces p) in
    text-append (heading p) (map code_line p.words ++ shares)
    ∙ ap (λ (l : List ℕ). text (heading p) ++ l) (text-append (map code_line p.words) shares)
