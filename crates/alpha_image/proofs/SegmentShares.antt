-- The shares that segments have of the data bytes.
use Rattle.std.proofs.Common.{◌≡◌, ℕ, zero, suc, ◌+◌, ◌≤◌, List, [], ◌∷◌, ◌++◌, length, take, drop, Some, None, refl}
use Rattle.std.proofs.Common.{sym, ap, ◌∙◌, arith}
use Rattle.std.specs.Prelude.{slice_get}
use Rattle.std.specs.List.{flat_map}
use Rattle.std.specs.Option.{option_map}
use Rattle.std.proofs.lemmas.List.{drop-drop, length-drop, take-append-drop}
use Rattle.std.proofs.lemmas.List.Sums.{sum_by-cons}
use Rattle.alpha_image.specs.declared.segment.Segment.{Segment}
use Rattle.alpha_image.specs.Layout.{filled_size}
use Rattle.alpha_image.specs.Parts.{pieces_of}

pub length-pieces_of : (segments : List Segment) (bytes : List ℕ) → length (pieces_of segments bytes) ≡ length segments
length-pieces_of [] bytes = refl
length-pieces_of (s ∷ rest) bytes = ap suc (length-pieces_of rest (drop s.filled bytes))

filled_size-cons : (s : Segment) (rest : List Segment) → filled_size (s ∷ rest) ≡ s.filled + filled_size rest
filled_size-cons s rest = sum_by-cons (λ (t : Segment). t.filled) s rest

-- the bytes of a segment stand behind those of the segments before it
pub slice_get-pieces_of : (segments : List Segment) (bytes : List ℕ) (n : ℕ) (s : Segment)
    → slice_get segments n ≡ Some s
    → option_map (λ piece. piece.bytes) (slice_get (pieces_of segments bytes) n)
    ≡ Some (take s.filled (drop (filled_size (take n segments)) bytes))
slice_get-pieces_of [] bytes n s e = absurd cc
slice_get-pieces_of (t ∷ rest) bytes zero s e =
    let same : t ≡ s = cc in
    ap (λ (x : Segment). Some (take x.filled bytes)) same
slice_get-pieces_of (t ∷ rest) bytes (suc n) s e =
    slice_get-pieces_of rest (drop t.filled bytes) n s e
    ∙ (ap (λ (xs : List ℕ). Some (take s.filled xs)) (drop-drop (filled_size (take n rest)) t.filled bytes)
    ∙ ap (λ (k : ℕ). Some (take s.filled (drop k bytes))) (sym (filled_size-cons t (take n rest))))

pub no_piece : (segments : List Segment) (bytes : List ℕ) (n : ℕ) → slice_get segments n ≡ None
    → option_map (λ piece. piece.bytes) (slice_get (pieces_of segments bytes) n) ≡ None
no_piece [] bytes n e = refl
no_piece (t ∷ rest) bytes zero e = absurd cc
no_piece (t ∷ rest) bytes (suc n) e = no_piece rest (drop t.filled bytes) n e

-- the shares of all segments are all data bytes
pub flat_map-pieces_of : (segments : List Segment) (bytes : List ℕ) → length bytes ≡ filled_size segments
    → flat_map (λ piece. piece.bytes) (pieces_of segments bytes) ≡ bytes
flat_map-pieces_of [] [] e = refl
flat_map-pieces_of [] (b ∷ bytes) e = absurd (omega arith)
flat_map-pieces_of (s ∷ rest) bytes e =
    ap (λ (xs : List ℕ). take s.filled bytes ++ xs)
    (flat_map-pieces_of rest (drop s.filled bytes) (omega (arith, length-drop s.filled bytes, filled_size-cons s rest)))
    ∙ take-append-drop s.filled bytes

-- the bytes of a segment lie within all data bytes
pub filled_size-take_bound : (segments : List Segment) (n : ℕ) (s : Segment) → slice_get segments n ≡ Some s
    → filled_size (take n segments) + s.filled ≤ filled_size segments
filled_size-take_bound [] n s e = absurd cc
filled_size-take_bound (t ∷ rest) zero s e =
    let same : t ≡ s = cc in
    rw (sym same) (omega (arith, filled_size-cons t rest))
filled_size-take_bound (t ∷ rest) (suc n) s e =
    omega (arith, filled_size-take_bound rest n s e, filled_size-cons t rest, filled_size-cons t (take n rest))
