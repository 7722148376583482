-- The memory at the start: each region is free when it is added.
use Rattle.std.proofs.Common.{◌≡◌, ℕ, zero, suc, ◌+◌, ◌-◌, ◌*◌, ◌%◌, ◌^◌, ◌<◌, ◌≤◌, Bool, true, false, ◌&&◌, List, []}
use Rattle.std.proofs.Common.{◌∷◌, ◌++◌, length, map, take, drop, replicate, get_or, Some, None, refl, sym, ap, subst}
use Rattle.std.proofs.Common.{◌∙◌, arith, append-nil, length-append, length-take, length-drop}
use Rattle.std.specs.Prelude.{nat_le, slice_get}
use Rattle.std.specs.List.{list_any, flat_map}
use Rattle.std.specs.Option.{option_map}
use Rattle.std.proofs.lemmas.Bool.Decides.{nat_tests}
use Rattle.std.proofs.lemmas.List.{drop-drop, take_more, take_all, map-append, length-replicate}
use Rattle.std.proofs.lemmas.List.Sums.{sum_by-cons}
use Rattle.std.proofs.lemmas.Option.{get_or_from_slice_get}
use Rattle.std.proofs.lemmas.Bool.{false_from_ne_true}
use Rattle.alpha_words.specs.declared.Completion.{Completion}
use Rattle.alpha_words.specs.Regs.{put}
use Rattle.alpha_mem.specs.Block.{Block, shape_of, shapes, holds, within, block}
use Rattle.alpha_mem.specs.Memory.{IsFree}
use Rattle.alpha_image.specs.declared.segment.Segment.{Segment}
use Rattle.alpha_image.specs.Layout.{longword, filled_size}
use Rattle.alpha_image.specs.Rules.{Holds, AreApart, code_segment, stack_segment, size_of_segment}
use Rattle.alpha_image.specs.Parts.{Parts, Piece, IsImage, numbers, pieces, pieces_of}
use Rattle.alpha_image.proofs.CodeWords.{length-flat_map_longword}
use Rattle.alpha_image.proofs.SegmentShares.{length-pieces_of, filled_size-take_bound}
use Rattle.alpha_seq.specs.State.{State}
use Rattle.alpha_seq.specs.Start.{stack_end, start_memory, start_regs, start}
use Rattle.alpha_seq.specs.StartMemory.{code_block, segment_block, stack_block, memory_before}

some_same : (xs ys : List ℕ) → Some xs ≡ Some ys → xs ≡ ys
some_same xs ys e = cc

-- within a list, what is there past it doesn't matter
get_or_default : (xs : List Segment) (k : ℕ) (d e : Segment) → k < length xs → get_or xs k d ≡ get_or xs k e
get_or_default [] k d e h = absurd (omega arith)
get_or_default (x ∷ xs) zero d e h = refl
get_or_default (x ∷ xs) (suc k) d e h = get_or_default xs k d e (omega arith)

-- ---- which addresses the blocks have

within-bounds : (first size x : ℕ) → (nat_le first x && nat_le (x + 1) (first + size)) ≡ true
    → (first ≤ x) × (x < first + size)
within-bounds first size x e = (grind (arith, nat_tests), grind (arith, nat_tests))

not_held : (first size x : ℕ) → ((first ≤ x) × (x < first + size) → ⊥)
    → (nat_le first x && nat_le (x + 1) (first + size)) ≡ false
not_held first size x out = false_from_ne_true _ (λ e. out (within-bounds first size x e))

code-size : (p : Parts) → length (code_block p).bytes ≡ 4 * length p.words
code-size p = ap length (append-nil (flat_map longword p.words)) ∙ length-flat_map_longword p.words

piece-size : (s : Segment) (bytes : List ℕ) → s.filled ≤ length bytes
    → length (take s.filled bytes ++ replicate s.zeroed 0) ≡ size_of_segment s
piece-size s bytes there = omega (
  arith,
  length-append (take s.filled bytes) (replicate s.zeroed 0),
  length-take s.filled bytes,
  length-replicate {A = ℕ} s.zeroed 0,
)

code_clear : (p : Parts) (x : ℕ) → (Holds (code_segment (numbers p)) x → ⊥)
    → holds (shape_of (code_block p)) x 1 ≡ false
code_clear p x out =
    rw (code-size p) (not_held p.code_base (4 * length p.words) x (λ inside. out (inside.0, omega arith)))

filled_size-cons : (s : Segment) (rest : List Segment) → filled_size (s ∷ rest) ≡ s.filled + filled_size rest
filled_size-cons s rest = sum_by-cons (λ (t : Segment). t.filled) s rest

segments_clear : (segments : List Segment) (bytes : List ℕ) (n x : ℕ) → length bytes ≡ filled_size segments
    → ((k : ℕ) (d : Segment) → k < n → k < length segments → Holds (get_or segments k d) x → ⊥)
    → list_any (λ s. holds s x 1) (shapes (map segment_block (take n (pieces_of segments bytes)))) ≡ false
segments_clear segments bytes zero x sized apart = refl
segments_clear [] bytes (suc n) x sized apart = refl
segments_clear (s ∷ rest) bytes (suc n) x sized apart =
    let there : s.filled ≤ length bytes = omega (arith, filled_size-cons s rest) in
    let here : holds
    (shape_of (segment_block (record { base = s.base; bytes = take s.filled bytes; zeroed = s.zeroed }))) x 1 ≡ false =
    rw (piece-size s bytes there) (not_held s.base (size_of_segment s) x (apart 0 s (omega arith) (omega arith))) in
    let behind =
    segments_clear rest (drop s.filled bytes) n x (omega (arith, filled_size-cons s rest, length-drop s.filled bytes))
    (λ k d below within. apart (suc k) d (omega arith) (omega arith)) in
    rw (here, behind) refl

-- ---- which addresses the regions of an image have

memory_free : (p : Parts) (n base size : ℕ) → IsImage p
    → ((x : ℕ) → base ≤ x → x < base + size → Holds (code_segment (numbers p)) x → ⊥)
    → ((k : ℕ) (d : Segment) (x : ℕ) → k < n → k < length p.segments → base ≤ x → x < base + size
    → Holds (get_or p.segments k d) x → ⊥)
    → IsFree (shapes (memory_before p n)) base size
unfolding memory_before
memory_free p n base size image code segments x low high =
    let in_code : holds (shape_of (code_block p)) x 1 ≡ false = code_clear p x (code x low high) in
    let in_segments =
    segments_clear p.segments p.bytes n x image.filled (λ k d below within. segments k d x below within low high) in
    rw (in_code, in_segments) refl

code_from_segment : (p : Parts) (k : ℕ) (d : Segment) → IsImage p → k < length p.segments
    → AreApart (code_segment (numbers p)) (get_or p.segments k d)
code_from_segment p k d image within = image.fields.regions 0 (suc (suc k)) d (omega arith) (omega arith)

stack_from_segment : (p : Parts) (k : ℕ) (d : Segment) → IsImage p → k < length p.segments
    → AreApart (stack_segment (numbers p)) (get_or p.segments k d)
stack_from_segment p k d image within = image.fields.regions 1 (suc (suc k)) d (omega arith) (omega arith)

segment_from_segment : (p : Parts) (j k : ℕ) (d : Segment) → IsImage p → j < k → k < length p.segments
    → AreApart (get_or p.segments j d) (get_or p.segments k d)
segment_from_segment p j k d image below within =
    image.fields.regions (suc (suc j)) (suc (suc k)) d (omega arith) (omega arith)

segment_from_segment_at : (p : Parts) (j k : ℕ) (s d : Segment) → IsImage p → j < k → k < length p.segments
    → get_or p.segments k s ≡ s → AreApart (get_or p.segments j d) s
segment_from_segment_at p j k s d image below within here =
    let pair = segment_from_segment p j k s image below within in
    let one = get_or_default p.segments j s d (omega arith) in
    rw (here, one) at pair

code_from_segment_at : (p : Parts) (k : ℕ) (s : Segment) → IsImage p → k < length p.segments → get_or p.segments k s ≡ s
    → AreApart (code_segment (numbers p)) s
code_from_segment_at p k s image within here = rw here at (code_from_segment p k s image within)

code_from_stack : (p : Parts) → IsImage p → AreApart (code_segment (numbers p)) (stack_segment (numbers p))
code_from_stack p image = image.fields.regions 0 1 (stack_segment (numbers p)) (omega arith) (omega arith)

-- ---- one region more

-- a region that was added behind what was known to be there
pub region-added : (old new known : List Block) (base base' tail tail' : ℕ) (bytes bytes' : List ℕ) (writable : Bool)
    → old ≡ known → base ≡ base' → bytes ≡ bytes' → tail ≡ tail'
    → new ≡ old ++ block base bytes tail writable ∷ [] → new ≡ known ++ block base' bytes' tail' writable ∷ []
region-added old new known base base' tail tail' bytes bytes' writable same at holding ending is = cc

aligned_more : (base : ℕ) → base % 8192 ≡ 0 → base % 16 ≡ 0
aligned_more base e = omega arith

pub code_aligned : (p : Parts) → IsImage p → p.code_base % 16 ≡ 0
code_aligned p image = aligned_more p.code_base image.fields.code_base.0

pub code_below : (p : Parts) → IsImage p → p.code_base + length (flat_map longword p.words) ≤ 2 ^ 30
code_below p image = omega (arith, image.fields.words.2, length-flat_map_longword p.words)

pub memory_before-zero : (p : Parts) → [] ++ code_block p ∷ [] ≡ memory_before p 0
unfolding memory_before
memory_before-zero p = refl

filled_more : (s : Segment) (rest : List Segment) (n : ℕ)
    → filled_size (take (suc n) (s ∷ rest)) ≡ s.filled + filled_size (take n rest)
filled_more s rest n = filled_size-cons s (take n rest)

-- the share of a segment
abbrev segment_piece : List Segment → List ℕ → ℕ → Segment → Piece
segment_piece segments bytes n s =
    record { base = s.base; bytes = take s.filled (drop (filled_size (take n segments)) bytes); zeroed = s.zeroed }

piece_at : (segments : List Segment) (bytes : List ℕ) (n : ℕ) (s : Segment) → slice_get segments n ≡ Some s
    → slice_get (pieces_of segments bytes) n ≡ Some (segment_piece segments bytes n s)
piece_at [] bytes n s e = absurd cc
piece_at (t ∷ rest) bytes zero s e =
    let same : t ≡ s = cc in
    ap (λ (x : Segment). Some (record { base = x.base; bytes = take x.filled bytes; zeroed = x.zeroed })) same
piece_at (t ∷ rest) bytes (suc n) s e =
    piece_at rest (drop t.filled bytes) n s e
    ∙ ap (λ (l : List ℕ). Some (record { base = s.base; bytes = take s.filled l; zeroed = s.zeroed }))
    (drop-drop (filled_size (take n rest)) t.filled bytes ∙ ap (λ (k : ℕ). drop k bytes) (sym (filled_more t rest n)))

-- what the code finds of a segment, and what it may rest on when it adds it
pub record Addable (p : Parts) (n : ℕ) (s : Segment) (bytes : List ℕ) : Type 0 where
  pub aligned : s.base % 16 ≡ 0
  pub below : s.base + length bytes + s.zeroed ≤ 2 ^ 30
  pub free : IsFree (shapes (memory_before p n)) s.base (length bytes + s.zeroed)
  pub more : memory_before p n ++ block s.base bytes s.zeroed true ∷ [] ≡ memory_before p (n + 1)

segment_more : (p : Parts) (n : ℕ) (s : Segment) (bytes : List ℕ) → n < length p.segments
    → slice_get (pieces p) n ≡ Some (record { base = s.base; bytes = bytes; zeroed = s.zeroed })
    → memory_before p n ++ block s.base bytes s.zeroed true ∷ [] ≡ memory_before p (n + 1)
unfolding memory_before
segment_more p n s bytes within at =
    let piece : Piece = record { base = s.base; bytes = bytes; zeroed = s.zeroed } in
    let there : n < length (pieces p) = omega (arith, length-pieces_of p.segments p.bytes) in
    let last = get_or_from_slice_get (pieces p) n piece piece at in
    ap (λ (l : List Block). code_block p ∷ l)
    (sym
    (ap (map segment_block) (take_more (pieces p) n piece there ∙ ap (λ (x : Piece). take n (pieces p) ++ x ∷ []) last)
    ∙ map-append segment_block (take n (pieces p)) (piece ∷ [])))

pub segment-addable : (p : Parts) (n : ℕ) (s : Segment) (bytes : List ℕ) → IsImage p → slice_get p.segments n ≡ Some s
    → option_map (λ piece. piece.bytes) (slice_get (pieces p) n) ≡ Some bytes → n < length p.segments
    → Addable p n s bytes
segment-addable p n s bytes image at found within =
    let is_share = piece_at p.segments p.bytes n s at in
    let same : take s.filled (drop (filled_size (take n p.segments)) p.bytes) ≡ bytes =
    some_same _ _ (sym (ap (option_map (λ piece. piece.bytes)) is_share) ∙ found) in
    let inside = filled_size-take_bound p.segments n s at in
    let size : length bytes ≡ s.filled = ap length (sym same) ∙ omega (
      arith,
      length-take s.filled (drop (filled_size (take n p.segments)) p.bytes),
      length-drop (filled_size (take n p.segments)) p.bytes,
      image.filled,
    ) in
    let here : get_or p.segments n s ≡ s = get_or_from_slice_get p.segments n s s at in
    let based = image.fields.data_bases.0 n s within in
    let below = image.fields.zeroed.1 n s within in
    let clear : IsFree (shapes (memory_before p n)) s.base (size_of_segment s) =
    memory_free p n s.base (size_of_segment s) image
    (λ x low high in_code. code_from_segment_at p n s image within here x in_code (low, high))
    (λ k d x before inside low high in_k.
    segment_from_segment_at p k n s d image before within here x in_k (low, high)) in
    record {
      aligned = aligned_more s.base (rw here at based.0);
      below = let low : s.base + size_of_segment s ≤ 2 ^ 30 = rw here at below in omega (arith, size);
      free = subst (λ k. IsFree (shapes (memory_before p n)) s.base (k + s.zeroed)) (sym size) clear;
      more =
          segment_more p n s bytes within
          (is_share ∙ ap (λ (l : List ℕ). Some (record { base = s.base; bytes = l; zeroed = s.zeroed })) same);
    }

-- ---- the stack

pub stack_aligned : (p : Parts) → IsImage p → (2 ^ 30 - p.stack) % 16 ≡ 0
stack_aligned p image = omega (arith, image.fields.stack.2, image.fields.stack.1)

pub stack_below : (p : Parts) → IsImage p → 2 ^ 30 - p.stack + 0 + p.stack ≤ 2 ^ 30
stack_below p image = omega (arith, image.fields.stack.1)

pub stack_free : (p : Parts) → IsImage p
    → IsFree (shapes (memory_before p (length p.segments))) (2 ^ 30 - p.stack) (0 + p.stack)
stack_free p image =
    memory_free p (length p.segments) (2 ^ 30 - p.stack) (0 + p.stack) image
    (λ x low high in_code. code_from_stack p image x in_code (low, high))
    (λ k d x before within low high in_k. stack_from_segment p k d image within x (low, high) in_k)

pub start_memory-stack_last : (p : Parts) → memory_before p (length p.segments) ++ stack_block p ∷ [] ≡ start_memory p
unfolding memory_before start_memory
start_memory-stack_last p =
    ap (λ (l : List Piece). code_block p ∷ (map segment_block l ++ stack_block p ∷ []))
    (take_all (length p.segments) (pieces p) (omega (arith, length-pieces_of p.segments p.bytes)))

-- ---- the state

abbrev state_with : List ℕ → ℕ → List Block → State
state_with regs pc mem = record {
  regs = regs;
  pc = pc;
  mem = mem;
  unique = 0;
  lock = None;
  count = 0;
  logged = 0;
}

pub started_state : (p : Parts) (completion : Completion) (mem : List Block) (regs : List ℕ) (entry : ℕ)
    → mem ≡ start_memory p → regs ≡ put (put (replicate 32 0) 27 entry) 30 stack_end → entry ≡ p.entry
    → state_with regs entry mem ≡ start (record { image = p; completion = completion })
unfolding start_regs
started_state p completion mem regs entry memory_is regs_are entry_is =
    let registers : regs ≡ put (put (replicate 32 0) 27 p.entry) 30 stack_end =
    regs_are ∙ ap (λ n. put (put (replicate 32 0) 27 n) 30 stack_end) entry_is in
    ap (λ l. state_with l entry mem) registers
    ∙ ap (λ n. state_with (start_regs p) n mem) entry_is
    ∙ ap (λ m. state_with (start_regs p) p.entry m) memory_is
