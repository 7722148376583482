-- The state at the start is ready: it has 32 registers, and the blocks of its memory lie as they must.
use Rattle.std.proofs.Common.{◌≡◌, ◌<◌, ◌≤◌, ◌+◌, ◌-◌, ◌%◌, ◌^◌, ℕ, zero, suc, Bool, true, false, cond, List, [], ◌∷◌}
use Rattle.std.proofs.Common.{◌++◌, length, replicate, get_or, option_map, leb, count_by, refl, sym, ap, subst, ◌∙◌}
use Rattle.std.proofs.Common.{arith, add-one, zero-add}
use Rattle.std.specs.List.{list_any, flat_map}
use Rattle.std.proofs.lemmas.Bool.{leb-true, or_parts, and_parts}
use Rattle.std.proofs.lemmas.List.{map-append, length-append, length-replicate}
use Rattle.std.proofs.lemmas.List.Elements.{All-push, All-nil}
use Rattle.std.proofs.lemmas.List.Sums.{sum_by_push, sum_by-cons}
use Rattle.std.proofs.lemmas.Option.{slice_get-get_or}
use Rattle.alpha_words.specs.Regs.{put}
use Rattle.alpha_words.proofs.RegLemmas.{length-put}
use Rattle.alpha_mem.specs.Block.{Block, Shape, shape_of, shapes, holds, block}
use Rattle.alpha_mem.specs.Memory.{IsFree, IsLayout}
use Rattle.alpha_image.specs.declared.segment.Segment.{Segment}
use Rattle.alpha_image.specs.Layout.{longword}
use Rattle.alpha_image.specs.Parts.{Parts, Piece, IsImage, pieces}
use Rattle.alpha_image.proofs.SegmentShares.{length-pieces_of}
use Rattle.alpha_seq.specs.State.{Program}
use Rattle.alpha_seq.specs.Start.{stack_end, start_memory, start_regs, start}
use Rattle.alpha_seq.specs.StartMemory.{memory_before}
use Rattle.alpha_seq.proofs.ImageLoads.{code_aligned, code_below, memory_before-zero, segment-addable, stack_aligned}
use Rattle.alpha_seq.proofs.ImageLoads.{stack_below}
use Rattle.alpha_seq.proofs.ImageLoads.{stack_free, start_memory-stack_last}
use Rattle.alpha_restart.specs.Invariant.{IsReady}

-- ---- a block more

none_has : (x : ℕ) (ss : List Shape) → list_any (λ s. holds s x 1) ss ≡ false → count_by (λ s. holds s x 1) ss ≡ 0
none_has x [] e = refl
none_has x (s ∷ ss) e =
    let f = or_parts (holds s x 1) (list_any (λ t. holds t x 1) ss) e in
    sum_by-cons (λ (t : Shape). cond (holds t x 1) 1 0) s ss
    ∙ (ap (λ b. cond b 1 0 + count_by (λ t. holds t x 1) ss) f.0
    ∙ (zero-add (count_by (λ t. holds t x 1) ss) ∙ none_has x ss f.1))

one_more : (ss : List Shape) (s : Shape) (x : ℕ) → count_by (λ t. holds t x 1) ss ≤ 1 → IsFree ss s.first s.size
    → count_by (λ t. holds t x 1) (ss ++ s ∷ []) ≤ 1
one_more ss s x apart free = by (holds s x 1) refl (sum_by_push (λ (t : Shape). cond (holds t x 1) 1 0) ss s)
  where
    by : (b : Bool) → holds s x 1 ≡ b
        → count_by (λ t. holds t x 1) (ss ++ s ∷ []) ≡ count_by (λ t. holds t x 1) ss + cond b 1 0
        → count_by (λ t. holds t x 1) (ss ++ s ∷ []) ≤ 1
    by false e total = omega arith
    by true e total =
        let both = and_parts (leb s.first x) (leb (x + 1) (s.first + s.size)) e in
        let low = leb-true s.first x both.0 in
        let high = leb-true (x + 1) (s.first + s.size) both.1 in
        let none = none_has x ss (free x low (omega arith)) in
        omega arith

layout_more : (ss : List Shape) (s : Shape) → IsLayout ss → s.first % 16 ≡ 0 → s.first + s.size ≤ 2 ^ 30
    → IsFree ss s.first s.size → IsLayout (ss ++ s ∷ [])
layout_more ss s layout start end free = record {
  aligned = All-push (λ (t : Shape). t.first % 16 ≡ 0) ss s layout.aligned start;
  below = All-push (λ (t : Shape). t.first + t.size ≤ 2 ^ 30) ss s layout.below end;
  apart = λ x. one_more ss s x (layout.apart x) free;
}

block_more : (m : List Block) (first : ℕ) (bytes : List ℕ) (zeroed : ℕ) (writable : Bool) → IsLayout (shapes m)
    → first % 16 ≡ 0
    → first + length bytes + zeroed ≤ 2 ^ 30 → IsFree (shapes m) first (length bytes + zeroed)
    → IsLayout (shapes (m ++ block first bytes zeroed writable ∷ []))
block_more m first bytes zeroed writable layout start end free =
    let b = block first bytes zeroed writable in
    let size : length (bytes ++ replicate zeroed 0) ≡ length bytes + zeroed =
    length-append bytes (replicate zeroed 0) ∙ ap (λ n. length bytes + n) (length-replicate {A = ℕ} zeroed 0) in
    subst IsLayout (sym (map-append shape_of m (b ∷ [])))
    (layout_more (shapes m) (shape_of b) layout start (omega arith)
    (subst (λ n. IsFree (shapes m) first n) (sym size) free))

no_blocks : IsLayout (shapes [])
no_blocks = record { aligned = All-nil _; below = All-nil _; apart = λ x. omega arith }

-- ---- the memory at the start

module _ (p : Parts) (good : IsImage p) where
  code_layout : IsLayout (shapes (memory_before p 0))
  code_layout =
      subst (λ m. IsLayout (shapes m)) (memory_before-zero p)
      (block_more [] p.code_base (flat_map longword p.words) 0 false no_blocks (code_aligned p good)
      (let below = code_below p good in omega arith) (λ x low high. refl))

  segment_layout : (n : ℕ) → n < length p.segments → IsLayout (shapes (memory_before p n))
      → IsLayout (shapes (memory_before p (n + 1)))
  segment_layout n low layout =
      let nothing : Segment = record { base = 0; filled = 0; zeroed = 0 } in
      let empty : Piece = record { base = 0; bytes = []; zeroed = 0 } in
      let s = get_or p.segments n nothing in
      let bytes = (get_or (pieces p) n empty).bytes in
      let inside : n < length (pieces p) = omega (arith, length-pieces_of p.segments p.bytes) in
      let can = segment-addable p n s bytes good (slice_get-get_or p.segments n nothing low)
      (ap (option_map (λ (piece : Piece). piece.bytes)) (slice_get-get_or (pieces p) n empty inside)) low in
      subst (λ m. IsLayout (shapes m)) can.more
      (block_more (memory_before p n) s.base bytes s.zeroed true layout can.aligned can.below can.free)

  segments_layout : (n : ℕ) → n ≤ length p.segments → IsLayout (shapes (memory_before p n))
  segments_layout zero low = code_layout
  segments_layout (suc n) low =
      subst (λ k. IsLayout (shapes (memory_before p k))) (add-one n)
      (segment_layout n (omega arith) (segments_layout n (omega arith)))

  start_layout : IsLayout (shapes (start_memory p))
  start_layout =
      subst (λ m. IsLayout (shapes m)) (start_memory-stack_last p)
      (block_more (memory_before p (length p.segments)) (2 ^ 30 - p.stack) [] p.stack true
      (segments_layout (length p.segments) (omega arith))
      (stack_aligned p good) (stack_below p good) (stack_free p good))

start_size : (p : Parts) → length (start_regs p) ≡ 32
unfolding start_regs
start_size p =
    length-put (put (replicate 32 0) 27 p.entry) 30 stack_end
    ∙ (length-put (replicate 32 0) 27 p.entry ∙ length-replicate {A = ℕ} 32 0)

pub IsReady-start : (g : Program) → IsImage g.image → IsReady (start g)
IsReady-start g good = record { size = start_size g.image; layout = start_layout g.image good }
