use Rattle.std.proofs.Common.{ℕ, refl, length, ◌∙◌, arith, length-take}
use Rattle.alpha_io.specs.Files.{IsPiece}
use Rattle.alpha_io.proofs.ShelfLaws.{KeepsFiles-trans, IfTold-kept}
use Rattle.alpha_io.proofs.FilePieces.{IsReadTo-more, piece-not_nil, IsReadTo-not_whole}
use Rattle.alpha_io.proofs.FilePrefixes.{IsKnownPrefixRead-more}
use Rattle.alpha_io.proofs.read.read_whole.Goals as goal

pub loop-buffer-preserved : goal.loop-buffer-preserved
loop-buffer-preserved g c =
    let s = c.loop-buffer.invariant in
    let now = c.in_ok-count.ensures in
    let piece = IfTold-kept _ _ c.args.name.now
    (λ file. IsPiece file (length c.loop-buffer.bytes.items) c.in_ok-count.count c.append_piece.new.buffer) s.files
    now.piece in
    let front = IsKnownPrefixRead-more (g.H.Shelf.files c.args.shelf.now) c.args.name.now c.loop-buffer.bytes.items
    (length c.loop-buffer.bytes.items) c.in_ok-count.count c.append_piece.new.buffer refl now.bound.1 s.front piece in
    record {
      so =
          IsReadTo-more _ _ _ _ _ _ _ s.so
          (piece-not_nil c.in_ok-count.count _ now.bound.1 c.if-count-eq0.false) now.replies now.items;
      front = rw now.items front;
      room = omega (arith, now.len, length-take {A = ℕ});
      files = KeepsFiles-trans _ _ _ s.files now.files;
      takes = now.takes ∙ s.takes;
      faults_unchanged = now.cause ∙ s.faults_unchanged;
    }

pub returns-clause-whole : goal.returns-clause-whole
returns-clause-whole g c = λ file whole. absurd (IsReadTo-not_whole _ _ _ _ _ c.loop-buffer.invariant.so whole)
