use Rattle.std.proofs.Common.{◌≡◌, ◌≤◌, ◌-◌, vec_len}
use Rattle.alpha_io.specs.Files.{KeepsFiles}
use Rattle.alpha_io.specs.History.{IsReadTo}
use Rattle.alpha_io.proofs.FilePrefixes.{IsKnownPrefixRead}
use Rattle.alpha_io.proofs.read.read_whole.Given as goal

abbrev pub invariant-loop-buffer : goal.invariant-loop-buffer
invariant-loop-buffer g l = record {
  so : IsReadTo (g.H.Shelf.replies l.initial.shelf) (g.H.Shelf.replies l.shelf) l.name l.bytes.items;
  front : IsKnownPrefixRead (g.H.Shelf.files l.initial.shelf) l.name l.bytes.items;
  room : vec_len l.bytes ≤ l.most;
  files : KeepsFiles (g.H.Shelf.files l.initial.shelf) (g.H.Shelf.files l.shelf);
  takes : g.H.Shelf.takes l.shelf ≡ g.H.Shelf.takes l.initial.shelf;
  faults_unchanged : g.H.Shelf.faults l.shelf ≡ g.H.Shelf.faults l.initial.shelf;
}

abbrev pub decreases-loop-buffer : goal.decreases-loop-buffer
decreases-loop-buffer g l = l.most - vec_len l.bytes
