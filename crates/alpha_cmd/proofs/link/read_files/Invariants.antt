use Rattle.std.proofs.Common.{◌≡◌, ℕ, List, length, map, drop}
use Rattle.alpha_cmd.proofs.Commands.Link.{ReadsLeft}
use Rattle.alpha_io.specs.ShelfChange.{shelf_change, OnlyReads}
use Rattle.alpha_cmd.specs.Outcome.{Outcome, Each}
use Rattle.alpha_cmd.specs.Image.{Reads}
use Rattle.alpha_cmd.specs.Commands.Link.{module_limit, FilesOf}
use Rattle.alpha_cmd.proofs.link.read_files.Given as goal

abbrev pub invariant-loop-name : goal.invariant-loop-name
invariant-loop-name g l = record {
  rest : (o : Outcome (List (List ℕ)))
      → Each (λ before name. Reads (g.H.Shelf.files l.initial.shelf) name module_limit)
      (map (λ file. file.items) l.all.items) (map (λ name. name.now) (drop l.name-index l.names)) o
      → FilesOf (g.H.Shelf.files l.initial.shelf) (map (λ name. name.now) l.names) o;
  read : ReadsLeft (g.H.Shelf.replies l.initial.shelf) (g.H.Shelf.replies l.shelf) l.names l.all.items l.name-index;
  count : length l.all.items ≡ l.name-index;
  shelf : OnlyReads (shelf_change g.H.Shelf l.initial.shelf l.shelf) (Unit {0});
}
