-- What clap finds in words, by its definition of a simple command.
use Rattle.std.specs.Prelude.{List, [], ◌∷◌, Option, Some, None}
use Rattle.clap.specs.Walk.{Row, Text}
use Rattle.clap.specs.Simple.{App, matches_of}
use Rattle.clap.specs.Faults.{fault_of}
use Rattle.clap.specs.Kinds.{Kinds}

-- rows where there is no fault
abbrev pub unless_faulty : Kinds → List Row → Option (List Row)
unless_faulty [] rows = Some rows
unless_faulty (fault ∷ others) rows = None

-- the matches on words, where clap's definition finds no fault in them
unfoldable pub matches_on : App → List Text → Option (List Row)
matches_on app words = unless_faulty (fault_of app words) (matches_of app words)
