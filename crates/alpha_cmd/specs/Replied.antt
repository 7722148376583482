-- What the shelf's calls gave and kept where a command is done, whatever the shelf tells beforehand.
use Rattle.std.specs.Prelude.{◌≡◌, ℕ, List, [], ◌∷◌, ◌++◌, true}
use Rattle.alpha_io.specs.History.{Reply, Kept, IsReadWhole}
use Rattle.alpha_io.specs.ShelfChange.{ShelfChange}
use Rattle.alpha_shadow.specs.Broken.{IsAccepted}
use Rattle.alpha_request.specs.declared.request.ImageCommand.TheVariants as images
use Rattle.alpha_request.specs.Command.{Command, of_image, make, link}
use Rattle.alpha_cmd.specs.declared.status.Status.{Status}
use Rattle.alpha_cmd.specs.declared.status.Status.TheVariants.{Done}
use Rattle.alpha_cmd.specs.Asks.{AsksFor}
use Rattle.alpha_cmd.specs.Checked.{ReadsImage}
use Rattle.alpha_cmd.specs.Commands.Link.{ModulesOf, Links}
use Rattle.alpha_cmd.specs.SourceCommands.{Bytes}
use Rattle.alpha_cmd.specs.Outcome.{continues, Then}

-- The shelf was asked for this file alone, from its start to its end, and then to keep under that name what is made of
-- the bytes that it gave, which it did.
pub record KeepsMade (s : ShelfChange) (file out : List ℕ) (P : List ℕ → List ℕ → Type 0) : Type 0 where
  pub middle : List Reply
  pub source : List ℕ
  pub bytes : List ℕ
  pub read : IsReadWhole s.past middle file source
  pub made : P source bytes
  pub kept : s.history ≡ middle ++ Kept out bytes true ∷ []

-- the files of these names were read whole, one behind the other, and these are their bytes
abbrev pub IsReadEach : List Reply → List Reply → List (List ℕ) → List (List ℕ) → Type 0
IsReadEach old new [] [] = new ≡ old
IsReadEach old new [] (file ∷ files) = ⊥
IsReadEach old new (name ∷ names) [] = ⊥
IsReadEach old new (name ∷ names) (file ∷ files) =
    (middle : List Reply) × IsReadWhole old middle name file × IsReadEach middle new names files

-- so it is of the image that the modules of several files link to
pub record KeepsLinked (s : ShelfChange) (entry out : List ℕ) (names : List (List ℕ)) : Type 0 where
  pub middle : List Reply
  pub files : List (List ℕ)
  pub bytes : List ℕ
  pub read : IsReadEach s.past middle names files
  pub made : Then (ModulesOf files) (Links entry) (continues bytes)
  pub kept : s.history ≡ middle ++ Kept out bytes true ∷ []

-- a row a command
abbrev pub Replied : Command → ShelfChange → Type 0
Replied (of_image images.Check file) s = ReadsImage s file (λ image. IsAccepted image.words)
Replied (make what file out) s = KeepsMade s file out (λ source bytes. Bytes what source (continues bytes))
Replied (link entry out names) s = KeepsLinked s entry out names
Replied _ s = Unit {0}

-- that is so where the words' command is done
abbrev pub Replies : List (List ℕ) → Status → ShelfChange → Type 0
Replies words status s = (command : Command) → AsksFor words command → status ≡ Done 0 → Replied command s
