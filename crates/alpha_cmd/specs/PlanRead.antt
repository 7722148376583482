-- What a run of the imprecise machine has read before it begins, by the bytes that the shelf's calls gave.
use Rattle.std.specs.Prelude.{◌≡◌, ℕ, List}
use Rattle.alpha_io.specs.Files.{HasFile}
use Rattle.alpha_io.specs.History.{Reply, IsReadWhole}
use Rattle.alpha_io.specs.ShelfChange.{ShelfChange}
use Rattle.alpha_image.specs.Parts.{IsImage, image_spelling}
use Rattle.alpha_request.specs.Origin.{Origin, seed, file}
use Rattle.alpha_imprecise.specs.Pcg.{pcg_word, seeded}
use Rattle.alpha_cmd.specs.Choosing.{listed_word}
use Rattle.alpha_cmd.specs.Commands.Imprecise.{Plan}

-- The words are a seed's, and the shelf was asked for nothing. Or they are those that the bytes of a named file write,
-- which it gave, from its start to its end.
abbrev pub ReadsWords : Origin → List Reply → List Reply → (ℕ → ℕ) → Type 0
ReadsWords (seed n) old new ahead = (new ≡ old) × (ahead ≡ pcg_word (seeded n))
ReadsWords (file name) old new ahead = (bytes : List ℕ) × IsReadWhole old new name bytes × (ahead ≡ listed_word bytes)

-- The shelf was asked for this file alone, from its start to its end, and the bytes that it gave are the spelling of a
-- good image; and then for the words.
pub record IsPlanRead (old new : List Reply) (choices : Origin) (name : List ℕ) (plan : Plan) : Type 0 where
  pub middle : List Reply
  pub good : IsImage plan.image
  pub read : IsReadWhole old middle name (image_spelling plan.image)
  pub words : ReadsWords choices middle new plan.ahead

-- The image and the words have P. Where files are told, the image is the file's.
pub record ReadsPlan (s : ShelfChange) (choices : Origin) (name : List ℕ) (P : Plan → Type 0) : Type 0 where
  pub plan : Plan
  pub is : IsPlanRead s.past s.history choices name plan
  pub told : HasFile s.old name (image_spelling plan.image)
  pub has : P plan
