-- `dis FILE`: the listing of the image.
use Rattle.std.specs.Prelude.{ℕ, List, Option}
use Rattle.alpha_dis.specs.Listing.{listing}
use Rattle.alpha_image.specs.Parts.{Parts}
use Rattle.alpha_cmd.specs.Outcome.{Outcome, Gives}
use Rattle.alpha_cmd.specs.Image.{OfFile}
use Rattle.alpha_cmd.specs.Answer.{Answer}
use Rattle.alpha_cmd.specs.AnswerBy.{World, done_with}

abbrev pub Lists : Option (List ℕ) → Parts → Outcome Answer → Type 0
Lists input image = Gives (done_with input (listing image))

abbrev pub steps : List ℕ → World → Outcome Answer → Type 0
steps = OfFile Lists
