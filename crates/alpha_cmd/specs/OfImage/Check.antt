-- `check FILE`: whether the image's code is accepted, and so can be restarted after a late overflow trap.
use Rattle.std.specs.Prelude.{ℕ, List, [], ◌∷◌, ◌++◌, codes, Option}
use Rattle.alpha_image.specs.Parts.{Parts}
use Rattle.alpha_cmd.specs.Outcome.{Outcome, Then, Gives}
use Rattle.alpha_cmd.specs.Image.{Judges, OfFile}
use Rattle.alpha_cmd.specs.Answer.{Answer}
use Rattle.alpha_cmd.specs.AnswerBy.{World, done_with}

-- `accepted` and a line feed
abbrev pub accepted : Option (List ℕ) → Answer
accepted input = done_with input (codes "accepted" ++ 10 ∷ [])

abbrev pub Checks : Option (List ℕ) → Parts → Outcome Answer → Type 0
Checks input image = Then (Judges image) (λ same. Gives (accepted input))

abbrev pub steps : List ℕ → World → Outcome Answer → Type 0
steps = OfFile Checks
