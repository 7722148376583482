-- What is known of a source with its barriers, and what a call of `fix` shows.
use Rattle.std.specs.Prelude.{◌≡◌, ◌+◌, ℕ, List, Some, slice_get}
use Rattle.alpha_io.specs.Files.{Files, HasFile}
use Rattle.alpha_shadow.specs.Broken.{IsAccepted}
use Rattle.alpha_imprecise.specs.Restart.{IsRestartable}
use Rattle.alpha_fix.specs.Cuts.{HasBroken, without}
use Rattle.alpha_fix.specs.Fix.{IsFixedSource}
use Rattle.alpha_request.specs.declared.request.SourceCommand.TheVariants.{Fix}
use Rattle.alpha_request.specs.Commands.Make as source_words
use Rattle.alpha_cmd.specs.declared.status.Status.{Status}
use Rattle.alpha_cmd.specs.declared.status.Status.TheVariants.{Done}

-- The text is the source with a barrier at each cut of its code. Its image is accepted, and can be restarted after each
-- late trap. Without the word of any one of the barriers, which stands behind the words before its cut and the barriers
-- before it, a place is broken. A source whose image is accepted is left as it is.
pub record IsFixed (source text : List ℕ) : Type 0 where
  pub is : IsFixedSource source text
  pub accepted : IsAccepted is.fixed.words
  pub restarts : IsRestartable is.fixed
  pub needed : (j cut : ℕ) → slice_get is.cuts j ≡ Some cut → HasBroken (without (cut + j) is.fixed.words)
  pub unchanged : IsAccepted is.image.words → text ≡ source

-- Where it is done, the file kept is the source with its barriers.
abbrev pub Fixes : List (List ℕ) → Status → Files → Files → Type 0
Fixes words status old new = (file out : List ℕ) → source_words.AsksToMake Fix words file out → status ≡ Done 0
    → (source text : List ℕ) × HasFile old file source × HasFile new out text × IsFixed source text
