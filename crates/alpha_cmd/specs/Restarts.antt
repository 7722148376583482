-- What a call of `check FILE` shows, by whatever words.
use Rattle.std.specs.Prelude.{◌≡◌, ℕ, List}
use Rattle.alpha_io.specs.ShelfChange.{ShelfChange}
use Rattle.alpha_imprecise.specs.Restart.{IsRestartable}
use Rattle.alpha_request.specs.declared.request.ImageCommand.TheVariants.{Check}
use Rattle.alpha_request.specs.Commands.OfImage as image_words
use Rattle.alpha_cmd.specs.declared.status.Status.{Status}
use Rattle.alpha_cmd.specs.declared.status.Status.TheVariants.{Done}
use Rattle.alpha_cmd.specs.Checked.{ReadsImage}

-- where it is done, the bytes that were read of its file spell an image that can be restarted
abbrev pub Restarts : List (List ℕ) → Status → ShelfChange → Type 0
Restarts words status s =
    (file : List ℕ) → image_words.AsksOfImage Check words file → status ≡ Done 0 → ReadsImage s file IsRestartable
