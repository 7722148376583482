-- What a call of `dis FILE` shows, by the bytes that the calls of its devices gave and took, whatever these tell
-- beforehand.
use Rattle.std.specs.Prelude.{◌≡◌, ℕ, List}
use Rattle.alpha_io.specs.History.{IsReadWhole}
use Rattle.alpha_dis.specs.Listing.{listing}
use Rattle.alpha_image.specs.Parts.{Parts, IsImage, image_spelling}
use Rattle.alpha_request.specs.declared.request.ImageCommand.TheVariants.{Dis}
use Rattle.alpha_request.specs.Commands.OfImage as image_words
use Rattle.alpha_cmd.specs.declared.status.Status.{Status}
use Rattle.alpha_cmd.specs.declared.status.Status.TheVariants.{Done}
use Rattle.alpha_cmd.specs.Call.{Call}
use Rattle.alpha_cmd.specs.Checked.{ReadsImage}
use Rattle.alpha_cmd.specs.ShowsDone.{ShowsDone, IsDoneOrFails}

-- Where it is done, the bytes that the shelf's calls gave of the file, from its start to its end and nothing else,
-- spell an image, and just its listing was put. And where those bytes spell one, it is done, but where memory ran out
-- or a sink failed.
pub record ListsFile (file : List ℕ) (status : Status) (c : Call) : Type 0 where
  pub shows : status ≡ Done 0 → ReadsImage c.shelf file (λ image. ShowsDone (listing image) status c)
  pub ends : (image : Parts) → IsImage image → IsReadWhole c.shelf.past c.shelf.history file (image_spelling image)
      → IsDoneOrFails status

abbrev pub Listed : List (List ℕ) → Status → Call → Type 0
Listed words status c = (file : List ℕ) → image_words.AsksOfImage Dis words file → ListsFile file status c
