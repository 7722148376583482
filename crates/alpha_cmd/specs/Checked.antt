-- What a call of the plain words `check FILE` shows.
use Rattle.std.specs.Prelude.{◌≡◌, ℕ, List, [], ◌∷◌, codes}
use Rattle.alpha_io.specs.Files.{HasFile}
use Rattle.alpha_io.specs.History.{IsReadWhole}
use Rattle.alpha_io.specs.ShelfChange.{ShelfChange}
use Rattle.alpha_image.specs.Parts.{Parts, IsImage, image_spelling}
use Rattle.alpha_imprecise.specs.Restart.{IsRestartable}
use Rattle.alpha_request.specs.Plain.{IsPlain}
use Rattle.alpha_cmd.specs.declared.status.Status.{Status}
use Rattle.alpha_cmd.specs.declared.status.Status.TheVariants.{Done}

-- The shelf was asked for this file alone, from its start to its end, and the bytes that it gave are the spelling of a
-- good image, which has P. Where files are told, they are the file's.
pub record ReadsImage (s : ShelfChange) (file : List ℕ) (P : Parts → Type 0) : Type 0 where
  pub image : Parts
  pub good : IsImage image
  pub read : IsReadWhole s.past s.history file (image_spelling image)
  pub told : HasFile s.old file (image_spelling image)
  pub has : P image

-- where it is done, that image can be restarted after each late trap
abbrev pub Checked : List (List ℕ) → Status → ShelfChange → Type 0
Checked words status s = (file : List ℕ) → words ≡ codes "check" ∷ file ∷ [] → IsPlain file
    → status ≡ Done 0 → ReadsImage s file IsRestartable
