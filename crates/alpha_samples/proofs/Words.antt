-- Words and their bytes.
use Rattle.std.proofs.Common.{◌≡◌, ◌<◌, ◌^◌, suc, ℕ, List, [], ◌∷◌, slice_index, refl, ap, ◌∙◌}
use Rattle.std.specs.List.{flat_map}
use Rattle.alpha_image.specs.Layout.{longword}
use Rattle.alpha_image.specs.Reading.{words_of}
use Rattle.alpha_image.proofs.CodeWords.{words_of-front}

pub words_of-words : (words : List ℕ) → ((k : ℕ) → slice_index words k < 2 ^ 32)
    → words_of (flat_map longword words) ≡ words
words_of-words [] small = refl
words_of-words (w ∷ words) small =
    words_of-front w (flat_map longword words) (small 0)
    ∙ ap (λ (ws : List ℕ). w ∷ ws) (words_of-words words (λ k. small (suc k)))
