-- A file that spells an accepted image meets what the laws of restarts ask.
use Rattle.std.proofs.Common.{◌≤◌, ℕ, List, [], ◌∷◌, length, sum_by, refl, arith}
use Rattle.std.proofs.lemmas.List.Sums.{sum_by-cons}
use Rattle.alpha_io.specs.Files.{Files, HasFile}
use Rattle.alpha_image.specs.declared.segment.Segment.{Segment}
use Rattle.alpha_image.specs.declared.version.Version.{Version}
use Rattle.alpha_image.specs.declared.version.Version.TheVariants.{One, Two}
use Rattle.alpha_image.specs.Numbers.{Numbers}
use Rattle.alpha_image.specs.Layout.{filled_size}
use Rattle.alpha_image.specs.Reading.{size_of}
use Rattle.alpha_image.specs.Rules.{FieldsFit, size_of_segment}
use Rattle.alpha_image.specs.Parts.{Parts, IsImage, numbers, image_spelling}
use Rattle.alpha_image.proofs.Spelled.{length-image_spelling}
use Rattle.alpha_shadow.specs.Broken.{IsAccepted}
use Rattle.alpha_request.specs.Origin.{seed, file}
use Rattle.alpha_imprecise.specs.Pcg.{pcg_word, seeded}
use Rattle.alpha_cmd.specs.Outcome.{continues}
use Rattle.alpha_cmd.specs.Image.{ImageOf, image_limit}
use Rattle.alpha_cmd.specs.Choosing.{listed_word}
use Rattle.alpha_cmd.specs.ChoicesLimit.{choices_limit}
use Rattle.alpha_cmd.specs.AnswerBy.{World}
use Rattle.alpha_cmd.specs.OfImage.Check.{accepted}
use Rattle.alpha_cmd.specs.AlikeByAnswers.{IsChecked, HasWords}

-- ---- the spelling of a good image is within the limit of an image file

filled_within : (segments : List Segment) → filled_size segments ≤ sum_by size_of_segment segments
filled_within [] = omega arith
filled_within (s ∷ rest) =
    omega
    (arith, filled_within rest, sum_by-cons (λ (x : Segment). x.filled) s rest, sum_by-cons size_of_segment s rest)

size_within : (version : Version) (n : Numbers) → FieldsFit n → size_of version n ≤ image_limit
size_within One n fit = omega (arith, fit.words.1, fit.zeroed.0, filled_within n.segments)
size_within Two n fit = omega (arith, fit.words.1, fit.zeroed.0, fit.segments, filled_within n.segments)

image_spelling-within_limit : (image : Parts) → IsImage image → length (image_spelling image) ≤ image_limit
image_spelling-within_limit image good =
    omega (arith, length-image_spelling image good, size_within image.version (numbers image) good.fields)

pub spelling-ImageOf : (image : Parts) (files : Files) (name : List ℕ) → IsImage image
    → HasFile files name (image_spelling image)
    → ImageOf files name (continues image)
spelling-ImageOf image files name good there =
    (image_spelling image, (there, image_spelling-within_limit image good), (good, refl))

-- ---- it is checked, and choices have words

pub accepted-IsChecked : (image : Parts) (w : World) (name : List ℕ) → IsImage image → IsAccepted image.words
    → HasFile w.files name (image_spelling image) → IsChecked name w
accepted-IsChecked image w name good safe there = record {
  answer = accepted w.input;
  is = (
    continues (accepted w.input),
    (image, spelling-ImageOf image w.files name good there, (image, (safe, refl), refl)),
    refl,
  );
  done = refl;
}

pub seed-HasWords : (files : Files) (n : ℕ) → HasWords files (seed n)
seed-HasWords files n = (pcg_word (seeded n), refl)

pub listed-HasWords : (files : Files) (name bytes : List ℕ) → HasFile files name bytes → length bytes ≤ choices_limit
    → HasWords files (file name)
listed-HasWords files name bytes there short = (listed_word bytes, (bytes, (there, short), refl))
