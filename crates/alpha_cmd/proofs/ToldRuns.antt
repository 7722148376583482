-- A run of a file that spells an accepted image over a told input has, by either machine, the answer of the sequential
-- run of that image.
use Rattle.std.proofs.Common.{◌≡◌, ◌↔◌, ◌∙◌, ℕ, Bool, List, Option, None, Some, IsSome, is_some, refl, sym, ap, subst}
use Rattle.std.proofs.Common.{inr}
use Rattle.alpha_io.specs.Files.{Files, HasFile}
use Rattle.alpha_image.specs.Parts.{Parts, IsImage, image_spelling}
use Rattle.alpha_shadow.specs.Broken.{IsAccepted}
use Rattle.alpha_request.specs.Command.{run, imprecise}
use Rattle.alpha_request.specs.Origin.{Origin, seed, file}
use Rattle.alpha_request.specs.declared.options.RunOptions.{RunOptions}
use Rattle.alpha_seq.specs.declared.end.End.{End}
use Rattle.alpha_seq.specs.declared.end.End.TheVariants as ends
use Rattle.alpha_seq.specs.Run.{sequential}
use Rattle.alpha_imprecise.specs.Pcg.{pcg_word, seeded}
use Rattle.alpha_cmd.specs.declared.status.Status.{Status}
use Rattle.alpha_cmd.specs.Outcome.{continues}
use Rattle.alpha_cmd.specs.Image.{ImageOf}
use Rattle.alpha_cmd.specs.Choosing.{listed_word}
use Rattle.alpha_cmd.specs.Asks.{AsksFor}
use Rattle.alpha_cmd.specs.Answer.{Answer}
use Rattle.alpha_cmd.specs.AnswerBy.{World, AnswerBy, told}
use Rattle.alpha_cmd.specs.Commands.Run as runs
use Rattle.alpha_cmd.specs.Commands.Run.{MayShow}
use Rattle.alpha_cmd.specs.RunAnswer.{program_by, run_status, answer_shown}
use Rattle.alpha_cmd.specs.Drawn.{but_drawn}
use Rattle.alpha_cmd.specs.Alike.{HaveWords, Alike}
use Rattle.alpha_cmd.specs.AlikeByAnswers.{undrawn, IsChecked, HasWords, AlikeByAnswers}
use Rattle.alpha_cmd.specs.Tried.{IsAnswer}
use Rattle.alpha_cmd.specs.Call.{Call}
use Rattle.alpha_cmd.specs.Answered.{Answered}
use Rattle.alpha_cmd.specs.ToldRun.{answer_told}
use Rattle.alpha_cmd.proofs.Commands.Run.{shown_answer}
use Rattle.alpha_cmd.proofs.AttemptedBy.{AnswerOf-single, asked_answer}
use Rattle.alpha_cmd.proofs.AcceptedFiles.{spelling-ImageOf, accepted-IsChecked}
use Rattle.alpha_cmd.proofs.ImpreciseAnswers.{IsChecked-IsAcceptedFile, AnswerBy-imprecise_undrawn}

-- ---- choices have words

has_words : (files : Files) (choices : Origin) → HaveWords files choices → HasWords files choices
has_words files (seed n) h = (pcg_word (seeded n), refl)
has_words files (file name) (bytes, there, short) = (listed_word bytes, (bytes, (there, short), refl))

have_words : (files : Files) (choices : Origin) → HasWords files choices → HaveWords files choices
have_words files (seed n) h = tt
have_words files (file name) (ahead, (bytes, (there, short), is)) = (bytes, there, short)

pub same_words : (files : Files) (choices : Origin) → HaveWords files choices ↔ HasWords files choices
same_words files choices = (has_words files choices, have_words files choices)

-- ---- the answer

-- it carries no number of words
run_undrawn : (end : Option End) → but_drawn (run_status end) ≡ run_status end
run_undrawn None = refl
run_undrawn (Some (ends.Exit v)) = refl
run_undrawn (Some end) = refl

told_undrawn : (options : RunOptions) (image : Parts) (bytes : List ℕ)
    → undrawn (answer_told options image bytes) ≡ answer_told options image bytes
told_undrawn options image bytes =
    let a = answer_told options image bytes in
    ap (λ (s : Status). record a { status = s })
    (run_undrawn (sequential (program_by options image) bytes options.steps options.watch).end)

some_bytes : (left : Option (List ℕ)) → IsSome left → (bytes : List ℕ) × (left ≡ Some bytes)
some_bytes None h = cc
some_bytes (Some bytes) h = (bytes, refl)

some_told : (w : World) (bytes : List ℕ) → w.input ≡ Some bytes → IsSome w.input
some_told w bytes e = ap is_some e

-- that of the sequential run is one of `run FILE`
is_run : (options : RunOptions) (image : Parts) (name bytes : List ℕ) (w : World)
    → ImageOf w.files name (continues image)
    → w.input ≡ Some bytes
    → AnswerBy (runs.steps options name) w (answer_told options image bytes)
is_run options image name bytes w found e =
    let s = sequential (program_by options image) bytes options.steps options.watch in
    subst (λ (o : Option (List ℕ)). AnswerBy (runs.steps options name) w (answer_shown o s)) e
    (shown_answer w options name image s found
    (subst (λ (o : Option (List ℕ)). MayShow options o image s) (sym e) refl))

-- where `check FILE` is done, an answer of `run FILE` is that of an accepted image
pub record IsOfAccepted (options : RunOptions) (name bytes : List ℕ) (files : Files) (a : Answer) : Type 0 where
  pub image : Parts
  pub good : IsImage image
  pub accepted : IsAccepted image.words
  pub there : HasFile files name (image_spelling image)
  pub is : a ≡ answer_told options image bytes

pub AnswerBy-IsOfAccepted : (options : RunOptions) (name bytes : List ℕ) (w : World) (a : Answer) → IsSome w.files
    → w.input ≡ Some bytes → IsChecked name w
    → AnswerBy (runs.steps options name) w a → IsOfAccepted options name bytes w.files a
AnswerBy-IsOfAccepted options name bytes w a files e check is =
    let h = IsChecked-IsAcceptedFile name w check in
    let (text, read, spelt) = h.found in
    record {
      image = h.image;
      good = spelt.0;
      accepted = h.accepted;
      there = subst (HasFile w.files name) spelt.1 read.0;
      is =
          AnswerOf-single (run options name) w a (answer_told options h.image bytes) (files, some_told w bytes e) is
          (is_run options h.image name bytes w h.found e);
    }

-- So what is said of accepted images is said by the answers of `check` and `run`.
pub Alike-AlikeByAnswers : (words : List (List ℕ)) (status : Status) (c : Call) → Alike words status c
    → AlikeByAnswers words status c
Alike-AlikeByAnswers words status c h options choices force name a asks files input has check is quiet =
    let (bytes, tells) = some_bytes c.input.old.left input in
    let good = AnswerBy-IsOfAccepted options name bytes (told c) a files tells check is in
    subst (λ (b : Answer). Answered b (but_drawn status) c) (sym good.is)
    (h options name bytes good.image (inr (choices, force, asks, have_words c.shelf.old choices has))
    (record { good = good.good; accepted = good.accepted; told = files; there = good.there; input = tells }) quiet)

-- ---- words that ask for a run of such a file

module _ (image : Parts) (name bytes : List ℕ) (w : World) (good : IsImage image) (safe : IsAccepted image.words)
    (files : IsSome w.files)
    (there : HasFile w.files name (image_spelling image)) (e : w.input ≡ Some bytes) (options : RunOptions) where
  found : ImageOf w.files name (continues image)
  found = spelling-ImageOf image w.files name good there

  pub imprecise_told : (words : List (List ℕ)) (choices : Origin) (force : Bool)
      → AsksFor words (imprecise options choices force name) → HaveWords w.files choices
      → (b : Answer) → IsAnswer words w b → undrawn b ≡ answer_told options image bytes
  imprecise_told words choices force asks has b is =
      AnswerBy-imprecise_undrawn options choices force name w (answer_told options image bytes) b files
      (some_told w bytes e)
      (has_words w.files choices has) (accepted-IsChecked image w name good safe there)
      (is_run options image name bytes w found e)
      (asked_answer words (imprecise options choices force name) w b asks is)

  pub run_told : (words : List (List ℕ)) → AsksFor words (run options name) → (b : Answer) → IsAnswer words w b
      → undrawn b ≡ answer_told options image bytes
  run_told words asks b is =
      ap undrawn
      (AnswerOf-single (run options name) w b (answer_told options image bytes) (files, some_told w bytes e)
      (asked_answer words (run options name) w b asks is)
      (is_run options image name bytes w found e))
      ∙ told_undrawn options image bytes
