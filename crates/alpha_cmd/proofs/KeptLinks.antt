-- The file that `link` leaves where it is done.
use Rattle.std.proofs.Common.{◌≡◌, ℕ, List, [], ◌∷◌, All, None, Some, IsSome, ap, subst}
use Rattle.std.proofs.lemmas.List.Elements.{All-nil, All-cons, All-head, All-tail}
use Rattle.alpha_words.specs.declared.Level.TheVariants.{One}
use Rattle.alpha_io.specs.Files.{Files, HasFile}
use Rattle.alpha_io.specs.ShelfChange.{ShelfChange}
use Rattle.alpha_shadow.specs.Broken.{IsAccepted}
use Rattle.alpha_restart.proofs.Agreement.{IsAccepted-IsRestartable}
use Rattle.alpha_imprecise.specs.Restart.{IsRestartable}
use Rattle.alpha_link.specs.Parts.{ModuleParts, IsModule}
use Rattle.alpha_link.specs.Spelled.{spelling}
use Rattle.alpha_link.proofs.LinkedCode.{IsGood, AreKnownWords-code_words, linked_accepted}
use Rattle.alpha_request.specs.Command.{link}
use Rattle.alpha_cmd.specs.declared.status.Status.TheVariants.{Done}
use Rattle.alpha_cmd.specs.Answer.{Answer}
use Rattle.alpha_cmd.specs.AnswerBy.{World}
use Rattle.alpha_cmd.specs.Asks.{AsksFor}
use Rattle.alpha_cmd.specs.Commands.Link.{form, there, Spell, HasAccepted, KeepsLink}
use Rattle.alpha_cmd.specs.Kept.{Kept, HasKept}
use Rattle.alpha_cmd.specs.Status.{class_of}
use Rattle.alpha_cmd.specs.Tried.{AttemptedBy}
use Rattle.alpha_cmd.proofs.FormLaws.{AnswerBy-done}
use Rattle.alpha_cmd.proofs.Commands.Link.{link_form-lawful, files_read, modules_spelled, all_modules}
use Rattle.alpha_cmd.proofs.Commands.Link.{NamesModule-Spell}
use Rattle.alpha_cmd.proofs.ModuleWords.{spelled_words}
use Rattle.alpha_cmd.proofs.StageLaws.{is_file-injective}
use Rattle.alpha_cmd.proofs.AttemptedBy.{AttemptedBy-done}

abbrev IsSafe : ModuleParts → Type 0
IsSafe m = IsAccepted m.words

-- good modules with accepted code have words that the law of linked code asks for
all_good : (ms : List ModuleParts) → All IsModule ms → All IsSafe ms → All IsGood ms
all_good [] good all = All-nil IsGood
all_good (m ∷ ms) good all =
    let here : IsModule m = All-head IsModule m ms good in
    All-cons IsGood m ms (AreKnownWords-code_words One m.words here.words, All-head IsSafe m ms all)
    (all_good ms (All-tail IsModule m ms good) (All-tail IsSafe m ms all))

-- the bytes of a told file are one list
told_bytes : (files : Files) (name a b : List ℕ) → IsSome files → HasFile files name a → HasFile files name b → a ≡ b
told_bytes None name a b told h g = cc
told_bytes (Some files) name a b told h g = is_file-injective (files name) a b h g

-- the modules that told files spell have the words of those that they were said to spell
all_safe : (files : Files) (names : List (List ℕ)) (ms : List ModuleParts) → IsSome files → Spell files names ms
    → All (HasAccepted files) names → All IsSafe ms
all_safe files [] [] told read each = All-nil IsSafe
all_safe files [] (m ∷ ms) told read each = absurd read
all_safe files (n ∷ names) [] told read each = absurd read
all_safe files (n ∷ names) (m ∷ ms) told read each =
    let (other, known, (has, safe)) = All-head (HasAccepted files) n names each in
    let same =
    spelled_words other m known read.0.0 (told_bytes files n (spelling other) (spelling m) told has read.0.1) in
    All-cons IsSafe m ms (subst IsAccepted same safe)
    (all_safe files names ms told read.1 (All-tail (HasAccepted files) n names each))

pub kept_link : (shelf input : Type 0) (words : List (List ℕ)) (entry out : List ℕ) (names : List (List ℕ)) (w : World)
    (t : Answer) (s : ShelfChange)
    → AsksFor words (link entry out names) → AttemptedBy shelf input words w t → t.status ≡ Done 0 → HasKept t.kept s
    → KeepsLink entry out names w.files s.new
kept_link shelf input words entry out names w t s asks tried e has =
    let a = AttemptedBy-done shelf input words (link entry out names) w t asks tried e in
    let (bytes, (all, read, (ms, found, (image, good, (links, is)))), (taken, kept)) =
    AnswerBy-done (form entry out names) (there entry out names) w (link_form-lawful entry out names w) t a
    (ap class_of e) in
    let spelled = modules_spelled all ms found in
    let named = NamesModule-Spell w.files names all ms (files_read w.files names all read) spelled in
    let safe : All IsSafe ms → IsAccepted image.words × IsRestartable image = λ each.
    (let ok = linked_accepted ms entry image good links (all_good ms (all_modules all ms spelled) each) in
    (ok, IsAccepted-IsRestartable image good ok)) in
    record {
      modules = ms;
      image = image;
      read = named;
      good = good;
      links = links;
      kept = subst (HasFile s.new out) is (subst (λ (k : Kept). HasKept k s) (ap (λ (x : Answer). x.kept) kept) has).0;
      accepted = safe;
      restarts = λ told each. safe (all_safe w.files names ms told named each);
    }
