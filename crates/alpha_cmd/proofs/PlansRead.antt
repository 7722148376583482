-- What a run of the imprecise machine has read before it begins was read once, whatever it then does.
use Rattle.std.proofs.Common.{◌≡◌, ◌∙◌, ◌⊎◌, ◌++◌, ℕ, List, length, [], ◌∷◌, None, Some, refl, sym, ap, subst, inl}
use Rattle.std.proofs.Common.{inr, ⊎_elim, append_assoc, append-nil}
use Rattle.std.proofs.lemmas.List.{append_cancel_left}
use Rattle.alpha_io.specs.History.{Reply, Piece, pieces_from, IsReadWhole, IsReadInPart}
use Rattle.alpha_io.proofs.FilePieces.{one_read, part-not_whole}
use Rattle.alpha_image.specs.Parts.{Parts, IsImage, image_spelling}
use Rattle.alpha_image.proofs.Spelled.{image_spelling-injective}
use Rattle.alpha_request.specs.Origin.{Origin, seed, file}
use Rattle.alpha_imprecise.specs.Pcg.{pcg_word, seeded}
use Rattle.alpha_cmd.specs.declared.status.Status.TheVariants.{NoMemory}
use Rattle.alpha_cmd.specs.declared.stop.Stop.{Stop}
use Rattle.alpha_cmd.specs.declared.stop.Stop.TheVariants.{OfStatus}
use Rattle.alpha_cmd.specs.Commands.Imprecise.{Plan, plan_by}
use Rattle.alpha_cmd.specs.PlanRead.{ReadsWords, IsPlanRead}

-- ---- by a seed

abbrev pub seed_plan : Parts → ℕ → Plan
seed_plan image n = plan_by image (pcg_word (seeded n))

pub seed_plan-read : (old new : List Reply) (name : List ℕ) (image : Parts) (n : ℕ) → IsImage image
    → IsReadWhole old new name (image_spelling image) → IsPlanRead old new (seed n) name (seed_plan image n)
seed_plan-read old new name image n good read =
    record { middle = new; good = good; read = read; words = (refl, refl) }

-- ---- what was asked behind the image

pub IsReadWhole-behind : (old new : List Reply) (name bytes : List ℕ) → IsReadWhole old new name bytes
    → (rest : List Reply) × (new ≡ old ++ rest)
IsReadWhole-behind old new name bytes read =
    (_, read.calls ∙ append_assoc old (pieces_from name 0 read.pieces) (Piece name _ (Some []) ∷ []))

pub ReadsWords-behind : (middle new : List Reply) (choices : Origin) (ahead : ℕ → ℕ)
    → ReadsWords choices middle new ahead → (rest : List Reply) × (new ≡ middle ++ rest)
ReadsWords-behind middle new (seed n) ahead words = ([], words.0 ∙ sym (append-nil middle))
ReadsWords-behind middle new (file name) ahead (bytes, read, is) = IsReadWhole-behind middle new name bytes read

pub IsReadInPart-behind : (old new : List Reply) (name : List ℕ) → IsReadInPart old new name
    → (rest : List Reply) × (new ≡ old ++ rest)
IsReadInPart-behind old new name (before, bytes, so, inl is) = (pieces_from name 0 so.pieces, is ∙ so.calls)
IsReadInPart-behind old new name (before, bytes, so, inr is) =
    let failed = Piece name (length bytes) None ∷ [] in (
      pieces_from name 0 so.pieces ++ failed,
      is ∙ (ap (λ (l : List Reply). l ++ failed) so.calls ∙ append_assoc old (pieces_from name 0 so.pieces) failed),
    )

-- ---- two plans that were read from one moment on are read at the same moments

-- of an image that was read, and of a plan
pub same_moment : (old new middle rest : List Reply) (choices : Origin) (name : List ℕ) (moment : List Reply)
    (image : Parts) (plan : Plan) → IsReadWhole old moment name (image_spelling image)
    → (behind : List Reply) × (new ≡ moment ++ behind)
    → (is : IsPlanRead old middle choices name plan) → new ≡ middle ++ rest
    → (image_spelling image ≡ image_spelling plan.image) × (moment ≡ is.middle)
same_moment old new middle rest choices name moment image plan read (more, behind) is then =
    let (asked, words) = ReadsWords-behind is.middle middle choices plan.ahead is.words in
    let one =
    one_read old moment is.middle name (image_spelling image) (image_spelling plan.image) more (asked ++ rest) read
    is.read
    (sym behind ∙ (then ∙ (ap (λ (l : List Reply). l ++ rest) words ∙ append_assoc is.middle asked rest))) in
    (one.0, one.1.0)

pub same_image : (old new middle rest : List Reply) (choices : Origin) (name : List ℕ) (a b : Plan)
    → IsPlanRead old new choices name a → IsPlanRead old middle choices name b → new ≡ middle ++ rest
    → b.image ≡ a.image
same_image old new middle rest choices name a b first second then =
    image_spelling-injective b.image a.image second.good first.good
    (sym (same_moment old new middle rest choices name first.middle a.image b first.read
    (ReadsWords-behind first.middle new choices a.ahead first.words) second then).0)

-- what was asked behind the words
words_rest : (choices : Origin) (moment one other xs ys : List Reply) (a b : ℕ → ℕ)
    → ReadsWords choices moment one a → ReadsWords choices moment other b → one ++ xs ≡ other ++ ys → xs ≡ ys
words_rest (seed n) moment one other xs ys a b first second same =
    append_cancel_left moment xs ys
    (ap (λ (l : List Reply). l ++ xs) (sym first.0) ∙ (same ∙ ap (λ (l : List Reply). l ++ ys) second.0))
words_rest (file name) moment one other xs ys a b (bytes, read, is) (more, again, also) same =
    (one_read moment one other name bytes more xs ys read again same).1.1

pub same_rest : (old one other xs ys : List Reply) (choices : Origin) (name : List ℕ) (a b : Plan)
    → IsPlanRead old one choices name a → IsPlanRead old other choices name b → one ++ xs ≡ other ++ ys → xs ≡ ys
same_rest old one other xs ys choices name a b first second same =
    let (asked, words) = ReadsWords-behind first.middle one choices a.ahead first.words in
    let moment =
    (same_moment old (one ++ xs) other ys choices name first.middle a.image b first.read
    (asked ++ xs, ap (λ (l : List Reply). l ++ xs) words ∙ append_assoc first.middle asked xs) second same).1 in
    words_rest choices second.middle one other xs ys a.ahead b.ahead
    (subst (λ (l : List Reply). ReadsWords choices l one a.ahead) moment first.words) second.words same

-- ---- where the words weren't read

pub words_taken : (old moment new middle rest : List Reply) (choices : Origin) (name : List ℕ) (image : Parts)
    (plan : Plan) (stop : Stop) → IsReadWhole old moment name (image_spelling image)
    → IsPlanRead old middle choices name plan → new ≡ middle ++ rest
    → ((n : ℕ) → choices ≡ seed n → ⊥)
    → ((list : List ℕ) → choices ≡ file list → (stop ≡ OfStatus NoMemory) ⊎ IsReadInPart moment new list)
    → stop ≡ OfStatus NoMemory
words_taken old moment new middle rest (seed n) name image plan stop read is then sure part = absurd (sure n refl)
words_taken old moment new middle rest (file list) name image plan stop read is then sure part =
    ⊎_elim (λ (e : stop ≡ OfStatus NoMemory). e)
    (λ (p : IsReadInPart moment new list).
    let behind = IsReadInPart-behind moment new list p in
    let same = (same_moment old new middle rest (file list) name moment image plan read behind is then).1 in
    let (bytes, words, ahead) = is.words in
    absurd (part-not_whole moment new middle rest list bytes p
    (subst (λ (l : List Reply). IsReadWhole l middle list bytes) (sym same) words) then))
    (part list refl)
