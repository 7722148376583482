-- The laws of fixed sources.
use Rattle.std.proofs.Common.{◌≡◌, ◌+◌, ℕ, List, [], ◌∷◌, Some, slice_get, refl, sym, ◌∙◌, ap, subst}
use Rattle.std.proofs.lemmas.Option.{slice_get_within}
use Rattle.alpha_text.proofs.CarriageReturns.{read-with_return}
use Rattle.alpha_shadow.specs.Broken.{IsAccepted}
use Rattle.alpha_fix.specs.Cuts.{AreCuts, without, HasBroken}
use Rattle.alpha_fix.specs.FixedSource.{fixed_source}
use Rattle.alpha_fix.specs.Fix.{HasImage, IsFixedSource}
use Rattle.alpha_fix.proofs.FixedItems.{fixed_source-no_cuts}
use Rattle.alpha_fix.proofs.BarredCode.{AreCuts-single}
use Rattle.alpha_fix.proofs.SteadyClasses.{cuts_alike}
use Rattle.alpha_fix.proofs.SourcePrograms.{word_class-source_code, source_accepted, source_needed}

image_of : (source text : List ℕ) (f : IsFixedSource source text) → HasImage (fixed_source source f.cuts) f.fixed
image_of source text f = subst (λ (s : List ℕ). HasImage s f.fixed) f.text_is f.has_image

pub IsFixedSource-accepted : (source text : List ℕ) (f : IsFixedSource source text) → IsAccepted f.fixed.words
IsFixedSource-accepted source text f =
    source_accepted read-with_return source f.cuts f.image f.fixed f.has_cuts f.free (image_of source text f)

pub IsFixedSource-needed : (source text : List ℕ) (f : IsFixedSource source text) (j cut : ℕ)
    → slice_get f.cuts j ≡ Some cut
    → HasBroken (without (cut + j) f.fixed.words)
IsFixedSource-needed source text f j cut e =
    source_needed read-with_return source f.cuts f.image f.fixed j cut f.has_cuts f.free (image_of source text f) e
    (slice_get_within f.cuts j cut e)

no_cut : (code cuts : List ℕ) → IsAccepted code → AreCuts code cuts → cuts ≡ []
no_cut code [] accepted are = refl
no_cut code (cut ∷ cuts) accepted (next, more) =
    let b = next.breaks in
    absurd (accepted b.trigger cut b.condition b.broken)

pub IsFixedSource-unchanged : (source text : List ℕ) (f : IsFixedSource source text) → IsAccepted f.image.words
    → text ≡ source
IsFixedSource-unchanged source text f accepted =
    f.text_is
    ∙ (ap (fixed_source source) (no_cut f.image.words f.cuts accepted f.has_cuts.are_cuts)
    ∙ fixed_source-no_cuts source)

-- images of one source have the same cuts
pub IsFixedSource-unique : (source a b : List ℕ) → IsFixedSource source a → IsFixedSource source b → a ≡ b
IsFixedSource-unique source a b f g =
    let alike = word_class-source_code source f.image f.has_cuts.has_image
    ∙ sym (word_class-source_code source g.image g.has_cuts.has_image) in
    let same = AreCuts-single g.image.words f.cuts g.cuts
    (cuts_alike f.image.words g.image.words 0 f.cuts alike f.has_cuts.are_cuts) g.has_cuts.are_cuts in
    f.text_is ∙ (ap (fixed_source source) same ∙ sym g.text_is)
