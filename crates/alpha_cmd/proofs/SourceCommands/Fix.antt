-- The laws of `fix`.
use Rattle.std.proofs.Common.{◌≡◌, ◌≢◌, ◌∙◌, ◌⊎◌, ℕ, List, [], ◌∷◌, Option, None, Some, Result, Ok, Err, refl, sym, ap}
use Rattle.std.proofs.Common.{subst, inl, inr, ⊎_elim}
use Rattle.alpha_image.specs.Parts.{Parts}
use Rattle.alpha_shadow.specs.declared.broken.Broken.{Broken}
use Rattle.alpha_asm.specs.declared.fault.AsmFault.{AsmFault}
use Rattle.alpha_asm.specs.Program.{Program}
use Rattle.alpha_asm.specs.Assembled.{assembled}
use Rattle.alpha_round.proofs.SameImage.{IsSourceOf-unique}
use Rattle.alpha_round.proofs.UnrefusedSources.{IsSourceOf-exists}
use Rattle.alpha_fix.specs.declared.fault.FixFault.TheVariants as faults
use Rattle.alpha_fix.specs.Cuts.{AreCuts, NoneAlone}
use Rattle.alpha_fix.specs.FixedSource.{fixed_source}
use Rattle.alpha_fix.specs.FixedLines.{fixed_line}
use Rattle.alpha_fix.specs.Fix.{HasImage, HasCuts, IsFixedSource, IsLeastAlone, Refuses}
use Rattle.alpha_fix.proofs.BarredCode.{AreCuts-single}
use Rattle.alpha_fix.proofs.CutExistence.{HasCutOutcome-some, IsLeastAlone-unique}
use Rattle.alpha_fix.proofs.FixedItems.{fixed_source-no_cuts}
use Rattle.alpha_fix.proofs.FixedSources.{IsFixedSource-unique}
use Rattle.alpha_cmd.specs.declared.status.Status.{Status}
use Rattle.alpha_cmd.specs.declared.status.Status.TheVariants.{BadSource, Unfixable, FixedLine, Far}
use Rattle.alpha_cmd.specs.Status.{class_of, status_line, unfixable_line}
use Rattle.alpha_cmd.specs.Outcome.{continues, stops}
use Rattle.alpha_cmd.specs.SourceCommands.Fix.{IsUnfixable, Unfixed, Unfixes, Fixes}
use Rattle.alpha_cmd.proofs.Lawful.{Lawful, HasOutcome, IsRefusal, Either-single}

-- ---- a source has one image, and that one list of cuts

same_image : (source : List ℕ) (p q : Parts) → HasImage source p → HasImage source q → p ≡ q
same_image source p q h g = IsSourceOf-unique source p q (h.good, h.assembles) (g.good, g.assembles)

same_cuts : (source : List ℕ) (p q : Parts) (a b : List ℕ) → HasCuts source p a → HasCuts source q b → a ≡ b
same_cuts source p q a b h g =
    AreCuts-single p.words a b h.are_cuts
    (subst (λ (image : Parts). AreCuts image.words b) (same_image source q p g.has_image h.has_image) g.are_cuts)

no_image : (source : List ℕ) (p : Parts) (fault : AsmFault) → HasImage source p → assembled source ≡ Err fault → ⊥
no_image source p fault h e = let some = h.assembles in cc

-- code that has cuts has no trigger that is broken at its own place
not_alone : (source : List ℕ) (p q : Parts) (cuts : List ℕ) (b : Broken) → HasCuts source p cuts → HasImage source q
    → IsLeastAlone q.words b → ⊥
not_alone source p q cuts b h g least =
    let same = same_image source q p g h.has_image in
    h.sound b.trigger b.condition (subst (λ (image : Parts). IsLeastAlone image.words b) same least).broken

-- ---- its reasons are one

same_unfixable : (source : List ℕ) (s t : Status) (l m : List ℕ) → IsUnfixable source s l → IsUnfixable source t m
    → (s ≡ t) × (l ≡ m)
same_unfixable source s t l m (p, h, (b, is, (least, line))) (q, g, (c, also, (most, text))) =
    let images = same_image source p q h g in
    let same =
    IsLeastAlone-unique q.words b c (subst (λ (image : Parts). IsLeastAlone image.words b) images least) most in (
      is ∙ (ap Unfixable same ∙ sym also),
      line
          ∙ (ap (λ (image : Parts). unfixable_line b image.code_base) images
          ∙ (ap (λ place. unfixable_line place q.code_base) same ∙ sym text)),
    )

unfixable_apart : (source : List ℕ) (s t : Status) (l : List ℕ) → IsUnfixable source s l → Unfixed source t → ⊥
unfixable_apart source s t l (p, h, (b, is, (least, line))) (inl (fault, also, none)) = no_image source p fault h none
unfixable_apart source s t l (p, h, (b, is, (least, line))) (inr (inl (n, also, (q, cuts, has, some, first)))) =
    not_alone source q p cuts b has h least
unfixable_apart source s t l (p, h, (b, is, (least, line)))
    (inr (inr (fault, also, (q, cuts, has, some, free, none)))) =
    not_alone source q p cuts b has h least

same_unfixed : (source : List ℕ) (s t : Status) → Unfixed source s → Unfixed source t → s ≡ t
same_unfixed source s t (inl (f, is, first)) (inl (g, also, second)) =
    let same : f ≡ g = cc in
    is ∙ (ap BadSource same ∙ sym also)
same_unfixed source s t (inl (fault, is, none)) (inr (inl (n, also, (q, cuts, has, some, first)))) =
    absurd (no_image source q fault has.has_image none)
same_unfixed source s t (inl (fault, is, none)) (inr (inr (far, also, (q, cuts, has, some, free, gone)))) =
    absurd (no_image source q fault has.has_image none)
same_unfixed source s t (inr (inl (n, also, (q, cuts, has, some, first)))) (inl (fault, is, none)) =
    absurd (no_image source q fault has.has_image none)
same_unfixed source s t (inr (inr (far, also, (q, cuts, has, some, free, gone)))) (inl (fault, is, none)) =
    absurd (no_image source q fault has.has_image none)
same_unfixed source s t (inr (inl (n, is, (p, cuts, h, some, first)))) (inr (inl (m, also, (q, more, g, any, least)))) =
    let e : n ≡ m = cc in is ∙ (ap FixedLine e ∙ sym also)
same_unfixed source s t (inr (inl (n, is, (p, cuts, h, some, first))))
    (inr (inr (far, also, (q, more, g, any, free, none)))) =
    absurd (let x = first in let y = free in cc)
same_unfixed source s t (inr (inr (far, also, (q, more, g, any, free, none))))
    (inr (inl (n, is, (p, cuts, h, some, first)))) =
    absurd (let x = first in let y = free in cc)
same_unfixed source s t (inr (inr (far, is, (p, cuts, h, some, free, none))))
    (inr (inr (other, also, (q, more, g, any, bare, gone)))) =
    let text = ap (λ list. assembled (fixed_source source list)) (same_cuts source p q cuts more h g) in
    let e : far ≡ other = cc in is ∙ (ap Far e ∙ sym also)

same_reason : (source : List ℕ) (s t : Status) (l m : List ℕ) → Unfixes source s l → Unfixes source t m
    → (s ≡ t) × (l ≡ m)
same_reason source s t l m (inl h) (inl g) = same_unfixable source s t l m h g
same_reason source s t l m (inl h) (inr g) = absurd (unfixable_apart source s t l h g.0)
same_reason source s t l m (inr h) (inl g) = absurd (unfixable_apart source t s m g h.0)
same_reason source s t l m (inr h) (inr g) =
    let e = same_unfixed source s t h.0 g.0 in
    (e, h.1 ∙ (ap status_line e ∙ sym g.1))

-- ---- a source that is fixed has none of them

not_fixed : (source : List ℕ) (cuts : List ℕ) (n : ℕ) → cuts ≢ [] → fixed_line source ≡ Some n
    → (cuts ≡ []) ⊎ (fixed_line source ≡ None) → ⊥
not_fixed source cuts n some first (inl none) = some none
not_fixed source cuts n some first (inr free) = cc

fixed_apart : (source text : List ℕ) (s : Status) (l : List ℕ) → IsFixedSource source text → Unfixes source s l → ⊥
fixed_apart source text s l f (inl (p, h, (b, is, (least, line)))) =
    not_alone source f.image p f.cuts b f.has_cuts h least
fixed_apart source text s l f (inr (inl (fault, is, none), line)) =
    no_image source f.image fault f.has_cuts.has_image none
fixed_apart source text s l f (inr (inr (inl (n, is, (p, cuts, h, some, first))), line)) =
    let same = same_cuts source f.image p f.cuts cuts f.has_cuts h in
    not_fixed source cuts n some first (subst (λ list. (list ≡ []) ⊎ (fixed_line source ≡ None)) same f.free)
fixed_apart source text s l f (inr (inr (inr (far, is, (p, cuts, h, some, free, none))), line)) =
    let text_is = f.text_is ∙ ap (fixed_source source) (same_cuts source f.image p f.cuts cuts f.has_cuts h) in
    no_image (fixed_source source cuts) f.fixed far
    (subst (λ (t : List ℕ). HasImage t f.fixed) text_is f.has_image) none

-- ---- each source is fixed, or there is a reason

module _ (source : List ℕ) (image : Parts) (cuts : List ℕ) (has : HasCuts source image cuts) where
  text_some : (cuts ≡ []) ⊎ (fixed_line source ≡ None) → (fixed : Parts) → HasImage (fixed_source source cuts) fixed
      → HasOutcome (Fixes source)
  text_some free fixed is = (
    continues (fixed_source source cuts),
    record { image = image; cuts = cuts; has_cuts = has; free = free; text_is = refl; fixed = fixed; has_image = is },
  )

  far_some : cuts ≢ [] → fixed_line source ≡ None → (r : Result Program AsmFault)
      → assembled (fixed_source source cuts) ≡ r → HasOutcome (Fixes source)
  far_some some free (Ok program) e =
      let (fixed, is) = IsSourceOf-exists (fixed_source source cuts) program e in
      text_some (inr free) fixed (record { good = is.0; assembles = is.1 })
  far_some some free (Err fault) e = (
    stops (Far fault) (status_line (Far fault)),
    inr (inr (inr (fault, refl, (image, cuts, has, some, free, e))), refl),
  )

  line_some : cuts ≢ [] → (line : Option ℕ) → fixed_line source ≡ line → HasOutcome (Fixes source)
  line_some some None e = far_some some e (assembled (fixed_source source cuts)) refl
  line_some some (Some n) e =
      (stops (FixedLine n) (status_line (FixedLine n)), inr (inr (inl (n, refl, (image, cuts, has, some, e))), refl))

cuts_some : (source : List ℕ) (image : Parts) (cuts : List ℕ) → HasCuts source image cuts → HasOutcome (Fixes source)
cuts_some source image [] has =
    text_some source image [] has (inl refl) image
    (subst (λ (t : List ℕ). HasImage t image) (sym (fixed_source-no_cuts source)) has.has_image)
cuts_some source image (cut ∷ cuts) has = line_some source image (cut ∷ cuts) has (λ e. cc) (fixed_line source) refl

image_some : (source : List ℕ) (image : Parts) → HasImage source image → HasOutcome (Fixes source)
image_some source image is =
    ⊎_elim
    (λ (h : NoneAlone image.words × ((cuts : List ℕ) × AreCuts image.words cuts)).
    cuts_some source image h.1.0 (record { has_image = is; sound = h.0; are_cuts = h.1.1 }))
    (λ (h : (b : Broken) × IsLeastAlone image.words b).
    (stops (Unfixable h.0) (unfixable_line h.0 image.code_base), inl (image, is, (h.0, refl, (h.1, refl)))))
    (HasCutOutcome-some image.words)

fixes_some : (source : List ℕ) (r : Result Program AsmFault) → assembled source ≡ r → HasOutcome (Fixes source)
fixes_some source (Ok program) e =
    let (image, is) = IsSourceOf-exists source program e in
    image_some source image (record { good = is.0; assembles = is.1 })
fixes_some source (Err fault) e =
    (stops (BadSource fault) (status_line (BadSource fault)), inr (inl (fault, refl, e), refl))

-- the addresses of its first trigger that is broken at its own place, by its image
pub unfixable_at : (source : List ℕ) (b : Broken) (base : ℕ) → Refuses source (faults.Unfixable b base)
    → Unfixes source (Unfixable b) (unfixable_line b base)
unfixable_at source b base (image, has, least, is) = inl (image, has, (b, refl, (least, ap (unfixable_line b) is)))

-- ---- the command

unfixes_plain : (there : Type 0) (source : List ℕ) (s : Status) (l : List ℕ) → Unfixes source s l → IsRefusal there s
unfixes_plain there source s l (inl h) = inl (ap class_of h.2.1)
unfixes_plain there source s l (inr (inl h, line)) = inl (ap class_of h.1)
unfixes_plain there source s l (inr (inr (inl h), line)) = inl (ap class_of h.1)
unfixes_plain there source s l (inr (inr (inr h), line)) = inl (ap class_of h.1)

pub Fixes-lawful : (told whole there : Type 0) (source : List ℕ) → Lawful told whole there (Fixes source)
Fixes-lawful told whole there source = record {
  single =
      λ h. Either-single (IsFixedSource source) (Unfixes source)
      (record { good = IsFixedSource-unique source; why = same_reason source; apart = fixed_apart source });
  some = λ h. fixes_some source (assembled source) refl;
  plain = unfixes_plain there source;
}
