-- What is answered for a source with barriers.
use Rattle.std.proofs.Common.{◌≡◌, ◌≢◌, ℕ, List, [], None, Result, Ok, Err, OnOk, IfOk, IfErr, sym, ◌∙◌, ap, inr, subst}
use Rattle.alpha_image.specs.Parts.{Parts}
use Rattle.alpha_asm.specs.Assembled.{assembled}
use Rattle.alpha_fix.specs.declared.fault.FixFault.{FixFault}
use Rattle.alpha_fix.specs.declared.fault.FixFault.TheVariants.{Source, Unfixable, Fixed, Far, NoMemory}
use Rattle.alpha_fix.specs.FixedSource.{fixed_source}
use Rattle.alpha_fix.specs.FixedLines.{fixed_line}
use Rattle.alpha_fix.specs.Fix.{HasImage, HasCuts, IsFixedSource, IsFar, Refuses}

pub ok_with : {A E : Type 0} {P R : A → Type 0} {Q : Type 0} (r : Result A E) → IfOk r P → OnOk r Q
    → ((x : A) → P x → Q → R x) → IfOk r R
ok_with (Ok x) p q f = f x p q
ok_with (Err e) p q f = tt

pub err_with : {A E : Type 0} {P Q : E → Type 0} (r : Result A E) → IfErr r P → ((e : E) → P e → Q e) → IfErr r Q
err_with (Ok x) p f = tt
err_with (Err e) p f = f e p

module _ (source cuts text : List ℕ) (image : Parts) (h : HasCuts source image cuts) (some : cuts ≢ [])
    (free : fixed_line source ≡ None) (e : text ≡ fixed_source source cuts) where
  pub is_fixed_source : (same : List ℕ) → same ≡ text → (p : Parts) × HasImage text p → IsFixedSource source same
  is_fixed_source same f (p, i) = record {
    image = image;
    cuts = cuts;
    has_cuts = h;
    free = inr free;
    text_is = f ∙ e;
    fixed = p;
    has_image = subst (λ (s : List ℕ). HasImage s p) (sym f) i;
  }

  pub refused_far : (f : FixFault) → IsFar text f → Refuses source f
  refused_far (Source fault) i = absurd i
  refused_far (Unfixable b base) i = absurd i
  refused_far (Fixed line) i = absurd i
  refused_far (Far fault) i = (image, cuts, h, some, free, ap assembled (sym e) ∙ i)
  refused_far NoMemory i = tt
