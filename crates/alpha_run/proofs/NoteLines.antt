-- A step that only goes on has no line, nor has a barrier that isn't watched.
use Rattle.std.proofs.Common.{◌≡◌, ℕ, ◌⊎◌, inl, inr, Bool, true, false, not, List, [], ◌∷◌, ◌++◌, refl, sym, ap, ◌∙◌}
use Rattle.alpha_pal.specs.declared.pal_end.Passed.TheVariants.{Nothing}
use Rattle.alpha_seq.specs.declared.event.Event.{Event}
use Rattle.alpha_seq.specs.declared.event.Event.TheVariants as events
use Rattle.alpha_seq.specs.StepLabel.{StepLabel}
use Rattle.alpha_run.specs.declared.notes.Notes.{Notes}
use Rattle.alpha_run.specs.Row.{OnlyPassed, ArePassed, lines_by, seen_by, Unstopped}
use Rattle.alpha_run.specs.Noted.{noted, lines_of, stays, never, passes_unwatched}
use Rattle.alpha_run.specs.RunEffect.{watching, PassesOver}

pub seen-stays : (o : Notes) (ps : List StepLabel) → seen_by stays o ps ≡ o
seen-stays o [] = refl
seen-stays o (p ∷ ps) = seen-stays o ps

no_line : (o : Notes) (p : StepLabel) → OnlyPassed (passes_unwatched o) p → noted o.watch p.event p.core ≡ []
no_line o p passed = by passed.event
  where
    unwatched : (watch : Bool) → not watch ≡ true → noted watch (events.Barrier Nothing) p.core ≡ []
    unwatched false e = refl
    unwatched true e = absurd cc

    by : (p.event ≡ events.Went) ⊎ ((passes_unwatched o ≡ true) × (p.event ≡ events.Barrier Nothing))
        → noted o.watch p.event p.core ≡ []
    by (inl e) = ap (λ (event : Event). noted o.watch event p.core) e
    by (inr e) = ap (λ (event : Event). noted o.watch event p.core) e.1 ∙ unwatched o.watch e.0

no_lines : (o : Notes) (ps : List StepLabel) → ArePassed (passes_unwatched o) ps → lines_by stays lines_of o ps ≡ []
no_lines o [] passed = refl
no_lines o (p ∷ ps) passed =
    ap (λ (l : List ℕ). l ++ lines_by stays lines_of o ps) (no_line o p passed.0) ∙ no_lines o ps passed.1

never-stops : (o : Notes) (ps : List StepLabel) → Unstopped stays never o ps
never-stops o [] = tt
never-stops o (p ∷ ps) = (refl, never-stops o ps)

pub notes_pass : (n : ℕ) (o : Notes) → PassesOver (watching stays lines_of never) (passes_unwatched o) n o o
notes_pass n o = λ ps went count. (sym (seen-stays o ps), no_lines o ps went, never-stops o ps)
