-- That no condition of the checker from C1 to C7 could be left out, and no more be said of a stop.
use Rattle.std.specs.Prelude.{◌≡◌, ◌≢◌, ℕ, All, List}
use Rattle.alpha_words.specs.declared.Completion.TheVariants.{Stop}
use Rattle.alpha_words.specs.Regs.{reg}
use Rattle.alpha_image.specs.Parts.{Parts, IsImage}
use Rattle.alpha_shadow.specs.declared.broken.Condition.{Condition}
use Rattle.alpha_shadow.specs.Broken.{IsBroken, IsAccepted}
use Rattle.alpha_seq.specs.declared.end.End.TheVariants.{Overflow}
use Rattle.alpha_seq.specs.State.{Program, Ends, Stepped}
use Rattle.alpha_seq.specs.Start.{start}
use Rattle.alpha_seq.specs.Run.{begins, Runs}
use Rattle.alpha_imprecise.specs.StepResult.{ImpreciseEvent, Precisely, StepResult}
use Rattle.alpha_restart.specs.Table.{IsChoice}
use Rattle.alpha_imprecise.specs.Run.{choice_of, seen, imprecise_start, RunsImprecisely}
use Rattle.alpha_imprecise.specs.Restart.{IsRestartable}

-- no place is broken under any other condition
abbrev pub IsAcceptedBut : Condition → List ℕ → Type 0
IsAcceptedBut condition code =
    (trigger at : ℕ) (other : Condition) → other ≢ condition → IsBroken code trigger at other → ⊥

-- a good image that a checker without the condition would accept, and that can't be restarted
pub record Needs (condition : Condition) : Type 0 where
  pub image : Parts
  pub good : IsImage image
  pub accepted : IsAcceptedBut condition image.words
  pub fails : IsRestartable image → ⊥

-- An accepted image and a run by which an overflow stops both machines with another value in a register. Nothing but
-- values and bytes that fit registers was chosen.
pub record StopsApart : Type 0 where
  pub image : Parts
  pub good : IsImage image
  pub accepted : IsAccepted image.words
  pub steps : List ImpreciseEvent
  pub small : All (λ h. IsChoice (choice_of h)) steps
  pub w : StepResult
  pub runs : let g : Program = record { image = image; completion = Stop } in
      RunsImprecisely g (imprecise_start (start g)) steps w
  pub at : ℕ
  pub stopped : w.last_event ≡ Precisely (Ends (Overflow at))
  pub last : Stepped
  pub follows : let g : Program = record { image = image; completion = Stop } in
      Runs g (begins (start g)) (seen steps) last
  pub register : ℕ
  pub apart : reg w.state.regs register ≢ reg last.state.regs register
