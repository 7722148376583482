-- When an imprecise run over an input shows what the precise run over it shows.
use Rattle.std.specs.Prelude.{◌≡◌, ℕ, Bool, List, length, None}
use Rattle.alpha_words.specs.declared.Completion.{Completion}
use Rattle.alpha_image.specs.Parts.{Parts}
use Rattle.alpha_seq.specs.State.{Program}
use Rattle.alpha_seq.specs.Start.{start}
use Rattle.alpha_seq.specs.Run.{Run, Shown, end_of, after, sequential}
use Rattle.alpha_imprecise.specs.Run.{seen, ImpreciseRun, RunsOver}
use Rattle.alpha_imprecise.specs.Used.{HasUsed}
use Rattle.alpha_imprecise.specs.ChosenRun.{ShownImprecise, end_of_imprecise_event, lost_trap, imprecise}

-- ---- whatever is chosen

-- Both runs have the same end, if any, number of steps, events, unique value and input left, and no trap was lost.
pub record SameRun (r : Run) (w : ImpreciseRun) : Type 0 where
  pub end : end_of_imprecise_event w.at.last_event ≡ end_of r.at.event
  pub lost : lost_trap w.at.last_event ≡ None
  pub steps : w.units ≡ length r.events
  pub events : seen w.steps ≡ r.events
  pub unique : w.at.state.unique ≡ r.at.state.unique
  pub left : w.left ≡ r.left

-- every run that has used so many units is the precise run of as many steps
abbrev pub ChoicesAlike : Parts → Type 0
ChoicesAlike image = (completion : Completion) (input : List ℕ) (w : ImpreciseRun) (n : ℕ)
    → let g : Program = record { image = image; completion = completion } in
    RunsOver g (start g) input w → HasUsed n w.units w.at → SameRun (after g (start g) input n) w

-- ---- by coming words

-- The end, the number of steps, the output, the input left and the notes are the same, and no trap was lost. Only the
-- number of words that were drawn is the imprecise run's own.
pub record ShowsSame (r : Shown) (w : ShownImprecise) : Type 0 where
  pub end : w.end ≡ r.end
  pub lost : w.lost ≡ None
  pub steps : w.units ≡ r.steps
  pub output : w.output ≡ r.output
  pub left : w.left ≡ r.left
  pub notes : w.notes ≡ r.notes

-- whatever words come, after any number of units
abbrev pub RunsAlike : Parts → Type 0
RunsAlike image = (completion : Completion) (input words : List ℕ) (n : ℕ) (watch : Bool)
    → let g : Program = record { image = image; completion = completion } in
    ShowsSame (sequential g input n watch) (imprecise g input words n watch)
