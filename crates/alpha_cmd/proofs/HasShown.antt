-- Runs over an input that tells nothing.
use Rattle.std.proofs.Common.{◌≡◌, ℕ, Bool, true, false, List, None, refl}
use Rattle.alpha_request.specs.declared.options.RunOptions.{RunOptions}
use Rattle.alpha_seq.specs.Start.{start}
use Rattle.alpha_seq.specs.Run.{output, notes}
use Rattle.alpha_imprecise.specs.StepResult.{ImpreciseEvent}
use Rattle.alpha_imprecise.specs.Run.{seen}
use Rattle.alpha_imprecise.specs.ChosenRun.{end_of_imprecise_event, lost_trap, ShownImprecise}
use Rattle.alpha_imprecise.specs.Restart.{IsRestartable}
use Rattle.alpha_imprecise.proofs.ShownRuns.{SameFree, same_free}
use Rattle.alpha_cmd.specs.Commands.Run.{shown_by, MayShow}
use Rattle.alpha_cmd.specs.RunAnswer.{RunByReads, program_by}
use Rattle.alpha_cmd.specs.Commands.Imprecise.{Plan, with_drawn, MadeByReads, shown_imprecise, MayShowBy}

-- the precise run of a plan's run
abbrev pub SameOf : (options : RunOptions) (plan : Plan) → MadeByReads options plan → Type 0
SameOf options plan m =
    SameFree options.steps (program_by options plan.image) (start (program_by options plan.image)) m.steps m.at

-- a run by coming words of a program that can be restarted is one of the sequential machine
pub MadeByReads-SameOf : (options : RunOptions) (plan : Plan) → IsRestartable plan.image
    → (m : MadeByReads options plan)
    → SameOf options plan m
MadeByReads-SameOf options plan restarts m =
    let g = program_by options plan.image in
    same_free options.steps g (start g) m.steps m.at m.runs (restarts options.complete m.steps m.at m.runs) m.used

-- what that one shows, the sequential run may show
pub same_may : (options : RunOptions) (plan : Plan) (m : MadeByReads options plan) (h : SameOf options plan m)
    → MayShow options None plan.image (shown_by options.watch (seen m.steps) h.last)
same_may options plan m h =
    let r : RunByReads options plan.image =
    record { events = seen m.steps; at = h.last; runs = h.runs; made = h.made } in
    (r, refl)

-- these steps, the last of which went so, and so many words, are what is shown
pub record HasShown (watch : Bool) (shown : ShownImprecise) (last : ImpreciseEvent) (steps : List ImpreciseEvent)
    (count : ℕ) : Type 0 where
  pub end : end_of_imprecise_event last ≡ shown.end
  pub lost : lost_trap last ≡ shown.lost
  pub output : output (seen steps) ≡ shown.output
  pub notes : notes watch (seen steps) ≡ shown.notes
  pub drawn : count ≡ shown.drawn

-- what may be shown of such a run
pub record ReadsShow (options : RunOptions) (force : Bool) (plan : Plan) (m : MadeByReads options plan) : Type 0 where
  pub shown : ShownImprecise
  pub may : MayShowBy options force plan shown
  pub has : HasShown options.watch shown m.at.last_event m.steps m.drawn

pub reads_show : (options : RunOptions) (force : Bool) (plan : Plan) (m : MadeByReads options plan)
    → (force ≡ false → IsRestartable plan.image) → ReadsShow options force plan m
reads_show options true plan m alone = record {
  shown = shown_imprecise options plan m;
  may = (m, refl);
  has = record { end = refl; lost = refl; output = refl; notes = refl; drawn = refl };
}
reads_show options false plan m alone =
    let q = MadeByReads-SameOf options plan (alone refl) m in
    let t = shown_by options.watch (seen m.steps) q.last in
    record {
      shown = with_drawn t m.drawn;
      may = (m, (t, same_may options plan m q, refl));
      has = record { end = q.end; lost = q.lost; output = refl; notes = refl; drawn = refl };
    }
