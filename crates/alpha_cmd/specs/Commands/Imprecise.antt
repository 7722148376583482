-- `run --imprecise FILE`: what a run of the imprecise machine shows, the status and the line of its end, and the stages
-- that lead to it.
use Rattle.std.specs.Prelude.{◌≡◌, ℕ, ◌%◌, ◌^◌, Bool, true, false, List, [], ◌++◌, Option, Some, None, option_map}
use Rattle.alpha_io.specs.Files.{Files}
use Rattle.alpha_image.specs.Parts.{Parts, IsImage}
use Rattle.alpha_request.specs.declared.options.RunOptions.{RunOptions}
use Rattle.alpha_request.specs.Origin.{Origin}
use Rattle.alpha_request.specs.Origin as choices_of
use Rattle.alpha_seq.specs.declared.end.End.{End}
use Rattle.alpha_seq.specs.declared.end.End.TheVariants as ends
use Rattle.alpha_seq.specs.declared.event.Event.{Event}
use Rattle.alpha_seq.specs.declared.event.Event.TheVariants as events
use Rattle.alpha_seq.specs.Notes.{end_line}
use Rattle.alpha_seq.specs.State.{Program}
use Rattle.alpha_seq.specs.Start.{start}
use Rattle.alpha_seq.specs.Run.{Shown, output, notes, sequential}
use Rattle.alpha_imprecise.specs.StepResult.{ImpreciseEvent, StepResult}
use Rattle.alpha_imprecise.specs.Run.{seen, imprecise_start, RunsImprecisely as RunsBy, units}
use Rattle.alpha_imprecise.specs.Used.{HasUsed}
use Rattle.alpha_imprecise.specs.Chosen.{Draws}
use Rattle.alpha_imprecise.specs.ChosenRun.{first_words, end_of_imprecise_event, lost_trap, LostTrap, ShownImprecise}
use Rattle.alpha_imprecise.specs.ChosenRun.{imprecise_by}
use Rattle.alpha_imprecise.specs.ImpreciseState.{IsFresh}
use Rattle.alpha_shadow.specs.Broken.{IsAccepted}
use Rattle.alpha_cmd.specs.declared.imprecise.Begun.{Begun}
use Rattle.alpha_cmd.specs.declared.status.Status.{Status}
use Rattle.alpha_cmd.specs.declared.status.Status.TheVariants.{Done, Stopped, StepsSpent, Lost}
use Rattle.alpha_cmd.specs.Status.{status_line}
use Rattle.alpha_cmd.specs.Outcome.{Outcome, Either, Never, Then, Gives}
use Rattle.alpha_cmd.specs.Image.{ImageOf, Judges}
use Rattle.alpha_cmd.specs.Chooser.{ahead_in}
use Rattle.alpha_cmd.specs.Choosing.{ChoicesOf}
use Rattle.alpha_cmd.specs.Kept.{nothing}
use Rattle.alpha_cmd.specs.Answer.{Answer}
use Rattle.alpha_cmd.specs.AnswerBy.{World}
use Rattle.alpha_cmd.specs.Form.{Form, Kind, IsThere, needs_files_and_input, streams}
use Rattle.alpha_cmd.specs.Commands.Run.{MayShow}
use Rattle.alpha_cmd.specs.RunAnswer.{program_by}

-- ---- the stages

-- an image, and the words by which it is run
pub record Plan : Type 0 where
  pub image : Parts
  pub ahead : ℕ → ℕ

abbrev pub plan_by : Parts → (ℕ → ℕ) → Plan
plan_by image ahead = record { image = image; ahead = ahead }

-- the image of a named file, and then the choices
abbrev pub PlanOf : Files → List ℕ → Origin → Outcome Plan → Type 0
PlanOf files name choices =
    Then (ImageOf files name)
    (λ image. Then (ChoicesOf files choices) (λ ahead. Gives (plan_by image ahead)))

-- the verdict lets an accepted image through, and every one where it is passed over
abbrev pub Passes : Bool → Plan → Outcome Plan → Type 0
Passes true plan = Gives plan
Passes false plan = Then (Judges plan.image) (λ image. Gives plan)

-- both, one after the other
abbrev pub Planned : Origin → Bool → List ℕ → Files → Outcome Plan → Type 0
Planned choices force file files = Then (PlanOf files file choices) (Passes force)

-- ---- the run

-- what the sequential run shows, by so many words
abbrev pub with_drawn : Shown → ℕ → ShownImprecise
with_drawn s drawn =
    record {
      end = s.end;
      lost = None;
      units = s.steps;
      output = s.output;
      left = s.left;
      notes = s.notes;
      drawn = drawn;
    }

-- The run by these words, where the verdict is passed over. Else it shows what the sequential run does, and only the
-- number of words that it draws is that of the run by these words.
abbrev pub run_by : Bool → Program → List ℕ → (ℕ → ℕ) → ℕ → Bool → ShownImprecise
run_by true g input ahead n watch = imprecise_by g input ahead n watch
run_by false g input ahead n watch = with_drawn (sequential g input n watch) (imprecise_by g input ahead n watch).drawn

-- no step was made of a plan
abbrev pub begins_plan : RunOptions → Plan → StepResult
begins_plan options plan = imprecise_start (start (program_by options plan.image))

-- A run from the start by the words of a plan, whatever each read was given: it has used as many units as were asked
-- for, or is over before. It draws so many words, whatever comes behind them.
pub record MadeByReads (options : RunOptions) (plan : Plan) : Type 0 where
  pub steps : List ImpreciseEvent
  pub at : StepResult
  pub drawn : ℕ
  pub runs : RunsBy (program_by options plan.image) (begins_plan options plan) steps at
  pub draws : (coming : List ℕ)
      → Draws (program_by options plan.image) (begins_plan options plan) 0
      (first_words drawn plan.ahead ++ coming) steps coming
  pub used : HasUsed options.steps (units (program_by options plan.image) (begins_plan options plan) steps) at

-- what it shows, of an input of which nothing is told
abbrev pub shown_imprecise : (options : RunOptions) → (plan : Plan) → MadeByReads options plan → ShownImprecise
shown_imprecise options plan m = record {
  end = end_of_imprecise_event m.at.last_event;
  lost = lost_trap m.at.last_event;
  units = units (program_by options plan.image) (begins_plan options plan) m.steps;
  output = output (seen m.steps);
  left = [];
  notes = notes options.watch (seen m.steps);
  drawn = m.drawn;
}

-- Over an input that tells nothing, it shows what such a run does, where the verdict is passed over. Else it shows what
-- the sequential run may show there, and only the number of words is that of such a run.
abbrev pub MayShowBy : RunOptions → Bool → Plan → ShownImprecise → Type 0
MayShowBy options true plan s = (m : MadeByReads options plan) × (s ≡ shown_imprecise options plan m)
MayShowBy options false plan s =
    (m : MadeByReads options plan) × ((t : Shown) × MayShow options None plan.image t × (s ≡ with_drawn t m.drawn))

-- what a run shows, over an input that is told or another
abbrev pub MayShowImprecise : RunOptions → Bool → Option (List ℕ) → Plan → ShownImprecise → Type 0
MayShowImprecise options force None plan s = MayShowBy options force plan s
MayShowImprecise options force (Some input) plan s =
    s ≡ run_by force (program_by options plan.image) input plan.ahead options.steps options.watch

-- ---- its end

-- the status of an end, by so many words that were drawn
abbrev pub drawn_status : ℕ → End → Status
drawn_status n (ends.Exit v) = Done n
drawn_status n end = Stopped end

-- the status of a run by how the program ended, if it has, by the trap that was lost, if one was, and by the number of
-- words
abbrev pub imprecise_status : Option End → Option LostTrap → ℕ → Status
imprecise_status (Some end) lost n = drawn_status n end
imprecise_status None (Some t) n = Lost (record { trap_pc = t.pc; mask = t.mask })
imprecise_status None None n = StepsSpent

-- its last line
abbrev pub imprecise_line : Option End → Option LostTrap → List ℕ
imprecise_line (Some end) lost = end_line end
imprecise_line None (Some t) = status_line (Lost (record { trap_pc = t.pc; mask = t.mask }))
imprecise_line None None = status_line StepsSpent

-- the same by the step behind which a run is over, none where all units were used: the program ended there, or the trap
-- was lost
abbrev pub answer_status : Option Event → ℕ → Status
answer_status (Some (events.Ended end)) n = drawn_status n end
answer_status (Some (events.Lost pc mask)) n = Lost (record { trap_pc = pc; mask = mask })
answer_status _ n = StepsSpent

abbrev pub answer_line : Option Event → List ℕ
answer_line (Some (events.Ended end)) = end_line end
answer_line (Some (events.Lost pc mask)) = status_line (Lost (record { trap_pc = pc; mask = mask }))
answer_line _ = status_line StepsSpent

-- ---- the command

-- what a run shows; of the number of words it has what stands in 64 bits
abbrev pub answer_imprecise : Option (List ℕ) → ShownImprecise → Answer
answer_imprecise input s = record {
  status = imprecise_status s.end s.lost (s.drawn % 2 ^ 64);
  output = s.output;
  trace = s.notes;
  line = imprecise_line s.end s.lost;
  left = option_map (λ bytes. s.left) input;
  kept = nothing;
}

-- the run of a plan, over this input
abbrev pub RunsImprecise : RunOptions → Bool → Option (List ℕ) → Plan → Outcome Answer → Type 0
RunsImprecise options force input plan =
    Either (λ a. (s : ShownImprecise) × MayShowImprecise options force input plan s × (a ≡ answer_imprecise input s))
    Never

abbrev pub steps : RunOptions → Origin → Bool → List ℕ → World → Outcome Answer → Type 0
steps options choices force file w = Then (Planned choices force file w.files) (RunsImprecise options force w.input)

-- a trap is lost only where the verdict is passed over
abbrev pub MayLose : Bool → Option LostTrap → Type 0
MayLose true lost = Unit {0}
MayLose false lost = lost ≡ None

-- the statuses of a run's end
abbrev pub IsEndStatus : Bool → Status → Type 0
IsEndStatus force status =
    (end : Option End)
    × ((lost : Option LostTrap) × ((n : ℕ) × MayLose force lost × (status ≡ imprecise_status end lost n)))

abbrev pub kind : Bool → Kind
kind force = streams (IsEndStatus force)

-- of a plan that was made, and of a named file
abbrev pub on : RunOptions → Bool → Plan → Form
on options force plan =
    record { steps = λ w. RunsImprecise options force w.input plan; needs = needs_files_and_input; kind = kind force }

abbrev pub form : RunOptions → Origin → Bool → List ℕ → Form
form options choices force file =
    record { steps = steps options choices force file; needs = needs_files_and_input; kind = kind force }

-- a choices file is there, where files are told
abbrev pub HasChoices : Origin → World → Type 0
HasChoices (choices_of.seed n) w = Unit {0}
HasChoices (choices_of.file name) w = IsThere name w

abbrev pub there : Origin → List ℕ → World → Type 0
there choices file w = IsThere file w × HasChoices choices w

-- ---- what the code does

-- a machine at the start of its program, of whose words none was drawn
pub record IsBegun (options : RunOptions) (b : Begun) : Type 0 where
  pub fresh : IsFresh b.wild
  pub completion : b.wild.machine.completion ≡ options.complete
  pub none : b.chooser.drawn ≡ 0

-- its image and its words
abbrev pub plan_in : Begun → Plan
plan_in b = plan_by b.wild.machine.image (ahead_in b.chooser.chooser)

-- a plan that may be run: its image is a good one, and it is accepted unless the verdict is passed over
abbrev pub MayRun : Bool → Plan → Type 0
MayRun force plan = IsImage plan.image × (force ≡ false → IsAccepted plan.image.words)
