-- Steps that leave their devices alone, and a chooser that goes on twice.
use Rattle.std.specs.Prelude.{slice_index, slice_index_or}
use Rattle.std.proofs.Common.{◌≡◌, ◌<◌, ◌+◌, ◌^◌, ℕ, zero, suc, List, [], ◌∷◌, ◌++◌, length, take, drop, Option, None}
use Rattle.std.proofs.Common.{Some, refl, sym, ap, subst, ◌∙◌, arith}
use Rattle.alpha_io.specs.History.{Reply}
use Rattle.alpha_io.specs.SinkChange.{SinkChange, Puts}
use Rattle.alpha_io.specs.Supply.{Supply}
use Rattle.alpha_io.proofs.Sinks.{Puts-none}
use Rattle.alpha_mem.specs.Block.{Block}
use Rattle.alpha_pal.specs.declared.pal_end.Passed.TheVariants.{Nothing}
use Rattle.alpha_pal.specs.Call.{Traffic, asked_in, given_in, put_in}
use Rattle.alpha_pal.specs.CallEffect.{Answers}
use Rattle.alpha_seq.specs.State.{Went, Barriered, Overflowed, Ends}
use Rattle.alpha_seq.specs.Run.{taken, output, Fed}
use Rattle.alpha_seq.specs.Machine.{program_of, state_of}
use Rattle.alpha_seq.specs.Devices.{Drawn, AnswersEach}
use Rattle.alpha_seq.specs.StepLabel.{HasPassed}
use Rattle.alpha_seq.specs.StepEffect.{StepEffect}
use Rattle.alpha_seq.specs.Sequential.{no_words}
use Rattle.alpha_seq.specs.declared.event.Event.{Event as SeenEvent}
use Rattle.alpha_imprecise.specs.StepResult.{Choice, ImpreciseEvent, Precisely, Triggered, Waited, Reported, Lost}
use Rattle.alpha_imprecise.specs.Step.{imprecise_step}
use Rattle.alpha_imprecise.specs.Run.{seen_of, given_to, unit_of}
use Rattle.alpha_imprecise.specs.Oracle.{Oracle, ConsumesWords, CountsWords, OracleDraws}
use Rattle.alpha_imprecise.specs.ImpreciseState.{ImpreciseState, trap_in}
use Rattle.alpha_imprecise.specs.ImpreciseStepEffect.{shown_as, IsStill, ImpreciseStepBy, imprecise_units}
use Rattle.alpha_imprecise.specs.ImpreciseStepEffect.{imprecise_core, StepsAs}

-- a device that is left alone
abbrev pub unused_device : Supply → ℕ → Drawn
unused_device left faults = record { old = left; new = left; before = faults; now = faults }

abbrev pub idle_sink : Option (List ℕ) → ℕ → SinkChange
idle_sink written count = record { old = written; new = written; before = count; now = count }

-- nothing is taken or put in such a step, and its answer says so
still-given : (h : ImpreciseEvent) → IsStill h → given_to h ≡ []
still-given (Precisely event) still = ap given_in still
still-given (Triggered value) still = refl
still-given (Waited adds value bytes) still = refl
still-given (Reported at) still = refl
still-given (Lost pc mask) still = refl

still-taken : (h : ImpreciseEvent) → IsStill h → taken (seen_of h) ≡ []
still-taken (Precisely event) still = ap (λ (t : Traffic). given_in t ++ []) still
still-taken (Triggered value) still = refl
still-taken (Waited adds value bytes) still = refl
still-taken (Reported at) still = refl
still-taken (Lost pc mask) still = refl

still-output : (h : ImpreciseEvent) → IsStill h → output (seen_of h) ≡ []
still-output (Precisely event) still = ap (λ (t : Traffic). put_in t ++ []) still
still-output (Triggered value) still = refl
still-output (Waited adds value bytes) still = refl
still-output (Reported at) still = refl
still-output (Lost pc mask) still = refl

still-fed : (h : ImpreciseEvent) (input : List ℕ) → IsStill h → Fed input (seen_of h) input
still-fed (Precisely event) input still =
    subst (λ (t : Traffic). (given_in t ≡ take (asked_in t) input) × (drop (length (given_in t)) input ≡ input))
    (sym still) (refl, refl)
still-fed (Triggered value) input still = refl
still-fed (Waited adds value bytes) input still = refl
still-fed (Reported at) input still = (refl, refl)
still-fed (Lost pc mask) input still = refl

still-answers : (h : ImpreciseEvent) (replies : List Reply) → IsStill h → AnswersEach replies (seen_of h) replies
still-answers (Precisely event) replies still =
    (replies, subst (λ (t : Traffic). Answers replies t replies) (sym still) refl, refl)
still-answers (Triggered value) replies still = refl
still-answers (Waited adds value bytes) replies still = refl
still-answers (Reported at) replies still = (replies, refl, refl)
still-answers (Lost pc mask) replies still = refl

passes-nothing : (event : ImpreciseEvent) (mem : List Block) → HasPassed (shown_as Nothing event) mem [] []
passes-nothing (Precisely Went) mem = (refl, refl)
passes-nothing (Precisely (Barriered traffic pc regs)) mem = (refl, refl)
passes-nothing (Precisely (Overflowed at)) mem = (refl, refl)
passes-nothing (Precisely (Ends end)) mem = (refl, refl)
passes-nothing event mem = (refl, refl)

-- a step that leaves the input and the output alone
pub steps_alone-join : (event : SeenEvent) (old new : ImpreciseState) (choice : Choice) (left : Supply)
    (written : Option (List ℕ)) (faults count : ℕ)
    → StepsAs event old new choice
    → StepEffect (ImpreciseStepBy choice) imprecise_units imprecise_core no_words event old new
    (unused_device left faults)
    (idle_sink written count)
steps_alone-join event old new choice left written faults count s =
    let steps = s.steps in
    let h = s.last_event in
    record {
      label = record {
        units = unit_of (trap_in old.pending);
        words = [];
        seen = seen_of h;
        event = event;
        core = new.machine;
      };
      is = record {
        last_event = h;
        passed = Nothing;
        seen = refl;
        event = s.event_is;
        units = refl;
        core = refl;
        is =
            ap (imprecise_step (program_of old.machine) (state_of old.machine) (trap_in old.pending) choice)
            (still-given h s.still)
            ∙ steps.is;
        passes =
            subst (λ (e : SeenEvent). HasPassed e new.machine.memory (taken (seen_of h)) (output (seen_of h)))
            (sym s.event_is)
            (subst (λ l. HasPassed (shown_as Nothing h) new.machine.memory l (output (seen_of h)))
            (sym (still-taken h s.still))
            (subst (λ l. HasPassed (shown_as Nothing h) new.machine.memory [] l) (sym (still-output h s.still))
            (passes-nothing h new.machine.memory)));
        waited = steps.waited;
        kernel = steps.kernel;
        program = steps.program;
      };
      units = refl;
      event_is = refl;
      core_is = refl;
      drew = refl;
      fed = record {
        told = λ bytes tells. (bytes, still-fed h bytes s.still, tells);
        answers = still-answers h left.replies s.still;
      };
      same = refl;
      wrote = subst (Puts (idle_sink written count)) (sym (still-output h s.still)) (Puts-none written count);
    }

-- ---- two words

goes_two : (a b d : Option (ℕ → ℕ)) (x y : ℕ) → ConsumesWords a b (x ∷ []) → ConsumesWords b d (y ∷ [])
    → ConsumesWords a d (x ∷ y ∷ [])
goes_two None b d x y first second = tt
goes_two (Some f) None d x y first second = absurd first
goes_two (Some f) (Some h) None x y first second = absurd second
goes_two (Some f) (Some h) (Some k) x y first second =
    (firsts, λ n. second.1 n ∙ (first.1 (1 + n) ∙ ap f (omega arith)))
  where
    firsts : (n : ℕ) → n < length (x ∷ y ∷ []) → f n ≡ slice_index (x ∷ y ∷ []) n
    firsts zero below = first.0 0 (omega arith)
    firsts (suc zero) below = sym (first.1 0) ∙ second.0 0 (omega arith)
    firsts (suc (suc n)) below = absurd (omega arith)

counts_two : (a b d : Option ℕ) → CountsWords a b 1 → CountsWords b d 1 → CountsWords a d 2
counts_two None b d first second = tt
counts_two (Some i) None d first second = absurd first
counts_two (Some i) (Some j) None first second = absurd second
counts_two (Some i) (Some j) (Some k) first second = omega arith

pub OracleDraws-two : (a b d : Oracle) (x y : ℕ) → OracleDraws a b (x ∷ []) → OracleDraws b d (y ∷ [])
    → OracleDraws a d (x ∷ y ∷ [])
OracleDraws-two a b d x y first second = record {
  fit = fits;
  went = goes_two a.ahead b.ahead d.ahead x y first.went second.went;
  counted = counts_two a.count b.count d.count first.counted second.counted;
}
  where
    fits : (n : ℕ) (e : ℕ) → n < length (x ∷ y ∷ []) → slice_index_or (x ∷ y ∷ []) n e < 2 ^ 64
    fits zero e below = first.fit 0 e (omega arith)
    fits (suc zero) e below = second.fit 0 e (omega arith)
    fits (suc (suc n)) e below = absurd (omega arith)
