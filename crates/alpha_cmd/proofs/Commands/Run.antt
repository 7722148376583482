-- The laws of `run`, and what leads to its answers.
use Rattle.std.proofs.Common.{◌≡◌, ◌∙◌, ℕ, List, [], false, Option, None, Some, IsSome, refl, sym, ap, inl, arith}
use Rattle.alpha_image.specs.Parts.{Parts}
use Rattle.alpha_request.specs.declared.options.RunOptions.{RunOptions}
use Rattle.alpha_seq.specs.declared.end.End.{End}
use Rattle.alpha_seq.specs.declared.end.End.TheVariants as ends
use Rattle.alpha_seq.specs.Start.{start}
use Rattle.alpha_seq.specs.Run.{begins, Shown, sequential}
use Rattle.alpha_seq.proofs.RunSequence.{Runs-Filled}
use Rattle.alpha_cmd.specs.Outcome.{continues}
use Rattle.alpha_cmd.specs.Image.{ImageOf}
use Rattle.alpha_cmd.specs.Answer.{Answer}
use Rattle.alpha_cmd.specs.AnswerBy.{World, AnswerBy}
use Rattle.alpha_cmd.specs.Form.{MayTakeBy}
use Rattle.alpha_cmd.specs.Commands.Run.{shown_by, MayShow, Runs, steps, kind, form, there}
use Rattle.alpha_cmd.specs.Commands.Imprecise.{drawn_status}
use Rattle.alpha_cmd.specs.RunAnswer.{RunByReads, run_status, program_by, answer_shown}
use Rattle.alpha_cmd.proofs.Lawful.{Lawful, Goes-lawful}
use Rattle.alpha_cmd.proofs.FormLaws.{IsLawfulForm, is_fault, of_file_lawful}

pub some_shown : (options : RunOptions) (input : Option (List ℕ)) (image : Parts)
    → (s : Shown) × MayShow options input image s
some_shown options None image =
    let g = program_by options image in
    let run = Runs-Filled g options.steps options.steps (begins (start g)) [] (begins (start g)) refl (omega arith) in
    let r : RunByReads options image = record { events = run.more; at = run.at; runs = run.runs; made = run.made } in
    (shown_by options.watch run.more run.at, (r, refl))
some_shown options (Some input) image = (sequential (program_by options image) input options.steps options.watch, refl)

same_shown : (options : RunOptions) (input : Option (List ℕ)) (image : Parts) (s t : Shown) → IsSome input
    → MayShow options input image s → MayShow options input image t → s ≡ t
same_shown options None image s t told h g = cc
same_shown options (Some input) image s t told h g = h ∙ sym g

Runs-lawful : (told whole there : Type 0) (options : RunOptions) (input : Option (List ℕ)) (image : Parts)
    → (told → IsSome input) → Lawful told whole there (Runs options input image)
Runs-lawful told whole there options input image has =
    Goes-lawful (λ (a : Answer). (s : Shown) × MayShow options input image s × (a ≡ answer_shown input s))
    (λ h a b p q. p.2 ∙ (ap (answer_shown input) (same_shown options input image p.0 q.0 (has h) p.1 q.1) ∙ sym q.2))
    (λ h. let (s, may) = some_shown options input image in (answer_shown input s, (s, may, refl)))

pub run_plain : (end : Option End) → is_fault (run_status end) ≡ false
run_plain None = refl
run_plain (Some (ends.Exit v)) = refl
run_plain (Some end) = refl

pub run_form-lawful : (options : RunOptions) (file : List ℕ) (w : World)
    → IsLawfulForm (form options file) (there file) w
run_form-lawful options file w =
    of_file_lawful (Runs options) kind file w (λ h. h.0) (λ image. Runs-lawful _ _ _ options w.input image (λ h. h.1))
    (λ image a h.
    (ap (λ (x : Answer). is_fault x.status) h.2 ∙ run_plain h.0.end, (h.0.end, ap (λ (x : Answer). x.status) h.2)))

pub shown_answer : (w : World) (options : RunOptions) (file : List ℕ) (image : Parts) (s : Shown)
    → ImageOf w.files file (continues image) → MayShow options w.input image s
    → AnswerBy (steps options file) w (answer_shown w.input s)
shown_answer w options file image s found may =
    (continues (answer_shown w.input s), (image, found, (s, may, refl)), refl)

-- ---- the statuses of an end

-- an end that no words were drawn for
pub none_drawn : (end : End) → drawn_status 0 end ≡ run_status (Some end)
none_drawn (ends.Exit v) = refl
none_drawn end = refl

pub takes_end : (end : Option End) → MayTakeBy kind (run_status end)
takes_end end = (refl, inl (end, refl))
