-- What a call tries, by its words.
use Rattle.std.proofs.Common.{◌≡◌, ◌≢◌, ◌⊎◌, ◌∙◌, ℕ, Bool, false, List, Option, None, Some, IsSome, refl, sym, ap}
use Rattle.std.proofs.Common.{subst, inl, inr, arith}
use Rattle.alpha_io.specs.Faults.{Faulted, NoFault}
use Rattle.alpha_trap.specs.declared.handler.Lost.{Lost}
use Rattle.alpha_request.specs.Command.{Command, of_image, imprecise}
use Rattle.alpha_request.specs.Origin.{Origin}
use Rattle.alpha_request.specs.declared.options.RunOptions.{RunOptions}
use Rattle.alpha_request.specs.Asked.{asked}
use Rattle.alpha_cmd.specs.declared.status.Status.{Status}
use Rattle.alpha_cmd.specs.declared.status.Status.TheVariants.{Done, BadWords, ShelfFault, InputFault, SinkFault}
use Rattle.alpha_cmd.specs.declared.status.Status.TheVariants.{NoMemory}
use Rattle.alpha_cmd.specs.declared.status.Status.TheVariants as statuses
use Rattle.alpha_cmd.specs.Status.{done, refused, ended, failed, class_of, status_line}
use Rattle.alpha_cmd.specs.Asks.{AsksFor}
use Rattle.alpha_cmd.specs.Answer.{Answer}
use Rattle.alpha_cmd.specs.AnswerBy.{World, HaveBytes, status_answer}
use Rattle.alpha_cmd.specs.Form.{Form, Kind, Needs, needs_nothing, needs_files, needs_files_and_input, IsToldFor}
use Rattle.alpha_cmd.specs.Attempts.{CutBy, FaultedAttemptBy, AttemptBy}
use Rattle.alpha_cmd.specs.Commands.{form_of, kind_of, there_of, AnswerOf, EndsBy}
use Rattle.alpha_cmd.specs.Tried.{IsAnswer, AreTold, AttemptedBy}
use Rattle.alpha_cmd.proofs.FormLaws.{IsPlain, is_fault, AnswerBy-unique, AnswerBy-exists, AnswerBy-IsPlain}
use Rattle.alpha_cmd.proofs.FormLaws.{AnswerBy-ended}
use Rattle.alpha_cmd.proofs.Commands.Imprecise.{found_end}
use Rattle.alpha_cmd.proofs.AttemptsByForm.{SaysFaultLine, plain, cut, FaultedAttemptBy-no_fault}
use Rattle.alpha_cmd.proofs.AttemptsByForm.{FaultedAttemptBy-fault_line, says_not_sink}
use Rattle.alpha_cmd.proofs.AttemptsByForm.{says_not_input}
use Rattle.alpha_cmd.proofs.AttemptsByForm.{says_not_shelf}
use Rattle.alpha_cmd.proofs.Commands.{command_form-lawful}

-- ---- words have one answer, and some

pub AnswerOf-single : (command : Command) (w : World) (a b : Answer) → IsToldFor (form_of command).needs w
    → AnswerOf command w a → AnswerOf command w b → a ≡ b
AnswerOf-single command w a b told h g =
    AnswerBy-unique (form_of command) (there_of command) w (command_form-lawful command w) a b told h g

pub IsAnswer-single : (words : List (List ℕ)) (w : World) (a b : Answer) → AreTold words w → IsAnswer words w a
    → IsAnswer words w b → a ≡ b
IsAnswer-single words w a b told (inl h) (inl g) = h.1 ∙ sym g.1
IsAnswer-single words w a b told (inl h) (inr g) = let x = h.0 in let y = g.1 in cc
IsAnswer-single words w a b told (inr h) (inl g) = let x = h.1 in let y = g.0 in cc
IsAnswer-single words w a b told (inr h) (inr g) =
    let x = h.1 in
    let y = g.1 in
    let same : g.0 ≡ h.0 = cc in
    AnswerOf-single h.0 w a b (told h.0 h.1) h.2 (subst (λ c. AnswerOf c w b) same g.2)

pub IsAnswer-some : (words : List (List ℕ)) (w : World) → IsSome w.files → HaveBytes w.files
    → (a : Answer) × IsAnswer words w a
IsAnswer-some words w told whole = by (asked words) refl
  where
    by : (command : Option Command) → asked words ≡ command → (a : Answer) × IsAnswer words w a
    by None e = (status_answer w.input BadWords (status_line BadWords), inl (e, refl))
    by (Some command) e =
        let (a, is) =
        AnswerBy-exists (form_of command) (there_of command) w (command_form-lawful command w) told whole in
        (a, inr (command, e, is))

-- ---- what a command tries is tried for the words that ask for it

pub AttemptedBy-of_command : (shelf input : Type 0) (words : List (List ℕ)) (command : Command) (w : World) (t : Answer)
    → AsksFor words command → AttemptBy shelf input (form_of command) w t
    → AttemptedBy shelf input words w t
AttemptedBy-of_command shelf input words command w t asks (inl h) = inl (inr (command, asks, h))
AttemptedBy-of_command shelf input words command w t asks (inr h) = inr (inl (command, asks, h))

-- an answer to words is one of the command that they ask for
pub asked_answer : (words : List (List ℕ)) (command : Command) (w : World) (a : Answer) → AsksFor words command
    → IsAnswer words w a → AnswerOf command w a
asked_answer words command w a asks (inl h) = absurd (let x = sym asks ∙ h.0 in cc)
asked_answer words command w a asks (inr h) =
    let x = h.1 in
    let same : h.0 ≡ command = cc in
    subst (λ (c : Command). AnswerOf c w a) same h.2

-- ---- where no device fails it is an answer to the words, or memory ran out

pub AttemptedBy-no_fault : (shelf input : Type 0) (words : List (List ℕ)) (w : World) (t : Answer) → (shelf → ⊥)
    → (input → ⊥)
    → AttemptedBy shelf input words w t
    → IsAnswer words w t ⊎ (t.status ≡ NoMemory)
AttemptedBy-no_fault shelf input words w t calm quiet (inl h) = inl h
AttemptedBy-no_fault shelf input words w t calm quiet (inr (inl h)) =
    inr (FaultedAttemptBy-no_fault shelf input (form_of h.0) w t calm quiet h.2)
AttemptedBy-no_fault shelf input words w t calm quiet (inr (inr h)) = inr (ap (λ (a : Answer). a.status) h)

-- ---- a call that is done

-- what cuts a command short is a fault of a device, or want of memory
cut_failed : (shelf : Type 0) (s : Status) → CutBy shelf s → class_of s ≡ failed
cut_failed shelf s (inl h) = ap class_of h
cut_failed shelf s (inr h) = ap class_of h.0

fails_failed : (shelf input : Type 0) (f : Form) (w : World) (t : Answer) → FaultedAttemptBy shelf input f w t
    → class_of t.status ≡ failed
fails_failed shelf input f w t (inl h) = cut_failed shelf t.status h.cause
fails_failed shelf input f w t (inr (inl h)) = ap class_of h.status_is
fails_failed shelf input f w t (inr (inr h)) = cut_failed shelf t.status h.cause

-- what is tried with this status is an answer
pub AttemptedBy-done : (shelf input : Type 0) (words : List (List ℕ)) (command : Command) (w : World) (t : Answer)
    → AsksFor words command → AttemptedBy shelf input words w t → t.status ≡ Done 0
    → AnswerOf command w t
AttemptedBy-done shelf input words command w t asks (inl h) e = asked_answer words command w t asks h
AttemptedBy-done shelf input words command w t asks (inr (inl h)) e =
    absurd (let x : done ≡ failed = sym (ap class_of e) ∙ fails_failed shelf input (form_of h.0) w t h.2 in cc)
AttemptedBy-done shelf input words command w t asks (inr (inr h)) e =
    absurd (let x : t.status ≡ NoMemory = ap (λ (a : Answer). a.status) h in cc)

-- ---- which statuses are tried

-- with this said of the files that the words' command reads
tried_says : (shelf input : Type 0) (words : List (List ℕ)) (w : World) (t : Answer) (there : Type 0)
    → (there → (command : Command) → AsksFor words command → there_of command w)
    → AttemptedBy shelf input words w t → SaysFaultLine shelf input there t.status
tried_says shelf input words w t there has (inl (inl h)) = plain (inl (ap (λ (a : Answer). is_fault a.status) h.1))
tried_says shelf input words w t there has (inl (inr h)) =
    weaker (AnswerBy-IsPlain (form_of h.0) (there_of h.0) w (command_form-lawful h.0 w) t h.2)
  where
    weaker : IsPlain (there_of h.0 w) t.status → SaysFaultLine shelf input there t.status
    weaker (inl p) = plain (inl p)
    weaker (inr p) = plain (inr (p.0, λ is. p.1 (has is h.0 h.1)))
tried_says shelf input words w t there has (inr (inl h)) =
    FaultedAttemptBy-fault_line shelf input there (form_of h.0) w t h.2
tried_says shelf input words w t there has (inr (inr h)) = cut (inl (ap (λ (a : Answer). a.status) h))

pub AttemptedBy-not_sink : (shelf input : Type 0) (words : List (List ℕ)) (w : World) (t : Answer)
    → AttemptedBy shelf input words w t → t.status ≢ SinkFault
AttemptedBy-not_sink shelf input words w t tried =
    says_not_sink shelf input ⊥ t.status (tried_says shelf input words w t ⊥ (λ no. absurd no) tried)

-- of an input that doesn't fail
pub AttemptedBy-not_input : (shelf input : Type 0) (words : List (List ℕ)) (w : World) (t : Answer) → (input → ⊥)
    → AttemptedBy shelf input words w t → t.status ≢ InputFault
AttemptedBy-not_input shelf input words w t quiet tried =
    says_not_input shelf input ⊥ t.status quiet (tried_says shelf input words w t ⊥ (λ no. absurd no) tried)

-- the kind of a command is that of its form
pub form_of-kind : (command : Command) → (form_of command).kind ≡ kind_of command
form_of-kind (of_image what file) = refl
form_of-kind command = refl

ends_by : (command : Command) (s : Status) → (form_of command).kind.ends s → EndsBy command s
ends_by command s = subst (λ (k : Kind). k.ends s) (form_of-kind command)

-- the status of a program's end is one of the end of the words' command
pub AttemptedBy-ended : (shelf input : Type 0) (words : List (List ℕ)) (w : World) (t : Answer)
    → AttemptedBy shelf input words w t → class_of t.status ≡ ended
    → (command : Command) × AsksFor words command × EndsBy command t.status
AttemptedBy-ended shelf input words w t (inl (inl h)) is =
    let bad : class_of t.status ≡ refused = ap (λ (a : Answer). class_of a.status) h.1 in
    let no = sym is ∙ bad in absurd cc
AttemptedBy-ended shelf input words w t (inl (inr h)) is = (
  h.0,
  h.1,
  ends_by h.0 t.status (AnswerBy-ended (form_of h.0) (there_of h.0) w (command_form-lawful h.0 w) t h.2 is),
)
AttemptedBy-ended shelf input words w t (inr (inl h)) is =
    let no = sym is ∙ fails_failed shelf input (form_of h.0) w t h.2 in
    absurd cc
AttemptedBy-ended shelf input words w t (inr (inr h)) is =
    let cut : class_of t.status ≡ failed = ap (λ (a : Answer). class_of a.status) h in
    let no = sym is ∙ cut in absurd cc

-- an unforced run of the imprecise machine ends with no lost trap
pub ended_found : (words : List (List ℕ)) (options : RunOptions) (choices : Origin) (file : List ℕ) (lost : Lost)
    → AsksFor words (imprecise options choices false file)
    → (command : Command) × AsksFor words command × EndsBy command (statuses.Lost lost) → ⊥
ended_found words options choices file lost asks (command, also, ends) =
    let x = sym asks ∙ also in
    let same : command ≡ imprecise options choices false file = cc in
    found_end lost (subst (λ (c : Command). EndsBy c (statuses.Lost lost)) same ends)

-- of a shelf that doesn't fail, where the files are there
pub AttemptedBy-not_shelf : (shelf input : Type 0) (words : List (List ℕ)) (command : Command) (w : World) (t : Answer)
    → (shelf → ⊥) → AsksFor words command → there_of command w
    → AttemptedBy shelf input words w t → t.status ≢ ShelfFault
AttemptedBy-not_shelf shelf input words command w t calm asks there tried =
    says_not_shelf shelf input (there_of command w) t.status calm there
    (tried_says shelf input words w t (there_of command w) own tried)
  where
    same : (other : Command) → AsksFor words other → command ≡ other
    same other also = cc

    own : there_of command w → (other : Command) → AsksFor words other → there_of other w
    own is other also = subst (λ c. there_of c w) (same other also) is

-- ---- devices that tell, and whose count is always 0

sure_told : (needs : Needs) (file : List ℕ → Option (List ℕ)) (takes : List ℕ → ℕ → Bool) (input : List ℕ)
    → IsToldFor needs (record { files = Some file; takes = takes; input = Some input })
sure_told needs_nothing file takes input = tt
sure_told needs_files file takes input = refl
sure_told needs_files_and_input file takes input = (refl, refl)

pub told_sure : (words : List (List ℕ)) (file : List ℕ → Option (List ℕ)) (takes : List ℕ → ℕ → Bool) (input : List ℕ)
    → AreTold words (record { files = Some file; takes = takes; input = Some input })
told_sure words file takes input command asks = sure_told (form_of command).needs file takes input

pub Faulted-none : Faulted 0 0 → ⊥
Faulted-none rose = omega arith

pub NoFault-none : NoFault 0 0
NoFault-none = record { same = refl; below = omega arith }
