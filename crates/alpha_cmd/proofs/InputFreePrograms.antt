-- A program that reads nothing has one answer, whatever its source tells.
use Rattle.std.proofs.Common.{◌≡◌, ◌∙◌, ℕ, zero, suc, Bool, true, false, List, [], ◌∷◌, ◌++◌, length, Option, None}
use Rattle.std.proofs.Common.{Some, IsSome, refl, sym, ap, subst, ⊎_elim, arith}
use Rattle.std.proofs.lemmas.Bool.{cases_Bool}
use Rattle.alpha_image.specs.Parts.{Parts}
use Rattle.alpha_request.specs.Origin.{Origin}
use Rattle.alpha_request.specs.declared.options.RunOptions.{RunOptions}
use Rattle.alpha_seq.specs.State.{Program, Event, Ends, Stepped}
use Rattle.alpha_seq.specs.Start.{start}
use Rattle.alpha_seq.specs.Run.{Run, begins, next, Runs, ReadNothing, end_of, is_over, after, Shown, shown}
use Rattle.alpha_seq.specs.Fronts.{HasMade}
use Rattle.alpha_seq.proofs.RunsOverInput.{after-over}
use Rattle.alpha_seq.proofs.RunSequence.{after-fed}
use Rattle.alpha_seq.proofs.RunsWithoutInput.{ReadNothing-same_run, unread_after}
use Rattle.alpha_cmd.specs.Outcome.{Outcome, continues, stops}
use Rattle.alpha_cmd.specs.Image.{ImageOf}
use Rattle.alpha_cmd.specs.AlikeByAnswers.{undrawn, HasWords, IsChecked}
use Rattle.alpha_cmd.specs.Answer.{Answer}
use Rattle.alpha_cmd.specs.AnswerBy.{World, AnswerBy, answer_of}
use Rattle.alpha_cmd.specs.Commands.Imprecise as wilds
use Rattle.alpha_cmd.specs.Commands.Run as runs
use Rattle.alpha_cmd.specs.Commands.Run.{shown_by, MayShow, Runs as RunsBy}
use Rattle.alpha_cmd.specs.RunAnswer.{program_by, answer_shown}
use Rattle.alpha_cmd.specs.ReadsNothing.{ReadsNothing, answer_unread}
use Rattle.alpha_cmd.proofs.Lawful.{Then-found}
use Rattle.alpha_cmd.proofs.StageLaws.{ImageOf-lawful}
use Rattle.alpha_cmd.proofs.Commands.Run.{some_shown, shown_answer}
use Rattle.alpha_cmd.proofs.ImpreciseAnswers.{AnswerBy-imprecise_as_run, AnswerBy-imprecise_exists}

-- ---- runs that have made their steps

going_no_end : (event : Event) → is_over event ≡ false → end_of event ≡ None
going_no_end (Ends end) e = cc
going_no_end event e = refl

no_end_going : (event : Event) → end_of event ≡ None → is_over event ≡ false
no_end_going (Ends end) e = cc
no_end_going event e = refl

one_less : (n : ℕ) (x : Event) (xs : List Event) (b : Stepped) → HasMade (suc n) (x ∷ xs) b → HasMade n xs b
one_less n x xs b made = record { most = omega (arith, made.most); full = λ none. omega (arith, made.full none) }

-- where one reads nothing, any other is the same
same_made : (g : Program) (n : ℕ) (xs ys : List Event) (a b c : Stepped) → Runs g a xs b → Runs g a ys c
    → ReadNothing xs → HasMade n xs b → HasMade n ys c → (xs ≡ ys) × (b ≡ c)
same_made g n [] [] a b c one two none made other = (refl, sym one ∙ two)
same_made g n [] (y ∷ ys) a b c one two none made other =
    let full = made.full (ap (λ (t : Stepped). end_of t.event) (sym one) ∙ going_no_end a.event two.0) in
    absurd (omega (arith, full, other.most))
same_made g n (x ∷ xs) [] a b c one two none made other =
    let full = other.full (ap (λ (t : Stepped). end_of t.event) (sym two) ∙ going_no_end a.event one.0) in
    absurd (omega (arith, full, made.most))
same_made g zero (x ∷ xs) (y ∷ ys) a b c one two none made other = absurd (omega (arith, made.most))
same_made g (suc n) (x ∷ xs) (y ∷ ys) a b c one two none made other =
    let first =
    ReadNothing-same_run g (x ∷ []) (y ∷ []) a (next g a x) (next g a y) (one.0, one.1, refl) (two.0, two.1, refl)
    (none.0, tt) refl in
    let rest = same_made g n xs ys (next g a x) b c one.2 (subst (λ (t : Stepped). Runs g t ys c) (sym first.1) two.2)
    none.1 (one_less n x xs b made) (one_less n y ys c other) in
    (ap (λ (l : List Event). l ++ xs) first.0 ∙ ap (λ (l : List Event). y ∷ l) rest.0, rest.1)

-- ---- its answers

-- what a run may show of a program that reads nothing
one_shown : (options : RunOptions) (image : Parts) (input : Option (List ℕ)) (s : Shown) → ReadsNothing options image
    → MayShow options input image s
    → answer_shown input s ≡ answer_unread options image input
one_shown options image None s unread (r, is) =
    let g = program_by options image in
    let base = after g (start g) [] options.steps in
    let fed = after-fed g (start g) [] options.steps in
    let made : HasMade options.steps base.events base.at =
    record { most = fed.most; full = λ none. fed.full (no_end_going base.at.event none) } in
    let same =
    same_made g options.steps base.events r.events (begins (start g)) base.at r.at fed.runs r.runs unread made r.made in
    ap (answer_shown None) is
    ∙ sym (
    ap (λ (events : List Event). answer_shown None (shown_by options.watch events base.at)) same.0
    ∙ ap (λ (b : Stepped). answer_shown None (shown_by options.watch r.events b)) same.1)
one_shown options image (Some bytes) s unread is =
    let g = program_by options image in
    let n = options.steps in
    let base = after g (start g) [] n in
    let fed = after-fed g (start g) [] n in
    let over : Run = record { at = base.at; events = base.events; left = bytes } in
    let here : after g (start g) bytes (length base.events) ≡ over =
    unread_after g (start g) base.events base.at bytes fed.runs unread in
    let all : after g (start g) bytes n ≡ over =
    ⊎_elim
    (λ (ended : is_over base.at.event ≡ true).
    after-over g (start g) bytes n (length base.events) fed.most (ap (λ (r : Run). is_over r.at.event) here ∙ ended)
    ∙ here)
    (λ (going : is_over base.at.event ≡ false). ap (after g (start g) bytes) (sym (fed.full going)) ∙ here)
    (cases_Bool (is_over base.at.event)) in
    ap (answer_shown (Some bytes)) is
    ∙ ap (λ (r : Run). answer_shown (Some bytes) (shown options.watch r)) all

pub answer_unread-unique : (options : RunOptions) (file : List ℕ) (image : Parts) (w : World) (a : Answer)
    → IsSome w.files
    → ImageOf w.files file (continues image) → ReadsNothing options image
    → AnswerBy (runs.steps options file) w a → a ≡ answer_unread options image w.input
answer_unread-unique options file image w a told found unread (o, h, is) =
    by o is
    (Then-found (ImageOf w.files file) (RunsBy options w.input)
    ((ImageOf-lawful (IsSome w.files) ⊥ ⊥ w.files file (λ e. e) (λ no. absurd no) (λ no. absurd no)).single told) image
    found o h)
  where
    by : (o : Outcome Answer) → a ≡ answer_of w.input o → RunsBy options w.input image o
        → a ≡ answer_unread options image w.input
    by (continues b) is (s, may, shows) = is ∙ (shows ∙ one_shown options image w.input s unread may)
    by (stops status line) is never = absurd never

-- and it is one
pub answer_unread-exists : (options : RunOptions) (file : List ℕ) (image : Parts) (w : World)
    → ImageOf w.files file (continues image)
    → ReadsNothing options image
    → AnswerBy (runs.steps options file) w (answer_unread options image w.input)
answer_unread-exists options file image w found unread =
    let (s, may) = some_shown options w.input image in
    subst (AnswerBy (runs.steps options file) w) (one_shown options image w.input s unread may)
    (shown_answer w options file image s found may)

-- and of a run of the imprecise machine, by whatever words
pub answer_unread-imprecise : (options : RunOptions) (choices : Origin)
    (force : Bool) (file : List ℕ) (image : Parts) (w : World) (b : Answer)
    → IsSome w.files → ImageOf w.files file (continues image)
    → ReadsNothing options image → HasWords w.files choices → IsChecked file w
    → AnswerBy (wilds.steps options choices force file) w b → undrawn b ≡ answer_unread options image w.input
answer_unread-imprecise options choices force file image w b told found unread words checked is =
    answer_unread-unique options file image w (undrawn b) told found unread
    (AnswerBy-imprecise_as_run options choices force file w b told words checked is)

-- which has such an answer
pub answer_unread-imprecise_exists : (options : RunOptions) (choices : Origin)
    (force : Bool) (file : List ℕ) (image : Parts) (w : World)
    → IsSome w.files → ImageOf w.files file (continues image)
    → ReadsNothing options image → HasWords w.files choices → IsChecked file w
    → (b : Answer) × AnswerBy (wilds.steps options choices force file) w b
    × (undrawn b ≡ answer_unread options image w.input)
answer_unread-imprecise_exists options choices force file image w told found unread words checked =
    let (b, is) = AnswerBy-imprecise_exists options choices force file w words checked in
    (b, is, answer_unread-imprecise options choices force file image w b told found unread words checked is)
