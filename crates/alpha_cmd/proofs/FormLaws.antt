-- The laws of forms, from those of their stages.
use Rattle.std.proofs.Common.{◌≡◌, ◌⊎◌, ◌∙◌, ℕ, Bool, true, false, List, Option, IsSome, refl, sym, ap, subst, inl, inr}
use Rattle.alpha_image.specs.Parts.{Parts}
use Rattle.alpha_cmd.specs.declared.status.Status.{Status}
use Rattle.alpha_cmd.specs.declared.status.Status.TheVariants.{ShelfFault}
use Rattle.alpha_cmd.specs.Status.{Class, done, refused, ended, failed, class_of}
use Rattle.alpha_cmd.specs.Outcome.{Outcome, continues, stops}
use Rattle.alpha_cmd.specs.Answer.{Answer}
use Rattle.alpha_cmd.specs.AnswerBy.{World, AnswerBy, HaveBytes, answer_of}
use Rattle.alpha_cmd.specs.Image.{ImageOf, OfFile}
use Rattle.alpha_cmd.specs.Keeping.{KeepsAs}
use Rattle.alpha_cmd.specs.Form.{Form, Kind, IsThere, IsToldFor, needs_by, making_form, making_there}
use Rattle.alpha_cmd.proofs.Lawful.{Lawful, IsRefusal, Then-lawful}
use Rattle.alpha_cmd.proofs.StageLaws.{ImageOf-lawful, KeepsAs-lawful}

abbrev pub is_failed : Class → Bool
is_failed done = false
is_failed refused = false
is_failed ended = false
is_failed failed = true

-- a fault of a device, or want of memory
abbrev pub is_fault : Status → Bool
is_fault s = is_failed (class_of s)

-- the status of an answer: none of those, or a shelf's fault where the files aren't there
abbrev pub IsPlain : Type 0 → Status → Type 0
IsPlain there s = (is_fault s ≡ false) ⊎ ((s ≡ ShelfFault) × (there → ⊥))

pub record IsLawfulForm (f : Form) (there : World → Type 0) (w : World) : Type 0 where
  pub stages : Lawful (IsToldFor f.needs w) (IsSome w.files × HaveBytes w.files) (there w) (f.steps w)
  pub ends : (a : Answer) → f.steps w (continues a) → IsPlain (there w) a.status
  pub status : (a : Answer) → f.steps w (continues a) → f.kind.ends a.status

-- ---- answers

pub AnswerBy-unique : (f : Form) (there : World → Type 0) (w : World) → IsLawfulForm f there w → (a b : Answer)
    → IsToldFor f.needs w → AnswerBy f.steps w a
    → AnswerBy f.steps w b → a ≡ b
AnswerBy-unique f there w law a b told h g =
    h.2 ∙ (ap (answer_of w.input) (law.stages.single told h.0 g.0 h.1 g.1) ∙ sym g.2)

pub AnswerBy-exists : (f : Form) (there : World → Type 0) (w : World) → IsLawfulForm f there w → IsSome w.files
    → HaveBytes w.files → (a : Answer) × AnswerBy f.steps w a
AnswerBy-exists f there w law told whole =
    let o = law.stages.some (told, whole) in
    (answer_of w.input o.0, (o.0, o.1, refl))

refusal_plain : (there : Type 0) (s : Status) → IsRefusal there s → IsPlain there s
refusal_plain there s (inl h) = inl (ap is_failed h)
refusal_plain there s (inr h) = inr h

pub AnswerBy-IsPlain : (f : Form) (there : World → Type 0) (w : World) → IsLawfulForm f there w → (a : Answer)
    → AnswerBy f.steps w a → IsPlain (there w) a.status
AnswerBy-IsPlain f there w law a (continues b, h, e) =
    subst (λ (x : Answer). IsPlain (there w) x.status) (sym e) (law.ends b h)
AnswerBy-IsPlain f there w law a (stops s line, h, e) =
    subst (λ (x : Answer). IsPlain (there w) x.status) (sym e) (refusal_plain (there w) s (law.stages.plain s line h))

-- an answer of a class that no refusal has is one that the stages went on with
answer_goes : (f : Form) (there : World → Type 0) (w : World) → IsLawfulForm f there w → (c : Class) → (c ≡ refused → ⊥)
    → (c ≡ failed → ⊥) → (a : Answer) → AnswerBy f.steps w a
    → class_of a.status ≡ c → f.steps w (continues a)
answer_goes f there w law c fine calm a (continues b, h, e) is =
    subst (λ (x : Answer). f.steps w (continues x)) (sym e) h
answer_goes f there w law c fine calm a (stops s line, h, e) is = absurd (by (law.stages.plain s line h))
  where
    by : IsRefusal (there w) s → ⊥
    by (inl r) = fine (sym is ∙ (ap (λ (x : Answer). class_of x.status) e ∙ r))
    by (inr r) = calm (sym is ∙ (ap (λ (x : Answer). class_of x.status) e ∙ ap class_of r.0))

-- as is one that is done
pub AnswerBy-done : (f : Form) (there : World → Type 0) (w : World) → IsLawfulForm f there w → (a : Answer)
    → AnswerBy f.steps w a → class_of a.status ≡ done → f.steps w (continues a)
AnswerBy-done f there w law = answer_goes f there w law done (λ e. cc) (λ e. cc)

-- and one of a program's end, so that its status is one of the command's end
pub AnswerBy-ended : (f : Form) (there : World → Type 0) (w : World) → IsLawfulForm f there w → (a : Answer)
    → AnswerBy f.steps w a → class_of a.status ≡ ended → f.kind.ends a.status
AnswerBy-ended f there w law a h is = law.status a (answer_goes f there w law ended (λ e. cc) (λ e. cc) a h is)

-- ---- a command of an image

abbrev pub form_of_file : (Option (List ℕ) → Parts → Outcome Answer → Type 0) → Kind → List ℕ → Form
form_of_file Answers kind file = record { steps = OfFile Answers file; needs = needs_by kind; kind = kind }

pub of_file_lawful : (Answers : Option (List ℕ) → Parts → Outcome Answer → Type 0) (kind : Kind) (file : List ℕ)
    (w : World)
    → (IsToldFor (needs_by kind) w → IsSome w.files)
    → ((image : Parts)
    → Lawful (IsToldFor (needs_by kind) w) (IsSome w.files × HaveBytes w.files) (IsThere file w)
    (Answers w.input image))
    → ((image : Parts) (a : Answer) → Answers w.input image (continues a)
    → (is_fault a.status ≡ false) × kind.ends a.status)
    → IsLawfulForm (form_of_file Answers kind file) (IsThere file) w
of_file_lawful Answers kind file w told law ends = record {
  stages =
      Then-lawful {R = ImageOf w.files file} {S = Answers w.input}
      (ImageOf-lawful _ _ _ w.files file told (λ h. h) (λ h. h)) (λ image found. law image);
  ends = λ a h. inl (ends h.0 a h.2).0;
  status = λ a h. (ends h.0 a h.2).1;
}

-- ---- a command that makes bytes and keeps them

pub making_lawful : (names : List (List ℕ)) (Makes : World → Outcome (List ℕ) → Type 0) (out : List ℕ) (w : World)
    → Lawful (IsSome w.files) (IsSome w.files × HaveBytes w.files) (making_there names Makes out w) (Makes w)
    → IsLawfulForm (making_form Makes out) (making_there names Makes out) w
making_lawful names Makes out w made = record {
  stages =
      Then-lawful {R = Makes w} {S = KeepsAs w out} made
      (λ bytes h. KeepsAs-lawful (IsSome w.files) (IsSome w.files × HaveBytes w.files)
      (making_there names Makes out w) w out bytes (λ there. there.1 bytes h));
  ends = λ a h. inl (ap (λ (x : Answer). is_fault x.status) h.2.1);
  status = λ a h. ap (λ (x : Answer). x.status) h.2.1;
}
